-- `lines::put_line` meets its contract.
use borrow.Author.Rules.{rules}
use Prim.Native.Nat.{ℕ}
use native.Mathlib.Omega.{arith}
use mathlib.Core.List.{[], ◌∷◌}
use lib.ListN.{take}
use Rattle.order.specs.Refusals.{Told}
use Rattle.records.specs.Records.{Answer}
use Rattle.lines.specs.declared.Text.{Text}
use Rattle.lines.specs.Line.{level_text, numbers_of, line_of, told_kept}
use Rattle.lines.specs.Puts.{Adds}
use Rattle.lines.proofs.Adds.{adds_join, put_from}
use Rattle.lines.proofs.InRoom.{none_put, line_put}
use Rattle.lines.proofs.put_line.Goals as goal

line : (position kind : ℕ) (told : Told Answer) {a b c d : Text}
    → Adds 54 a b (numbers_of position kind told.number told.value.symbol told.value.pulses) → Adds 72 b c (32 ∷ level_text (take told.value.group.n told.value.group.levels)) → Adds 1 c d (10 ∷ [])
    → Adds 127 a d (line_of position kind told)
unfolding line_of
line position kind told n l f = adds_join (omega arith) (adds_join {m = 126} (omega arith) n l) f

pub returns-then-out-at-clause-out_after : goal.returns-then-out-at-clause-out_after
returns-then-out-at-clause-out_after c = (none_put _ _ _ _ (omega (arith, c.if-out-at.true))).1.0

pub returns : goal.returns
returns c =
    let numbers = rw c.outcome_number-number.ensures at c.put_numbers.ensures in
    let put =
    line_put _ _ _ _ (omega (arith, c.if-out-at.false))
    (put_from c.new-text.ensures.buffer c.new-text.ensures.place (search rules) (line _ _ (told_kept c.args.outcome c.args.kept) numbers c.put_levels.ensures c.put.ensures))
    (omega arith) in
    record { value = put.0; out_after = put.1.0; upper_bound = put.1.1 }
