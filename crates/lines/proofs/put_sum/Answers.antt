-- `lines::put_sum` meets its contract.
use borrow.Author.Rules.{rules}
use mathlib.Core.Path.{◌≡◌, refl}
use Prim.Native.Nat.{ℕ}
use native.Mathlib.Omega.{arith}
use mathlib.Core.List.{[], ◌∷◌, ◌++◌}
use Rattle.lines.specs.Line.{after, sum_line}
use Rattle.lines.proofs.Adds.{adds_as, put_from}
use Rattle.lines.proofs.InRoom.{none_put, line_put}
use Rattle.lines.proofs.put_sum.Goals as goal

line : (k : ℕ) → 115 ∷ 117 ∷ 109 ∷ after 32 k ++ 10 ∷ [] ≡ sum_line k
unfolding sum_line
line k = refl

pub returns-then-out-at-clause-out_after : goal.returns-then-out-at-clause-out_after
returns-then-out-at-clause-out_after c = (none_put _ _ _ _ (omega (arith, c.if-out-at.true))).1.0

pub returns : goal.returns
returns c =
    let put =
    line_put _ _ _ _ (omega (arith, c.if-out-at.false))
    (put_from c.new-text.ensures.buffer c.new-text.ensures.place (search rules) (adds_as (line _) c.put_named.ensures))
    (omega arith) in
    record { value = put.0; out_after = put.1.0; upper_bound = put.1.1 }
