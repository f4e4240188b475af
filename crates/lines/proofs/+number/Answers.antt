-- `lines::put_long` meets its contract.
use borrow.Author.Rules.{rules}
use mathlib.Core.Path.{sym}
use Prim.Native.Nat.{◌+◌, ◌/◌, ◌≤◌}
use native.Mathlib.Omega.{arith}
use lib.ListN.{length}
use Rattle.lines.specs.Line.{decimal}
use Rattle.lines.proofs.Adds.{adds_as, adds_join, room_left, put_from}
use Rattle.lines.proofs.Decimal.{decimal_last_four, last_four_length}
use Rattle.lines.proofs.+number.Goals as goal

pub put_long-put_number-requires : goal.put_long-put_number-requires
put_long-put_number-requires t c =
    (omega arith, rw c.new-text.ensures.buffer (omega (arith, c.requires, last_four_length _ c.requires.0)))

pub put_long-put_pair-requires : goal.put_long-put_pair-requires
put_long-put_pair-requires t c =
    let room : c.new-text.result.at + (length (decimal (c.args.n / 10000)) + 4) ≤ length c.new-text.result.out.now = rw c.new-text.ensures.buffer (omega (arith, c.requires, last_four_length _ c.requires.0)) in
    (omega arith, room_left _ (omega arith) room c.put_number.ensures)

pub put_long-put_pair-requires-2 : goal.put_long-put_pair-requires-2
put_long-put_pair-requires-2 t c =
    let room : c.new-text.result.at + (length (decimal (c.args.n / 10000)) + 4) ≤ length c.new-text.result.out.now = rw c.new-text.ensures.buffer (omega (arith, c.requires, last_four_length _ c.requires.0)) in
    (omega arith, room_left _ (omega arith) room (adds_join {m = length (decimal (c.args.n / 10000)) + 2} (omega arith) c.put_number.ensures c.put_pair.ensures))

pub put_long-returns : goal.put_long-returns
put_long-returns t c =
    put_from c.new-text.ensures.buffer c.new-text.ensures.place (search rules)
    (adds_as (sym (decimal_last_four _ c.requires.0))
    (adds_join {m = length (decimal (c.args.n / 10000)) + 4} (omega arith) c.put_number.ensures (adds_join {m = 4} (omega arith) c.put_pair.ensures c.put_pair-2.ensures)))
