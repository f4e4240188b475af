-- `lines::Text::put_short` meets its contract.
use mathlib.Core.Path.{sym}
use native.Mathlib.Omega.{arith}
use Rattle.lines.proofs.Adds.{adds_as, adds_join, room_left}
use Rattle.lines.proofs.Decimal.{decimal_last_two, last_two_length}
use Rattle.lines.proofs.Text.put_short.Goals as goal

pub put_small-requires-2 : goal.put_small-requires-2
put_small-requires-2 c = (omega arith, omega (arith, c.requires.1, last_two_length _ c.if-n-lt100.false))

pub put_pair-requires : goal.put_pair-requires
put_pair-requires c = (omega arith, room_left _ (omega (arith, last_two_length _ c.if-n-lt100.false)) c.requires.1 c.put_small-2.ensures)

pub returns : goal.returns
returns c =
    adds_as (sym (decimal_last_two _ c.if-n-lt100.false))
    (adds_join (omega (arith, last_two_length _ c.if-n-lt100.false)) c.put_small-2.ensures c.put_pair.ensures)
