-- `lines::Text::put_small` meets its contract.
use mathlib.Core.Path.{sym}
use native.Mathlib.Omega.{arith}
use Rattle.lines.proofs.Adds.{adds_as, adds_in}
use Rattle.lines.proofs.Decimal.{decimal_digit, decimal_pair, digit_length, pair_length}
use Rattle.lines.proofs.Text.put_small.Goals as goal

pub put-requires : goal.put-requires
put-requires c = omega (arith, digit_length _ c.if-n-lt10.true, c.requires.1)

pub returns-then-n-lt10 : goal.returns-then-n-lt10
returns-then-n-lt10 c =
    adds_in (omega (arith, digit_length _ c.if-n-lt10.true)) (adds_as (sym (decimal_digit _ c.if-n-lt10.true)) c.put.ensures)

pub put_pair-requires : goal.put_pair-requires
put_pair-requires c = (c.requires.0, omega (arith, c.requires.1, pair_length _ c.if-n-lt10.false c.requires.0))

pub returns : goal.returns
returns c =
    adds_in (omega (arith, pair_length _ c.if-n-lt10.false c.requires.0)) (adds_as (sym (decimal_pair _ c.if-n-lt10.false c.requires.0)) c.put_pair.ensures)
