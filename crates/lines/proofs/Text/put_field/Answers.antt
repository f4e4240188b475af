-- `lines::Text::put_field` meets its contract.
use Prim.Native.Nat.{ℕ}
use native.Mathlib.Omega.{arith}
use mathlib.Core.Path.{sym, ap}
use mathlib.Core.List.{List, ◌∷◌}
use Rattle.lines.specs.Line.{after}
use Rattle.lines.proofs.Adds.{adds_as, adds_in, adds_join}
use Rattle.lines.proofs.Decimal.{decimal_digit, word_length}
use Rattle.lines.proofs.Text.put_field.Goals as goal

pub returns-then-n-lt10 : goal.returns-then-n-lt10
returns-then-n-lt10 c =
    adds_in (omega arith) (adds_as (sym (ap (λ (ds : List ℕ). 32 ∷ ds) (decimal_digit _ c.if-n-lt10.true))) c.put.ensures)

pub put_number-requires : goal.put_number-requires
put_number-requires c = omega (arith, word_length _ c.from.ensures c.ranges.n.fits)

pub returns : goal.returns
returns c = adds_as (ap (after 32) c.from.ensures) (adds_join (omega (arith, word_length _ c.from.ensures c.ranges.n.fits)) c.put-2.ensures c.put_number.ensures)
