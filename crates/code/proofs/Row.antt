-- The checks run in the order of the row.
-- Assumes nothing.
use Prim.Native.Nat.{ℕ}
use mathlib.Core.Path.{◌≡◌, refl}
use mathlib.Core.Bool.{true}
use Rattle.order.specs.Refusals.{check_row, in_row}
use Rattle.code.specs.Symbols.{codeword_checks}

pub codeword_in_row : (n symbol : ℕ) → in_row (codeword_checks n symbol) check_row ≡ true
codeword_in_row n symbol = refl
