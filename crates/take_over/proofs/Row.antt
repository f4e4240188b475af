-- The checks run in the order of the row.
-- Assumes nothing.
use Prim.Native.Nat.{ℕ}
use mathlib.Core.Path.{◌≡◌, refl}
use mathlib.Core.Bool.{true}
use mathlib.Core.List.{List}
use Rattle.order.specs.Refusals.{check_row, in_row}
use Rattle.take_over.specs.TakeOver.{take_over_checks}

pub take_over_in_row : (n : ℕ) (ls cs us : List ℕ) (e : ℕ) → in_row (take_over_checks n ls cs us e) check_row ≡ true
take_over_in_row n ls cs us e = refl
