-- The checks of a load run in the order of the row.
-- Assumes nothing.
use Prim.Native.Nat.{ℕ}
use mathlib.Core.Path.{◌≡◌, refl}
use mathlib.Core.Bool.{true}
use Rattle.order.specs.Refusals.{check_row, in_row}
use Rattle.load.specs.Load.{load_checks}

pub load_in_row : (n seed : ℕ) → in_row (load_checks n seed) check_row ≡ true
load_in_row n seed = refl
