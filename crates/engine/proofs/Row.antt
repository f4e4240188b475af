-- The checks run in the order of the row. Those of alike are the first group's, then the second's: "first group first".
-- Assumes nothing.
use Prim.Native.Nat.{ℕ}
use mathlib.Core.Path.{◌≡◌, refl}
use mathlib.Core.Bool.{true}
use Rattle.order.specs.Refusals.{check_row, in_row}
use Rattle.group.specs.declared.Group.{Group}
use Rattle.engine.specs.ReadStore.{read_checks, store_checks}
use Rattle.engine.specs.Scrub.{scrub_checks}

pub read_in_row : (g : Group) → in_row (read_checks g) check_row ≡ true
read_in_row g = refl

pub store_in_row : (g : Group) (s : ℕ) → in_row (store_checks g s) check_row ≡ true
store_in_row g s = refl

pub scrub_in_row : (g : Group) → in_row (scrub_checks g) check_row ≡ true
scrub_in_row g = refl
