-- The checks of a raise run in the order of the row.
-- Assumes nothing.
use Prim.Native.Nat.{ℕ}
use mathlib.Core.Path.{◌≡◌, refl}
use mathlib.Core.Bool.{true}
use Rattle.order.specs.declared.Cell.{Cell}
use Rattle.order.specs.Refusals.{check_row, in_row}
use Rattle.cell_run.specs.declared.Run.{Run}
use Rattle.cell_run.specs.Run.{raise_checks}

pub raise_in_row : (r : Run) (c : Cell) (v : ℕ) → in_row (raise_checks r c v) check_row ≡ true
raise_in_row r c v = refl
