-- The checks of a call on one cell: what a call that passes them knows.
-- Assumes nothing.
use Prim.Native.Nat.{◌-◌, ◌≤◌, ◌<◌}
use mathlib.Core.Path.{◌≡◌}
use mathlib.Core.List.{[]}
use native.Mathlib.Omega.{arith}
use Rattle.order.specs.declared.Cell.{Cell}
use Rattle.order.specs.declared.Refusal.TheVariants.{NoCell}
use Rattle.order.specs.Refusals.{number_of}
use Rattle.order.specs.Cells.{is_cell}
use Rattle.order.proofs.Refusals.{all_held, check_held}
use Rattle.group.specs.declared.Group.{Group}
use Rattle.group.specs.Record.{group_checks}
use Rattle.group.proofs.Checks.{checked_size, cell_true}
use Rattle.changes.specs.Changes.{cell_checks}

-- a cell of a group has a place in a row
pub checked_cell : (g : Group) (c : Cell) → number_of (cell_checks g c) ≡ 0 → (1 ≤ c.0) × (c.0 - 1 < 12)
checked_cell g c d =
    let t = all_held _ (group_checks g) d in
    let range = cell_true g.n c.0 (check_held (is_cell g.n c.0) NoCell [] t.1).0 in
    (range.0, omega (arith, range.1, checked_size g t.0))
