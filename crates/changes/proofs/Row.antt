-- The checks run in the order of the row.
-- Assumes nothing.
use Prim.Native.Nat.{ℕ}
use mathlib.Core.Path.{◌≡◌, refl}
use mathlib.Core.Bool.{true}
use Rattle.order.specs.declared.Cell.{Cell}
use Rattle.order.specs.Refusals.{check_row, in_row}
use Rattle.group.specs.declared.Group.{Group}
use Rattle.changes.specs.Changes.{open_checks, cell_checks, wear_checks}

pub open_in_row : (n e : ℕ) → in_row (open_checks n e) check_row ≡ true
open_in_row n e = refl

pub leak_in_row : (g : Group) (c : Cell) → in_row (cell_checks g c) check_row ≡ true
leak_in_row g c = refl

pub wear_in_row : (g : Group) (c : Cell) (cap : ℕ) → in_row (wear_checks g c cap) check_row ≡ true
wear_in_row g c cap = refl
