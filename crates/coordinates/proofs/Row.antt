-- The checks run in the order of the row.
-- Assumes nothing.
use mathlib.Core.Path.{◌≡◌, refl}
use mathlib.Core.Bool.{true}
use Rattle.order.specs.Refusals.{check_row, in_row}
use Rattle.coordinates.specs.declared.Coordinates.{Coordinates}
use Rattle.coordinates.specs.Conversion.{coordinate_checks}

pub coordinates_in_row : (x : Coordinates) → in_row (coordinate_checks x) check_row ≡ true
coordinates_in_row x = refl
