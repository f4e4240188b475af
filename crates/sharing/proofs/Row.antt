-- The checks run in the order of the row.
-- Assumes nothing.
use mathlib.Core.Path.{◌≡◌, refl}
use mathlib.Core.Bool.{true}
use Rattle.order.specs.Refusals.{check_row, in_row}
use Rattle.group.specs.declared.Group.{Group}
use Rattle.sharing.specs.declared.Ranked.{Ranked}
use Rattle.sharing.specs.Shared.{shared_checks}

pub shared_in_row : (g : Group) (t : Ranked) → in_row (shared_checks g t) check_row ≡ true
shared_in_row g t = refl
