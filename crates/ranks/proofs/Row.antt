-- The checks run in the order of the row.
-- Assumes nothing.
use mathlib.Core.Path.{◌≡◌, refl}
use mathlib.Core.Bool.{true}
use Rattle.order.specs.Refusals.{check_row, in_row}
use Rattle.ranks.specs.declared.Ranks.{Ranks}
use Rattle.ranks.specs.Ranks.{rank_checks}

pub ranks_in_row : (r : Ranks) → in_row (rank_checks r) check_row ≡ true
ranks_in_row r = refl
