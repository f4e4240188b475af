-- The checks of a call for windows run in the order of the row, of a run's record and of a list of levels.
-- Assumes nothing.
use Prim.Native.Nat.{ℕ}
use mathlib.Core.Path.{◌≡◌, refl}
use mathlib.Core.Bool.{true}
use mathlib.Core.List.{List}
use Rattle.order.specs.Refusals.{check_row, in_row}
use Rattle.cell_run.specs.declared.Run.{Run}
use Rattle.cell_run.specs.Run.{run_checks, level_checks}
use Rattle.window.specs.Calls.{ring, window_checks}

module _ (width step : ℕ) (numbers scratch : List ℕ) where
  pub windows_in_row : (r : Run) → in_row (window_checks (run_checks r) (ring r) width step numbers scratch) check_row ≡ true
  windows_in_row r = refl

  pub windows_of_levels_in_row : (ls : List ℕ) → in_row (window_checks (level_checks ls) ls width step numbers scratch) check_row ≡ true
  windows_of_levels_in_row ls = refl
