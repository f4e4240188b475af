-- Document 02, request (a): what a call for the numbers of a run's windows answers, and what it leaves in the lists that it is lent.
--
--   ring r               the levels of the run's cells, which stand in a ring
--   scratch_levels ls w s what stands first in the scratch after the call: the run's levels, whatever the width and the step
--   has_room new old      a lent list is long enough for what goes into it
--   told_windows a        what the answer says: its number, and how many numbers were filled in, or 0
--   put_first new old     a lent list with new elements first, and the later places untouched
--
-- Of a call: of_run are the checks of the run as it is handed in (`run_checks`, `level_checks` of cell_run), ls the levels of its ring,
-- width and step the numbers handed in (`limit_checks` of cell_run), numbers and scratch the lists that are lent.
--
--   window_checks         its checks: those of the run, then 13 for width and step, then 15
--   windows_of            its answer: 0 and how many numbers were filled in, else the refusal and 0
--   numbers_after, scratch_after    the two lent lists after it: a refusal leaves them as they were
use Rattle.std.specs.Prelude.{ℕ, Bool, List, [], ◌∷◌, ◌++◌, leb, length, take, drop, Result}
use Rattle.order.specs.declared.Refusal.{Refusal}
use Rattle.order.specs.declared.Refusal.TheVariants.{RoomShort}
use Rattle.order.specs.Refusals.{number_of, if_done, Told, told, answer}
use Rattle.cell_run.specs.declared.Run.{Run}
use Rattle.cell_run.specs.Run.{limit_checks}
use Rattle.window.specs.Ring.{window_numbers}

-- ---- a run, its windows and the lent lists

abbrev pub ring : Run → List ℕ
ring r = take r.len r.levels

unfoldable pub scratch_levels : List ℕ → ℕ → ℕ → List ℕ
scratch_levels ls width step = ls

abbrev pub has_room : List ℕ → List ℕ → Bool
has_room new old = leb (length new) (length old)

abbrev pub told_windows : Result ℕ Refusal → Told ℕ
told_windows a = told 0 a

abbrev pub put_first : List ℕ → List ℕ → List ℕ
put_first new old = new ++ drop (length new) old

-- ---- a call

module _ (of_run : List (Bool × Refusal)) (ls : List ℕ) (width step : ℕ) (numbers scratch : List ℕ) where
  abbrev pub window_checks : List (Bool × Refusal)
  window_checks =
      of_run
      ++ (limit_checks (length ls) width step
      ++ (has_room (window_numbers ls width step) numbers, RoomShort)
      ∷ (has_room (scratch_levels ls width step) scratch, RoomShort)
      ∷ [])

  unfoldable pub windows_of : Told ℕ
  windows_of = answer window_checks (length (window_numbers ls width step)) 0

  unfoldable pub numbers_after : List ℕ
  numbers_after = if_done (number_of window_checks) (put_first (window_numbers ls width step) numbers) numbers

  unfoldable pub scratch_after : List ℕ
  scratch_after = if_done (number_of window_checks) (put_first (scratch_levels ls width step) scratch) scratch
