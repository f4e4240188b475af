-- Worked cases, each by computing the definitions. The levels of nine cells are ours: the text of SD 004 gives of its figure 1, windows of five cells
-- three apart, the representation ((3,0,1),(4,2,0),(0,2,2)), and these levels have it.
-- Assumes nothing.
use Prim.Native.Nat.{ℕ, suc}
use mathlib.Core.Path.{◌≡◌, refl}
use mathlib.Core.List.{List, [], ◌∷◌, map, reverse}
use lib.Dec.{ltb}
use lib.ListN.{get_or, drop}
use Rattle.order.specs.Refusals.{number_of, answer}
use Rattle.order.specs.Cells.{count_if}
use Rattle.coordinates.specs.Coordinates.{coordinate_of}
use Rattle.group.specs.Levels.{level, put}
use Rattle.group.specs.Record.{all_at_most, is_row}
use Rattle.sensing.specs.Sense.{stands_above, insert, sorted, sensed}
use Rattle.sensing.specs.LevelCells.{formerly_above, former_order}
use Rattle.window.specs.Ring.{factorial, factorial_sum, order_number, window_number, window_at, window_numbers}
use Rattle.cell_run.specs.declared.Run.{Run}
use Rattle.cell_run.specs.Run.{run_checks, level_checks, open_run_of, raise_cell_of}
use Rattle.window.specs.Calls.{ring, scratch_levels, windows_of, numbers_after, scratch_after}
use Rattle.window_laws.specs.Turn.{turned}
use Rattle.window_laws.specs.LevelCells.{former_number, former_numbers}
use Rattle.window.proofs.Summing.{coordinate_in}

-- ---- the paper's example

abbrev figure : List ℕ
figure = 6 ∷ 3 ∷ 5 ∷ 9 ∷ 4 ∷ 1 ∷ 2 ∷ 7 ∷ 8 ∷ []

-- the paper's digits of the window that starts past p cells: for each of the first three cells, how many lower ones stand to its right
abbrev lower_to_the_right : ℕ → List ℕ
lower_to_the_right p =
    let window = window_at figure 5 p in
    map (λ i. count_if (λ l. ltb l (get_or window i 0)) (drop (suc i) window)) (0 ∷ 1 ∷ 2 ∷ [])

-- coordinates 4, 3 and 2 of the same window, read backwards
abbrev backwards : ℕ → List ℕ
backwards p = map (coordinate_in (reverse (window_at figure 5 p))) (4 ∷ 3 ∷ 2 ∷ [])

representation : map lower_to_the_right (0 ∷ 3 ∷ 6 ∷ []) ≡ (3 ∷ 0 ∷ 1 ∷ []) ∷ (4 ∷ 2 ∷ 0 ∷ []) ∷ (0 ∷ 2 ∷ 2 ∷ []) ∷ []
unfolding window_at
representation = refl

backwards_same : map backwards (0 ∷ 3 ∷ 6 ∷ []) ≡ map lower_to_the_right (0 ∷ 3 ∷ 6 ∷ [])
unfolding window_at sensed sorted insert stands_above level coordinate_of
backwards_same = refl

-- the last window wraps round; the ring turned by a step has the same numbers, turned by one
figure_numbers : (window_numbers figure 5 3 ≡ 44 ∷ 78 ∷ 35 ∷ []) × (window_numbers (turned 3 figure) 5 3 ≡ 78 ∷ 35 ∷ 44 ∷ [])
unfolding window_numbers window_number order_number window_at turned factorial_sum factorial sensed sorted insert stands_above level coordinate_of
figure_numbers = (refl, refl)

-- ---- the ends

-- rising levels have the highest number of twelve cells, 12! - 1, and falling ones have 0
highest :
    (window_number (1 ∷ 2 ∷ 3 ∷ 4 ∷ 5 ∷ 6 ∷ 7 ∷ 8 ∷ 9 ∷ 10 ∷ 11 ∷ 12 ∷ []) ≡ 479001599)
    × (window_number (12 ∷ 11 ∷ 10 ∷ 9 ∷ 8 ∷ 7 ∷ 6 ∷ 5 ∷ 4 ∷ 3 ∷ 2 ∷ 1 ∷ []) ≡ 0)
unfolding window_number order_number factorial_sum factorial sensed sorted insert stands_above level coordinate_of
highest = (refl, refl)

-- ---- level cells

abbrev tied : List ℕ
tied = 2 ∷ 1 ∷ 1 ∷ 2 ∷ []

-- they go by their numbers in the window: by those in the ring the last two windows, which wrap round, would have the numbers 3 and 0
level_cells : window_numbers tied 3 1 ≡ 2 ∷ 5 ∷ 5 ∷ 1 ∷ []
unfolding window_numbers window_number order_number window_at factorial_sum factorial sensed sorted insert stands_above level coordinate_of
level_cells = refl

-- under the former rule
former_level_cells : former_numbers tied 3 1 ≡ 0 ∷ 4 ∷ 3 ∷ 0 ∷ []
unfolding former_numbers former_number former_order formerly_above order_number window_at factorial_sum factorial sorted insert level coordinate_of
former_level_cells = refl

-- ---- whole calls

-- on lists with a place to spare, which keeps its 7
abbrev numbers : List ℕ
numbers = 7 ∷ 7 ∷ 7 ∷ 7 ∷ 7 ∷ []

filled :
    (windows_of (level_checks tied) tied 3 1 numbers numbers ≡ record { number = 0; value = 4 })
    × (numbers_after (level_checks tied) tied 3 1 numbers numbers ≡ 2 ∷ 5 ∷ 5 ∷ 1 ∷ 7 ∷ [])
    × (scratch_after (level_checks tied) tied 3 1 numbers numbers ≡ 2 ∷ 1 ∷ 1 ∷ 2 ∷ 7 ∷ [])
unfolding windows_of numbers_after scratch_after scratch_levels all_at_most answer number_of window_numbers window_number order_number window_at factorial_sum factorial sensed sorted insert stands_above level coordinate_of
filled = (refl, refl, refl)

-- a step of 3 does not divide the length: 13, before a scratch of 3 places, which is too short
refused :
    (windows_of (level_checks tied) tied 3 3 numbers (drop 2 numbers) ≡ record { number = 13; value = 0 })
    × (windows_of (level_checks tied) tied 3 2 numbers (drop 2 numbers) ≡ record { number = 15; value = 0 })
    × (windows_of (level_checks tied) tied 3 1 (drop 2 numbers) numbers ≡ record { number = 15; value = 0 })
unfolding windows_of scratch_levels all_at_most answer number_of window_numbers
refused = (refl, refl, refl)

-- and both lists are as they were
kept :
    (numbers_after (level_checks tied) tied 3 2 numbers (drop 2 numbers) ≡ numbers)
    × (scratch_after (level_checks tied) tied 3 2 numbers (drop 2 numbers) ≡ drop 2 numbers)
unfolding numbers_after scratch_after scratch_levels all_at_most number_of window_numbers
kept = (refl, refl)

-- a run of four cells, opened and raised: the same numbers
abbrev up : Run → ℕ → ℕ → Run
up r c v = (raise_cell_of r (record { 0 = c }) v).value

abbrev tagged : Run
tagged = up (up (up (up (open_run_of 4).value 1 2) 2 1) 3 1) 4 2

raised_run_lem :
    (ring tagged ≡ tied)
    × (windows_of (run_checks tagged) (ring tagged) 3 1 numbers numbers ≡ record { number = 0; value = 4 })
    × ((raise_cell_of tagged (record { 0 = 4 }) 1).number ≡ 14)
unfolding open_run_of raise_cell_of put level is_row all_at_most windows_of scratch_levels answer number_of window_numbers
raised_run_lem = (refl, refl, refl)
