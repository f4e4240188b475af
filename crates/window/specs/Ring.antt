-- Document 02, request (a): the number of a window, and the windows along a ring of cells (SD 004).
--
--   factorial n                   1 times 2 times .. times n; 1 where n is 0
--   factorial_sum x m              the sum of x i times i factorial, for i from 1 to m
--   order_number n xs              the number of an order of n cells: the sum of coordinate i times i factorial
--   window_order ls                the order in which a reading finds the cells of a window, numbered from 1, where their levels are ls
--   window_number ls               the number of such a window: that of this order
--   level_round ring i             the level of the cell that comes i cells after cell 1, round the ring
--   window_at ring width p         the levels of the window of so many cells that starts with cell p + 1 of the ring, in ring order
--   number_at ring width step k    the number of the window that starts k steps after cell 1
--   window_numbers ring width step    the numbers of the windows that start with cells 1, 1 + step and so on, once round the ring
use Rattle.std.specs.Prelude.{ℕ, zero, suc, ◌+◌, ◌-◌, ◌*◌, ◌/◌, ◌%◌, List, length, get_or}
use Rattle.order.specs.Cells.{tabulate}
use Rattle.coordinates.specs.Coordinates.{coordinate_of}
use Rattle.sensing.specs.Sense.{sensed}

unfoldable pub factorial : ℕ → ℕ
factorial zero = 1
factorial (suc n) = suc n * factorial n

unfoldable pub factorial_sum : (ℕ → ℕ) → ℕ → ℕ
factorial_sum x zero = 0
factorial_sum x (suc i) = factorial_sum x i + x (suc i) * factorial (suc i)

unfoldable pub order_number : ℕ → List ℕ → ℕ
order_number n xs = factorial_sum (coordinate_of xs) (n - 1)

abbrev pub window_order : List ℕ → List ℕ
window_order ls = sensed (length ls) ls

unfoldable pub window_number : List ℕ → ℕ
window_number ls = order_number (length ls) (window_order ls)

abbrev pub level_round : List ℕ → ℕ → ℕ
level_round ring i = get_or ring (i % length ring) 0

unfoldable pub window_at : List ℕ → ℕ → ℕ → List ℕ
window_at ring width p = tabulate width (λ j. level_round ring (p + j))

abbrev pub number_at : List ℕ → ℕ → ℕ → ℕ → ℕ
number_at ring width step k = window_number (window_at ring width (k * step))

unfoldable pub window_numbers : List ℕ → ℕ → ℕ → List ℕ
window_numbers ring width step = tabulate (length ring / step) (number_at ring width step)
