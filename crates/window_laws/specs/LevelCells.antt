-- Document 02, request (c): how the cells of a ring stand in its windows, and the numbers that windows had by document 01's rule for level cells.
--
--   new_number ring p c               the number of cell c of the ring in a window that starts with cell p + 1, whose cells are numbered anew
--                                    from 1 in ring order; p is at most the ring's length
--   InWindow ring width p c          c is a cell of the ring, and one of the window's
--   StandsInWindow ring p a b        of two cells of the window a stands above b: its level is higher, or equal and its new number greater
--   former_number ls                  the number of a window with the levels ls, its order being the one that the former rule gives
--   former_numbers ring width step    these numbers, of the windows that start with cells 1, 1 + step and so on, once round the ring
use Rattle.std.specs.Prelude.{ℕ, suc, ◌+◌, ◌-◌, ◌*◌, ◌/◌, ◌%◌, ◌≤◌, ◌<◌, ◌≡◌, ◌⊎◌, List, length}
use Rattle.order.specs.Cells.{tabulate}
use Rattle.group.specs.Levels.{level}
use Rattle.sensing.specs.LevelCells.{former_order}
use Rattle.window.specs.Ring.{order_number, window_at}

unfoldable pub new_number : List ℕ → ℕ → ℕ → ℕ
new_number ring p c = suc ((c - 1 + (length ring - p)) % length ring)

pub record InWindow (ring : List ℕ) (width p c : ℕ) : Type 0 where
  pub first : 1 ≤ c
  pub last : c ≤ length ring
  pub inside : new_number ring p c ≤ width

abbrev pub StandsInWindow : List ℕ → ℕ → ℕ → ℕ → Type 0
StandsInWindow ring p a b = (level ring b < level ring a) ⊎ ((level ring b ≡ level ring a) × (new_number ring p b < new_number ring p a))

unfoldable pub former_number : List ℕ → ℕ
former_number ls = order_number (length ls) (former_order (length ls) ls)

unfoldable pub former_numbers : List ℕ → ℕ → ℕ → List ℕ
former_numbers ring width step = tabulate (length ring / step) (λ k. former_number (window_at ring width (k * step)))
