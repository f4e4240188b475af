-- The order that has a number, and a window that shows an order.
--
--   digit k i           digit i of a number, which has the weight i factorial
--   order_numbered n k   the order of n cells that has the digits of k for coordinates
--   levels_along n xs    levels that fall by one along an order of n cells, down to 0
use Rattle.std.specs.Prelude.{ℕ, suc, ◌-◌, ◌/◌, ◌%◌, List}
use Rattle.order.specs.Cells.{tabulate, place_of}
use Rattle.coordinates.specs.Coordinates.{order_from}
use Rattle.window.specs.Ring.{factorial}

unfoldable pub digit : ℕ → ℕ → ℕ
digit k i = k / factorial i % suc i

unfoldable pub order_numbered : ℕ → ℕ → List ℕ
order_numbered n k = order_from (digit k) n

unfoldable pub levels_along : ℕ → List ℕ → List ℕ
levels_along n xs = tabulate n (λ c. n - place_of xs (suc c))
