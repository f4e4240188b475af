-- The record of an order, and what the calls on it answer.
--
--   cell_numbers o       the numbers in the record's twelve places
--   listed o            the cells of the order, by number
--   is_order_of n o       n is a size, and the record is an order of the cells 1 to n, with zeros past them
--   order_checks o       the checks of an order that is handed in without a group: n is its length
--   pair_checks u v      the checks of two orders without a group: n is the first one's length
--   order_record xs      the record of a list of cells
--   no_order             the zeros beside a refusal
--   told_order           what an answer says: its number, and the order, or zeros
--   order_of_cells        the answer to `order_of`
use Rattle.std.specs.Prelude.{ℕ, Bool, ◌&&◌, List, [], ◌∷◌, ◌++◌, map, length, get_or, take, replicate, Result}
use Rattle.order.specs.declared.Cell.{Cell}
use Rattle.order.specs.declared.Order.{Order}
use Rattle.order.specs.declared.Refusal.{Refusal}
use Rattle.order.specs.declared.Refusal.TheVariants.{Size, NoOrder}
use Rattle.order.specs.Refusals.{Told, told, answer, is_size}
use Rattle.order.specs.Cells.{is_order, is_listing, tabulate}

unfoldable pub cell_numbers : Order → List ℕ
cell_numbers o = map (λ (c : Cell). c.0) o.cells

abbrev pub listed : Order → List ℕ
listed o = take o.len (cell_numbers o)

unfoldable pub is_order_of : ℕ → Order → Bool
is_order_of n o = is_size n && is_listing n o.len (cell_numbers o)

abbrev pub order_checks : Order → List (Bool × Refusal)
order_checks o = (is_size o.len, Size) ∷ (is_order_of o.len o, NoOrder) ∷ []

abbrev pub pair_checks : Order → Order → List (Bool × Refusal)
pair_checks u v = order_checks u ++ (is_order_of u.len v, NoOrder) ∷ []

unfoldable pub order_record : List ℕ → Order
order_record xs = record { len = length xs; cells = tabulate 12 (λ k. record { 0 = get_or xs k 0 }) }

abbrev pub no_order : Order
no_order = record { len = 0; cells = replicate 12 (record { 0 = 0 }) }

abbrev pub told_order : Result Order Refusal → Told Order
told_order a = told no_order a

-- an order from a list of cell numbers of any length
unfoldable pub order_of_cells : List ℕ → Told Order
order_of_cells xs = answer ((is_size (length xs), Size) ∷ (is_order (length xs) xs, NoOrder) ∷ []) (order_record xs) no_order
