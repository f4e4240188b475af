-- The record of coordinates, and what the calls on it answer.
--
--   coordinates_of o          the coordinates of an order: coordinate i at index i - 1, then zeros
--   coordinate_at values i    coordinate i of the record; cell 1, which has none, has 0
--   order_by_coordinates x     the order that has the coordinates
--   coordinate_checks x       the checks of coordinates that are handed in: n is one more than their number
--   no_coordinates            the zeros beside a refusal
--   told_coordinates a        what an answer says: its number, and the coordinates, or zeros
--   coordinates_of_order, order_of_coordinates    the answers to `coordinates_of` and `from_coordinates`
use Rattle.std.specs.Prelude.{ℕ, ◌+◌, ◌-◌, Bool, List, [], ◌∷◌, get_or, replicate, Result}
use Rattle.order.specs.declared.Order.{Order}
use Rattle.order.specs.declared.Refusal.{Refusal}
use Rattle.order.specs.declared.Refusal.TheVariants.{Size, Coordinate}
use Rattle.order.specs.Refusals.{Told, told, answer, is_size}
use Rattle.order.specs.Order.{listed, order_checks, order_record, no_order}
use Rattle.coordinates.specs.declared.Coordinates.{Coordinates}
use Rattle.coordinates.specs.Coordinates.{coordinates_to, order_from, in_range}

unfoldable pub coordinates_of : Order → Coordinates
coordinates_of o = record { len = o.len - 1; values = coordinates_to 11 (listed o) }

abbrev pub coordinate_at : List ℕ → ℕ → ℕ
coordinate_at values i = get_or (0 ∷ values) i 0

unfoldable pub order_by_coordinates : Coordinates → Order
order_by_coordinates x = order_record (order_from (coordinate_at x.values) (x.len + 1))

abbrev pub coordinate_checks : Coordinates → List (Bool × Refusal)
coordinate_checks x = (is_size (x.len + 1), Size) ∷ (in_range x.len 1 x.values, Coordinate) ∷ []

abbrev pub no_coordinates : Coordinates
no_coordinates = record { len = 0; values = replicate 11 0 }

abbrev pub told_coordinates : Result Coordinates Refusal → Told Coordinates
told_coordinates a = told no_coordinates a

unfoldable pub coordinates_of_order : Order → Told Coordinates
coordinates_of_order o = answer (order_checks o) (coordinates_of o) no_coordinates

unfoldable pub order_of_coordinates : Coordinates → Told Order
order_of_coordinates x = answer (coordinate_checks x) (order_by_coordinates x) no_order
