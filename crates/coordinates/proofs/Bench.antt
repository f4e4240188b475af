-- An order and its coordinates as records, a refused record each way, and sweeps.
-- Assumes nothing.
use Prim.Native.Nat.{ℕ}
use mathlib.Core.Path.{◌≡◌, refl}
use mathlib.Core.List.{[], ◌∷◌}
use lib.ListN.{replicate}
use Rattle.order.specs.Refusals.{number_of, Told, answer}
use Rattle.order.specs.Cells.{each_once, is_order, all_zero, is_listing, place_from, place_of}
use Rattle.order.specs.Order.{cell_numbers, is_order_of, order_record, no_order}
use Rattle.coordinates.specs.declared.Sweep.{Sweep}
use Rattle.coordinates.specs.Coordinates.{coordinate_of, coordinates_to, weight, order_from, in_range}
use Rattle.coordinates.specs.Conversion.{coordinates_of, order_by_coordinates, no_coordinates, coordinates_of_order, order_of_coordinates}
use Rattle.coordinates.specs.Sweep.{met_coordinate, met_to, sweep_of, no_sweep, sweep_of_order}

-- [3,4,1,2] both ways, a cell doubled, coordinate 2 above 2, and a coordinate past the length
answers :
    (coordinates_of_order (order_record (3 ∷ 4 ∷ 1 ∷ 2 ∷ [])) ≡ record { number = 0; value = record { len = 3; values = 0 ∷ 2 ∷ 2 ∷ 0 ∷ 0 ∷ 0 ∷ 0 ∷ 0 ∷ 0 ∷ 0 ∷ 0 ∷ [] } })
    × (order_of_coordinates (record { len = 3; values = 0 ∷ 2 ∷ 2 ∷ 0 ∷ 0 ∷ 0 ∷ 0 ∷ 0 ∷ 0 ∷ 0 ∷ 0 ∷ [] }) ≡ record { number = 0; value = order_record (3 ∷ 4 ∷ 1 ∷ 2 ∷ []) })
    × (coordinates_of_order (order_record (3 ∷ 4 ∷ 3 ∷ 2 ∷ [])) ≡ record { number = 4; value = no_coordinates })
    × (order_of_coordinates (record { len = 3; values = 0 ∷ 3 ∷ 2 ∷ 0 ∷ 0 ∷ 0 ∷ 0 ∷ 0 ∷ 0 ∷ 0 ∷ 0 ∷ [] }) ≡ record { number = 11; value = no_order })
    × (order_of_coordinates (record { len = 3; values = 0 ∷ 2 ∷ 2 ∷ 1 ∷ 0 ∷ 0 ∷ 0 ∷ 0 ∷ 0 ∷ 0 ∷ 0 ∷ [] }) ≡ record { number = 11; value = no_order })
unfolding coordinates_of_order order_of_coordinates answer number_of is_order_of is_listing is_order each_once all_zero cell_numbers order_record coordinates_of coordinates_to coordinate_of order_by_coordinates order_from in_range
answers = (refl, refl, refl, refl, refl)

-- sweeps of [3,4,2,1], whose coordinates are 1, 2, 2: no place, those of 1 and 2, of 4 too, all, and more than there are; and a cell doubled
abbrev swept : ℕ → Told Sweep
swept k = sweep_of_order (order_record (3 ∷ 4 ∷ 2 ∷ 1 ∷ [])) k

abbrev holding : ℕ → ℕ → ℕ → ℕ → Told Sweep
holding x y z sum = record { number = 0; value = record { coordinates = record { len = 3; values = x ∷ y ∷ z ∷ replicate 8 0 }; sum = sum } }

sweeps :
    (swept 0 ≡ holding 0 0 0 0)
    × (swept 2 ≡ holding 1 0 0 1)
    × (swept 3 ≡ holding 1 0 2 7)
    × (swept 4 ≡ holding 1 2 2 11)
    × (swept 9 ≡ holding 1 2 2 11)
    × (sweep_of_order (order_record (3 ∷ 4 ∷ 3 ∷ 2 ∷ [])) 4 ≡ record { number = 4; value = no_sweep })
unfolding sweep_of_order answer number_of is_order_of is_listing is_order each_once all_zero cell_numbers order_record sweep_of met_to met_coordinate place_of place_from coordinate_of weight
sweeps = (refl, refl, refl, refl, refl, refl)
