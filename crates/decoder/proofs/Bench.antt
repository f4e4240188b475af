-- Tests of a codeword, and what is found.
-- Assumes nothing.
use mathlib.Core.Path.{◌≡◌, refl}
use mathlib.Core.Bool.{true, false}
use mathlib.Core.List.{[], ◌∷◌}
use Rattle.order.specs.Refusals as refusals
use Rattle.order.specs.Cells.{each_once, is_order, all_zero, is_listing}
use Rattle.order.specs.Order.{cell_numbers, is_order_of, order_record}
use Rattle.coordinates.specs.Coordinates.{coordinate_of, coordinates_to, weight}
use Rattle.decoder.specs.Decoding.{leaves, is_codeword}
use Rattle.decoder.specs.Nearest.{is_codeword_of, nothing_found, nearest_of}

pub tests :
    (is_codeword_of (order_record (3 ∷ 1 ∷ 4 ∷ 2 ∷ [])) ≡ record { number = 0; value = true })
    × (is_codeword_of (order_record (3 ∷ 4 ∷ 1 ∷ 2 ∷ [])) ≡ record { number = 0; value = false })
    × (is_codeword_of (order_record (3 ∷ 4 ∷ 3 ∷ 2 ∷ [])) ≡ record { number = 4; value = false })
    × (is_codeword_of (order_record (2 ∷ 1 ∷ [])) ≡ record { number = 1; value = false })
unfolding is_codeword_of refusals.answer refusals.number_of is_order_of is_listing is_order each_once all_zero cell_numbers order_record is_codeword coordinates_to coordinate_of leaves weight
tests = (refl, refl, refl, refl)

-- a cell doubled, and two cells
pub refused :
    (nearest_of (order_record (3 ∷ 4 ∷ 3 ∷ 2 ∷ [])) ≡ record { number = 4; value = nothing_found })
    × (nearest_of (order_record (2 ∷ 1 ∷ [])) ≡ record { number = 1; value = nothing_found })
unfolding nearest_of refusals.answer refusals.number_of is_order_of is_listing is_order each_once all_zero cell_numbers order_record
refused = (refl, refl)
