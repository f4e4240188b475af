-- Refusals of each call.
-- Assumes nothing.
use mathlib.Core.Path.{◌≡◌, refl}
use mathlib.Core.List.{[], ◌∷◌}
use Rattle.order.specs.Refusals as refusals
use Rattle.order.specs.Cells.{each_once, is_order, all_zero, is_listing}
use Rattle.order.specs.Order.{cell_numbers, is_order_of, order_record, no_order}
use Rattle.code.specs.Symbols.{words_of, codeword_of, no_reading, decode_of}

-- a size that is none; a cell doubled, and two cells
pub refused :
    (codeword_of 2 0 ≡ record { number = 1; value = no_order })
    × (words_of 13 ≡ record { number = 1; value = 0 })
    × (decode_of (order_record (3 ∷ 4 ∷ 3 ∷ 2 ∷ [])) ≡ record { number = 4; value = no_reading })
    × (decode_of (order_record (2 ∷ 1 ∷ [])) ≡ record { number = 1; value = no_reading })
unfolding codeword_of words_of decode_of refusals.answer refusals.number_of is_order_of is_listing is_order each_once all_zero cell_numbers order_record
refused = (refl, refl, refl, refl)
