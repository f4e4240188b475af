-- Document 02, request (f): what one sweep over an order, from its last place up, holds after any number of places.
--
--   is_met k xs c           cell c stands at one of the last k places of the order xs: a sweep of k places has met it
--   met_coordinate k xs i   coordinate i of the order where its cell, i + 1, has been met, and 0 where it has not
--   met_to m k xs           these for i from 1 to m
--   sweep_of o k            a sweep of k places: the coordinates of the cells met, 0 for the others, and their weighted sum, not reduced by 2n - 1
--   no_sweep                the zeros beside a refusal
--   told_sweep a            what an answer says: its number, and what the sweep holds, or zeros
--   sweep_of_order o k       the answer to `sweep_of`
use Rattle.std.specs.Prelude.{ℕ, suc, ◌-◌, Bool, cond, List, ltb, length, Result}
use Rattle.order.specs.declared.Order.{Order}
use Rattle.order.specs.declared.Refusal.{Refusal}
use Rattle.order.specs.Refusals.{Told, told, answer}
use Rattle.order.specs.Cells.{tabulate, place_of}
use Rattle.order.specs.Order.{listed, order_checks}
use Rattle.coordinates.specs.declared.Sweep.{Sweep}
use Rattle.coordinates.specs.Coordinates.{coordinate_of, weight}
use Rattle.coordinates.specs.Conversion.{no_coordinates}

abbrev pub is_met : ℕ → List ℕ → ℕ → Bool
is_met k xs c = ltb (length xs - k) (place_of xs c)

unfoldable pub met_coordinate : ℕ → List ℕ → ℕ → ℕ
met_coordinate k xs i = cond (is_met k xs (suc i)) (coordinate_of xs i) 0

unfoldable pub met_to : ℕ → ℕ → List ℕ → List ℕ
met_to m k xs = tabulate m (λ j. met_coordinate k xs (suc j))

unfoldable pub sweep_of : Order → ℕ → Sweep
sweep_of o k =
    let values = met_to 11 k (listed o) in
    record { coordinates = record { len = o.len - 1; values = values }; sum = weight 1 values }

abbrev pub no_sweep : Sweep
no_sweep = record { coordinates = no_coordinates; sum = 0 }

abbrev pub told_sweep : Result Sweep Refusal → Told Sweep
told_sweep a = told no_sweep a

unfoldable pub sweep_of_order : Order → ℕ → Told Sweep
sweep_of_order o k = answer (order_checks o) (sweep_of o k) no_sweep
