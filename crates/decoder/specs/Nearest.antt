-- What the calls of the decoder answer.
--
--   told_test          what an answer says: its number, and yes or no; no beside a refusal
--   is_codeword_of o    the answer to `is_codeword`
--   decode_checks o    the checks of an order that is decoded: 1, 4, 7
--   exchanged_order    the record of an order with the cells of ranks k and k + 1 exchanged; place 0 exchanges nothing
--   nothing_found      the zeros beside a refusal
--   found_at o k       what is found where the exchange at place k makes the order a codeword
--   told_nearest       what an answer says: its number, and what was found, or zeros
--   nearest_of o       the answer to `nearest`: the codeword within distance 1, which is the one at the correction (`reads`, proofs/Decoding)
use Rattle.std.specs.Prelude.{Bool, false, List, [], ◌∷◌, ◌++◌, Result, ℕ, ltb}
use Rattle.order.specs.declared.Order.{Order}
use Rattle.order.specs.declared.Refusal.{Refusal}
use Rattle.order.specs.declared.Refusal.TheVariants.{Lost}
use Rattle.order.specs.Refusals.{Told, told, answer}
use Rattle.order.specs.Order.{listed, order_checks, order_record, no_order}
use Rattle.coordinates.specs.Conversion.{coordinates_of, no_coordinates}
use Rattle.distance.specs.Distance.{exchange}
use Rattle.decoder.specs.declared.Found.{Found}
use Rattle.decoder.specs.Decoding.{is_codeword, correction}

-- ---- the test

abbrev pub told_test : Result Bool Refusal → Told Bool
told_test a = told false a

unfoldable pub is_codeword_of : Order → Told Bool
is_codeword_of o = answer (order_checks o) (is_codeword o.len (listed o)) false

-- ---- the nearest codeword

abbrev pub decode_checks : Order → List (Bool × Refusal)
decode_checks o = order_checks o ++ (ltb (correction o.len (listed o)) o.len, Lost) ∷ []

unfoldable pub exchanged_order : Order → ℕ → Order
exchanged_order o k = order_record (exchange k (listed o))

abbrev pub nothing_found : Found
nothing_found = record { word = no_order; place = 0; coordinates = no_coordinates }

unfoldable pub found_at : Order → ℕ → Found
found_at o k = record { word = exchanged_order o k; place = k; coordinates = coordinates_of (exchanged_order o k) }

abbrev pub told_nearest : Result Found Refusal → Told Found
told_nearest a = told nothing_found a

unfoldable pub nearest_of : Order → Told Found
nearest_of o = answer (decode_checks o) (found_at o (correction o.len (listed o))) nothing_found
