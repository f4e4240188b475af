-- The starred cases hold: one statement over the whole table.
-- Assumes nothing.
use mathlib.Core.Path.{refl}
use Rattle.order.specs.Refusals as refusals
use Rattle.order.specs.Cells.{each_once, is_order, all_zero, is_listing, place_from, place_of}
use Rattle.order.specs.Order.{cell_numbers, is_order_of, order_record}
use Rattle.coordinates.specs.Coordinates.{coordinate_of, coordinates_to, weight, order_from}
use Rattle.coordinates.specs.Conversion.{coordinates_of, coordinates_of_order}
use Rattle.distance.specs.Distance.{distance_of}
use Rattle.cost.specs.Cost.{displacement, displacements, larger_of, largest, cost, displacements_of, cost_of}
use Rattle.decoder.specs.Decoding.{leaves, is_codeword, first_below, correction}
use Rattle.code.specs.Words.{joined, select, same, index_of, vectors_from, vectors, words, K, word_at, word_number, symbol_of}
use Rattle.code.specs.Symbols.{word_of, codeword_of, reading_at, decode_of}
use Rattle.group.specs.Levels.{level, put, at_most, tallied}
use Rattle.group.specs.Record.{all_at_most, is_row}
use Rattle.push_up.specs.PushUp.{singles, top, floor_over, lift, raise, push_of, rank_pushes, pushes, pulses_in}
use Rattle.sensing.specs.Sense.{stands_above, insert, sorted, sensed}
use Rattle.push_up.specs.WriteAnswer.{raised, fits, lasts, pushed, write_of}
use Rattle.sensing.specs.Sense.{sense_of}
use Rattle.engine.specs.ReadStore.{read_of, store_of}
use Rattle.engine.specs.Scrub.{scrub_of}
use Rattle.rivals.specs.Starred.{EachRight, starred}

pub starred_hold : EachRight starred
unfolding refusals.answer refusals.number_of each_once is_order all_zero is_order_of is_listing place_from place_of cell_numbers order_record coordinate_of coordinates_to order_from coordinates_of coordinates_of_order distance_of displacement displacements larger_of largest cost displacements_of cost_of joined select same index_of vectors_from weight leaves vectors words K word_at word_number is_codeword first_below correction symbol_of word_of codeword_of reading_at decode_of level put at_most tallied all_at_most is_row singles top floor_over lift raise push_of rank_pushes pushes pulses_in raised fits lasts pushed write_of stands_above insert sorted sensed sense_of read_of store_of scrub_of
starred_hold = (refl, (refl, (refl, (refl, (refl, (refl, (refl, (refl, (refl, (refl, (refl, (refl, (refl, (refl, (refl, (refl, (refl, (refl, (refl, (refl, (refl, (refl, (refl, (refl, (refl, (refl, (refl, (refl, (refl, tt)))))))))))))))))))))))))))))
