-- The printed example of document 01 ("Calls outside the list"): open 3, store 1, leak cell 3 by 1, scrub, read.
-- Assumes nothing.
use Prim.Native.Nat.{ℕ}
use mathlib.Core.Path.{◌≡◌, refl}
use mathlib.Core.List.{List, [], ◌∷◌}
use Rattle.order.specs.Refusals as refusals
use Rattle.coordinates.specs.Coordinates.{coordinate_of, coordinates_to, weight, order_from}
use Rattle.decoder.specs.Decoding.{leaves, is_codeword, first_below, correction}
use Rattle.code.specs.Words.{joined, select, same, index_of, vectors_from, vectors, words, K, word_at, word_number, symbol_of}
use Rattle.code.specs.Symbols.{word_of, reading_at}
use Rattle.group.specs.Levels.{level, put, at_most, tallied, leaked}
use Rattle.group.specs.Record.{all_at_most, is_row}
use Rattle.push_up.specs.PushUp.{singles, top, floor_over, lift, raise, push_of, rank_pushes, pushes, pulses_in}
use Rattle.sensing.specs.Sense.{stands_above, insert, sorted, sensed}
use Rattle.push_up.specs.WriteAnswer.{raised, fits, lasts, pushed}
use Rattle.changes.specs.Changes.{open_of, leak_of}
use Rattle.engine.specs.ReadStore.{read_of, store_of}
use Rattle.engine.specs.Scrub.{scrub_of}
use Rattle.plain_machine.specs.Machine.{apply_of}
use Rattle.records.specs.Records.{record_at, records, unused_zero, request_of, step_of}
use Rattle.lines.specs.Line.{spelled, decimal, numbers_of, line_of, left_line, sum_line}
use Rattle.runs.specs.Text.{lines, all_pulses, text_of}

abbrev example : List ℕ
example =
    0 ∷ 0 ∷ 0 ∷ 0 ∷ 3 ∷ 0 ∷ 0 ∷ 0
    ∷ 1 ∷ 0 ∷ 0 ∷ 0 ∷ 1 ∷ 0 ∷ 0 ∷ 0
    ∷ 3 ∷ 3 ∷ 0 ∷ 0 ∷ 1 ∷ 0 ∷ 0 ∷ 0
    ∷ 2 ∷ 0 ∷ 0 ∷ 0 ∷ 0 ∷ 0 ∷ 0 ∷ 0
    ∷ 6 ∷ 0 ∷ 0 ∷ 0 ∷ 0 ∷ 0 ∷ 0 ∷ 0
    ∷ []

-- "1 0 0 0 0 0,0,0" and so on, as bytes
abbrev text : List ℕ
text =
    49 ∷ 32 ∷ 48 ∷ 32 ∷ 48 ∷ 32 ∷ 48 ∷ 32 ∷ 48 ∷ 32 ∷ 48 ∷ 44 ∷ 48 ∷ 44 ∷ 48 ∷ 10
    ∷ 50 ∷ 32 ∷ 49 ∷ 32 ∷ 48 ∷ 32 ∷ 49 ∷ 32 ∷ 51 ∷ 32 ∷ 48 ∷ 44 ∷ 49 ∷ 44 ∷ 50 ∷ 10
    ∷ 51 ∷ 32 ∷ 51 ∷ 32 ∷ 48 ∷ 32 ∷ 48 ∷ 32 ∷ 48 ∷ 32 ∷ 48 ∷ 44 ∷ 49 ∷ 44 ∷ 49 ∷ 10
    ∷ 52 ∷ 32 ∷ 50 ∷ 32 ∷ 48 ∷ 32 ∷ 49 ∷ 32 ∷ 49 ∷ 32 ∷ 48 ∷ 44 ∷ 49 ∷ 44 ∷ 50 ∷ 10
    ∷ 53 ∷ 32 ∷ 54 ∷ 32 ∷ 48 ∷ 32 ∷ 49 ∷ 32 ∷ 48 ∷ 32 ∷ 48 ∷ 44 ∷ 49 ∷ 44 ∷ 50 ∷ 10
    ∷ 115 ∷ 117 ∷ 109 ∷ 32 ∷ 52 ∷ 10
    ∷ []

pub example_printed : text_of example ≡ text
unfolding refusals.answer refusals.number_of level put leaked tallied at_most all_at_most is_row singles top floor_over lift raise push_of rank_pushes pushes pulses_in raised fits lasts pushed open_of leak_of store_of scrub_of apply_of word_of order_from K word_at words vectors vectors_from joined select leaves weight stands_above insert sorted sensed read_of reading_at correction first_below is_codeword symbol_of word_number index_of same coordinates_to coordinate_of record_at records unused_zero request_of step_of spelled decimal numbers_of line_of lines all_pulses left_line sum_line text_of
example_printed = refl
