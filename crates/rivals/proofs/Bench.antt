-- What the calls of the program `rmcalls` that is printed whole (document 01, "Calls outside the list") answer, about the definition of apply,
-- in the records of the table of starred cases (specs/Starred).
-- Assumes nothing.
use mathlib.Core.Path.{◌≡◌, refl}
use mathlib.Core.Bool.{true, false}
use mathlib.Core.List.{[], ◌∷◌}
use mathlib.Core.Option.{none, some}
use Rattle.order.specs.Refusals as refusals
use Rattle.coordinates.specs.Coordinates.{coordinate_of, coordinates_to, weight, order_from}
use Rattle.decoder.specs.Decoding.{leaves, is_codeword, first_below, correction}
use Rattle.code.specs.declared.Verdict.TheVariants.{Clean}
use Rattle.code.specs.Words.{joined, select, same, index_of, vectors_from, vectors, words, K, word_at, word_number, symbol_of}
use Rattle.code.specs.Symbols.{word_of, reading_at}
use Rattle.group.specs.Levels.{level, put, at_most, tallied, leaked}
use Rattle.group.specs.Record.{all_at_most, is_row}
use Rattle.push_up.specs.PushUp.{singles, top, floor_over, lift, raise, push_of, rank_pushes, pushes, pulses_in}
use Rattle.sensing.specs.Sense.{stands_above, insert, sorted, sensed}
use Rattle.push_up.specs.WriteAnswer.{raised, fits, lasts, pushed}
use Rattle.changes.specs.Changes.{open_of, leak_of}
use Rattle.plain_machine.specs.declared.Kind.{Kind}
use Rattle.plain_machine.specs.declared.Kind.TheVariants.{Store, Scrub, Leak, Read}
use Rattle.sharing.specs.Shared.{plain_target}
use Rattle.plain_machine.specs.declared.Call.{Call}
use Rattle.engine.specs.ReadStore.{read_of, store_of}
use Rattle.engine.specs.Scrub.{scrub_of}
use Rattle.plain_machine.specs.Machine.{apply_of}
use Rattle.rivals.specs.Starred.{cell, order, group, taken, push, step, done}

abbrev call : Kind → Call
call kind = record { kind = kind; target = plain_target (order []) }

-- open 3, store 1, leak cell 3 by 1, scrub, read: the scrub finds [3,2,1], clean
pub case_printed :
    let stored = taken (0 ∷ 1 ∷ 2 ∷ []) (group true (0 ∷ 1 ∷ 2 ∷ [])) in
    let leaky = taken (0 ∷ 1 ∷ 2 ∷ []) (group true (0 ∷ 1 ∷ 1 ∷ [])) in
    let scrubbed = taken (0 ∷ 1 ∷ 3 ∷ []) (group true (0 ∷ 1 ∷ 2 ∷ [])) in
    (open_of 3 1000000 ≡ done (group false (0 ∷ 0 ∷ 0 ∷ [])))
    × (apply_of (group false (0 ∷ 0 ∷ 0 ∷ [])) (call (Store 1)) ≡ done (step stored 1 none 3 (push 2 0 1 ∷ push 3 0 2 ∷ [])))
    × (apply_of stored (call (Leak (cell 3) 1)) ≡ done (step leaky 0 none 0 []))
    × (apply_of leaky (call Scrub) ≡ done (step scrubbed 1 (some Clean) 1 (push 3 1 2 ∷ [])))
    × (apply_of scrubbed (call Read) ≡ done (step scrubbed 1 (some Clean) 0 []))
unfolding refusals.answer refusals.number_of level put leaked at_most tallied all_at_most is_row singles top floor_over lift raise push_of rank_pushes pushes pulses_in raised fits lasts pushed open_of leak_of store_of scrub_of apply_of word_of order_from K word_at words vectors vectors_from joined select leaves weight stands_above insert sorted sensed read_of reading_at correction first_below is_codeword symbol_of word_number index_of same coordinates_to coordinate_of
case_printed = (refl, refl, refl, refl, refl)
