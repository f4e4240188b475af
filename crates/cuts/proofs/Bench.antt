-- Worked cases of cuts and of take-overs, about the definitions, in the records of the table of starred cases (rivals, specs Starred).
-- Assumes nothing.
use Prim.Native.Nat.{ℕ}
use mathlib.Core.Path.{◌≡◌, refl}
use mathlib.Core.Bool.{true, false}
use mathlib.Core.List.{List, [], ◌∷◌}
use mathlib.Core.Option.{none, some}
use lib.ListN.{replicate}
use Rattle.order.specs.Refusals as refusals
use Rattle.order.specs.Cells.{each_once, is_order, all_zero, is_listing}
use Rattle.order.specs.Order.{cell_numbers, is_order_of}
use Rattle.coordinates.specs.Coordinates.{coordinate_of, coordinates_to, weight, order_from}
use Rattle.decoder.specs.Decoding.{leaves, is_codeword, first_below, correction}
use Rattle.code.specs.declared.Verdict.TheVariants.{Clean, PutRight}
use Rattle.code.specs.Words.{joined, select, same, index_of, vectors_from, vectors, words, K, word_at, word_number, symbol_of}
use Rattle.code.specs.Symbols.{word_of, reading_at}
use Rattle.group.specs.declared.Group.{Group}
use Rattle.group.specs.Levels.{level, put, at_most, sum, tallied}
use Rattle.group.specs.Record.{all_at_most, is_row, no_group}
use Rattle.push_up.specs.PushUp.{singles, top, floor_over, lift, raise, push_of, rank_pushes, pushes, pulses_in}
use Rattle.push_up.specs.PushProgram.{played}
use Rattle.push_up.specs.WriteAnswer.{raised, fits, lasts, pushed, write_of}
use Rattle.take_over.specs.TakeOver.{is_given, taken_over, take_over_of}
use Rattle.sensing.specs.Sense.{stands_above, insert, sorted, sensed}
use Rattle.engine.specs.ReadStore.{read_of, store_of}
use Rattle.engine.specs.Scrub.{scrub_of}
use Rattle.plain_machine.specs.declared.Kind.TheVariants.{Write, WriteShared, Store, Scrub}
use Rattle.sharing.specs.Shared.{each_filled, is_sizes, by_number, ranks_of, write_shared_of, plain_target}
use Rattle.plain_machine.specs.declared.Call.{Call}
use Rattle.plain_machine.specs.Machine.{apply_of}
use Rattle.rivals.specs.Starred.{order, capped, group, taken, push, step, done, refused}
use Rattle.cuts.specs.Cuts.{Cut, levels_at, pulses_at, program_of, taken_at}

-- ---- document 01's case 1: levels (3,4,2,1), write [2,1,4,3] for 4 pulses, cut where cell 4 stands at 2, and the repair where cell 1 has reached 4

abbrev write : Call
write = record { kind = Write; target = plain_target (order (2 ∷ 1 ∷ 4 ∷ 3 ∷ [])) }

abbrev first : Cut
first = record { done = 0; level = 2 }

abbrev second : Cut
second = record { done = 1; level = 4 }

pub case_1_cut :
    (apply_of (group false (3 ∷ 4 ∷ 2 ∷ 1 ∷ [])) write ≡ done (step (taken (1 ∷ 1 ∷ 0 ∷ 2 ∷ []) (group true (4 ∷ 5 ∷ 2 ∷ 3 ∷ []))) 0 none 4 (push 4 1 3 ∷ push 1 3 4 ∷ push 2 4 5 ∷ [])))
    × (pulses_at (program_of apply_of (group false (3 ∷ 4 ∷ 2 ∷ 1 ∷ [])) write) first ≡ 1)
    × (taken_at apply_of (group false (3 ∷ 4 ∷ 2 ∷ 1 ∷ [])) write first ≡ done (taken (0 ∷ 0 ∷ 0 ∷ 1 ∷ []) (group true (3 ∷ 4 ∷ 2 ∷ 2 ∷ []))))
    × (apply_of (taken (0 ∷ 0 ∷ 0 ∷ 1 ∷ []) (group true (3 ∷ 4 ∷ 2 ∷ 2 ∷ []))) write ≡ done (step (taken (1 ∷ 1 ∷ 0 ∷ 2 ∷ []) (group true (4 ∷ 5 ∷ 2 ∷ 3 ∷ []))) 0 none 3 (push 4 2 3 ∷ push 1 3 4 ∷ push 2 4 5 ∷ [])))
    × (pulses_at (program_of apply_of (taken (0 ∷ 0 ∷ 0 ∷ 1 ∷ []) (group true (3 ∷ 4 ∷ 2 ∷ 2 ∷ []))) write) second ≡ 2)
    × (taken_at apply_of (taken (0 ∷ 0 ∷ 0 ∷ 1 ∷ []) (group true (3 ∷ 4 ∷ 2 ∷ 2 ∷ []))) write second ≡ done (taken (1 ∷ 0 ∷ 0 ∷ 2 ∷ []) (group true (4 ∷ 4 ∷ 2 ∷ 3 ∷ []))))
    × (apply_of (taken (1 ∷ 0 ∷ 0 ∷ 2 ∷ []) (group true (4 ∷ 4 ∷ 2 ∷ 3 ∷ []))) write ≡ done (step (taken (1 ∷ 1 ∷ 0 ∷ 2 ∷ []) (group true (4 ∷ 5 ∷ 2 ∷ 3 ∷ []))) 0 none 1 (push 2 4 5 ∷ [])))
unfolding refusals.answer refusals.number_of is_row all_at_most is_given take_over_of taken_at levels_at pulses_at played cell_numbers is_order_of is_listing is_order each_once all_zero level put at_most singles top floor_over lift raise push_of rank_pushes pushes pulses_in raised fits lasts tallied pushed write_of apply_of
case_1_cut = (refl, refl, refl, refl, refl, refl, refl)

-- ---- the same write with an endurance of 5, on cells of which cell 4 has taken 3 pulses: it reaches the endurance. At the first cut cell 4 has taken 4, and the same
-- write, which adds 1 more, is accepted. Were the half push counted twice, it would be refused as spent; were it not counted, cell 4 would end with one pulse too few

abbrev aged : List ℕ → List ℕ → Group
aged ls us = taken_over 4 ls (replicate 4 4095) us 5

pub case_spent_cut :
    (apply_of (aged (3 ∷ 4 ∷ 2 ∷ 1 ∷ []) (0 ∷ 0 ∷ 0 ∷ 3 ∷ [])) write
    ≡ done (step (aged (4 ∷ 5 ∷ 2 ∷ 3 ∷ []) (1 ∷ 1 ∷ 0 ∷ 5 ∷ [])) 0 none 4 (push 4 1 3 ∷ push 1 3 4 ∷ push 2 4 5 ∷ [])))
    × (taken_at apply_of (aged (3 ∷ 4 ∷ 2 ∷ 1 ∷ []) (0 ∷ 0 ∷ 0 ∷ 3 ∷ [])) write first ≡ done (aged (3 ∷ 4 ∷ 2 ∷ 2 ∷ []) (0 ∷ 0 ∷ 0 ∷ 4 ∷ [])))
    × (apply_of (aged (3 ∷ 4 ∷ 2 ∷ 2 ∷ []) (0 ∷ 0 ∷ 0 ∷ 4 ∷ [])) write
    ≡ done (step (aged (4 ∷ 5 ∷ 2 ∷ 3 ∷ []) (1 ∷ 1 ∷ 0 ∷ 5 ∷ [])) 0 none 3 (push 4 2 3 ∷ push 1 3 4 ∷ push 2 4 5 ∷ [])))
    × (apply_of (aged (3 ∷ 4 ∷ 2 ∷ 2 ∷ []) (0 ∷ 0 ∷ 0 ∷ 5 ∷ [])) write ≡ refused 19 (step (aged (3 ∷ 4 ∷ 2 ∷ 2 ∷ []) (0 ∷ 0 ∷ 0 ∷ 5 ∷ [])) 0 none 0 []))
    × (apply_of (aged (3 ∷ 4 ∷ 2 ∷ 2 ∷ []) (0 ∷ 0 ∷ 0 ∷ 3 ∷ [])) write
    ≡ done (step (aged (4 ∷ 5 ∷ 2 ∷ 3 ∷ []) (1 ∷ 1 ∷ 0 ∷ 4 ∷ [])) 0 none 3 (push 4 2 3 ∷ push 1 3 4 ∷ push 2 4 5 ∷ [])))
unfolding refusals.answer refusals.number_of is_row all_at_most is_given take_over_of taken_at levels_at played cell_numbers is_order_of is_listing is_order each_once all_zero level put at_most singles top floor_over lift raise push_of rank_pushes pushes pulses_in raised fits lasts tallied pushed write_of apply_of
case_spent_cut = (refl, refl, refl, refl, refl)

-- ---- SD 001's example 1, cut where cell 6 stands at 2: cells 5, 1 and 3 have reached their levels, and the same shared write raises cell 6 by the 2 pulses left. The
-- group taken over is marked as written; after the repair it is blank, as after the uncut call

abbrev shared : Call
shared = record { kind = WriteShared; target = record { count = 3; sizes = 3 ∷ 2 ∷ 1 ∷ replicate 9 0; cells = order (6 ∷ 1 ∷ 3 ∷ 2 ∷ 5 ∷ 4 ∷ []) } }

abbrev third : Cut
third = record { done = 3; level = 2 }

pub case_shared_cut :
    (apply_of (group true (3 ∷ 3 ∷ 3 ∷ 2 ∷ 2 ∷ 1 ∷ [])) shared
    ≡ done (step (taken (1 ∷ 0 ∷ 1 ∷ 0 ∷ 1 ∷ 3 ∷ []) (group false (4 ∷ 3 ∷ 4 ∷ 2 ∷ 3 ∷ 4 ∷ []))) 0 none 6 (push 5 2 3 ∷ push 1 3 4 ∷ push 3 3 4 ∷ push 6 1 4 ∷ [])))
    × (pulses_at (program_of apply_of (group true (3 ∷ 3 ∷ 3 ∷ 2 ∷ 2 ∷ 1 ∷ [])) shared) third ≡ 4)
    × (taken_at apply_of (group true (3 ∷ 3 ∷ 3 ∷ 2 ∷ 2 ∷ 1 ∷ [])) shared third ≡ done (taken (1 ∷ 0 ∷ 1 ∷ 0 ∷ 1 ∷ 1 ∷ []) (group true (4 ∷ 3 ∷ 4 ∷ 2 ∷ 3 ∷ 2 ∷ []))))
    × (apply_of (taken (1 ∷ 0 ∷ 1 ∷ 0 ∷ 1 ∷ 1 ∷ []) (group true (4 ∷ 3 ∷ 4 ∷ 2 ∷ 3 ∷ 2 ∷ []))) shared ≡ done (step (taken (1 ∷ 0 ∷ 1 ∷ 0 ∷ 1 ∷ 3 ∷ []) (group false (4 ∷ 3 ∷ 4 ∷ 2 ∷ 3 ∷ 4 ∷ []))) 0 none 2 (push 6 2 4 ∷ [])))
unfolding refusals.answer refusals.number_of is_row all_at_most is_given take_over_of taken_at levels_at pulses_at played cell_numbers is_order_of is_listing is_order each_once all_zero level put at_most sum each_filled is_sizes by_number ranks_of top floor_over lift raise push_of rank_pushes pushes pulses_in raised fits lasts tallied pushed write_shared_of apply_of
case_shared_cut = (refl, refl, refl, refl)

-- ---- a scrub is no repair. A store of 0, cut before its first push, leaves a group that reads as 1, clean, and a scrub makes it so. A scrub that is to write
-- [4, 3, 2, 1], cut after its first push, leaves one that reads as [2, 4, 1, 3], put right, and the same scrub writes that

abbrev store : Call
store = record { kind = Store 0; target = plain_target (order []) }

abbrev scrub : Call
scrub = record { kind = Scrub; target = plain_target (order []) }

pub scrub_misled :
    (taken_at apply_of (group false (0 ∷ 0 ∷ 0 ∷ [])) store (record { done = 0; level = 0 }) ≡ done (group true (0 ∷ 0 ∷ 0 ∷ [])))
    × (apply_of (group true (0 ∷ 0 ∷ 0 ∷ [])) scrub ≡ done (step (taken (0 ∷ 1 ∷ 2 ∷ []) (group true (0 ∷ 1 ∷ 2 ∷ []))) 1 (some Clean) 3 (push 2 0 1 ∷ push 3 0 2 ∷ [])))
    × (apply_of (group true (0 ∷ 0 ∷ 0 ∷ [])) store ≡ done (step (taken (2 ∷ 1 ∷ 0 ∷ []) (group true (2 ∷ 1 ∷ 0 ∷ []))) 0 none 3 (push 2 0 1 ∷ push 1 0 2 ∷ [])))
    × (apply_of (group true (0 ∷ 0 ∷ 0 ∷ 0 ∷ [])) scrub ≡ done (step (taken (0 ∷ 1 ∷ 2 ∷ 3 ∷ []) (group true (0 ∷ 1 ∷ 2 ∷ 3 ∷ []))) 3 (some Clean) 6 (push 2 0 1 ∷ push 3 0 2 ∷ push 4 0 3 ∷ [])))
    × (taken_at apply_of (group true (0 ∷ 0 ∷ 0 ∷ 0 ∷ [])) scrub (record { done = 1; level = 0 }) ≡ done (taken (0 ∷ 1 ∷ 0 ∷ 0 ∷ []) (group true (0 ∷ 1 ∷ 0 ∷ 0 ∷ []))))
    × (apply_of (taken (0 ∷ 1 ∷ 0 ∷ 0 ∷ []) (group true (0 ∷ 1 ∷ 0 ∷ 0 ∷ []))) scrub ≡ done (step (taken (1 ∷ 3 ∷ 0 ∷ 2 ∷ []) (group true (1 ∷ 3 ∷ 0 ∷ 2 ∷ []))) 2 (some (PutRight (record { 0 = 3 }))) 5 (push 1 0 1 ∷ push 4 0 2 ∷ push 2 1 3 ∷ [])))
unfolding refusals.answer refusals.number_of is_row all_at_most is_given take_over_of taken_at levels_at played level put at_most singles top floor_over lift raise push_of rank_pushes pushes pulses_in raised fits lasts tallied pushed store_of scrub_of apply_of word_of order_from K word_at words vectors vectors_from joined select leaves weight stands_above insert sorted sensed read_of reading_at correction first_below is_codeword symbol_of word_number index_of same coordinates_to coordinate_of
scrub_misled = (refl, refl, refl, refl, refl, refl)

-- ---- take-overs: a cap below its level is taken over, and so are used pulses up to the endurance, also fewer than a level would take; a list of another length, a
-- level or cap above 4,095, used pulses above the endurance, an endurance outside its range and a size that no group has are not

pub take_overs :
    (take_over_of 3 (5 ∷ 0 ∷ 4095 ∷ []) (4 ∷ 1 ∷ 0 ∷ []) (2 ∷ 0 ∷ 1000000 ∷ []) 1000000 ≡ done (taken (2 ∷ 0 ∷ 1000000 ∷ []) (capped true (5 ∷ 0 ∷ 4095 ∷ []) (4 ∷ 1 ∷ 0 ∷ []))))
    × (take_over_of 3 (0 ∷ 0 ∷ []) (1 ∷ 1 ∷ 1 ∷ []) (0 ∷ 0 ∷ 0 ∷ []) 1 ≡ refused 17 no_group)
    × (take_over_of 3 (0 ∷ 0 ∷ 0 ∷ []) (1 ∷ 1 ∷ 1 ∷ 0 ∷ []) (0 ∷ 0 ∷ 0 ∷ []) 1 ≡ refused 17 no_group)
    × (take_over_of 3 (0 ∷ 0 ∷ 4096 ∷ []) (1 ∷ 1 ∷ 1 ∷ []) (0 ∷ 0 ∷ 0 ∷ []) 1 ≡ refused 17 no_group)
    × (take_over_of 3 (0 ∷ 0 ∷ 0 ∷ []) (4096 ∷ 1 ∷ 1 ∷ []) (0 ∷ 2 ∷ 0 ∷ []) 1 ≡ refused 17 no_group)
    × (take_over_of 3 (0 ∷ 0 ∷ 0 ∷ []) (1 ∷ 1 ∷ 1 ∷ []) (0 ∷ 2 ∷ 0 ∷ []) 1 ≡ refused 20 no_group)
    × (take_over_of 3 (0 ∷ 0 ∷ 0 ∷ []) (1 ∷ 1 ∷ 1 ∷ []) (0 ∷ 0 ∷ []) 1 ≡ refused 20 no_group)
    × (take_over_of 3 (0 ∷ 0 ∷ 0 ∷ []) (1 ∷ 1 ∷ 1 ∷ []) (0 ∷ 0 ∷ 0 ∷ []) 0 ≡ refused 20 no_group)
    × (take_over_of 3 (0 ∷ 0 ∷ 0 ∷ []) (1 ∷ 1 ∷ 1 ∷ []) (0 ∷ 0 ∷ 0 ∷ []) 1000001 ≡ refused 20 no_group)
    × (take_over_of 2 (0 ∷ 0 ∷ 4096 ∷ []) (1 ∷ 1 ∷ []) (0 ∷ []) 0 ≡ refused 1 no_group)
unfolding refusals.answer refusals.number_of all_at_most is_given take_over_of
take_overs = (refl, refl, refl, refl, refl, refl, refl, refl, refl, refl)
