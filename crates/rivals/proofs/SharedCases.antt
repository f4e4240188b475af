-- Worked cases of the shared write (document 02, request (g)), about the definition of apply, in the records of the table of starred cases (specs/Starred).
-- Assumes nothing.
use Prim.Native.Nat.{ℕ}
use mathlib.Core.Path.{◌≡◌, refl}
use mathlib.Core.Bool.{true, false}
use mathlib.Core.List.{List, [], ◌∷◌}
use mathlib.Core.Option.{none}
use lib.ListN.{length}
use Rattle.order.specs.Refusals as refusals
use Rattle.order.specs.Cells.{each_once, is_order, all_zero, is_listing}
use Rattle.order.specs.Order.{cell_numbers, is_order_of}
use Rattle.group.specs.Levels.{level, put, at_most, tallied, sum}
use Rattle.group.specs.Record.{all_at_most, is_row}
use Rattle.push_up.specs.PushUp.{singles, top, floor_over, lift, raise, push_of, rank_pushes, pushes, pulses_in}
use Rattle.push_up.specs.PushProgram.{played}
use Rattle.push_up.specs.WriteAnswer.{raised, fits, lasts, pushed, write_of}
use Rattle.sharing.specs.Shared.{each_filled, is_sizes, by_number, ranks_of, write_shared_of, plain_target}
use Rattle.plain_machine.specs.declared.Kind.TheVariants.{Write, WriteShared}
use Rattle.plain_machine.specs.declared.Call.{Call}
use Rattle.plain_machine.specs.Machine.{apply_of}
use Rattle.rivals.specs.Starred.{places, order, capped, group, taken, push, step, done}

-- rank sizes and cells by rank, the highest rank first
abbrev sharing : List ℕ → List ℕ → Call
sharing ss xs = record { kind = WriteShared; target = record { count = length ss; sizes = places 12 0 ss; cells = order xs } }

-- SD 001, example 1 and figure 1: rank sizes (3,2,1), from ({1,2,3},{4,5},{6}) at levels (3,3,3,2,2,1) to ({1,3,6},{2,5},{4}) at levels (4,3,4,2,3,4). Rank by
-- rank: cell 4 keeps its level; then cell 2 keeps its own and cell 5 comes to stand beside it; then cells 1, 3 and 6 rise, whichever way the rank lists them
pub case_example :
    (apply_of (group true (3 ∷ 3 ∷ 3 ∷ 2 ∷ 2 ∷ 1 ∷ [])) (sharing (3 ∷ 2 ∷ 1 ∷ []) (6 ∷ 1 ∷ 3 ∷ 2 ∷ 5 ∷ 4 ∷ []))
    ≡ done (step (taken (1 ∷ 0 ∷ 1 ∷ 0 ∷ 1 ∷ 3 ∷ []) (group false (4 ∷ 3 ∷ 4 ∷ 2 ∷ 3 ∷ 4 ∷ []))) 0 none 6 (push 5 2 3 ∷ push 1 3 4 ∷ push 3 3 4 ∷ push 6 1 4 ∷ [])))
    × (played (push 5 2 3 ∷ []) (3 ∷ 3 ∷ 3 ∷ 2 ∷ 2 ∷ 1 ∷ []) ≡ 3 ∷ 3 ∷ 3 ∷ 2 ∷ 3 ∷ 1 ∷ [])
    × (played (push 5 2 3 ∷ push 1 3 4 ∷ push 3 3 4 ∷ push 6 1 4 ∷ []) (3 ∷ 3 ∷ 3 ∷ 2 ∷ 2 ∷ 1 ∷ []) ≡ 4 ∷ 3 ∷ 4 ∷ 2 ∷ 3 ∷ 4 ∷ [])
unfolding refusals.answer refusals.number_of level put at_most tallied all_at_most is_row sum each_filled is_sizes by_number ranks_of is_order_of is_listing is_order each_once all_zero cell_numbers top floor_over lift raise push_of rank_pushes pushes pulses_in played raised fits lasts pushed write_shared_of apply_of
case_example = (refl, refl, refl)

-- SD 001, figure 3: from ({10,11,12},{7,8,9},{4,5,6},{1,2,3}) to ({8,9,12},{10,1,2},{5,11,6},{3,4,7}) the top level rises by 2. The cells of the lowest rank keep
-- their levels, as document 02 has it; the paper levels them
pub case_figure :
    apply_of (group false (1 ∷ 1 ∷ 1 ∷ 2 ∷ 2 ∷ 2 ∷ 3 ∷ 3 ∷ 3 ∷ 4 ∷ 4 ∷ 4 ∷ [])) (sharing (3 ∷ 3 ∷ 3 ∷ 3 ∷ []) (8 ∷ 9 ∷ 12 ∷ 10 ∷ 1 ∷ 2 ∷ 5 ∷ 11 ∷ 6 ∷ 3 ∷ 4 ∷ 7 ∷ []))
    ≡ done (step (taken (4 ∷ 4 ∷ 0 ∷ 0 ∷ 2 ∷ 2 ∷ 0 ∷ 3 ∷ 3 ∷ 1 ∷ 0 ∷ 2 ∷ []) (group false (5 ∷ 5 ∷ 1 ∷ 2 ∷ 4 ∷ 4 ∷ 3 ∷ 6 ∷ 6 ∷ 5 ∷ 4 ∷ 6 ∷ []))) 0 none 21
    (push 5 2 4 ∷ push 6 2 4 ∷ push 1 1 5 ∷ push 2 1 5 ∷ push 10 4 5 ∷ push 8 3 6 ∷ push 9 3 6 ∷ push 12 4 6 ∷ []))
unfolding refusals.answer refusals.number_of level put at_most tallied all_at_most is_row sum each_filled is_sizes by_number ranks_of is_order_of is_listing is_order each_once all_zero cell_numbers top floor_over lift raise push_of rank_pushes pushes pulses_in raised fits lasts pushed write_shared_of apply_of
case_figure = refl

-- one rank of all cells: nothing rises and the mark is cleared; worn where a cap is below a level
pub case_one_rank :
    (apply_of (group true (3 ∷ 4 ∷ 2 ∷ 1 ∷ [])) (sharing (4 ∷ []) (2 ∷ 1 ∷ 4 ∷ 3 ∷ [])) ≡ done (step (group false (3 ∷ 4 ∷ 2 ∷ 1 ∷ [])) 0 none 0 []))
    × ((apply_of (capped true (3 ∷ 4 ∷ 2 ∷ 1 ∷ []) (3 ∷ 3 ∷ 2 ∷ 1 ∷ [])) (sharing (4 ∷ []) (2 ∷ 1 ∷ 4 ∷ 3 ∷ []))).number ≡ 8)
unfolding refusals.answer refusals.number_of level put at_most tallied all_at_most is_row sum each_filled is_sizes by_number ranks_of is_order_of is_listing is_order each_once all_zero cell_numbers top floor_over lift raise push_of rank_pushes pushes pulses_in raised fits lasts pushed write_shared_of apply_of
case_one_rank = (refl, refl)

-- document 01's case 1, and the same order with all sizes 1: but for the mark the same answer
pub case_ones :
    (apply_of (group false (3 ∷ 4 ∷ 2 ∷ 1 ∷ [])) (record { kind = Write; target = plain_target (order (2 ∷ 1 ∷ 4 ∷ 3 ∷ [])) })
    ≡ done (step (taken (1 ∷ 1 ∷ 0 ∷ 2 ∷ []) (group true (4 ∷ 5 ∷ 2 ∷ 3 ∷ []))) 0 none 4 (push 4 1 3 ∷ push 1 3 4 ∷ push 2 4 5 ∷ [])))
    × (apply_of (group false (3 ∷ 4 ∷ 2 ∷ 1 ∷ [])) (sharing (1 ∷ 1 ∷ 1 ∷ 1 ∷ []) (2 ∷ 1 ∷ 4 ∷ 3 ∷ []))
    ≡ done (step (taken (1 ∷ 1 ∷ 0 ∷ 2 ∷ []) (group false (4 ∷ 5 ∷ 2 ∷ 3 ∷ []))) 0 none 4 (push 4 1 3 ∷ push 1 3 4 ∷ push 2 4 5 ∷ [])))
unfolding refusals.answer refusals.number_of level put at_most tallied all_at_most is_row sum each_filled is_sizes by_number ranks_of is_order_of is_listing is_order each_once all_zero cell_numbers singles top floor_over lift raise push_of rank_pushes pushes pulses_in raised fits lasts pushed write_of write_shared_of apply_of
case_ones = (refl, refl)

-- 18: an empty list of sizes, a size of 0, sizes that add up to less than n or to more, also where their bytes would come to n; before 4, which comes where
-- the sizes are right
pub case_sizes :
    let number : List ℕ → List ℕ → ℕ = λ ss xs. (apply_of (group true (3 ∷ 4 ∷ 2 ∷ 1 ∷ [])) (sharing ss xs)).number in
    (number [] (2 ∷ 1 ∷ 4 ∷ 3 ∷ []) ≡ 18)
    × (number (0 ∷ 4 ∷ []) (2 ∷ 1 ∷ 4 ∷ 3 ∷ []) ≡ 18)
    × (number (2 ∷ 1 ∷ []) (2 ∷ 1 ∷ 4 ∷ 3 ∷ []) ≡ 18)
    × (number (2 ∷ 3 ∷ []) (2 ∷ 1 ∷ 4 ∷ 3 ∷ []) ≡ 18)
    × (number (255 ∷ 5 ∷ []) (2 ∷ 1 ∷ 4 ∷ 3 ∷ []) ≡ 18)
    × (number (2 ∷ 1 ∷ []) (2 ∷ 1 ∷ 4 ∷ 4 ∷ []) ≡ 18)
    × (number (2 ∷ 2 ∷ []) (2 ∷ 1 ∷ 4 ∷ 4 ∷ []) ≡ 4)
unfolding refusals.answer refusals.number_of all_at_most is_row sum each_filled is_sizes is_order_of is_listing is_order each_once all_zero cell_numbers write_shared_of apply_of
case_sizes = (refl, refl, refl, refl, refl, refl, refl)
