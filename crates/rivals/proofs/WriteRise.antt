-- The theorem of CostRise over the answers of `cost` and `write`: the cost of u to v is the rise of the top level when a group with levels
-- n down to 1 along u accepts v. And such a group, with all caps at 4,095, accepts every order v of its cells.
-- Assumes nothing.
use Prim.Native.Nat.{ℕ, suc, ◌+◌, ◌-◌}
use native.Mathlib.Omega.{arith}
use mathlib.Core.Path.{◌≡◌, refl, sym, ap, ◌∙◌}
use mathlib.Core.Bool.{true}
use mathlib.Core.List.{List}
use lib.ListN.{length, replicate}
use lib.IntN.{sub_ℕ}
use Rattle.order.specs.declared.Order.{Order}
use Rattle.order.specs.declared.Refusal.TheVariants.{NoOrder}
use Rattle.order.specs.Refusals.{number_of, answer}
use Rattle.order.specs.Cells.{place_of, is_order}
use Rattle.order.specs.Order.{listed, is_order_of, pair_checks}
use Rattle.order.proofs.Cells.{order_true}
use Rattle.order.proofs.Places.{cell_stands, rank_high}
use Rattle.order.proofs.Check.{order_parts}
use Rattle.order.proofs.Refusals.{later_decide, check_holds}
use Rattle.order.proofs.Records.{passed}
use Rattle.order.proofs.Pairs.{same_length, passed_second, pair_size, first_order, second_order}
use Rattle.cost.specs.Cost.{cost, cost_of}
use Rattle.group.specs.declared.Group.{Group}
use Rattle.group.specs.Levels.{AtMost}
use Rattle.group.specs.Record.{group_checks, opened, with_levels, with_mark}
use Rattle.push_up.specs.PushUp.{singles}
use Rattle.push_up.specs.WriteAnswer.{raised, pushed, write_of}
use Rattle.group.proofs.LevelRows.{row_below, full_row, zeros_row}
use Rattle.group.proofs.Checks.{rules_hold, checked_size}
use Rattle.push_up.proofs.Stairs.{stairs, at_most_tabulate, length_stairs, stairs_low, stairs_fit, stairs_last}
use Rattle.push_up.proofs.Writes.{push_holds, write_accepted}
use Rattle.rivals.specs.Rise.{top_level, written, Staircase}
use Rattle.rivals.proofs.CostRise.{stairs_fall, cost_is_rise}

-- ---- over the answers

cost_accepted : (u v : Order) → (cost_of u v).number ≡ 0
    → (number_of (pair_checks u v) ≡ 0) × ((cost_of u v).value ≡ cost u.len (listed u) (listed v))
unfolding cost_of answer
cost_accepted u v d = (d, rw d)

-- an accepted write leaves the levels of the minimal push-up
written_levels : (g : Group) (v : Order) → (write_of g v).number ≡ 0
    → (write_of g v).value.group.levels ≡ written (listed v) g.levels
unfolding pushed raised
written_levels g v a = rw (write_accepted g v a).3

-- levels n down to 1 along u, and a write of v that is accepted: the top level rises by the cost
pub write_rise : (g : Group) (u v : Order) → length g.levels ≡ 12 → Staircase g.n (listed u) g.levels → (cost_of u v).number ≡ 0
    → (write_of g v).number ≡ 0 → (cost_of u v).value ≡ sub_ℕ (top_level g.n (write_of g v).value.group.levels) (top_level g.n g.levels)
write_rise g u v w s d a =
    let c = cost_accepted u v d in
    let t = write_accepted g v a in
    let size = checked_size g t.0 in
    let e : u.len ≡ g.n = sym (same_length u v c.0) ∙ (order_parts g.n v t.1).1.long in
    let p = ap (λ (k : ℕ). is_order k (listed u)) (sym e) ∙ first_order u v c.0 in
    let q = (order_parts g.n v t.1).1.order in
    rw (written_levels g v a)
    (c.1 ∙ ap (λ (k : ℕ). cost k (listed u) (listed v)) e
    ∙ cost_is_rise g.n (listed u) (listed v) g.levels (omega arith) p q (omega arith) s)

-- ---- a group that accepts

-- levels n down to 1 along u, full caps and no used pulses
unfoldable pub stair_group : Order → Group
stair_group u = with_mark true (with_levels (opened u.len 1000000) (stairs u.len u.len (listed u)))

-- stairs to v from 2n are above those to u from n
stairs_above : (n : ℕ) (u v : List ℕ) → is_order n u ≡ true → is_order n v ≡ true → AtMost (stairs n n u) (stairs (n + n) n v)
unfolding stairs place_of
stairs_above n u v p q =
    at_most_tabulate n _ _ (replicate (12 - n) 0)
    (λ k l. omega (arith, (cell_stands n u (order_true n u p) (suc k) (omega arith) l).place, rank_high n v (order_true n v q) k))

-- it accepts v
pub stairs_written : (u v : Order) → (cost_of u v).number ≡ 0 → (write_of (stair_group u) v).number ≡ 0
unfolding stair_group write_of answer
stairs_written u v d =
    let c = (cost_accepted u v d).0 in
    let n = u.len in
    let size = pair_size u v c in
    let p = first_order u v c in
    let q = second_order u v c in
    let start = row_below 4095 n (stairs_low n (listed u) p n (omega arith)) (full_row 4095 n) in
    let above = stairs_above n (listed u) (listed v) p q in
    let target : is_order_of n v ≡ true = ap (λ (k : ℕ). is_order_of k v) (sym (same_length u v c)) ∙ (passed v (passed_second u v c)).2 in
    later_decide _ (group_checks (stair_group u)) (rules_hold (stair_group u) (record { small = size.0; large = size.1; levels = start; caps = full_row 4095 n; endurance = refl; used = zeros_row 1000000 n 12 }))
    ∙ check_holds NoOrder _ target
    ∙ push_holds (stair_group u) (singles (listed v)) (stairs_fit n (listed v) q (n + n) (stair_group u) refl above (omega arith) (omega arith))
    (stairs_last n (listed v) q (n + n) (stair_group u) refl above (omega arith) size.1 (omega arith))

-- so wherever `cost` answers, its answer is such a rise
pub cost_answer_is_rise : (u v : Order) → (cost_of u v).number ≡ 0
    → (cost_of u v).value ≡ sub_ℕ (top_level u.len (write_of (stair_group u) v).value.group.levels) (top_level u.len (stair_group u).levels)
unfolding stair_group
cost_answer_is_rise u v d =
    let c = (cost_accepted u v d).0 in
    let p = first_order u v c in
    write_rise (stair_group u) u v (length_stairs u.len (listed u) p u.len (pair_size u v c).1) (stairs_fall u.len (listed u) p) d
    (stairs_written u v d)
