-- `coordinates::sweep_places` meets its contract. The loop's invariant: `met`, `values` and `sum` are those of the places from index `i` on.
use Prim.Native.Nat.{◌-◌, ◌*◌, ◌%◌, ◌^◌}
use native.Mathlib.Omega.{arith}
use mathlib.Core.Path.{◌≡◌, ◌∙◌}
use lib.Count.{ones}
use Rattle.order.specs.Order.{cell_numbers}
use Rattle.order.proofs.Numbers.{length_mapped, length_places, place_at}
use Rattle.order.proofs.Sweep.{turn_at}
use Rattle.coordinates.specs.Sweep.{sweep_of}
use Rattle.coordinates.proofs.Counting.{counted_none, counted_low, counted_high, sum_small, counted_more, counted_values, counted_sum}
use Rattle.coordinates.proofs.sweep_places.Goals as goal

pub loop-i-init : goal.loop-i-init
loop-i-init c =
    (omega (arith, c.saturating_sub-i-start.ensures), counted_none _ _ (length_places _ (search length_mapped)) c.args.checked.short c.args.checked.lists)

pub put_coordinate-sum-requires : goal.put_coordinate-sum-requires
put_coordinate-sum-requires c =
    let turn = turn_at {xs = cell_numbers c.args.checked.order} {i = c.loop-i.i} {x = c.number-c.result} c.loop-i.invariant.1 (omega (arith, c.loop-i-test.true)) (c.number-c.ensures ∙ place_at _ _) in
    (counted_low turn, counted_high turn)

pub overflow_add-sum : goal.overflow_add-sum
overflow_add-sum c =
    let turn = turn_at {xs = cell_numbers c.args.checked.order} {i = c.loop-i.i} {x = c.number-c.result} c.loop-i.invariant.1 (omega (arith, c.loop-i-test.true)) (c.number-c.ensures ∙ place_at _ _) in
    let term : let k = c.number-c.result - 1 in c.put_coordinate-sum.result ≡ k * ones (c.loop-i.met % 2 ^ k) = c.put_coordinate-sum.ensures.value in
    rw term (omega (arith, sum_small turn))

pub bit_of-met-requires : goal.bit_of-met-requires
bit_of-met-requires c =
    let turn = turn_at {xs = cell_numbers c.args.checked.order} {i = c.loop-i.i} {x = c.number-c.result} c.loop-i.invariant.1 (omega (arith, c.loop-i-test.true)) (c.number-c.ensures ∙ place_at _ _) in
    (omega (arith, counted_low turn), omega (arith, counted_high turn))

pub loop-i-preserved : goal.loop-i-preserved
loop-i-preserved c =
    let turn = turn_at {xs = cell_numbers c.args.checked.order} {i = c.loop-i.i} {x = c.number-c.result} c.loop-i.invariant.1 (omega (arith, c.loop-i-test.true)) (c.number-c.ensures ∙ place_at _ _) in
    let term : let k = c.number-c.result - 1 in c.put_coordinate-sum.result ≡ k * ones (c.loop-i.met % 2 ^ k) = c.put_coordinate-sum.ensures.value in
    let bit : c.bit_of-met.result ≡ 2 ^ (c.number-c.result - 1) = c.bit_of-met.ensures in
    (omega (arith, c.loop-i-test.true), rw (bit, c.put_coordinate-sum.ensures.values_after, term) (counted_more turn))

pub returns : goal.returns
unfolding sweep_of
returns c =
    let ended : c.loop-i.i ≡ c.args.checked.order.len - c.args.places = omega (arith, c.loop-i.invariant.0, c.loop-i-test.false, c.saturating_sub-i-start.ensures) in
    rw (counted_values c.loop-i.invariant.1 _ ended, counted_sum c.loop-i.invariant.1 _ ended)
