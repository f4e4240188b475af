-- `order::lists_each_once` meets its contract. The loop's invariant: `met` is the set of 0 and the numbers before place `i`.
use Prim.Native.Nat.{ℕ, ◌^◌, ◌≤◌}
use native.Mathlib.Omega.{arith}
use lib.ListN.{get_or}
use lib.Pow.{pow_mono, pow_pos}
use Rattle.order.proofs.Numbers.{length_mapped, length_places, place_at}
use Rattle.order.proofs.Spare.{padded_small, padded_zeros}
use Rattle.order.proofs.Marks.{met_none, met_more, met_all}
use Rattle.order.proofs.lists_each_once.Goals as goal

-- no shift loses a bit
bit : (k : ℕ) → k ≤ 15 → (1 ≤ 2 ^ k) × (2 ^ k ≤ 2 ^ 15)
bit k l = (pow_pos k, pow_mono {i = k} {j = 15} l)

pub loop-cell-init : goal.loop-cell-init
loop-cell-init c = met_none _ (length_places _ (search length_mapped))

pub overflow_shl-met : goal.overflow_shl-met
overflow_shl-met c =
    let small : (get_or c.args.o.cells c.loop-cell.cell-index (record { 0 = 0 })).0 ≤ 15 = rw (place_at _ _) (padded_small _ _ _ c.requires.1) in
    omega (arith, small)

pub loop-cell-preserved : goal.loop-cell-preserved
loop-cell-preserved c =
    let small : (get_or c.args.o.cells c.loop-cell.cell-index (record { 0 = 0 })).0 ≤ 15 = rw (place_at _ _) (padded_small _ _ _ c.requires.1) in
    let b = bit _ (small) in
    met_more c.loop-cell.invariant c.loop-cell-test.true (place_at _ _) (small) (omega (arith, b))

pub returns : goal.returns
returns c =
    let b = bit c.args.o.len (omega (arith, c.requires.0)) in
    met_all c.loop-cell.invariant c.loop-cell-test.false _ c.requires.0 (padded_zeros _ _ c.requires.1) (omega (arith, b))
