-- `ranks::ranks_by_sweep` meets its contract. The loop's invariant: the cells from place `i` on have their ranks, the others 0.
use Prim.Native.Nat.{◌-◌}
use native.Mathlib.Omega.{arith}
use mathlib.Core.Path.{◌∙◌}
use Rattle.order.specs.Order.{cell_numbers}
use Rattle.ranks.specs.Ranks.{ranks_of}
use Rattle.order.proofs.Numbers.{length_mapped, length_places, place_at}
use Rattle.ranks.proofs.RankNumbers.{rank, cell_met}
use Rattle.ranks.proofs.Ranking.{placed_none, placed_at, placed_all}
use Rattle.order.proofs.Sweep.{turn_at}
use Rattle.ranks.proofs.ranks_by_sweep.Goals as goal

pub loop-i-init : goal.loop-i-init
loop-i-init c = placed_none rank _ _ (length_places _ (search length_mapped)) c.args.checked.short

pub loop-i-preserved : goal.loop-i-preserved
loop-i-preserved c =
    placed_at rank (turn_at {xs = cell_numbers c.args.checked.order} c.loop-i.invariant (omega arith) (c.number.ensures ∙ place_at _ _)) (omega (arith, cell_met c.args.checked.order (c.loop-i.i - 1))) (omega arith) (omega arith)

pub returns : goal.returns
unfolding ranks_of
returns c = rw (placed_all rank c.loop-i.invariant (omega arith))
