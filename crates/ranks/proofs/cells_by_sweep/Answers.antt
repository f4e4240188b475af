-- `ranks::cells_by_sweep` meets its contract. The loop's invariant: the ranks of the cells above `c` have their cells, the others 0.
use native.Mathlib.Omega.{arith}
use mathlib.Core.Path.{◌∙◌}
use Rattle.order.proofs.Numbers.{cell, length_mapped}
use Rattle.order.proofs.Sweep.{turn_at}
use Rattle.ranks.specs.Ranks.{rank_numbers, order_by_rank}
use Rattle.ranks.proofs.RankNumbers.{length_ranks, rank_at_lem}
use Rattle.ranks.proofs.Ranking.{placed_none, placed_at, placed_out, placed_all}
use Rattle.ranks.proofs.cells_by_sweep.Goals as goal

pub loop-i-init : goal.loop-i-init
loop-i-init c = placed_none cell _ _ (length_ranks _ (search length_mapped)) c.args.size.most

pub loop-i-preserved-then-contains : goal.loop-i-preserved-then-contains
loop-i-preserved-then-contains c =
    placed_at cell (turn_at {xs = rank_numbers c.args.r} c.loop-i.invariant (omega arith) (c.number-rank.ensures ∙ rank_at_lem _ _)) (grind arith) (omega arith) (omega arith)

pub loop-i-preserved : goal.loop-i-preserved
loop-i-preserved c =
    placed_out cell (turn_at {xs = rank_numbers c.args.r} c.loop-i.invariant (omega arith) (c.number-rank.ensures ∙ rank_at_lem _ _)) (λ l. grind arith)

pub returns : goal.returns
unfolding order_by_rank rank_numbers
returns c = rw (placed_all cell c.loop-i.invariant (omega arith))
