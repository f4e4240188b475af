-- `ranks::ranks_by_sweep` meets its contract. The loop's invariant: the cells from place `i` on have their ranks, the others 0.
use Rattle.order.specs.Order.{cell_numbers}
use Rattle.ranks.proofs.RankNumbers.{rank}
use Rattle.ranks.proofs.Ranking.{Placed}
use Rattle.ranks.proofs.ranks_by_sweep.Given as goal

abbrev pub invariant-loop-i : goal.invariant-loop-i
invariant-loop-i l = Placed rank (cell_numbers l.o) l.o.len l.ranks l.i
