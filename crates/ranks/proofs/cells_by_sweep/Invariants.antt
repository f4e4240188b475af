-- `ranks::cells_by_sweep` meets its contract. The loop's invariant: the ranks of the cells above `c` have their cells, the others 0.
use Rattle.order.proofs.Numbers.{cell}
use Rattle.ranks.specs.Ranks.{rank_numbers}
use Rattle.ranks.proofs.Ranking.{Placed}
use Rattle.ranks.proofs.cells_by_sweep.Given as goal

abbrev pub invariant-loop-i : goal.invariant-loop-i
invariant-loop-i l = Placed cell (rank_numbers l.r) l.n l.cells l.i
