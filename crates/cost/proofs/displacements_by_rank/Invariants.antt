-- `cost::displacements_by_rank` meets its contract. The loop's invariant: the cells before place `i` have their displacements, the others 0.
use Rattle.cost.proofs.Loops.{Changed}
use Rattle.cost.proofs.displacements_by_rank.Given as goal

abbrev pub invariant-loop-i : goal.invariant-loop-i
invariant-loop-i l = Changed l.from l.to l.found l.i
