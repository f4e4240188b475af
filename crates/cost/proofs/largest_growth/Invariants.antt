-- `cost::largest_growth` meets its contract. The loop's invariant: `most` is the largest rise of the cells before place `i`.
use Rattle.cost.proofs.Loops.{Grown}
use Rattle.cost.proofs.largest_growth.Given as goal

abbrev pub invariant-loop-i : goal.invariant-loop-i
invariant-loop-i l = Grown l.from l.to l.most l.i
