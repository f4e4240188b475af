-- `insertion::order_by_insertion` meets its contract. The loop's invariant: the cells 1 to `i` are in place; that of the loop in it: the cells
-- from place `j` on have moved up by one.
use Rattle.insertion.proofs.Insert.{Moved}
use Rattle.insertion.proofs.Build.{Built}
use Rattle.insertion.proofs.order_by_insertion.Given as goal

abbrev pub invariant-loop-j : goal.invariant-loop-j
invariant-loop-j l = Moved (record { 0 = 0 }) l.at l.initial.cells l.cells l.j

abbrev pub invariant-loop-i : goal.invariant-loop-i
invariant-loop-i l = Built l.x l.cells l.i
