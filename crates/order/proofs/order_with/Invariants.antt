-- `order::order_with` meets its contract. The loop's invariant: the first `i` numbers are in place.
use Rattle.order.proofs.Filling.{Filled}
use Rattle.order.proofs.order_with.Given as goal

abbrev pub invariant-loop-i : goal.invariant-loop-i
invariant-loop-i l = Filled l.cells l.held l.i
