-- `distance::place` meets its contract. The loop's invariant: the cells passed are not c.
use Rattle.order.specs.Order.{cell_numbers}
use Rattle.distance.proofs.Search.{Passed}
use Rattle.distance.proofs.place.Given as goal

abbrev pub invariant-loop-i : goal.invariant-loop-i
invariant-loop-i l = Passed (cell_numbers l.fn.o) l.fn.n l.fn.c.0 l.i
