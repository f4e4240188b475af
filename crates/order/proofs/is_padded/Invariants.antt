-- `order::is_padded` meets its contract. The loop's invariant: `over` is 0 where the numbers up to place `i` are padded.
use Rattle.order.specs.Order.{cell_numbers}
use Rattle.order.proofs.Spare.{PaddedTo}
use Rattle.order.proofs.is_padded.Given as goal

abbrev pub invariant-loop-i : goal.invariant-loop-i
invariant-loop-i l = PaddedTo (cell_numbers l.o) l.o.len l.over l.i
