-- `order::lists_each_once` meets its contract. The loop's invariant: `met` is the set of 0 and the numbers before place `i`.
use Rattle.order.specs.Order.{cell_numbers}
use Rattle.order.proofs.Marks.{Met}
use Rattle.order.proofs.lists_each_once.Given as goal

abbrev pub invariant-loop-cell : goal.invariant-loop-cell
invariant-loop-cell l = Met (cell_numbers l.fn.o) l.met l.cell-index
