-- `writing::raise_all` meets its contract. The loop's invariant: the cells from place `i` on are raised. A branch of it is a case of one cell more.
use Rattle.order.specs.Order.{cell_numbers}
use Rattle.writing.proofs.WriteLoop.{Raised}
use Rattle.writing.proofs.raise_all.Given as goal

abbrev pub invariant-loop-i : goal.invariant-loop-i
invariant-loop-i l =
    Raised 1 (cell_numbers l.o) l.o.len l.initial.levels (record { levels = l.levels; floor = l.floor; pulses = l.pulses; count = l.count; pushes = l.pushes }) l.i
