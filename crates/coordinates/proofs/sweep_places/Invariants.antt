-- `coordinates::sweep_places` meets its contract. The loop's invariant: `met`, `values` and `sum` are those of the places from index `i` on.
use Prim.Native.Nat.{◌-◌, ◌≤◌}
use Rattle.order.specs.Order.{cell_numbers}
use Rattle.coordinates.proofs.Counting.{Counted}
use Rattle.coordinates.proofs.sweep_places.Given as goal

abbrev pub invariant-loop-i : goal.invariant-loop-i
invariant-loop-i l = (l.o.len - l.places ≤ l.i) × Counted (cell_numbers l.o) l.o.len l.met l.values l.sum l.i
