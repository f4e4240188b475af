-- `sharing::raise_ranks` meets its contract. The loop's invariant: the ranks from index `k` on, whose cells are listed from index `end` on, are raised.
use Rattle.order.specs.Order.{listed}
use Rattle.sharing.specs.Shared.{sizes_of}
use Rattle.sharing.proofs.Loops.{RaisedFrom}
use Rattle.sharing.proofs.raise_ranks.Given as goal

abbrev pub invariant-loop-k : goal.invariant-loop-k
invariant-loop-k l = RaisedFrom l.n (sizes_of l.target) (listed l.cells.order) l.old l.p l.k l.end
