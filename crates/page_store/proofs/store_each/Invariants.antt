-- `page_store::store_each` meets its contract. The loop's invariant: the first `i` groups are stored to in the copy, and none of them refused.
use Rattle.page_store.proofs.Storing.{StoredTo}
use Rattle.page_store.proofs.store_each.Given as goal

abbrev pub invariant-loop-i : goal.invariant-loop-i
invariant-loop-i l = StoredTo l.page l.symbols l.groups l.pulses l.i-counter
