-- `insertion::are_in_range` meets its contract. The loop's invariant: `within` says whether the first `k` coordinates are in range.
use Rattle.insertion.proofs.Ranging.{RangedTo}
use Rattle.insertion.proofs.are_in_range.Given as goal

abbrev pub invariant-loop-k : goal.invariant-loop-k
invariant-loop-k l = RangedTo l.fn.x l.within l.k
