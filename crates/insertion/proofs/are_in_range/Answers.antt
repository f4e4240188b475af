-- `insertion::are_in_range` meets its contract. The loop's invariant: `within` says whether the first `k` coordinates are in range.
use Rattle.insertion.proofs.Ranging.{ranged_more, ranged_all}
use Rattle.insertion.proofs.are_in_range.Goals as goal

pub loop-k-preserved : goal.loop-k-preserved
loop-k-preserved c = ranged_more c.loop-k.invariant c.loop-k-test.true c.from.ensures c.limit_of.ensures

pub returns : goal.returns
returns c = ranged_all c.loop-k.invariant c.loop-k-test.false
