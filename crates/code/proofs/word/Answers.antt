-- `code::word` meets its contract, by the invariant of Filling.
use Rattle.code.proofs.Filling.{start, step, end}
use Rattle.code.proofs.word.Goals as goal

pub loop-i-init : goal.loop-i-init
loop-i-init c =
    start _ _ (record { low = c.args.counts.least; high = c.args.counts.most; some = c.requires })

pub loop-i-preserved : goal.loop-i-preserved
loop-i-preserved c = step _ _ _ _ _ _ c.loop-i.invariant _ c.loop-i-test.true c.choose-c.ensures

pub returns : goal.returns
returns c = end _ _ _ _ _ _ c.loop-i.invariant c.loop-i-test.false
