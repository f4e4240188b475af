-- `decoder::corrects` meets its contract.
use borrow.Author.Tests.{lt-ltb, le-ltb}
use Rattle.decoder.specs.Steps.{corrects_by}
use Rattle.decoder.proofs.corrects.Goals as goal

pub returns-then-above-below : goal.returns-then-above-below
unfolding corrects_by
returns-then-above-below c = rw (lt-ltb c.args.above c.args.below c.if-above-below.true)

pub returns-else-above-below : goal.returns-else-above-below
unfolding corrects_by
returns-else-above-below c = rw (le-ltb c.args.above c.args.below c.if-above-below.false)
