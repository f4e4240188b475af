-- `load::fill` meets its contract. The invariant: the places passed hold the first symbols.
use Rattle.load.proofs.Filling.{filled_none, filled_more}
use Rattle.load.proofs.fill.Goals as goal

pub loop-symbol-init : goal.loop-symbol-init
loop-symbol-init c = filled_none _ _ _

pub loop-symbol-preserved : goal.loop-symbol-preserved
loop-symbol-preserved c = filled_more c.loop-symbol.invariant c.loop-symbol-test.true c.next_state-state.ensures
