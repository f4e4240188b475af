-- `load::fill` meets its contract. The invariant: the places passed hold the first symbols.
use Rattle.load.proofs.Filling.{Filled}
use Rattle.load.proofs.fill.Given as goal

abbrev pub invariant-loop-symbol : goal.invariant-loop-symbol
invariant-loop-symbol l = Filled l.words l.seed l.initial.list l.list l.state l.symbol-index
