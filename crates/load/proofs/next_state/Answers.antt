-- `load::next_state` meets its contract.
use mathlib.Core.Path.{refl}
use Rattle.load.specs.Load.{next_state}
use Rattle.load.proofs.next_state.Goals as goal

pub returns : goal.returns
unfolding next_state
returns c = refl
