-- `window::put_levels` meets its contract. The invariant: the levels met stand first in the list.
use Prim.Native.Nat.{◌≤◌}
use mathlib.Core.Path.{◌≡◌}
use lib.ListN.{length}
use Rattle.window.proofs.Placing.{grown, level_in}
use Rattle.window.proofs.put_levels.Given as goal

abbrev pub invariant-loop-j : goal.invariant-loop-j
invariant-loop-j l = (l.j ≤ length l.ring) × (l.out ≡ grown (level_in l.ring) l.j l.initial.out)
