-- `changes::full_caps` meets its contract. The invariant: the places passed are full, and the rest are as they were.
use Prim.Native.Nat.{◌≤◌}
use mathlib.Core.Path.{◌≡◌}
use mathlib.Core.List.{◌++◌}
use lib.ListN.{drop, replicate}
use Rattle.changes.proofs.full_caps.Given as goal

abbrev pub invariant-loop-i : goal.invariant-loop-i
invariant-loop-i l = (l.i ≤ l.n) × (l.caps ≡ replicate l.i 4095 ++ drop l.i (replicate 12 0))
