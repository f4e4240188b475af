-- `code::choose` meets its contract. The invariant: the number is what is left, and those with coordinate i below v.
use mathlib.Core.Path.{◌≡◌}
use Prim.Native.Nat.{◌+◌, ◌≤◌}
use Rattle.code.specs.Tails.{before}
use Rattle.code.proofs.Steps.{Owing}
use Rattle.code.proofs.choose.Given as goal

abbrev pub invariant-loop-v : goal.invariant-loop-v
invariant-loop-v l = (l.v ≤ l.i) × (before l.n l.i l.r l.v + l.left ≡ l.number) × Owing l.n l.i l.r l.v l.s
