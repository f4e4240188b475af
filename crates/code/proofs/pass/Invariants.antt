-- `code::pass` meets its contract. The invariant: the count is that of the words with coordinate i below u.
use mathlib.Core.Path.{◌≡◌}
use Prim.Native.Nat.{◌≤◌}
use Rattle.code.specs.Tails.{before}
use Rattle.code.proofs.Steps.{Owing}
use Rattle.code.proofs.pass.Given as goal

abbrev pub invariant-loop-u : goal.invariant-loop-u
invariant-loop-u l = (l.u ≤ l.v) × (l.count ≡ before l.n l.i l.r l.u) × Owing l.n l.i l.r l.u l.s
