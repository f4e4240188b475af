-- `code::residue_after` meets its contract: r + (2n - 1 - i) is below the divisor, or past it by what is answered.
use mathlib.Core.Path.{refl}
use mathlib.Core.Logic.{inl, inr}
use native.Mathlib.Omega.{arith}
use Rattle.code.proofs.Residue.{once}
use Rattle.code.proofs.residue_after.Goals as goal

pub returns-then-r-i : goal.returns-then-r-i
returns-then-r-i c = once _ _ _ (omega arith) (omega arith) _ (inl (omega arith, refl))

pub returns-else-r-i : goal.returns-else-r-i
returns-else-r-i c = once _ _ _ (omega arith) (omega arith) _ (inr (omega arith, omega arith))
