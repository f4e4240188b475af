-- What an answer says in the refusal table's terms determines the answer.
-- Assumes nothing.
use mathlib.Core.Path.{◌≡◌, ap, sym}
use lib.IntN.{ℤ}
use Prim.Native.Nat.{ℕ}
use Rattle.std.specs.Prelude.{List, replicate, Result, Ok, Err, pos}
use Rattle.order.specs.declared.Refusal.{Refusal}
use Rattle.order.specs.Refusals.{Told}
use Rattle.order.proofs.Refusals.{refusal_by_number, not-zero}
use Rattle.order.proofs.Told.{told_lem}
use Rattle.cost.specs.Cost.{told_displacements, told_cost}

pub told_cost_lem : (a b : Result ℕ Refusal) → told_cost a ≡ told_cost b → a ≡ b
told_cost_lem (Ok c) (Ok d) e = let v = ap (λ (t : Told ℤ). t.value) e in cc
told_cost_lem (Ok c) (Err s) e = absurd (not-zero s (sym (ap (λ (t : Told ℤ). t.number) e)))
told_cost_lem (Err r) (Ok d) e = absurd (not-zero r (ap (λ (t : Told ℤ). t.number) e))
told_cost_lem (Err r) (Err s) e = ap Err (refusal_by_number r s (ap (λ (t : Told ℤ). t.number) e))

pub told_displacements_lem : (a b : Result (List ℤ) Refusal) → told_displacements a ≡ told_displacements b → a ≡ b
told_displacements_lem a b e = told_lem (replicate 12 (pos 0)) a b e
