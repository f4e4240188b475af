-- Laws of what is said of groups that are counted from 1: here group k + 1, for k below n.
-- Assumes nothing.
use Prim.Native.Nat.{ℕ, zero, suc, ◌<◌}
use native.Mathlib.Decide.{dec_lt}
use native.Mathlib.Omega.{arith}
use mathlib.Core.Path.{◌≡◌}
use mathlib.Core.Logic.{◌⊎◌, inl, inr, ⊎_elim}
use mathlib.Core.Bool.{Bool, false, and-false}
use Rattle.order.proofs.Refusals.{picked_zeros}
use Rattle.page.specs.Groups.{all_of, first_refusing}

-- below n + 1 is below n or n
pub below_or_last : (k n : ℕ) → k < suc n → (k < n) ⊎ (k ≡ n)
below_or_last k n l = elim (dec_lt k n) [ yes h ↦ inl h | no h ↦ inr (omega arith) ]

module _ (test : ℕ → Bool) where
  pub all_but : (n k : ℕ) → k < n → test (suc k) ≡ false → all_of n test ≡ false
  unfolding all_of
  all_but zero k l e = absurd (omega arith)
  all_but (suc n) k l e =
      ⊎_elim
      (λ m. rw (all_but n k m e))
      (λ d. rw (← d, e) (and-false (all_of k test)))
      (below_or_last k n l)

-- ---- the first group that refuses

module _ (number : ℕ → ℕ) where
  -- none of so many refuses, nor the next one
  pub none_next : (k : ℕ) → first_refusing k number ≡ 0 → number (suc k) ≡ 0 → first_refusing (suc k) number ≡ 0
  unfolding first_refusing
  none_next k e z = rw (e, z)

  -- none of so many refuses, and the next one does: it is the first, of however many
  pub first_at : (n k : ℕ) → k < n → first_refusing k number ≡ 0 → (number (suc k) ≡ 0 → ⊥) → first_refusing n number ≡ suc k
  unfolding first_refusing
  first_at zero k l e r = absurd (omega arith)
  first_at (suc n) k l e r =
      ⊎_elim
      (λ m. rw (first_at n k m e r))
      (λ d. rw (← d, e) (picked_zeros (number (suc k)) 0 (suc k) r))
      (below_or_last k n l)
