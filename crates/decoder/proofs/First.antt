-- The first number below n that passes a test.
-- Assumes nothing.
use Prim.Native.Nat.{ℕ, zero, suc, ◌≤◌, ◌<◌}
use native.Mathlib.Nat.{eq-or-lt_of_le, le_of_suc-le-suc}
use native.Mathlib.Omega.{arith}
use mathlib.Core.Path.{◌≡◌, refl, sym, ap, ◌∙◌}
use mathlib.Core.Logic.{⊎_elim}
use mathlib.Core.Bool.{Bool, true, false, cond, true≢false}
use lib.Dec.{ltb}
use borrow.Author.Tests.{ltb-true, ltb-false}
use Rattle.order.proofs.Cells.{lt_cases}
use Rattle.decoder.specs.Decoding.{first_below}

-- k is the first below n that passes, or n where none does
pub record First (n : ℕ) (f : ℕ → Bool) (k : ℕ) : Type 0 where
  pub within : k ≤ n
  pub before : (j : ℕ) → j < k → f j ≡ false
  pub passes : k < n → f k ≡ true

pub first_below_lem : (n : ℕ) (f : ℕ → Bool) → First n f (first_below n f)
unfolding first_below
first_below_lem zero f = record { within = omega arith; before = λ j l. absurd (omega arith); passes = λ l. absurd (omega arith) }
first_below_lem (suc n) f = go (first_below n f) (first_below_lem n f) (ltb (first_below n f) n) refl (f n) refl
  where
    go : (k : ℕ) → First n f k → (b : Bool) → ltb k n ≡ b → (c : Bool) → f n ≡ c → First (suc n) f (cond b k (cond c n (suc n)))
    go k t true e c q = record { within = omega (arith, t.within); before = t.before; passes = λ l. t.passes (ltb-true k n e) }
    go k t false e true q = record { within = omega arith; before = λ j l. t.before j (omega (arith, ltb-false k n e)); passes = λ l. q }
    go k t false e false q = record {
      within = omega arith;
      before = λ j l. ⊎_elim (λ (p : j ≡ n). ap f p ∙ q) (λ p. t.before j (omega (arith, ltb-false k n e))) (eq-or-lt_of_le (le_of_suc-le-suc l));
      passes = λ l. absurd (omega arith);
    }

-- there is one such k
not_before : {n : ℕ} {f : ℕ → Bool} {j k : ℕ} → First n f j → First n f k → j < k → ⊥
not_before {j = j} s t l = true≢false (sym (s.passes (omega (arith, t.within))) ∙ t.before j l)

pub first_is : {n : ℕ} {f : ℕ → Bool} {k : ℕ} → First n f k → first_below n f ≡ k
first_is {n} {f} {k} t =
    ⊎_elim (λ l. absurd (not_before (first_below_lem n f) t l.0))
    (λ l. ⊎_elim (λ e. sym e) (λ g. absurd (not_before t (first_below_lem n f) g)) (eq-or-lt_of_le l.0))
    (lt_cases (first_below n f) k)
