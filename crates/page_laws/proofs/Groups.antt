-- Laws of what is said of groups that are counted from 1, beside those of page/Groups: here group k + 1, for k below n.
-- Assumes nothing.
use Prim.Native.Nat.{ℕ, zero, suc, ◌+◌, ◌≤◌, ◌<◌}
use native.Mathlib.Omega.{arith}
use mathlib.Core.Path.{◌≡◌, refl, ◌∙◌}
use mathlib.Core.Logic.{◌≢◌, ◌⊎◌, inl, inr, ⊎_elim}
use mathlib.Core.Bool.{Bool, true, false≢true}
use mathlib.Core.List.{List}
use lib.ListN.{length, get_or, length-set}
use lib.Seq.{get_or-set_same, get_or-set_other}
use borrow.Author.Tests.{leb-true, le-leb}
use Rattle.order.proofs.Cells.{both}
use Rattle.page.specs.Groups.{total, all_of, put_each, first_refusing}
use Rattle.page.proofs.Groups.{below_or_last, none_next, first_at}
use Rattle.page_laws.specs.PageLists.{among}

-- ---- a number from 1 to n

pub among_true : (n i : ℕ) → among n (suc i) ≡ true → i < n
among_true n i e = grind (arith, leb-true, both)

pub among_below : (n i : ℕ) → i < n → among n (suc i) ≡ true
among_below n i l = rw (le-leb 1 (suc i) (omega arith), le-leb (suc i) n l)

-- what holds of i + 1 for i below n, holds of the numbers 1 to n
pub of_among : (n : ℕ) (P : ℕ → Type 0) → ((i : ℕ) → i < n → P (suc i)) → (k : ℕ) → among n k ≡ true → P k
of_among n P h zero e = absurd (false≢true e)
of_among n P h (suc i) e = h i (among_true n i e)

-- ---- sums

module _ (f g : ℕ → ℕ) where
  pub total_same : (n : ℕ) → ((k : ℕ) → k < n → f (suc k) ≡ g (suc k)) → total n f ≡ total n g
  unfolding total
  total_same zero h = refl
  total_same (suc n) h = omega (arith, total_same n (λ k l. h k (omega arith)), h n (omega arith))

  pub total_plus : (n : ℕ) → total n (λ k. f k + g k) ≡ total n f + total n g
  unfolding total
  total_plus zero = refl
  total_plus (suc n) = omega (arith, total_plus n)

module _ (f : ℕ → ℕ) where
  pub total_none : (n : ℕ) → ((k : ℕ) → k < n → f (suc k) ≡ 0) → total n f ≡ 0
  unfolding total
  total_none zero h = refl
  total_none (suc n) h = omega (arith, total_none n (λ k l. h k (omega arith)), h n (omega arith))

  -- one group alone
  pub total_one : (n j : ℕ) → j < n → ((k : ℕ) → k < n → (k ≡ j → ⊥) → f (suc k) ≡ 0) → total n f ≡ f (suc j)
  unfolding total
  total_one zero j l h = absurd (omega arith)
  total_one (suc n) j l h =
      ⊎_elim
      (λ m. omega (arith, total_one n j m (λ k b. h k (omega arith)), h n (omega arith) (λ e. absurd (omega arith))))
      (λ e. rw e (omega (arith, total_none n (λ k b. h k (omega arith) (λ d. absurd (omega arith))))))
      (below_or_last j n l)

-- ---- tests

pub all_each : (test : ℕ → Bool) (n : ℕ) → ((k : ℕ) → k < n → test (suc k) ≡ true) → all_of n test ≡ true
unfolding all_of
all_each test zero h = refl
all_each test (suc n) h = rw (all_each test n (λ k l. h k (omega arith)), h n (omega arith))

pub all_same : (f g : ℕ → Bool) (n : ℕ) → ((k : ℕ) → k < n → f (suc k) ≡ g (suc k)) → all_of n f ≡ all_of n g
unfolding all_of
all_same f g zero h = refl
all_same f g (suc n) h = rw (all_same f g n (λ k l. h k (omega arith)), h n (omega arith))

-- ---- places

module _ {A : Type 0} (f : ℕ → A) (xs : List A) where
  pub length_put : (n : ℕ) → length (put_each n f xs) ≡ length xs
  unfolding put_each
  length_put zero = refl
  length_put (suc n) = length-set (put_each n f xs) n (f (suc n)) ∙ length_put n

  pub put_at : (d : A) (n k : ℕ) → n ≤ length xs → k < n → get_or (put_each n f xs) k d ≡ f (suc k)
  unfolding put_each
  put_at d zero k h l = absurd (omega arith)
  put_at d (suc n) k h l =
      ⊎_elim
      (λ m. get_or-set_other (put_each n f xs) n k (f (suc n)) d (λ e. absurd (omega arith)) ∙ put_at d n k (omega arith) m)
      (λ e. rw e (get_or-set_same (put_each n f xs) n (f (suc n)) d (omega (arith, length_put n))))
      (below_or_last k n l)

pub put_same : {A : Type 0} (f g : ℕ → A) (xs : List A) (n : ℕ) → ((k : ℕ) → k < n → f (suc k) ≡ g (suc k)) → put_each n f xs ≡ put_each n g xs
unfolding put_each
put_same f g xs zero h = refl
put_same f g xs (suc n) h = rw (put_same f g xs n (λ k l. h k (omega arith)), h n (omega arith))

-- ---- the first group that refuses

module _ (number : ℕ → ℕ) where
  pub no_first : (n : ℕ) → ((k : ℕ) → k < n → number (suc k) ≡ 0) → first_refusing n number ≡ 0
  unfolding first_refusing
  no_first zero h = refl
  no_first (suc n) h = none_next number n (no_first n (λ k l. h k (omega arith))) (h n (omega arith))

  -- of n groups, group k + 1 is the first that refuses
  pub record FirstAt (n k : ℕ) : Type 0 where
    pub below : k < n
    pub before : first_refusing k number ≡ 0
    pub refuses : number (suc k) ≢ 0

  -- no group refuses, or there is a first that does
  pub none_or_first : (n : ℕ) → ((k : ℕ) → k < n → number (suc k) ≡ 0) ⊎ ((k : ℕ) × FirstAt n k)
  none_or_first zero = inl (λ k l. absurd (omega arith))
  none_or_first (suc n) =
      ⊎_elim
      (λ h. go h (number (suc n)) refl)
      (λ t. let (k, a) = t in inr (k, record { below = omega (arith, a.below); before = a.before; refuses = a.refuses }))
      (none_or_first n)
    where
      go : ((k : ℕ) → k < n → number (suc k) ≡ 0) → (m : ℕ) → number (suc n) ≡ m → ((k : ℕ) → k < suc n → number (suc k) ≡ 0) ⊎ ((k : ℕ) × FirstAt (suc n) k)
      go h zero z = inl (λ k l. ⊎_elim (h k) (λ d. rw d z) (below_or_last k n l))
      go h (suc m) z = inr (n, record { below = omega arith; before = no_first n h; refuses = λ d. absurd (omega arith) })

  pub first_not : (n : ℕ) → first_refusing n number ≡ 0 → (k : ℕ) → k < n → number (suc k) ≡ 0
  first_not n e k l =
      ⊎_elim
      (λ h. h k l)
      (λ t. let (j, a) = t in absurd (omega (arith, first_at number n j a.below a.before a.refuses)))
      (none_or_first n)
