-- The largest of a list of signed numbers.
-- Assumes nothing.
use Prim.Native.Nat.{ℕ, zero, suc, ◌<◌}
use native.Mathlib.Nat.{not-suc-le-zero, le_of_suc-le-suc}
use native.Mathlib.Omega.{arith}
use mathlib.Core.Path.{◌≡◌, refl}
use mathlib.Core.Logic.{◌⊎◌, inl, inr, ⊎_elim}
use mathlib.Core.List.{List, [], ◌∷◌}
use lib.ListN.{length, get_or}
use lib.IntN.{ℤ, pos}
use lib.Signed.{◌≤ℤ◌, ≤ℤ_refl}
use Rattle.cost.specs.Cost.{larger_of, largest}
use Rattle.cost.proofs.Signs.{≤ℤ-trans, le_cases}

larger_cases : (x y : ℤ) (ys : List ℤ)
    → ((x ≤ℤ y) × (larger_of x (y ∷ ys) ≡ larger_of y ys)) ⊎ ((y ≤ℤ x) × (larger_of x (y ∷ ys) ≡ larger_of x ys))
unfolding larger_of
larger_cases x y ys = ⊎_elim (λ t. inl (t.0, rw t.1)) (λ t. inr (t.0, rw t.1)) (le_cases x y)

larger_first : (x : ℤ) (xs : List ℤ) → x ≤ℤ larger_of x xs
unfolding larger_of
larger_first x [] = ≤ℤ_refl x
larger_first x (y ∷ ys) =
    ⊎_elim (λ t. rw t.1 (≤ℤ-trans t.0 (larger_first y ys))) (λ t. rw t.1 (larger_first x ys)) (larger_cases x y ys)

larger_over : (x : ℤ) (xs : List ℤ) (k : ℕ) → k < length xs → get_or xs k (pos 0) ≤ℤ larger_of x xs
larger_over x [] k l = absurd (not-suc-le-zero l)
larger_over x (y ∷ ys) zero l =
    ⊎_elim (λ t. rw t.1 (larger_first y ys)) (λ t. rw t.1 (≤ℤ-trans t.0 (larger_first x ys))) (larger_cases x y ys)
larger_over x (y ∷ ys) (suc k) l =
    let h = le_of_suc-le-suc l in
    ⊎_elim (λ t. rw t.1 (larger_over y ys k h)) (λ t. rw t.1 (larger_over x ys k h)) (larger_cases x y ys)

pub largest_over : (xs : List ℤ) (k : ℕ) → k < length xs → get_or xs k (pos 0) ≤ℤ largest xs
unfolding largest
largest_over [] k l = absurd (not-suc-le-zero l)
largest_over (x ∷ xs) zero l = larger_first x xs
largest_over (x ∷ xs) (suc k) l = larger_over x xs k (le_of_suc-le-suc l)

-- z stands in the list
pub record Found (xs : List ℤ) (z : ℤ) : Type 0 where
  pub place : ℕ
  pub inside : place < length xs
  pub there : get_or xs place (pos 0) ≡ z

later : (x : ℤ) {xs : List ℤ} {z : ℤ} → Found xs z → Found (x ∷ xs) z
later x f = record { place = suc f.place; inside = omega (arith, f.inside); there = f.there }

-- one more number after the first
between : (x y : ℤ) (ys : List ℤ) (z : ℤ) (k : ℕ) → k < suc (length ys) → get_or (x ∷ ys) k (pos 0) ≡ z → Found (x ∷ y ∷ ys) z
between x y ys z zero l e = record { place = 0; inside = omega arith; there = e }
between x y ys z (suc k) l e = record { place = suc (suc k); inside = omega arith; there = e }

larger_found : (x : ℤ) (xs : List ℤ) → Found (x ∷ xs) (larger_of x xs)
unfolding larger_of
larger_found x [] = record { place = 0; inside = omega arith; there = refl }
larger_found x (y ∷ ys) =
    ⊎_elim (λ t. rw t.1 (later x (larger_found y ys)))
    (λ t. let f = larger_found x ys in rw t.1 (between x y ys (larger_of x ys) f.place f.inside f.there))
    (larger_cases x y ys)

pub largest_found : (xs : List ℤ) → 0 < length xs → Found xs (largest xs)
unfolding largest
largest_found [] l = absurd (not-suc-le-zero l)
largest_found (x ∷ xs) l = larger_found x xs
