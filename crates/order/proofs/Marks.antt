-- The loop that takes the set of the numbers met in a record.
-- Assumes nothing.
use Prim.Native.Nat.{ℕ, zero, suc, ◌+◌, ◌-◌, ◌/◌, ◌%◌, ◌^◌, ◌≤◌, ◌<◌, max}
use native.Mathlib.Nat.{zero-add, max-zero, max-eq_right}
use native.Mathlib.Omega.{arith}
use mathlib.Core.Path.{◌≡◌, refl, sym, ap, ◌∙◌}
use mathlib.Core.Bool.{Bool, true, false, false≢true}
use mathlib.Core.Logic.{⊎_elim}
use mathlib.Core.List.{List, [], ◌∷◌}
use lib.ListN.{length, get_or, take, drop, drop_of_length-le, take-append-drop}
use lib.Bits.{bit_or, or_lt}
use lib.Pow.{pow-lt, pow_mono}
use lib.Dec.{eqb, ltb}
use borrow.Author.Tests.{eq-eqb, ne_eqb, eqb-true}
use Rattle.order.specs.Cells.{tally, count, all_zero, is_order}
use Rattle.order.proofs.Cells.{both, lt_cases, tally-lt, tally-ge, tally-ne, tally-le, count_if_append, count-drop, IsOrder, each_listed, order_true, true_order, order_count, order_past}
use Rattle.order.proofs.Bits.{digit_of_power, digit_of_ones, digit_of_or, same_digits}
use Rattle.order.proofs.Numbers.{drop_up, length_front}

-- ---- the loop: the numbers met are 0 and those before place i

-- b says whether the number is the one that is met first, or next, and r counts what is left of it then
met_first : (b : Bool) (r : ℕ) → tally b ≡ tally (ltb r (tally b + r))
met_first true r = sym (tally-lt r (1 + r) (omega arith))
met_first false r = sym (tally-ge r (0 + r) (omega arith))

met_next : (b : Bool) (r all : ℕ) → tally b + r ≤ all → max (tally (ltb (tally b + r) all)) (tally b) ≡ tally (ltb r all)
met_next true r all l = max-eq_right (tally-le (ltb (1 + r) all)) ∙ sym (tally-lt r all (omega arith))
met_next false r all l = max-zero _ ∙ ap (λ (x : ℕ). tally (ltb x all)) (zero-add r)

-- digit k is 1 where fewer k are left from place i on than stand in the whole list, with its 0
pub record Met (xs : List ℕ) (met i : ℕ) : Type 0 where
  pub whole : length xs ≡ 12
  pub left : i ≤ 12
  pub bound : met < 2 ^ 16
  pub digits : (k : ℕ) → met / 2 ^ k % 2 ≡ tally (ltb (count k (drop i xs)) (count k (0 ∷ xs)))

pub met_none : (xs : List ℕ) → length xs ≡ 12 → Met xs 1 0
met_none xs w = record { whole = w; left = omega arith; bound = omega arith; digits = λ k. digit_of_power k 0 ∙ met_first (eqb k 0) (count k xs) }

module _ {xs : List ℕ} {met i : ℕ} (t : Met xs met i) where
  pub met_more : i < 12 → {x b : ℕ} → x ≡ get_or xs i 0 → x ≤ 15 → b ≡ 2 ^ x → Met xs (bit_or met b) (i + 1)
  met_more l {x} at h e =
      rw e
      record {
        whole = t.whole;
        left = omega arith;
        bound = or_lt 16 met (2 ^ x) t.bound (pow-lt {i = x} {j = 16} (omega arith));
        digits = λ k.
            let next : count k (drop i xs) ≡ tally (eqb k x) + count k (drop (i + 1) xs) = ap (count k) (drop_up xs i (omega (arith, t.whole))) ∙ rw at in
            let some : count k (drop i xs) ≤ count k (0 ∷ xs) = count-drop k (suc i) (0 ∷ xs) in
            digit_of_or met (2 ^ x) k ∙ rw (t.digits k, digit_of_power k x, next) (met_next (eqb k x) (count k (drop (i + 1) xs)) (count k (0 ∷ xs)) (omega (arith, next, some)));
      }

-- ---- the end: each of 1 to n is met just where the first n numbers are an order

count_zeros : (c : ℕ) (xs : List ℕ) → all_zero xs ≡ true → count (suc c) xs ≡ 0
unfolding all_zero
count_zeros c [] e = refl
count_zeros c (x ∷ xs) e =
    let z = both (eqb x 0) (all_zero xs) e in
    omega (arith, eqb-true x 0 z.0, tally-ne x (suc c) (omega (arith, eqb-true x 0 z.0)), count_zeros c xs z.1)

module _ {xs : List ℕ} {met i : ℕ} (t : Met xs met i) (g : 12 ≤ i) (n : ℕ) (s : n ≤ 12) (z : all_zero (drop n xs) ≡ true) where
  met_zero : met / 2 ^ 0 % 2 ≡ 1
  met_zero = t.digits 0 ∙ rw (drop_of_length-le xs {i = i} (omega (arith, t.whole))) (tally-lt 0 (1 + count 0 xs) (omega arith))

  met_cell : (c : ℕ) → met / 2 ^ suc c % 2 ≡ tally (ltb 0 (count (suc c) (take n xs)))
  met_cell c =
      let split : count (suc c) xs ≡ count (suc c) (take n xs) + count (suc c) (drop n xs) =
      ap (count (suc c)) (sym (take-append-drop n xs)) ∙ count_if_append (eqb (suc c)) (take n xs) (drop n xs) in
      let same : count (suc c) (0 ∷ xs) ≡ count (suc c) (take n xs) = omega (arith, tally-ne 0 (suc c) (omega arith), split, count_zeros c (drop n xs) z) in
      t.digits (suc c) ∙ rw (drop_of_length-le xs {i = i} (omega (arith, t.whole)), same) refl

  all_met : met ≡ 2 ^ suc n - 1 → IsOrder n (take n xs)
  all_met e =
      each_listed n (take n xs) (length_front xs n t.whole s)
      (λ c l.
      ⊎_elim (λ h. h.0)
      (λ h. omega (arith, met_cell c, ap (λ (m : ℕ). m / 2 ^ suc c % 2) e, digit_of_ones (suc c) (suc n), tally-lt (suc c) (suc n) (omega arith), tally-ge 0 (count (suc c) (take n xs)) h.0))
      (lt_cases 0 (count (suc c) (take n xs))))

  order_met : IsOrder n (take n xs) → met ≡ 2 ^ suc n - 1
  order_met o = same_digits 16 met (2 ^ suc n - 1) t.bound (omega (arith, pow_mono {i = suc n} {j = 16} (omega arith))) same
    where
      same : (k : ℕ) → met / 2 ^ k % 2 ≡ (2 ^ suc n - 1) / 2 ^ k % 2
      same zero = met_zero ∙ sym (digit_of_ones 0 (suc n) ∙ tally-lt 0 (suc n) (omega arith))
      same (suc c) =
          ⊎_elim
          (λ h.
          omega (arith, met_cell c, order_count n (take n xs) o c h.0, tally-lt 0 (count (suc c) (take n xs)) (omega (arith, order_count n (take n xs) o c h.0)), digit_of_ones (suc c) (suc n), tally-lt (suc c) (suc n) (omega arith)))
          (λ h.
          omega (arith, met_cell c, tally-ge 0 (count (suc c) (take n xs)) (omega (arith, order_past n (take n xs) o c h.0)), digit_of_ones (suc c) (suc n), tally-ge (suc c) (suc n) (omega arith)))
          (lt_cases c n)

  pub met_all : {full : ℕ} → full ≡ 2 ^ suc n - 1 → eqb met full ≡ is_order n (take n xs)
  met_all e = rw e (go (is_order n (take n xs)) refl)
    where
      go : (b : Bool) → is_order n (take n xs) ≡ b → eqb met (2 ^ suc n - 1) ≡ b
      go true e = eq-eqb met (2 ^ suc n - 1) (order_met (order_true n (take n xs) e))
      go false e = ne_eqb met (2 ^ suc n - 1) (λ q. false≢true (sym e ∙ true_order n (take n xs) (all_met q)))
