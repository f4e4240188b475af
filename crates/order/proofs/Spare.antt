-- A record's numbers against the row of bits that must be 0: the highest four of eight as far as the length, and all past it.
-- Assumes nothing.
use Prim.Native.Nat.{ℕ, zero, suc, ◌+◌, ◌-◌, ◌≤◌, ◌<◌}
use native.Mathlib.Omega.{arith}
use mathlib.Core.Path.{◌≡◌, refl, sym, ap, ◌∙◌}
use mathlib.Core.Bool.{Bool, true, ◌&&◌, and-true, cond}
use mathlib.Core.Logic.{⊎_elim}
use mathlib.Core.List.{List, [], ◌∷◌, ◌++◌}
use lib.ListN.{length, get_or, drop, replicate, drop_of_length-le, get_or-replicate, get_or-append}
use lib.Seq.{get_or-append-add}
use lib.Dec.{leb, eqb, ltb}
use lib.Bits.{bit_and, bit_or}
use borrow.Author.Tests.{le-leb, leb-true}
use Rattle.order.specs.Cells.{all_zero}
use Rattle.order.specs.Steps.{is_padded}
use Rattle.order.proofs.Cells.{both, lt_cases}
use Rattle.order.proofs.Numbers.{drop_up}
use Rattle.order.proofs.Padded.{zero_at}
use Rattle.order.proofs.Bits.{zero_test, high_zero, gather}

-- a row of twelve x and twelve y, from place 12 - n on: x as far as n places, and y past them
pub row_at : (x y n i : ℕ) → n ≤ 12 → i < 12 → get_or (replicate 12 x ++ replicate 12 y) (12 - n + i) 0 ≡ cond (ltb i n) x y
row_at x y n i l h =
    let front : List ℕ = replicate 12 x in
    let back : List ℕ = replicate 12 y in
    ⊎_elim
    (λ t. rw t.1 (get_or-append front back 0 (12 - n + i) (omega arith) ∙ get_or-replicate 12 (12 - n + i) x 0 (omega arith)))
    (λ t.
    let e : 12 - n + i ≡ 12 + (i - n) = omega arith in
    rw (t.1, e) (get_or-append-add front back (i - n) 0 ∙ get_or-replicate 12 (i - n) y 0 (omega arith)))
    (lt_cases i n)

-- twelve times the bits above the lowest four, then twelve times all eight
abbrev pub spares : List ℕ
spares = replicate 12 240 ++ replicate 12 255

-- `over` is 0 where the numbers up to place i are padded
pub record PaddedTo (xs : List ℕ) (len over i : ℕ) : Type 0 where
  pub whole : length xs ≡ 12
  pub small : len ≤ 12
  pub left : i ≤ 12
  pub same : leb over 0 && is_padded (len - i) (drop i xs) ≡ is_padded len xs

pub padded_none : (xs : List ℕ) (len : ℕ) → length xs ≡ 12 → len ≤ 12 → PaddedTo xs len 0 0
padded_none xs len w s = let e : len - 0 ≡ len = omega arith in record { whole = w; small = s; left = omega arith; same = rw e refl }

module _ {xs : List ℕ} {len over i : ℕ} (t : PaddedTo xs len over i) where
  module _ (l : i < 12) {x : ℕ} (at : x ≡ get_or xs i 0) (byte : x < 256) {y : ℕ} (row : y ≡ get_or spares (12 - len + i) 0) where
    met_spare : y ≡ cond (ltb i len) 240 255
    met_spare = row ∙ row_at 240 255 len i t.small l

    listed_step : i < len → is_padded (len - i) (drop i xs) ≡ leb x 15 && is_padded (len - (i + 1)) (drop (i + 1) xs)
    unfolding is_padded
    listed_step h =
        let e : len - i ≡ suc (len - (i + 1)) = omega arith in
        rw (e, drop_up xs i (omega (arith, t.whole)), at)

    past_step : len ≤ i → is_padded (len - i) (drop i xs) ≡ leb x 0 && is_padded (len - (i + 1)) (drop (i + 1) xs)
    unfolding is_padded all_zero
    past_step h =
        let e : len - i ≡ 0 = omega arith in
        let e' : len - (i + 1) ≡ 0 = omega arith in
        rw (e, e', drop_up xs i (omega (arith, t.whole)), at, zero_test (get_or xs i 0))

    gathered : leb (bit_or over (bit_and x y)) 0 && is_padded (len - (i + 1)) (drop (i + 1) xs) ≡ leb over 0 && is_padded (len - i) (drop i xs)
    gathered =
        ⊎_elim
        (λ h. gather over (bit_and x y) (high_zero 4 4 x (met_spare ∙ rw h.1) byte) _ ∙ ap (λ (b : Bool). leb over 0 && b) (sym (listed_step h.0)))
        (λ h. gather over (bit_and x y) (high_zero 8 0 x (met_spare ∙ rw h.1) byte) _ ∙ ap (λ (b : Bool). leb over 0 && b) (sym (past_step h.0)))
        (lt_cases i len)

    pub padded_more : PaddedTo xs len (bit_or over (bit_and x y)) (i + 1)
    padded_more = record { whole = t.whole; small = t.small; left = omega arith; same = gathered ∙ t.same }

  pub padded_end : 12 ≤ i → eqb over 0 ≡ is_padded len xs
  unfolding is_padded all_zero
  padded_end l =
      let e : len - i ≡ 0 = omega (arith, t.small) in
      zero_test over ∙ sym (ap (λ (b : Bool). leb over 0 && b) (rw (e, drop_of_length-le xs {i = i} (omega (arith, t.whole)))) ∙ and-true (leb over 0)) ∙ t.same

-- ---- what the check tells

pub padded_zeros : (n : ℕ) (xs : List ℕ) → is_padded n xs ≡ true → all_zero (drop n xs) ≡ true
unfolding is_padded all_zero
padded_zeros zero xs e = e
padded_zeros (suc n) [] e = refl
padded_zeros (suc n) (x ∷ xs) e = padded_zeros n xs (both (leb x 15) (is_padded n xs) e).1

pub padded_small : (n : ℕ) (xs : List ℕ) (k : ℕ) → is_padded n xs ≡ true → get_or xs k 0 ≤ 15
unfolding is_padded
padded_small zero xs k e = omega (arith, zero_at xs k e)
padded_small (suc n) [] k e = omega arith
padded_small (suc n) (x ∷ xs) zero e = leb-true x 15 (both (leb x 15) (is_padded n xs) e).0
padded_small (suc n) (x ∷ xs) (suc k) e = padded_small n xs k (both (leb x 15) (is_padded n xs) e).1

pub small_padded : (n : ℕ) (xs : List ℕ) → ((k : ℕ) → k < n → get_or xs k 0 ≤ 15) → all_zero (drop n xs) ≡ true → is_padded n xs ≡ true
unfolding is_padded
small_padded zero xs h z = z
small_padded (suc n) [] h z = refl
small_padded (suc n) (x ∷ xs) h z = rw (le-leb x 15 (h 0 (omega arith))) (small_padded n xs (λ k l. h (suc k) (omega arith)) z)
