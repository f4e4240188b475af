-- A set of numbers as a number: digit k is 1 where k is in the set. Tests of a number's digits.
-- Assumes nothing.
use Prim.Native.Nat.{ℕ, zero, suc, ◌+◌, ◌-◌, ◌/◌, ◌%◌, ◌^◌, ◌<◌, suc-le-suc, max}
use native.Mathlib.Nat.{max-le, mod-lt, mod-eq_of_lt, zero-div}
use native.Mathlib.Numerals.{one-add}
use native.Mathlib.Omega.{arith}
use mathlib.Core.Path.{◌≡◌, refl, sym, ap, ◌∙◌}
use mathlib.Core.Bool.{Bool, true, false, ◌&&◌, and_assoc}
use lib.Arith.{digits_mod}
use lib.Bits.{bit_and, bit_or, and_high, and_le_l, and_le_r, or_add_and, or_lt, or_step, or_shr}
use lib.Count.{ones, ones_step, ones_cat}
use lib.Pow.{pow_pos, recompose, shr-shr, mod-pow-add}
use lib.Dec.{eqb, leb, ltb, leb-suc-suc, eqb-suc-suc, leb-suc-zero, eqb-suc-zero}
use borrow.Author.Tests.{leb-true, leb-false, le-leb, lt-leb}
use Rattle.order.specs.Cells.{tally}
use Rattle.order.proofs.Cells.{tally-lt, tally-ge, tally-ne}

next_digit : (k m : ℕ) → m / 2 ^ suc k % 2 ≡ m / 2 / 2 ^ k % 2
next_digit k m = sym (ap (λ (x : ℕ). x % 2) (shr-shr m 1 k ∙ ap (λ (x : ℕ). m / 2 ^ x) (one-add k)))

pub digit_of_zero : (k : ℕ) → 0 / 2 ^ k % 2 ≡ 0
digit_of_zero k = ap (λ (x : ℕ). x % 2) (zero-div (2 ^ k))

pub digit_of_power : (k j : ℕ) → 2 ^ j / 2 ^ k % 2 ≡ tally (eqb k j)
digit_of_power zero zero = refl
digit_of_power zero (suc j) = omega (arith, tally-ne (suc j) 0 (omega arith))
digit_of_power (suc k) zero = next_digit k 1 ∙ digit_of_zero k ∙ sym (tally-ne 0 (suc k) (omega arith))
digit_of_power (suc k) (suc j) =
    let half : 2 ^ suc j / 2 ≡ 2 ^ j = omega arith in
    next_digit k (2 ^ suc j) ∙ ap (λ (x : ℕ). x / 2 ^ k % 2) half ∙ digit_of_power k j ∙ ap tally (sym (eqb-suc-suc k j))

-- the m lowest digits are 1
pub digit_of_ones : (k m : ℕ) → (2 ^ m - 1) / 2 ^ k % 2 ≡ tally (ltb k m)
digit_of_ones k zero = digit_of_zero k ∙ sym (tally-ge k 0 (omega arith))
digit_of_ones zero (suc m) = omega (arith, pow_pos m, tally-lt 0 (suc m) (omega arith))
digit_of_ones (suc k) (suc m) =
    let half : (2 ^ suc m - 1) / 2 ≡ 2 ^ m - 1 = omega (arith, pow_pos m) in
    next_digit k (2 ^ suc m - 1) ∙ ap (λ (x : ℕ). x / 2 ^ k % 2) half ∙ digit_of_ones k m ∙ ap tally (sym (leb-suc-suc (suc k) m))

pub digit_of_or : (a b k : ℕ) → bit_or a b / 2 ^ k % 2 ≡ max (a / 2 ^ k % 2) (b / 2 ^ k % 2)
digit_of_or a b k = ap (λ (x : ℕ). x % 2) (or_shr a b k ∙ or_step (a / 2 ^ k) (b / 2 ^ k)) ∙ digits_mod _ (suc-le-suc (max-le (omega arith) (omega arith)))

pub same_digits : (m a b : ℕ) → a < 2 ^ m → b < 2 ^ m → ((k : ℕ) → a / 2 ^ k % 2 ≡ b / 2 ^ k % 2) → a ≡ b
same_digits zero a b p q h = omega arith
same_digits (suc m) a b p q h =
    omega (arith, h 0, same_digits m (a / 2) (b / 2) (omega arith) (omega arith) (λ k. sym (next_digit k a) ∙ h (suc k) ∙ next_digit k b))

-- the ones among the digits below k, and digit k
ones_zero : ones 0 ≡ 0
unfolding ones
ones_zero = refl

ones_digit : (d : ℕ) → d < 2 → ones d ≡ d
ones_digit d l = let e : d / 2 ≡ 0 = omega arith in omega (arith, ones_step d, ap ones e, ones_zero)

pub ones_none : (m : ℕ) → ones (m % 2 ^ 0) ≡ 0
ones_none m = let e : m % 1 ≡ 0 = omega arith in ap ones e ∙ ones_zero

pub ones_next : (k m : ℕ) → ones (m % 2 ^ suc k) ≡ m / 2 ^ k % 2 + ones (m % 2 ^ k)
ones_next k m =
    ap (λ (j : ℕ). ones (m % 2 ^ j)) (sym (one-add k)) ∙ ap ones (mod-pow-add m 1 k)
    ∙ ones_cat k (m / 2 ^ k % 2) (m % 2 ^ k) (mod-lt m (pow_pos k))
    ∙ ap (λ (x : ℕ). x + ones (m % 2 ^ k)) (ones_digit (m / 2 ^ k % 2) (omega arith))

-- ---- tests of a number's digits

pub zero_test : (x : ℕ) → eqb x 0 ≡ leb x 0
zero_test zero = refl
zero_test (suc x) = eqb-suc-zero x ∙ sym (leb-suc-zero x)

-- two numbers have k digits where their `|` has
pub or_at_most : (k m a b : ℕ) → m + 1 ≡ 2 ^ k → leb (bit_or a b) m ≡ (leb a m && leb b m)
or_at_most k m a b e = go (leb a m) refl (leb b m) refl
  where
    go : (p : Bool) → leb a m ≡ p → (q : Bool) → leb b m ≡ q → leb (bit_or a b) m ≡ (p && q)
    go true f true g = le-leb (bit_or a b) m (omega (arith, e, or_lt k a b (omega (arith, e, leb-true a m f)) (omega (arith, e, leb-true b m g))))
    go true f false g = lt-leb (bit_or a b) m (omega (arith, leb-false b m g, or_add_and a b, and_le_l a b))
    go false f q g = lt-leb (bit_or a b) m (omega (arith, leb-false a m f, or_add_and a b, and_le_r a b))

-- a number of j + k digits has k where those above them are 0
pub high_zero : (j k x : ℕ) {spare : ℕ} → spare ≡ 2 ^ (j + k) - 2 ^ k → x < 2 ^ (j + k) → leb (bit_and x spare) 0 ≡ leb x (2 ^ k - 1)
high_zero j k x e l = rw e (go (leb x (2 ^ k - 1)) refl)
  where
    parts : bit_and x (2 ^ (j + k) - 2 ^ k) + x % 2 ^ k ≡ x
    parts = rw (and_high x j k) (recompose j k l)

    go : (b : Bool) → leb x (2 ^ k - 1) ≡ b → leb (bit_and x (2 ^ (j + k) - 2 ^ k)) 0 ≡ b
    go true e = le-leb (bit_and x (2 ^ (j + k) - 2 ^ k)) 0 (omega (arith, parts, mod-eq_of_lt {n = x} {m = 2 ^ k} (omega (arith, pow_pos k, leb-true x (2 ^ k - 1) e))))
    go false e = lt-leb (bit_and x (2 ^ (j + k) - 2 ^ k)) 0 (omega (arith, parts, mod-lt x (pow_pos k), leb-false x (2 ^ k - 1) e))

-- `over` gathers numbers, and is 0 where each of them is: t says whether the next one, y, is
pub gather : (over y : ℕ) {t : Bool} → leb y 0 ≡ t → (left : Bool) → (leb (bit_or over y) 0 && left) ≡ (leb over 0 && (t && left))
gather over y {t} e left = rw (or_at_most 0 0 over y refl, e) (and_assoc (leb over 0) t left)
