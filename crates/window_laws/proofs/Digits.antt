-- The factorial number system, over any number of digits: the sum of x i times i factorial, for digits x i, determines its digits, and every number
-- below the next factorial is the sum of its own.
-- Assumes nothing.
use Prim.Native.Nat.{ℕ, zero, suc, ◌+◌, ◌*◌, ◌/◌, ◌%◌, ◌≤◌, ◌<◌}
use mathlib.Core.Path.{◌≡◌, refl, sym, ap, ◌∙◌}
use mathlib.Core.Logic.{⊎_elim}
use native.Mathlib.Decide.{dec_lt}
use native.Mathlib.Nat.{suc-mul, add-mul, mul_assoc, le_refl, mul-le-mul_right, mod-lt, mod-eq_of_lt, mod-one, add-mul-mod_self_right, div-add-mod', eq-or-lt_of_le, le_of_suc-le-suc, zero-lt-suc}
use native.Mathlib.Omega.{arith}
use Rattle.window.specs.Ring.{factorial, factorial_sum}
use Rattle.window.proofs.Factorials.{factorial_pos, Digits, fewer, sum_below_lem}
use Rattle.window_laws.specs.Numbered.{digit}

pub sum_ext : (x y : ℕ → ℕ) (m : ℕ) → ((i : ℕ) → 1 ≤ i → i ≤ m → x i ≡ y i) → factorial_sum x m ≡ factorial_sum y m
unfolding factorial_sum
sum_ext x y zero h = refl
sum_ext x y (suc m) h = rw (sum_ext x y m (λ i p l. h i p (omega arith)), h (suc m) (omega arith) (le_refl _))

-- ---- from the number to its digits

-- a number that is below f, with d times f, is not one with a greater e times f
last_not_less : (a b d e f : ℕ) → a < f → a + d * f ≡ b + e * f → d < e → ⊥
last_not_less a b d e f h q l = omega (arith, mul-le-mul_right f l, suc-mul d f)

last_same : (a b d e f : ℕ) → a < f → b < f → a + d * f ≡ b + e * f → d ≡ e
last_same a b d e f h k q =
    elim (dec_lt d e) [
      | yes l ↦ absurd (last_not_less a b d e f h q l)
      | no g ↦ elim (dec_lt e d) [ yes l ↦ absurd (last_not_less b a e d f k (sym q) l) | no h ↦ omega arith ]
    ]

pub sum_digits : (x y : ℕ → ℕ) (m : ℕ) → Digits x m → Digits y m → factorial_sum x m ≡ factorial_sum y m → (i : ℕ) → 1 ≤ i → i ≤ m → x i ≡ y i
unfolding factorial_sum
sum_digits x y zero r s e i p l = absurd (omega arith)
sum_digits x y (suc m) r s e i p l =
    let last : x (suc m) ≡ y (suc m)
    = last_same (factorial_sum x m) (factorial_sum y m) (x (suc m)) (y (suc m)) (factorial (suc m)) (sum_below_lem x m (fewer x m r)) (sum_below_lem y m (fewer y m s)) e in
    let front : factorial_sum x m ≡ factorial_sum y m = omega (arith, e, ap (λ (d : ℕ). d * factorial (suc m)) last) in
    ⊎_elim (λ (q : i ≡ suc m). rw q last) (λ h. sum_digits x y m (fewer x m r) (fewer y m s) front i p (le_of_suc-le-suc h)) (eq-or-lt_of_le l)

-- ---- every number

pub digit_low : (k m : ℕ) → Digits (digit k) m
unfolding digit
digit_low k m i l = le_of_suc-le-suc (mod-lt _ (zero-lt-suc i))

-- a remainder by b times f is the one by f and a digit of weight f
digit_split : (k f b : ℕ) → 0 < f → 0 < b → k % f + k / f % b * f ≡ k % (b * f)
digit_split k f b p q =
    let d = k / f % b in
    let s = k % f + d * f in
    let below : s < b * f = omega (arith, mod-lt k p, mul-le-mul_right f (mod-lt (k / f) q), suc-mul d f) in
    let whole : s + k / f / b * (b * f) ≡ k =
    omega (arith, div-add-mod' k f, ap (λ (t : ℕ). t * f) (div-add-mod' (k / f) b), add-mul (k / f / b * b) d f, mul_assoc (k / f / b) b f) in
    sym (mod-eq_of_lt below) ∙ sym (add-mul-mod_self_right s (k / f / b) (b * f)) ∙ ap (λ (t : ℕ). t % (b * f)) whole

pub sum_of_digits : (k m : ℕ) → factorial_sum (digit k) m ≡ k % factorial (suc m)
unfolding factorial_sum factorial digit
sum_of_digits k zero = sym (mod-one k)
sum_of_digits k (suc m) =
    ap (λ (t : ℕ). t + digit k (suc m) * factorial (suc m)) (sum_of_digits k m)
    ∙ digit_split k (factorial (suc m)) (suc (suc m)) (factorial_pos (suc m)) (zero-lt-suc (suc m))
