-- Factorials, and numbers with factorials as weights: digits x i, each at most i, give a number below the next factorial.
-- Assumes nothing.
use Prim.Native.Nat.{ℕ, zero, suc, ◌≤◌, ◌<◌}
use mathlib.Core.Path.{◌≡◌}
use mathlib.Core.Logic.{⊎_elim}
use native.Mathlib.Nat.{suc-mul, le_refl, mul-le-mul_right, mul-pos, eq-or-lt_of_le, le_of_suc-le-suc, zero-lt-suc}
use native.Mathlib.Omega.{arith}
use Rattle.window.specs.Ring.{factorial, factorial_sum}

pub factorial_pos : (n : ℕ) → 0 < factorial n
unfolding factorial
factorial_pos zero = omega arith
factorial_pos (suc n) = mul-pos (zero-lt-suc n) (factorial_pos n)

factorial_up : (n : ℕ) → factorial n ≤ factorial (suc n)
unfolding factorial
factorial_up n = omega (arith, suc-mul n (factorial n))

pub factorial_grows : (n m : ℕ) → n ≤ m → factorial n ≤ factorial m
factorial_grows n zero l = let e : n ≡ 0 = omega arith in rw e (le_refl _)
factorial_grows n (suc m) l =
    ⊎_elim (λ (e : n ≡ suc m). rw e (le_refl _)) (λ h. omega (arith, factorial_grows n m (le_of_suc-le-suc h), factorial_up m)) (eq-or-lt_of_le l)

-- digit i is at most i, up to digit m
abbrev pub Digits : (ℕ → ℕ) → ℕ → Type 0
Digits x m = (i : ℕ) → i ≤ m → x i ≤ i

pub fewer : (x : ℕ → ℕ) (m : ℕ) → Digits x (suc m) → Digits x m
fewer x m r i l = r i (omega arith)

-- the number is below the next factorial
pub sum_below_lem : (x : ℕ → ℕ) (m : ℕ) → Digits x m → factorial_sum x m < factorial (suc m)
unfolding factorial_sum factorial
sum_below_lem x zero r = omega arith
sum_below_lem x (suc m) r =
    let f = factorial (suc m) in
    omega (arith, sum_below_lem x m (fewer x m r), mul-le-mul_right f (r (suc m) (le_refl _)), suc-mul (suc m) f)
