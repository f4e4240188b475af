-- The loop of a window's number: what it holds after each coordinate.
-- Assumes nothing.
use Prim.Native.Nat.{ℕ, zero, suc, ◌+◌, ◌-◌, ◌*◌, ◌≤◌, ◌<◌}
use mathlib.Core.Path.{◌≡◌, refl, ◌∙◌}
use mathlib.Core.List.{List}
use native.Mathlib.Nat.{zero-mul, mul-one, add-mul, mul_assoc, le-mul_of_pos_right}
use native.Mathlib.Omega.{arith}
use lib.ListN.{length}
use Rattle.order.proofs.Cells.{IsOrder}
use Rattle.coordinates.specs.Coordinates.{coordinate_of}
use Rattle.coordinates.proofs.RoundTrip.{coordinate_le}
use Rattle.sensing.proofs.Sensed.{sensed_is_order}
use Rattle.window.specs.Ring.{factorial, factorial_sum, order_number, window_order, window_number}
use Rattle.window.proofs.Factorials.{Digits, factorial_pos, factorial_grows, sum_below_lem}

-- the coordinates of a window
abbrev pub coordinate_in : List ℕ → ℕ → ℕ
coordinate_in ls = coordinate_of (window_order ls)

pub order_digits : (n : ℕ) (xs : List ℕ) → IsOrder n xs → (m : ℕ) → m ≤ n → Digits (coordinate_of xs) m
order_digits n xs o m l i h = coordinate_le n xs o i (omega arith)

coordinate_low : (ls : List ℕ) (m : ℕ) → m ≤ length ls → Digits (coordinate_in ls) m
coordinate_low ls = order_digits (length ls) (window_order ls) (sensed_is_order (length ls) ls)

-- the coordinates from i on are in the number, which lacks the factor i factorial; those before are still to come
pub record Summing (ls : List ℕ) (number i : ℕ) : Type 0 where
  pub small : length ls ≤ 12
  pub last : i ≤ length ls
  pub sum : factorial_sum (coordinate_in ls) (i - 1) + number * factorial i ≡ window_number ls

pub start : (ls : List ℕ) → length ls ≤ 12 → Summing ls 0 (length ls)
unfolding window_number order_number
start ls l = record { small = l; last = omega arith; sum = omega (arith, zero-mul (factorial (length ls))) }

-- a window has at most 12 cells
number_low : (ls : List ℕ) → length ls ≤ 12 → window_number ls ≤ 479001600
unfolding window_number order_number factorial
number_low ls l =
    let e : factorial 12 ≡ 479001600 = refl in
    let below = sum_below_lem (coordinate_in ls) (length ls - 1) (coordinate_low ls (length ls - 1) (omega arith)) in
    omega (arith, e, below, factorial_grows (suc (length ls - 1)) 12 (omega arith))

-- one coordinate more, by Horner's rule
spread : (a b n c f : ℕ) → a + (b * n + c) * f ≡ a + c * f + b * (n * f)
spread a b n c f = omega (arith, add-mul (b * n) c f, mul_assoc b n f)

horner : (x : ℕ → ℕ) (number k : ℕ) → factorial_sum x k + (number * suc (suc k) + x (suc k)) * factorial (suc k) ≡ factorial_sum x (suc k) + number * factorial (suc (suc k))
unfolding factorial_sum factorial
horner x number k = spread (factorial_sum x k) number (suc (suc k)) (x (suc k)) (factorial (suc k))

factorial_one : (i : ℕ) → i ≤ 1 → factorial i ≡ 1
unfolding factorial
factorial_one zero l = refl
factorial_one (suc zero) l = refl
factorial_one (suc (suc i)) l = absurd (omega arith)

-- coordinate 0 is 0, and adds nothing
least : (x : ℕ → ℕ) (number : ℕ) → x 0 ≤ 0 → factorial_sum x 0 + (number * 1 + x 0) * factorial 0 ≡ factorial_sum x 0 + number * factorial 1
unfolding factorial_sum factorial
least x number l = omega (arith, mul-one (number * 1 + x 0), mul-one number, l)

horner_step : (x : ℕ → ℕ) (number i : ℕ) → 0 < i → x 0 ≤ 0
    → factorial_sum x (i - 1 - 1) + (number * i + x (i - 1)) * factorial (i - 1) ≡ factorial_sum x (i - 1) + number * factorial i
horner_step x number zero l z = absurd (omega arith)
horner_step x number (suc zero) l z = least x number z
horner_step x number (suc (suc k)) l z =
    let one : suc (suc k) - 1 ≡ suc k = omega arith in
    let two : suc k - 1 ≡ k = omega arith in
    rw (one, two) (horner x number k)

module _ {ls : List ℕ} {number i : ℕ} (s : Summing ls number i) where
  module _ (l : 0 < i) {v : ℕ} (e : v ≡ coordinate_in ls (i - 1)) where
    next_sum : factorial_sum (coordinate_in ls) (i - 1 - 1) + (number * i + v) * factorial (i - 1) ≡ window_number ls
    next_sum = rw e (horner_step (coordinate_in ls) number i l (coordinate_low ls 0 (omega arith) 0 (omega arith)) ∙ s.sum)

    pub sum_fits : number * i + v ≤ 479001600
    sum_fits = omega (arith, le-mul_of_pos_right (number * i + v) (factorial_pos (i - 1)), next_sum, number_low ls s.small)

    pub step : Summing ls (number * i + v) (i - 1)
    step = record { small = s.small; last = omega (arith, s.last); sum = next_sum }

  pub end : i ≤ 1 → number ≡ window_number ls
  unfolding factorial_sum
  end l =
      let none : i - 1 ≡ 0 = omega arith in
      omega (arith, rw (none, factorial_one i l) at s.sum, mul-one number)

-- two coordinates at a time: i and i + 1, where i + 2 were left
pub record Two (ls : List ℕ) (number i next here : ℕ) : Type 0 where
  pub half : number * (i + 2) + next ≤ 479001600
  pub whole : (number * (i + 2) + next) * (i + 1) + here ≤ 479001600
  pub after : Summing ls ((number * (i + 2) + next) * (i + 1) + here) i

pub two_steps : {ls : List ℕ} {number left i next here : ℕ} → Summing ls number left → left ≡ i + 2 → next ≡ coordinate_in ls (i + 1) → here ≡ coordinate_in ls i
    → Two ls number i next here
two_steps {ls} {number} {left} {i} {next} {here} s e f g =
    let first : Summing ls number (i + 2) = rw e at s in
    let one : i + 2 - 1 ≡ i + 1 = omega arith in
    let none : i + 1 - 1 ≡ i = omega arith in
    let p : next ≡ coordinate_in ls (i + 2 - 1) = rw one f in
    let second : Summing ls (number * (i + 2) + next) (i + 1) = rw one at (step first (omega arith) p) in
    let q : here ≡ coordinate_in ls (i + 1 - 1) = rw none g in
    record { half = sum_fits first (omega arith) p; whole = sum_fits second (omega arith) q; after = rw none at (step second (omega arith) q) }
