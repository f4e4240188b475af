-- Numbers and orders of a width determine each other, over any width, and so do the numbers and the orders of windows. How level cells are ordered
-- does not matter here.
-- Assumes nothing.
use Prim.Native.Nat.{ℕ, zero, suc, ◌-◌, ◌*◌, ◌/◌, ◌≤◌, ◌<◌}
use mathlib.Core.Path.{◌≡◌, refl, sym, ap, ap₂, ◌∙◌}
use mathlib.Core.Bool.{true}
use mathlib.Core.Logic.{◌↔◌}
use mathlib.Core.List.{List, [], ◌∷◌}
use native.Mathlib.Nat.{mod-eq_of_lt, div_self, zero-mul}
use native.Mathlib.Omega.{arith}
use lib.ListN.{length, get_or}
use borrow.Author.Tests.{le-leb}
use Rattle.order.specs.Cells.{tabulate, is_order}
use Rattle.order.proofs.Cells.{IsOrder, order_true, true_order, order_range}
use Rattle.order.proofs.Places.{own_place}
use Rattle.order.proofs.Tabulate.{length_tabulate, get_d_tabulate}
use Rattle.coordinates.specs.Coordinates.{coordinate_of, order_from}
use Rattle.coordinates.proofs.RoundTrip.{order_ext, order_back, order_is, coordinate_back}
use Rattle.group.specs.Levels.{level}
use Rattle.group.specs.Record.{all_at_most}
use Rattle.push_up.specs.PushUp.{singles, Shows}
use Rattle.push_up.proofs.Orders.{Falling, falling_shows}
use Rattle.sensing.specs.Sense.{sensed}
use Rattle.sensing.proofs.Sensed.{sensed_order_lem, sensed_back}
use Rattle.window.specs.Ring.{factorial, factorial_sum, order_number, window_order, window_number, window_at, number_at, window_numbers}
use Rattle.window.proofs.Factorials.{sum_below_lem}
use Rattle.window.proofs.Summing.{order_digits}
use Rattle.window.proofs.Numbering.{window_length, window_ring}
use Rattle.window_laws.specs.Numbered.{digit, order_numbered, levels_along}
use Rattle.window_laws.proofs.Digits.{sum_ext, sum_digits, digit_low, sum_of_digits}

-- ---- orders

below : (n : ℕ) (xs : List ℕ) → IsOrder n xs → order_number n xs < factorial n
unfolding order_number factorial_sum factorial
below zero xs o = omega arith
below (suc m) xs o =
    let e : suc m - 1 ≡ m = omega arith in
    rw e (sum_below_lem (coordinate_of xs) m (order_digits (suc m) xs o m (omega arith)))

-- the digits of an order's number are its coordinates
same_digit : (n : ℕ) (xs : List ℕ) → IsOrder n xs → (i : ℕ) → i < n → digit (order_number n xs) i ≡ coordinate_of xs i
unfolding order_number
same_digit zero xs o i l = absurd (omega arith)
same_digit (suc m) xs o zero l =
    omega (arith, digit_low (order_number (suc m) xs) 0 0 (omega arith), order_digits (suc m) xs o 0 (omega arith) 0 (omega arith))
same_digit (suc m) xs o (suc i) l =
    let k = order_number (suc m) xs in
    let e : suc m - 1 ≡ m = omega arith in
    let sum : factorial_sum (digit k) m ≡ factorial_sum (coordinate_of xs) m = sum_of_digits k m ∙ mod-eq_of_lt (below (suc m) xs o) ∙ ap (factorial_sum (coordinate_of xs)) e in
    sum_digits (digit k) (coordinate_of xs) m (digit_low k m) (order_digits (suc m) xs o m (omega arith)) sum (suc i) (omega arith) (omega arith)

back : (n : ℕ) (xs : List ℕ) → IsOrder n xs → order_numbered n (order_number n xs) ≡ xs
unfolding order_numbered
back n xs o = order_ext n (digit (order_number n xs)) (coordinate_of xs) (same_digit n xs o) ∙ order_back n xs o

numbered : (n k : ℕ) → k < factorial n → order_number n (order_numbered n k) ≡ k
unfolding order_number order_numbered factorial_sum factorial
numbered zero k l = omega arith
numbered (suc m) k l =
    let e : suc m - 1 ≡ m = omega arith in
    let low : (i : ℕ) → i < suc m → digit k i ≤ i = λ i h. digit_low k m i (omega arith) in
    rw e
    (sum_ext (coordinate_of (order_from (digit k) (suc m))) (digit k) m (λ i p h. coordinate_back (digit k) (suc m) low i (omega arith))
    ∙ sum_of_digits k m ∙ mod-eq_of_lt l)

numbered_is : (n k : ℕ) → IsOrder n (order_numbered n k)
unfolding order_numbered
numbered_is n k = order_is (digit k) n

-- an order's number is below the factorial and gives the order back; every such number is that of an order, which gives it back
pub orders_numbered : (n : ℕ)
    → ((xs : List ℕ) → is_order n xs ≡ true → (order_number n xs < factorial n) × (order_numbered n (order_number n xs) ≡ xs))
    × ((k : ℕ) → k < factorial n → (is_order n (order_numbered n k) ≡ true) × (order_number n (order_numbered n k) ≡ k))
orders_numbered n = (
  (λ xs o. let t = order_true n xs o in (below n xs t, back n xs t)),
  (λ k l. (true_order n (order_numbered n k) (numbered_is n k), numbered n k l)),
)

-- ---- windows

module _ (ls : List ℕ) where
  pub number_below : window_number ls < factorial (length ls)
  unfolding window_number
  number_below = ((orders_numbered (length ls)).0 (window_order ls) (sensed_order_lem (length ls) ls)).0

  -- the order in which a reading finds a window's cells is the one that has the window's number
  pub number_order : order_numbered (length ls) (window_number ls) ≡ window_order ls
  unfolding window_number
  number_order = ((orders_numbered (length ls)).0 (window_order ls) (sensed_order_lem (length ls) ls)).1

pub number_by_order : (ls ms : List ℕ) → length ls ≡ length ms → (window_number ls ≡ window_number ms) ↔ (window_order ls ≡ window_order ms)
unfolding window_number
number_by_order ls ms l =
    ((λ e. sym (number_order ls) ∙ ap₂ order_numbered l e ∙ number_order ms), (λ e. ap₂ order_number l e))

-- along a ring
pub numbers_below : (ring : List ℕ) (width step k : ℕ) → k < length ring / step → get_or (window_numbers ring width step) k 0 < factorial width
unfolding window_numbers
numbers_below ring width step k l =
    let e = get_d_tabulate {A = ℕ} (length ring / step) (number_at ring width step) k 0 l in
    rw e (rw (window_length ring width (k * step)) at (number_below (window_at ring width (k * step))))

-- ---- every order, and so every number

module _ (n : ℕ) (xs : List ℕ) (o : IsOrder n xs) where
  along_at : (k : ℕ) → k < n → level (levels_along n xs) (get_or xs k 0) ≡ n - suc k
  unfolding levels_along level
  along_at k l =
      let r = order_range n xs o k l in
      let x = get_or xs k 0 in
      let e : suc (x - 1) ≡ x = omega arith in
      get_d_tabulate n _ (x - 1) 0 (omega arith) ∙ rw e (omega (arith, own_place n xs o k l))

  along_shows : Shows 1 (singles xs) (levels_along n xs)
  unfolding Falling
  along_shows =
      falling_shows 1 xs (levels_along n xs)
      (λ i l. let m : suc i < n = omega (arith, o.size) in omega (arith, along_at (suc i) m, along_at i (omega arith)))

all_tabulate : (m n : ℕ) (f : ℕ → ℕ) → ((k : ℕ) → f k ≤ m) → all_at_most m (tabulate n f) ≡ true
unfolding all_at_most
all_tabulate m zero f h = refl
all_tabulate m (suc n) f h = rw (le-leb (f 0) m (h 0)) (all_tabulate m n (λ k. f (suc k)) (λ k. h (suc k)))

module _ (n : ℕ) (xs : List ℕ) where
  pub levels_length : length (levels_along n xs) ≡ n
  unfolding levels_along
  levels_length = length_tabulate n _

  pub levels_low : all_at_most n (levels_along n xs) ≡ true
  unfolding levels_along
  levels_low = all_tabulate n n _ (λ c. omega arith)

  pub order_had : is_order n xs ≡ true → sensed n (levels_along n xs) ≡ xs
  order_had o = sensed_back n xs (levels_along n xs) o (along_shows n xs (order_true n xs o))

module _ (n k : ℕ) (l : k < factorial n) where
  pub number_had : window_number (levels_along n (order_numbered n k)) ≡ k
  unfolding window_number
  number_had =
      let t = (orders_numbered n).1 k l in
      rw (levels_length n (order_numbered n k), order_had n (order_numbered n k) t.0) t.1

  -- by the one window of a ring of n cells
  pub number_found : 1 ≤ n → window_numbers (levels_along n (order_numbered n k)) n n ≡ k ∷ []
  unfolding window_numbers
  number_found p =
      let ls = levels_along n (order_numbered n k) in
      let e = levels_length n (order_numbered n k) in
      let one : length ls / n ≡ 1 = ap (λ (m : ℕ). m / n) e ∙ div_self p in
      let whole : window_at ls n (0 * n) ≡ ls = ap₂ (window_at ls) (sym e) (zero-mul n) ∙ window_ring ls in
      ap (λ (m : ℕ). tabulate m (number_at ls n n)) one ∙ ap (λ (j : ℕ). j ∷ []) (ap window_number whole ∙ number_had)
