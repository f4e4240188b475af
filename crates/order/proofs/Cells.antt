-- Laws of counts and of orders as lists of cell numbers.
-- Assumes nothing.
use Prim.Native.Nat.{ℕ, zero, suc, ◌+◌, ◌-◌, ◌≤◌, ◌<◌}
use native.Mathlib.Nat.{eq-or-lt_of_le, le_of_suc-le-suc, not-suc-le-zero, zero-add}
use native.Mathlib.Decide.{dec_lt, ℕ_discrete}
use native.Mathlib.Omega.{arith}
use mathlib.Core.Path.{◌≡◌, refl, sym, ap, ◌∙◌}
use mathlib.Core.Bool.{Bool, true, false, ◌&&◌, false≢true}
use mathlib.Core.Logic.{◌⊎◌, inl, inr, ⊎_elim}
use mathlib.Core.List.{List, [], ◌∷◌, ◌++◌}
use lib.ListN.{length, drop, get_or}
use lib.Dec.{ltb, eqb}
use borrow.Author.Tests.{lt-ltb, le-ltb, eq-eqb, ne_eqb, eqb-true}
use Rattle.order.specs.Cells.{tally, count_if, count, below, each_once, is_order}

-- ---- a test, by cases

pub lt_cases : (x c : ℕ) → ((x < c) × (ltb x c ≡ true)) ⊎ ((c ≤ x) × (ltb x c ≡ false))
lt_cases x c = elim (dec_lt x c) [ yes h ↦ inl (h, lt-ltb x c h) | no h ↦ inr (omega arith, le-ltb x c (omega arith)) ]

pub eq_cases : (x c : ℕ) → ((x ≡ c) × (eqb c x ≡ true)) ⊎ ((x ≡ c → ⊥) × (eqb c x ≡ false))
eq_cases x c = elim (ℕ_discrete x c) [ yes h ↦ inl (h, eq-eqb c x (sym h)) | no h ↦ inr (h, ne_eqb c x (λ e. h (sym e))) ]

pub tally-lt : (x c : ℕ) → x < c → tally (ltb x c) ≡ 1
tally-lt x c h = ap tally (lt-ltb x c h)

pub tally-ge : (x c : ℕ) → c ≤ x → tally (ltb x c) ≡ 0
tally-ge x c h = ap tally (le-ltb x c h)

pub tally-eq : (x c : ℕ) → x ≡ c → tally (eqb c x) ≡ 1
tally-eq x c h = ap tally (eq-eqb c x (sym h))

pub tally-ne : (x c : ℕ) → (x ≡ c → ⊥) → tally (eqb c x) ≡ 0
tally-ne x c h = ap tally (ne_eqb c x (λ e. h (sym e)))

pub tally-le : (b : Bool) → tally b ≤ 1
tally-le true = omega arith
tally-le false = omega arith

tally-suc : (x c : ℕ) → tally (ltb x (suc c)) ≡ tally (ltb x c) + tally (eqb c x)
tally-suc x c =
    ⊎_elim (λ l. omega (arith, tally-lt x c l.0, tally-lt x (suc c) (omega arith), tally-ne x c (omega arith)))
    (λ g. ⊎_elim (λ e. omega (arith, tally-ge x c g.0, tally-eq x c e.0, tally-lt x (suc c) (omega arith)))
    (λ n. omega (arith, tally-ge x c g.0, tally-ne x c n.0, tally-ge x (suc c) (omega arith)))
    (eq_cases x c))
    (lt_cases x c)

-- ---- counts

-- the cells below c + 1 are those below c, and c
pub below_suc : (c : ℕ) (xs : List ℕ) → below (suc c) xs ≡ below c xs + count c xs
below_suc c [] = refl
below_suc c (x ∷ xs) = omega (arith, tally-suc x c, below_suc c xs)

pub count_if_append : (test : ℕ → Bool) (xs ys : List ℕ) → count_if test (xs ++ ys) ≡ count_if test xs + count_if test ys
count_if_append test [] ys = omega arith
count_if_append test (x ∷ xs) ys = omega (arith, count_if_append test xs ys)

pub count_if_length : (test : ℕ → Bool) (xs : List ℕ) → count_if test xs ≤ length xs
count_if_length test [] = omega arith
count_if_length test (x ∷ xs) = omega (arith, tally-le (test x), count_if_length test xs)

pub below_append : (c : ℕ) (xs ys : List ℕ) → below c (xs ++ ys) ≡ below c xs + below c ys
below_append c xs ys = count_if_append (λ x. ltb x c) xs ys

pub below_le : (c : ℕ) (xs : List ℕ) → below c xs ≤ length xs
below_le c xs = count_if_length (λ x. ltb x c) xs

pub count-drop : (c i : ℕ) (xs : List ℕ) → count c (drop i xs) ≤ count c xs
count-drop c zero xs = omega arith
count-drop c (suc i) [] = omega arith
count-drop c (suc i) (x ∷ xs) = omega (arith, count-drop c i xs)

-- ---- orders

-- what an order's counts come to: of the cells 1 to n, j are not above j, for each j
pub record IsOrder (n : ℕ) (xs : List ℕ) : Type 0 where
  pub size : length xs ≡ n
  pub up_to : (j : ℕ) → j ≤ n → below (suc j) xs ≡ j

pub both : (a b : Bool) → a && b ≡ true → (a ≡ true) × (b ≡ true)
both true b e = (refl, e)
both false b e = (e, absurd (false≢true e))

once : (n : ℕ) (xs : List ℕ) → each_once n xs ≡ true → (c : ℕ) → c < n → count (suc c) xs ≡ 1
unfolding each_once
once zero xs e c h = absurd (not-suc-le-zero h)
once (suc n) xs e c h =
    let t = both (eqb (count (suc n) xs) 1) (each_once n xs) e in
    ⊎_elim (λ (q : c ≡ n). ap (λ (k : ℕ). count (suc k) xs) q ∙ eqb-true (count (suc n) xs) 1 t.0) (once n xs t.1 c)
    (eq-or-lt_of_le (le_of_suc-le-suc h))

each : (n : ℕ) (xs : List ℕ) → ((c : ℕ) → c < n → count (suc c) xs ≡ 1) → each_once n xs ≡ true
unfolding each_once
each zero xs h = refl
each (suc n) xs h = simp (eq-eqb _ _ (h n (omega arith)), each n xs (λ c l. h c (omega arith)))

-- n cells among which each of 1 to n is listed are an order
module _ (n : ℕ) (xs : List ℕ) (size : length xs ≡ n) (listed : (c : ℕ) → c < n → 1 ≤ count (suc c) xs) where
  at_least : (i j : ℕ) → i + j ≤ n → below (suc i) xs + j ≤ below (suc (i + j)) xs
  at_least i zero l = let e : i + 0 ≡ i = omega arith in rw e (omega arith)
  at_least i (suc j) l =
      let e : i + suc j ≡ suc (i + j) = omega arith in
      rw e (omega (arith, at_least i j (omega arith), below_suc (suc (i + j)) xs, listed (i + j) (omega arith)))

  pub each_listed : IsOrder n xs
  each_listed = record {
    size = size;
    up_to = λ j l.
        let e : j + (n - j) ≡ n = omega arith in
        omega (arith, rw zero-add at (at_least 0 j (omega arith)), rw e at (at_least j (n - j) (omega arith)), below_le (suc n) xs);
  }

pub order_true : (n : ℕ) (xs : List ℕ) → is_order n xs ≡ true → IsOrder n xs
unfolding is_order
order_true n xs e =
    let t = both (eqb (length xs) n) (each_once n xs) e in
    each_listed n xs (eqb-true (length xs) n t.0) (λ c l. omega (arith, once n xs t.1 c l))

pub true_order : (n : ℕ) (xs : List ℕ) → IsOrder n xs → is_order n xs ≡ true
unfolding is_order
true_order n xs o =
    simp (eq-eqb _ _ o.size, each n xs (λ c l. omega (arith, below_suc (suc c) xs, o.up_to c (omega arith), o.up_to (suc c) l)))

pub order_count : (n : ℕ) (xs : List ℕ) → IsOrder n xs → (c : ℕ) → c < n → count (suc c) xs ≡ 1
order_count n xs o c l = omega (arith, below_suc (suc c) xs, o.up_to c (omega arith), o.up_to (suc c) l)

below_mono : (c d : ℕ) (xs : List ℕ) → c ≤ d → below c xs ≤ below d xs
below_mono c d [] l = omega arith
below_mono c d (x ∷ xs) l =
    ⊎_elim (λ t. omega (arith, tally-lt x d (omega arith), tally-lt x c t.0, below_mono c d xs l))
    (λ t. omega (arith, tally-ge x c t.0, below_mono c d xs l))
    (lt_cases x c)

-- no cell above n is listed
pub order_past : (n : ℕ) (xs : List ℕ) → IsOrder n xs → (c : ℕ) → n ≤ c → count (suc c) xs ≡ 0
order_past n xs o c l =
    omega (arith, below_suc (suc c) xs, below_le (suc (suc c)) xs, below_mono (suc n) (suc c) xs (omega arith), o.up_to n (omega arith), o.size)

-- an element counts among the cells above it, and among those that are not below it
below_at : (c i : ℕ) (xs : List ℕ) → i < length xs
    → (tally (ltb (get_or xs i 0) c) ≤ below c xs) × (below c xs + 1 ≤ length xs + tally (ltb (get_or xs i 0) c))
below_at c i [] l = absurd (not-suc-le-zero l)
below_at c zero (x ∷ xs) l = (omega arith, omega (arith, below_le c xs))
below_at c (suc i) (x ∷ xs) l = let r = below_at c i xs (le_of_suc-le-suc l) in (omega arith, omega (arith, tally-le (ltb x c)))

pub order_range : (n : ℕ) (xs : List ℕ) → IsOrder n xs → (i : ℕ) → i < n → (1 ≤ get_or xs i 0) × (get_or xs i 0 ≤ n)
order_range n xs o i l = (⊎_elim (λ t. omega (arith, tally-lt (get_or xs i 0) 1 t.0, below_at 1 i xs (omega arith), o.up_to 0 (omega arith))) (λ t. t.0) (lt_cases (get_or xs i 0) 1), ⊎_elim (λ t. omega arith) (λ t. omega (arith, tally-ge (get_or xs i 0) (suc n) t.0, below_at (suc n) i xs (omega (arith, o.size)), o.up_to n (omega arith), o.size)) (lt_cases (get_or xs i 0) (suc n)))
