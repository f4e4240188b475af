-- Places in a list, and the inverse of an order: the place of each cell.
-- Assumes nothing.
use Prim.Native.Nat.{ℕ, zero, suc, ◌+◌, ◌-◌, ◌≤◌, ◌<◌}
use native.Mathlib.Nat.{not-suc-le-zero, le_of_suc-le-suc}
use native.Mathlib.Omega.{arith}
use mathlib.Core.Path.{◌≡◌, refl, sym, ap, ◌∙◌}
use mathlib.Core.Bool.{false}
use mathlib.Core.Logic.{⊎_elim}
use mathlib.Core.List.{List, [], ◌∷◌}
use lib.ListN.{length, get_or}
use lib.Seq.{ext_get_or}
use lib.Dec.{eqb}
use borrow.Author.Tests.{eq-eqb}
use Rattle.order.specs.Cells.{count, place_from, place_of, tabulate}
use Rattle.order.proofs.Cells.{IsOrder, each_listed, order_count, order_past, order_range, lt_cases, eq_cases, tally-eq, tally-ne}
use Rattle.order.proofs.Tabulate.{length_tabulate, get_d_tabulate}

-- ---- places

-- a number that is not listed has place 0
place_none : (p c : ℕ) (xs : List ℕ) → count c xs ≡ 0 → place_from p xs c ≡ 0
unfolding place_from
place_none p c [] z = refl
place_none p c (x ∷ xs) z =
    ⊎_elim (λ t. absurd (omega (arith, tally-eq x c t.0))) (λ t. rw t.1 (place_none (suc p) c xs (omega arith))) (eq_cases x c)

-- one that is listed stands at its place
pub record Stands (p c : ℕ) (xs : List ℕ) : Type 0 where
  pub index : ℕ
  pub inside : index < length xs
  pub place : place_from p xs c ≡ p + index
  pub there : get_or xs index 0 ≡ c

pub stands : (p c : ℕ) (xs : List ℕ) → 1 ≤ count c xs → Stands p c xs
unfolding place_from
stands p c [] l = absurd (not-suc-le-zero l)
stands p c (x ∷ xs) l =
    ⊎_elim (λ t. record { index = 0; inside = omega arith; place = rw t.1 (omega arith); there = t.0 })
    (λ t. more t.1 (stands (suc p) c xs (omega (arith, tally-ne x c t.0))))
    (eq_cases x c)
  where
    more : eqb c x ≡ false → Stands (suc p) c xs → Stands p c (x ∷ xs)
    more e s = record { index = suc s.index; inside = omega (arith, s.inside); place = rw e (s.place ∙ omega arith); there = s.there }

-- what stands in a list is listed
pub count_at : (i : ℕ) (xs : List ℕ) → i < length xs → 1 ≤ count (get_or xs i 0) xs
count_at i [] l = absurd (not-suc-le-zero l)
count_at zero (x ∷ xs) l = omega (arith, tally-eq x x refl)
count_at (suc i) (x ∷ xs) l = omega (arith, count_at i xs (le_of_suc-le-suc l))

-- an element that is listed once stands at its own place
place_at : (p i : ℕ) (xs : List ℕ) → i < length xs → count (get_or xs i 0) xs ≡ 1 → place_from p xs (get_or xs i 0) ≡ p + i
unfolding place_from
place_at p i [] l o = absurd (not-suc-le-zero l)
place_at p zero (x ∷ xs) l o = rw (eq-eqb x x refl) (omega arith)
place_at p (suc i) (x ∷ xs) l o =
    ⊎_elim
    (λ t. absurd (omega (arith, tally-eq x (get_or xs i 0) t.0, count_at i xs (le_of_suc-le-suc l))))
    (λ t. rw t.1 (place_at (suc p) i xs (le_of_suc-le-suc l) (omega (arith, tally-ne x (get_or xs i 0) t.0)) ∙ omega arith))
    (eq_cases x (get_or xs i 0))

-- ---- the inverse

-- the places of 1 to m
unfoldable pub inverse_to : ℕ → List ℕ → List ℕ
inverse_to m xs = tabulate m (λ k. place_of xs (suc k))

pub length_inverse : (n : ℕ) (xs : List ℕ) → length (inverse_to n xs) ≡ n
unfolding inverse_to
length_inverse n xs = length_tabulate n (λ k. place_of xs (suc k))

pub inverse_at : (n : ℕ) (xs : List ℕ) (k : ℕ) → k < n → get_or (inverse_to n xs) k 0 ≡ place_of xs (suc k)
unfolding inverse_to
inverse_at n xs k l = get_d_tabulate n (λ k. place_of xs (suc k)) k 0 l

count_tabulate : (n : ℕ) (f : ℕ → ℕ) (v : ℕ) (k : ℕ) → k < n → f k ≡ v → 1 ≤ count v (tabulate n f)
count_tabulate zero f v k l e = absurd (not-suc-le-zero l)
count_tabulate (suc n) f v zero l e = omega (arith, tally-eq (f 0) v e)
count_tabulate (suc n) f v (suc k) l e = omega (arith, count_tabulate n (λ j. f (suc j)) v k (le_of_suc-le-suc l) e)

module _ (n : ℕ) (xs : List ℕ) (o : IsOrder n xs) where
  -- the place of the number at i is i + 1
  pub own_place : (i : ℕ) → i < n → place_of xs (get_or xs i 0) ≡ suc i
  unfolding place_of
  own_place i l =
      let r = order_range n xs o i l in
      let e : suc (get_or xs i 0 - 1) ≡ get_or xs i 0 = omega arith in
      place_at 1 i xs (omega (arith, o.size)) (rw e at (order_count n xs o (get_or xs i 0 - 1) (omega arith))) ∙ omega arith

  -- a number above n has no place
  pub place_past : (k : ℕ) → n ≤ k → place_of xs (suc k) ≡ 0
  unfolding place_of
  place_past k l = place_none 1 (suc k) xs (order_past n xs o k l)

  -- a number of 1 to n stands at its place
  pub cell_stands : (c : ℕ) → 1 ≤ c → c ≤ n → Stands 1 c xs
  cell_stands c low high =
      let e : suc (c - 1) ≡ c = omega arith in
      stands 1 c xs (omega (arith, rw e at (order_count n xs o (c - 1) (omega arith))))

  -- no place is above n
  pub rank_high : (k : ℕ) → place_of xs (suc k) ≤ n
  unfolding place_of
  rank_high k =
      ⊎_elim (λ t. let s = cell_stands (suc k) (omega arith) t.0 in omega (arith, s.place, s.inside, o.size))
      (λ t. omega (arith, place_past k t.0))
      (lt_cases k n)

  pub inverse_order : IsOrder n (inverse_to n xs)
  unfolding inverse_to
  inverse_order =
      each_listed n (inverse_to n xs) (length_tabulate n (λ k. place_of xs (suc k)))
      (λ c l.
      let r = order_range n xs o c l in
      let e : suc (get_or xs c 0 - 1) ≡ get_or xs c 0 = omega arith in
      count_tabulate n (λ k. place_of xs (suc k)) (suc c) (get_or xs c 0 - 1) (omega arith) (rw e (own_place c l)))

-- a list whose inverse is an order is one
pub order_inverse : (n : ℕ) (xs : List ℕ) → length xs ≡ n → IsOrder n (inverse_to n xs) → IsOrder n xs
unfolding inverse_to place_of
order_inverse n xs s o = each_listed n xs s listed
  where
    listed : (c : ℕ) → c < n → 1 ≤ count (suc c) xs
    listed c l =
        ⊎_elim
        (λ t. omega (arith, (order_range n (inverse_to n xs) o c l).0, get_d_tabulate n (λ k. place_from 1 xs (suc k)) c 0 l, place_none 1 (suc c) xs (omega arith)))
        (λ t. t.0)
        (lt_cases (count (suc c) xs) 1)

-- the inverse of the inverse is the order
pub inverse_inverse : (n : ℕ) (xs : List ℕ) → IsOrder n xs → inverse_to n (inverse_to n xs) ≡ xs
inverse_inverse n xs o =
    ext_get_or 0 (inverse_to n (inverse_to n xs)) xs (long (inverse_to n xs) ∙ sym o.size)
    (λ j l. at j (omega (arith, long (inverse_to n xs))))
  where
    long : (ys : List ℕ) → length (inverse_to n ys) ≡ n
    long ys = length_inverse n ys

    at : (j : ℕ) → j < n → get_or (inverse_to n (inverse_to n xs)) j 0 ≡ get_or xs j 0
    at j l =
        let r = order_range n xs o j l in
        let e : suc (get_or xs j 0 - 1) ≡ get_or xs j 0 = omega arith in
        let v : get_or (inverse_to n xs) (get_or xs j 0 - 1) 0 ≡ suc j = inverse_at n xs (get_or xs j 0 - 1) (omega arith) ∙ rw e (own_place n xs o j l) in
        inverse_at n (inverse_to n xs) j l ∙ ap (place_of (inverse_to n xs)) (sym v) ∙ own_place n (inverse_to n xs) (inverse_order n xs o) (get_or xs j 0 - 1) (omega arith) ∙ e
