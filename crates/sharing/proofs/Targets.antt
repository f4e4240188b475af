-- What rank sizes tell, and that the ranks into which they cut an order are a target of its cells: none is listed twice, and at most n - 1 of them stand above the
-- lowest rank.
-- Assumes nothing.
use Prim.Native.Nat.{ℕ, zero, suc, ◌+◌, ◌-◌, ◌≤◌, ◌<◌}
use mathlib.Core.Path.{◌≡◌, refl, ap}
use mathlib.Core.Logic.{◌≢◌, ◌⊎◌, inl, inr, ⊎_elim}
use mathlib.Core.Bool.{Bool, true, false, ◌&&◌}
use mathlib.Core.List.{List, [], ◌∷◌}
use native.Mathlib.Omega.{arith}
use lib.Dec.{eqb, leb}
use lib.ListN.{length, take, drop, length-take, length-drop}
use borrow.Author.Tests.{eqb-true, leb-true}
use Rattle.order.specs.Cells.{count, below, all_zero}
use Rattle.order.specs.Order.{listed, is_order_of}
use Rattle.order.proofs.Cells.{both, below_suc, below_le, order_true}
use Rattle.order.proofs.Check.{order_parts}
use Rattle.group.specs.Levels.{sum}
use Rattle.push_up.proofs.Minimal.{Each, Off, OffAll, Fresh, Apart}
use Rattle.push_up.proofs.Orders.{TargetOf, order_cells}
use Rattle.push_up.proofs.Pushes.{cells_above}
use Rattle.sharing.specs.declared.Ranked.{Ranked}
use Rattle.sharing.specs.Shared.{sizes_of, each_filled, is_sizes, is_listed, by_number, ranks_of, shared_target}

-- ---- sizes

filled_each : (ss : List ℕ) → each_filled ss ≡ true → Each (λ s. 1 ≤ s) ss
unfolding each_filled
filled_each [] e = tt
filled_each (s ∷ ss) e = let t = both (leb 1 s) (each_filled ss) e in (leb-true 1 s t.0, filled_each ss t.1)

pub record SizesOf (n : ℕ) (t : Ranked) : Type 0 where
  pub few : t.count ≤ 12
  pub filled : Each (λ s. 1 ≤ s) (sizes_of t)
  pub adds : sum (sizes_of t) ≡ n

pub sizes_true : (n : ℕ) (t : Ranked) → is_sizes n t ≡ true → SizesOf n t
unfolding is_sizes
sizes_true n t e =
    let rest = drop t.count t.sizes in
    let a = both (leb t.count 12) (each_filled (sizes_of t) && (eqb (sum (sizes_of t)) n && all_zero rest)) e in
    let b = both (each_filled (sizes_of t)) (eqb (sum (sizes_of t)) n && all_zero rest) a.1 in
    let c = both (eqb (sum (sizes_of t)) n) (all_zero rest) b.1 in
    record { few = leb-true t.count 12 a.0; filled = filled_each (sizes_of t) b.0; adds = eqb-true (sum (sizes_of t)) n c.0 }

-- ---- the cells of a rank

pub listed_count : (c : ℕ) (r : List ℕ) → is_listed c r ≡ true → 1 ≤ count c r
listed_count c r e = leb-true 1 (count c r) e

pub number_none : (r : List ℕ) → by_number 0 r ≡ []
unfolding by_number
number_none r = refl

-- with one cell more, listed or not
module _ (n : ℕ) (r : List ℕ) where
  pub number_in : is_listed (suc n) r ≡ true → by_number (suc n) r ≡ suc n ∷ by_number n r
  unfolding by_number
  number_in e = rw e

  pub number_out : is_listed (suc n) r ≡ false → by_number (suc n) r ≡ by_number n r
  unfolding by_number
  number_out e = rw e

pub listed_or_not : (c : ℕ) (r : List ℕ) → (is_listed c r ≡ true) ⊎ (is_listed c r ≡ false)
listed_or_not c r = go (is_listed c r) refl
  where
    go : (b : Bool) → is_listed c r ≡ b → (is_listed c r ≡ true) ⊎ (is_listed c r ≡ false)
    go true e = inl e
    go false e = inr e

-- what holds of every listed cell up to n holds of each
each_number : (P : ℕ → Type 0) (n : ℕ) (r : List ℕ) → ((m : ℕ) → m < n → is_listed (suc m) r ≡ true → P (suc m)) → Each P (by_number n r)
each_number P zero r f = rw (number_none r) tt
each_number P (suc n) r f =
    ⊎_elim (λ e. rw (number_in n r e) (f n (omega arith) e, each_number P n r (λ m l. f m (omega arith))))
    (λ e. rw (number_out n r e) (each_number P n r (λ m l. f m (omega arith)))) (listed_or_not (suc n) r)

number_below : (n : ℕ) (r : List ℕ) → length (by_number n r) ≤ below (suc n) r
number_below zero r = rw (number_none r) (omega arith)
number_below (suc n) r =
    ⊎_elim (λ e. rw (number_in n r e) (omega (arith, number_below n r, below_suc (suc n) r, listed_count (suc n) r e)))
    (λ e. rw (number_out n r e) (omega (arith, number_below n r, below_suc (suc n) r))) (listed_or_not (suc n) r)

pub number_length : (n : ℕ) (r : List ℕ) → length (by_number n r) ≤ length r
number_length n r = omega (arith, number_below n r, below_le (suc n) r)

-- ---- the ranks of a list

pub count_split : (c s : ℕ) (xs : List ℕ) → count c (take s xs) + count c (drop s xs) ≡ count c xs
count_split c zero xs = omega arith
count_split c (suc s) [] = refl
count_split c (suc s) (x ∷ xs) = omega (arith, count_split c s xs)

-- a cell that is not in the list is on no rank
off_number : (d n : ℕ) (r : List ℕ) → 1 ≤ d → count d r ≡ 0 → Off d (by_number n r)
off_number d n r l z =
    each_number (λ c. c - 1 ≢ d - 1) n r
    (λ m k e q.
    let same : suc m ≡ d = omega (arith, q) in
    absurd (omega (arith, listed_count (suc m) r e, ap (λ (c : ℕ). count c r) same, z)))

off_ranks : (d n : ℕ) (ss xs : List ℕ) → 1 ≤ d → count d xs ≡ 0 → OffAll d (ranks_of n ss xs)
unfolding ranks_of
off_ranks d n [] xs l z = tt
off_ranks d n (s ∷ ss) xs l z =
    (off_number d n (take s xs) l (omega (arith, count_split d s xs)), off_ranks d n ss (drop s xs) l (omega (arith, count_split d s xs)))

-- the cells of a rank up to a number, above other ranks that have none of them
number_fresh : (m n : ℕ) (r : List ℕ) (rs : List (List ℕ)) → n ≤ m → ((d : ℕ) → 1 ≤ d → 1 ≤ count d r → OffAll d rs) → Fresh m (by_number n r) rs
number_fresh m zero r rs l f = rw (number_none r) tt
number_fresh m (suc n) r rs l f =
    ⊎_elim
    (λ e.
    rw (number_in n r e) (
      (omega arith, (each_number (λ c. c - 1 ≢ suc n - 1) n r (λ k h e q. absurd (omega (arith, h, q))), f (suc n) (omega arith) (listed_count (suc n) r e))),
      number_fresh m n r rs (omega arith) f,
    ))
    (λ e. rw (number_out n r e) (number_fresh m n r rs (omega arith) f)) (listed_or_not (suc n) r)

-- a list that names no cell twice, and its ranks
module _ (n : ℕ) where
  -- up to a number c of the first one
  pub apart_to : (c s : ℕ) (ss xs : List ℕ) → c ≤ n → ((d : ℕ) → count d xs ≤ 1) → Apart n (ranks_of n ss (drop s xs))
      → Apart n (by_number c (take s xs) ∷ ranks_of n ss (drop s xs))
  unfolding Apart
  apart_to c s ss xs h once a =
      (number_fresh n c (take s xs) _ h (λ d p q. off_ranks d n ss (drop s xs) p (omega (arith, count_split d s xs, once d))), a)

  pub ranks_apart : (ss xs : List ℕ) → ((d : ℕ) → count d xs ≤ 1) → Apart n (ranks_of n ss xs)
  unfolding ranks_of Apart
  ranks_apart [] xs once = tt
  ranks_apart (s ∷ ss) xs once =
      apart_to n s ss xs (omega arith) once (ranks_apart ss (drop s xs) (λ d. omega (arith, count_split d s xs, once d)))

  -- as many cells as are listed, but for one on the lowest rank
  pub ranks_above : (s : ℕ) (ss xs : List ℕ) → Each (λ x. 1 ≤ x) (s ∷ ss) → sum (s ∷ ss) ≤ length xs → cells_above (ranks_of n (s ∷ ss) xs) + 1 ≤ length xs
  unfolding ranks_of sum
  ranks_above s [] xs p l = omega (arith, p.0)
  ranks_above s (t ∷ ss) xs p l =
      omega (arith, ranks_above t ss (drop s xs) p.1 (omega (arith, length-drop s xs)), number_length n (take s xs), length-take s xs, length-drop s xs)

  ranks_few : (ss xs : List ℕ) → Each (λ x. 1 ≤ x) ss → sum ss ≤ length xs → cells_above (ranks_of n ss xs) ≤ length xs - 1
  unfolding ranks_of
  ranks_few [] xs p l = omega arith
  ranks_few (s ∷ ss) xs p l = omega (arith, ranks_above s ss xs p l)

-- ---- a shared target past its checks

pub shared_target_lem : (n : ℕ) (t : Ranked) → is_sizes n t ≡ true → is_order_of n t.cells ≡ true → TargetOf n (shared_target n t)
shared_target_lem n t e f =
    let s = sizes_true n t e in
    let o = order_true n (listed t.cells) (order_parts n t.cells f).1.order in
    record {
      apart = ranks_apart n (sizes_of t) (listed t.cells) (order_cells n (listed t.cells) o).once;
      few = omega (arith, ranks_few n (sizes_of t) (listed t.cells) s.filled (omega (arith, s.adds, o.size)), o.size);
    }
