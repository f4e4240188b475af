-- Coordinates are in range, and coordinates and order determine each other: over lists of cell numbers.
-- The laws are stated for `IsOrder`; those at the end speak of `is_order`.
-- Assumes nothing.
use Prim.Native.Nat.{ℕ, zero, suc, ◌+◌, ◌-◌, ◌≤◌, ◌<◌}
use native.Mathlib.Nat.{not-suc-le-zero, le_of_suc-le-suc, eq-or-lt_of_le}
use native.Mathlib.Omega.{arith}
use mathlib.Core.Path.{◌≡◌, refl, sym, ap, ap₂, subst, ◌∙◌}
use mathlib.Core.Bool.{true}
use mathlib.Core.Logic.{⊎_elim}
use mathlib.Core.List.{List, [], ◌∷◌, ◌++◌}
use lib.ListN.{length, take, drop, length-append, length-drop, take-append-drop, drop_of_length-le}
use lib.Dec.{eqb}
use lib.Seq.{take_at, drop_at}
use borrow.Author.Tests.{eq-eqb, ne_eqb, le-leb, lt-leb}
use Rattle.order.specs.Cells.{count, below, is_order}
use Rattle.order.proofs.Cells.{IsOrder, order_true, true_order, order_count, order_past, lt_cases, eq_cases, tally-lt, tally-ge, tally-eq, tally-ne, below_suc, below_append, below_le, count_if_append}
use Rattle.order.proofs.Tabulate.{length_tabulate, get_d_tabulate}
use Rattle.coordinates.specs.Coordinates.{after, coordinate_of, coordinates_to, insert_at, order_from, in_range}
use Rattle.coordinates.proofs.Range.{all_in_range}

-- ---- a list around a cell

-- a cell that is listed parts the list, and is not in the first part
record Parted (c : ℕ) (xs : List ℕ) : Type 0 where
  front : List ℕ
  back : List ℕ
  whole : xs ≡ front ++ c ∷ back
  first : count c front ≡ 0

parted : (c : ℕ) (xs : List ℕ) → 1 ≤ count c xs → Parted c xs
parted c [] l = absurd (not-suc-le-zero l)
parted c (x ∷ xs) l =
    ⊎_elim
    (λ t. record { front = []; back = xs; whole = ap (λ (k : ℕ). k ∷ xs) t.0; first = refl })
    (λ t. more t.0 (parted c xs (omega (arith, tally-ne x c t.0))))
    (eq_cases x c)
  where
    more : (x ≡ c → ⊥) → Parted c xs → Parted c (x ∷ xs)
    more n p = record { front = x ∷ p.front; back = p.back; whole = ap (λ (r : List ℕ). x ∷ r) p.whole; first = omega (arith, tally-ne x c n, p.first) }

pub after_cell : (c : ℕ) (a b : List ℕ) → count c a ≡ 0 → after c (a ++ c ∷ b) ≡ b
after_cell c [] b z = rw (eq-eqb c c refl)
after_cell c (x ∷ a) b z =
    ⊎_elim (λ t. absurd (omega (arith, tally-eq x c t.0))) (λ t. rw t.1 (after_cell c a b (omega arith))) (eq_cases x c)

-- a higher cell changes no coordinate
below_skip : (c h : ℕ) (a b : List ℕ) → c ≤ h → below c (a ++ h ∷ b) ≡ below c (a ++ b)
below_skip c h a b l = omega (arith, below_append c a (h ∷ b), below_append c a b, tally-ge h c l)

below_after_skip : (c h : ℕ) (a b : List ℕ) → c < h → below c (after c (a ++ h ∷ b)) ≡ below c (after c (a ++ b))
below_after_skip c h [] b l = rw (ne_eqb c h (omega arith))
below_after_skip c h (x ∷ a) b l =
    ⊎_elim (λ t. rw t.1 (below_skip c h a b (omega arith))) (λ t. rw t.1 (below_after_skip c h a b l)) (eq_cases x c)

-- ---- the highest cell

module _ (n : ℕ) (a b : List ℕ) (o : IsOrder n (a ++ b)) where
  -- it has all that stand behind it after it
  pub coordinate_top : count (suc n) a ≡ 0 → coordinate_of (a ++ suc n ∷ b) n ≡ length b
  unfolding coordinate_of
  coordinate_top z =
      rw (after_cell (suc n) a b z)
      (omega (arith, o.up_to n (omega arith), below_append (suc n) a b, o.size, length-append a b, below_le (suc n) a, below_le (suc n) b))

  pub coordinate_skip : (i : ℕ) → i < n → coordinate_of (a ++ suc n ∷ b) i ≡ coordinate_of (a ++ b) i
  unfolding coordinate_of
  coordinate_skip i l = below_after_skip (suc i) (suc n) a b (omega arith)

  -- it is not among the others
  pub top_free : count (suc n) a ≡ 0
  top_free =
      omega (arith, count_if_append (eqb (suc n)) a b, below_suc (suc n) (a ++ b), o.up_to n (omega arith), below_le (suc (suc n)) (a ++ b), o.size)

  -- with it the list is an order
  pub order_with_lem : IsOrder (suc n) (a ++ suc n ∷ b)
  order_with_lem = record {
    size = omega (arith, length-append a (suc n ∷ b), length-append a b, o.size);
    up_to = λ j l.
        ⊎_elim
        (λ e. rw e (omega (
          arith,
          below_append (suc (suc n)) a (suc n ∷ b),
          below_append (suc (suc n)) a b,
          tally-lt (suc n) (suc (suc n)) (omega arith),
          below_suc (suc n) (a ++ b),
          below_le (suc (suc n)) (a ++ b),
          o.size,
          o.up_to n (omega arith),
        )))
        (λ h. below_skip (suc j) (suc n) a b h ∙ o.up_to j (le_of_suc-le-suc h))
        (eq-or-lt_of_le l);
  }

-- without it the others are an order
pub order_without : (n : ℕ) (a b : List ℕ) → IsOrder (suc n) (a ++ suc n ∷ b) → IsOrder n (a ++ b)
order_without n a b o = record {
  size = omega (arith, length-append a (suc n ∷ b), length-append a b, o.size);
  up_to = λ j l. sym (below_skip (suc j) (suc n) a b (omega arith)) ∙ o.up_to j (omega arith);
}

-- ---- there and back

-- coordinate i is 0 to i
below_after : (c d : ℕ) (xs : List ℕ) → below c (after d xs) ≤ below c xs
below_after c d [] = omega arith
below_after c d (x ∷ xs) = ⊎_elim (λ t. rw t.1 (omega arith)) (λ t. rw t.1 (omega (arith, below_after c d xs))) (eq_cases x d)

pub coordinate_le : (n : ℕ) (xs : List ℕ) → IsOrder n xs → (i : ℕ) → i ≤ n → coordinate_of xs i ≤ i
unfolding coordinate_of
coordinate_le n xs o i l = omega (arith, below_after (suc i) (suc i) xs, o.up_to i l)

-- a cell that is not listed has coordinate 0
pub after_none : (c : ℕ) (xs : List ℕ) → count c xs ≡ 0 → after c xs ≡ []
after_none c [] z = refl
after_none c (x ∷ xs) z = ⊎_elim (λ t. absurd (omega (arith, tally-eq x c t.0))) (λ t. rw t.1 (after_none c xs (omega arith))) (eq_cases x c)

pub coordinate_past : (n : ℕ) (xs : List ℕ) → IsOrder n xs → (i : ℕ) → n ≤ i → coordinate_of xs i ≡ 0
unfolding coordinate_of
coordinate_past n xs o i l = rw (after_none (suc i) xs (order_past n xs o i l))

pub order_ext : (n : ℕ) (x y : ℕ → ℕ) → ((i : ℕ) → i < n → x i ≡ y i) → order_from x n ≡ order_from y n
unfolding order_from
order_ext zero x y h = refl
order_ext (suc n) x y h = rw (h n (omega arith), order_ext n x y (λ i l. h i (omega arith)))

insert_between : (c : ℕ) (a b : List ℕ) (k : ℕ) → length a ≡ k → insert_at k c (a ++ b) ≡ a ++ c ∷ b
insert_between c a b k e = ap₂ (λ (p q : List ℕ). p ++ c ∷ q) (take_at a b k e) (drop_at a b k e)

back_step : (n : ℕ) (a b : List ℕ) → IsOrder (suc n) (a ++ suc n ∷ b) → count (suc n) a ≡ 0
    → (IsOrder n (a ++ b) → order_from (coordinate_of (a ++ b)) n ≡ a ++ b)
    → order_from (coordinate_of (a ++ suc n ∷ b)) (suc n) ≡ a ++ suc n ∷ b
unfolding order_from
back_step n a b o z back =
    let r = order_without n a b o in
    let rest : order_from (coordinate_of (a ++ suc n ∷ b)) n ≡ a ++ b = order_ext n _ _ (coordinate_skip n a b r) ∙ back r in
    rw (coordinate_top n a b r z, rest) (insert_between (suc n) a b (n - length b) (omega (arith, r.size, length-append a b)))

-- an order is the order of its coordinates
pub order_back : (n : ℕ) (xs : List ℕ) → IsOrder n xs → order_from (coordinate_of xs) n ≡ xs
unfolding order_from
order_back zero xs o = sym (drop_of_length-le xs {i = 0} (omega (arith, o.size)))
order_back (suc n) xs o = go (parted (suc n) xs (omega (arith, order_count (suc n) xs o n (omega arith)))) (λ ys r. order_back n ys r)
  where
    go : Parted (suc n) xs → ((ys : List ℕ) → IsOrder n ys → order_from (coordinate_of ys) n ≡ ys) → order_from (coordinate_of xs) (suc n) ≡ xs
    go p back =
        let o' : IsOrder (suc n) (p.front ++ suc n ∷ p.back) = subst (λ (ys : List ℕ). IsOrder (suc n) ys) p.whole o in
        subst (λ (ys : List ℕ). order_from (coordinate_of ys) (suc n) ≡ ys) (sym p.whole) (back_step n p.front p.back o' p.first (back (p.front ++ p.back)))

module _ (x : ℕ → ℕ) where
  -- the order of coordinates is an order
  pub order_is : (n : ℕ) → IsOrder n (order_from x n)
  unfolding order_from
  order_is zero = record { size = refl; up_to = λ j l. omega arith }
  order_is (suc n) =
      order_with_lem n (take (n - x n) (order_from x n)) (drop (n - x n) (order_from x n)) (rw (take-append-drop (n - x n) (order_from x n)) (order_is n))

  -- and has these coordinates
  pub coordinate_back : (n : ℕ) → ((i : ℕ) → i < n → x i ≤ i) → (i : ℕ) → i < n → coordinate_of (order_from x n) i ≡ x i
  unfolding order_from
  coordinate_back zero h i l = absurd (not-suc-le-zero l)
  coordinate_back (suc n) h i l =
      let a = take (n - x n) (order_from x n) in
      let b = drop (n - x n) (order_from x n) in
      let o : IsOrder n (a ++ b) = rw (take-append-drop (n - x n) (order_from x n)) (order_is n) in
      ⊎_elim
      (λ e. rw e (coordinate_top n a b o (top_free n a b o) ∙ omega (arith, length-drop (n - x n) (order_from x n), (order_is n).size, h n (omega arith))))
      (λ g. coordinate_skip n a b o i g ∙ ap (λ (r : List ℕ). coordinate_of r i) (take-append-drop (n - x n) (order_from x n)) ∙ coordinate_back n (λ k m. h k (omega arith)) i g)
      (eq-or-lt_of_le (le_of_suc-le-suc l))

-- ---- in the words of specs/

module _ (n : ℕ) (xs : List ℕ) (t : is_order n xs ≡ true) where
  pub coordinates_low : (i : ℕ) → i ≤ n → coordinate_of xs i ≤ i
  coordinates_low = coordinate_le n xs (order_true n xs t)

  pub coordinates_in_range : (m : ℕ) → in_range (n - 1) 1 (coordinates_to m xs) ≡ true
  unfolding coordinates_to
  coordinates_in_range m =
      all_in_range (n - 1) 1 (coordinates_to m xs)
      (λ k l. rw (get_d_tabulate m (λ k. coordinate_of xs (suc k)) k 0 (omega (arith, length_tabulate m (λ k. coordinate_of xs (suc k)))))
      (⊎_elim
      (λ t. rw (le-leb (1 + k) (n - 1) (omega arith)) (omega (arith, coordinates_low (suc k) (omega arith))))
      (λ g. rw (lt-leb (1 + k) (n - 1) (omega arith)) (omega (arith, coordinate_past n xs (order_true n xs t) (suc k) (omega arith))))
      (lt_cases k (n - 1))))

  pub order_of_coordinates_lem : order_from (coordinate_of xs) n ≡ xs
  order_of_coordinates_lem = order_back n xs (order_true n xs t)

pub order_of_any : (x : ℕ → ℕ) (n : ℕ) → is_order n (order_from x n) ≡ true
order_of_any x n = true_order n (order_from x n) (order_is x n)
