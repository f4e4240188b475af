-- The distance by dropping the last cell of one order from both (SD 003, theorem 1).
-- Assumes nothing.
use Prim.Native.Nat.{ℕ, ◌+◌, ◌-◌}
use native.Mathlib.Omega.{arith}
use mathlib.Core.Path.{◌≡◌, refl, ap, ◌∙◌}
use mathlib.Core.Bool.{Bool, true, false}
use mathlib.Core.List.{List, [], ◌∷◌, ◌++◌}
use lib.Dec.{eqb}
use lib.ListN.{length, take, drop, length-drop}
use borrow.Author.Tests.{eq-eqb}
use Rattle.order.specs.Cells.{tally, count_if, count, place_of}
use Rattle.order.proofs.Cells.{tally-eq}
use Rattle.distance.specs.Distance.{before, opposed}
use Rattle.distance.specs.Steps.{without}
use Rattle.order.proofs.Cells.{count_if_append}
use Rattle.distance.proofs.Counts.{tally-zero, count_if_split, count_if_away, count_if_all, Placed, placed, Distinct, SameCells, same_count, distinct_rest, distinct_head}
use Rattle.distance.proofs.Opposed.{eqb_sym, opposed_drop}

-- the pairs of the last cell are apart
opposed_last : (u : List ℕ) (x : ℕ) (v : List ℕ) → opposed (u ++ x ∷ []) v ≡ opposed u v + count_if (before v x) u
opposed_last [] x v = refl
opposed_last (y ∷ u) x v = omega (arith, count_if_append (λ z. before v z y) u (x ∷ []), opposed_last u x v)

-- what stands behind x
behind : (l : List ℕ) (x : ℕ) (r : List ℕ) → Distinct (l ++ x ∷ r) → count_if (before (l ++ x ∷ r) x) (l ++ r) ≡ length r
behind [] x r d = count_if_away x (before (x ∷ r) x) (λ y. true) (λ y e. rw (eqb_sym x y e, eq-eqb x x refl)) r (distinct_head d) ∙ count_if_all r
behind (a ∷ l) x r d =
    let w = l ++ x ∷ r in
    let apart : count a w ≡ tally (eqb a x) + count a (l ++ r) = count_if_split (eqb a) l x r in
    let none : count a w ≡ 0 = distinct_head d in
    let other : eqb x a ≡ false = eqb_sym a x (tally-zero (eqb a x) (omega arith)) in
    let first : before (a ∷ w) x a ≡ false = rw (eq-eqb a a refl) in
    omega (arith, ap tally first, count_if_away a (before (a ∷ w) x) (before w x) (λ y e. rw (eqb_sym a y e, other)) (l ++ r) (omega arith), behind l x r (distinct_rest d))

-- The last cell x of one list is dropped from both, and n - p is added, for its place p in the other.
pub record LastDropped (u : List ℕ) (x : ℕ) (v : List ℕ) (p : ℕ) : Type 0 where
  pub at : Placed x v p
  pub same : SameCells u (without p v)
  pub distinct : Distinct u
  pub sum : opposed (u ++ x ∷ []) v ≡ opposed u (without p v) + (length v - p)

pub last_dropped : {u : List ℕ} {x : ℕ} {v : List ℕ} → SameCells (u ++ x ∷ []) v → Distinct (u ++ x ∷ []) → LastDropped u x v (place_of v x)
last_dropped {u} {x} {v} s d = record { at = at; same = same; distinct = distinct; sum = sum }
  where
    ends : (f : ℕ → Bool) → count_if f (u ++ x ∷ []) ≡ count_if f u + tally (f x)
    ends f = omega (arith, count_if_append f u (x ∷ []))

    at : Placed x v (place_of v x)
    at = placed x v (omega (arith, s.same x, ends (eqb x), tally-eq x x refl))

    l : List ℕ
    l = take (place_of v x - 1) v

    r : List ℕ
    r = drop (place_of v x) v

    split : (f : ℕ → Bool) → count_if f v ≡ tally (f x) + count_if f (l ++ r)
    split f = ap (count_if f) at.split ∙ count_if_split f l x r

    same : SameCells u (l ++ r)
    same = record { same = λ c. omega (arith, s.same c, ends (eqb c), split (eqb c)) }

    distinct : Distinct u
    distinct = record { once = λ c. omega (arith, d.once c, ends (eqb c)) }

    whole : Distinct (l ++ x ∷ r)
    whole = record { once = λ c. omega (arith, d.once c, s.same c, ap (count c) at.split) }

    sum : opposed (u ++ x ∷ []) v ≡ opposed u (l ++ r) + (length v - place_of v x)
    sum =
        ap (opposed (u ++ x ∷ [])) at.split
        ∙ omega (
          arith,
          opposed_last u x (l ++ x ∷ r),
          opposed_drop u l r x (omega (arith, d.once x, ends (eqb x), tally-eq x x refl)),
          same_count (before (l ++ x ∷ r) x) same,
          behind l x r whole,
          length-drop (place_of v x) v,
        )
