-- Laws of counts over lists, and lists of the same cells.
-- Assumes nothing.
use Prim.Native.Nat.{ℕ, zero, suc, ◌+◌, ◌-◌, ◌≤◌, ◌<◌}
use native.Mathlib.Omega.{arith}
use mathlib.Core.Path.{◌≡◌, refl, sym, ap, ap₂, ◌∙◌}
use mathlib.Core.Logic.{⊎_elim}
use mathlib.Core.Bool.{Bool, true, false}
use mathlib.Core.List.{List, [], ◌∷◌, ◌++◌}
use lib.Dec.{eqb}
use lib.ListN.{length, take, drop}
use lib.Seq.{split_at}
use borrow.Author.Tests.{ne_eqb}
use Rattle.order.specs.Cells.{tally, count_if, count, place_from, place_of}
use Rattle.order.proofs.Places.{stands}
use Rattle.order.proofs.Cells.{tally-eq, lt_cases, count_if_append, IsOrder, below_suc, order_count, order_past}

pub tally-zero : (b : Bool) → tally b ≡ 0 → b ≡ false
tally-zero true e = absurd (omega arith)
tally-zero false e = refl

-- an element in the middle is counted apart
pub count_if_split : (f : ℕ → Bool) (l : List ℕ) (x : ℕ) (r : List ℕ) → count_if f (l ++ x ∷ r) ≡ tally (f x) + count_if f (l ++ r)
count_if_split f l x r = omega (arith, count_if_append f l (x ∷ r), count_if_append f l r)

pub count_if_le : (f g : ℕ → Bool) → ((y : ℕ) → tally (f y) ≤ tally (g y)) → (u : List ℕ) → count_if f u ≤ count_if g u
count_if_le f g h [] = omega arith
count_if_le f g h (x ∷ u) = omega (arith, h x, count_if_le f g h u)

pub count_if_all : (u : List ℕ) → count_if (λ y. true) u ≡ length u
count_if_all [] = refl
count_if_all (x ∷ u) = omega (arith, count_if_all u)

pub count_if_none : (f : ℕ → Bool) → ((y : ℕ) → f y ≡ false) → (u : List ℕ) → count_if f u ≡ 0
count_if_none f h [] = refl
count_if_none f h (x ∷ u) = omega (arith, ap tally (h x), count_if_none f h u)

-- a cell counts itself
pub count_head : (x : ℕ) (u : List ℕ) → count x (x ∷ u) ≡ suc (count x u)
count_head x u = omega (arith, tally-eq x x refl)

-- only the tests of the cells of a list count
count_if_in : (f g : ℕ → Bool) (u : List ℕ) → ((y : ℕ) → 0 < count y u → f y ≡ g y) → count_if f u ≡ count_if g u
count_if_in f g [] h = refl
count_if_in f g (x ∷ u) h =
    ap₂ (λ (b : Bool) (n : ℕ). tally b + n) (h x (omega (arith, count_head x u))) (count_if_in f g u (λ y l. h y (omega arith)))

-- so on a list without a the test of a does not
pub count_if_away : (a : ℕ) (f g : ℕ → Bool) → ((y : ℕ) → eqb a y ≡ false → f y ≡ g y) → (u : List ℕ) → count a u ≡ 0 → count_if f u ≡ count_if g u
count_if_away a f g h u e = count_if_in f g u (λ y l. h y (ne_eqb a y (λ p. omega (arith, ap (λ (c : ℕ). count c u) p))))

-- ---- the place of a cell

-- a cell that stands in the list v splits it at its place p
pub record Placed (x : ℕ) (v : List ℕ) (p : ℕ) : Type 0 where
  pub first : 1 ≤ p
  pub last : p ≤ length v
  pub split : v ≡ take (p - 1) v ++ x ∷ drop p v

pub placed : (x : ℕ) (v : List ℕ) → 0 < count x v → Placed x v (place_of v x)
unfolding place_of
placed x v h =
    let s = stands 1 x v h in
    let e : place_from 1 v x ≡ suc s.index = omega (arith, s.place) in
    let d : suc s.index - 1 ≡ s.index = omega arith in
    rw e
    (record {
      first = omega arith;
      last = s.inside;
      split = rw d (split_at v s.index 0 s.inside ∙ ap (λ (y : ℕ). take s.index v ++ y ∷ drop (suc s.index) v) s.there);
    })

-- ---- lists of the same cells

-- no cell stands twice
pub record Distinct (u : List ℕ) : Type 0 where
  pub once : (c : ℕ) → count c u ≤ 1

-- the same cells, each as often
pub record SameCells (u v : List ℕ) : Type 0 where
  pub same : (c : ℕ) → count c u ≡ count c v

-- the same cells, once one of them is taken from both
pub same_rest : {x : ℕ} {u v : List ℕ} (l r : List ℕ) → SameCells (x ∷ u) v → v ≡ l ++ x ∷ r → SameCells u (l ++ r)
same_rest {x} l r s e = record { same = λ c. omega (arith, s.same c, ap (count c) e, count_if_split (eqb c) l x r) }

-- what counts over one list counts over any with the same cells
pub same_count : (f : ℕ → Bool) {u v : List ℕ} → SameCells u v → count_if f u ≡ count_if f v
same_count f {u = []} {v = []} s = refl
same_count f {u = []} {v = y ∷ v} s = absurd (omega (arith, s.same y, count_head y v))
same_count f {u = x ∷ u} {v} s =
    let p = place_of v x in
    let e = (placed x v (omega (arith, s.same x, count_head x u))).split in
    let l = take (p - 1) v in
    let r = drop p v in
    omega (arith, ap (count_if f) e, count_if_split f l x r, same_count f {u = u} (same_rest l r s e))

pub same_sym : {u v : List ℕ} → SameCells u v → SameCells v u
same_sym s = record { same = λ c. sym (s.same c) }

pub same_distinct : {u v : List ℕ} → SameCells u v → Distinct u → Distinct v
same_distinct s d = record { once = λ c. omega (arith, s.same c, d.once c) }

pub distinct_rest : {x : ℕ} {u : List ℕ} → Distinct (x ∷ u) → Distinct u
distinct_rest d = record { once = λ c. omega (arith, d.once c) }

-- the first cell of a list without doubles stands nowhere else
pub distinct_head : {x : ℕ} {u : List ℕ} → Distinct (x ∷ u) → count x u ≡ 0
distinct_head {x} {u} d = omega (arith, d.once x, count_head x u)

-- ---- two orders of n cells list the same cells, each once

order_counts : {n : ℕ} {u v : List ℕ} → IsOrder n u → IsOrder n v → (c : ℕ) → (count c u ≡ count c v) × (count c u ≤ 1)
order_counts {n} {u} {v} o k zero =
    let z = o.up_to 0 (omega arith) in
    let w = k.up_to 0 (omega arith) in
    (omega (arith, below_suc 0 u, below_suc 0 v), omega (arith, below_suc 0 u))
order_counts {n} {u} {v} o k (suc c) =
    ⊎_elim (λ t. (order_count n u o c t.0 ∙ sym (order_count n v k c t.0), omega (arith, order_count n u o c t.0)))
    (λ t. (order_past n u o c t.0 ∙ sym (order_past n v k c t.0), omega (arith, order_past n u o c t.0)))
    (lt_cases c n)

pub order_same : {n : ℕ} {u v : List ℕ} → IsOrder n u → IsOrder n v → SameCells u v
order_same o k = record { same = λ c. (order_counts o k c).0 }

pub order_distinct : {n : ℕ} {u : List ℕ} → IsOrder n u → Distinct u
order_distinct o = record { once = λ c. (order_counts o o c).1 }
