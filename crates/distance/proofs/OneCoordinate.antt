-- One neighbour exchange changes one coordinate by one.
--
--   coordinate_more   where x stands just above a greater y, their exchange makes coordinate y - 1 one more, and changes no other
--   coordinate_less   where x stands just above a lower y, it makes coordinate x - 1 one less, and changes no other
--   one_coordinate    so each exchange in an order, at a place from 1 to n - 1, changes just one coordinate, and by one
-- Assumes nothing.
use Prim.Native.Nat.{ℕ, zero, suc, ◌+◌, ◌-◌, ◌≤◌, ◌<◌}
use native.Mathlib.Omega.{arith}
use mathlib.Core.Path.{◌≡◌, refl, ap}
use mathlib.Core.Logic.{◌⊎◌, inl, inr, ⊎_elim}
use mathlib.Core.Bool.{Bool, true, false, cond, ◌&&◌}
use mathlib.Core.List.{List, ◌∷◌}
use lib.Dec.{eqb, ltb}
use borrow.Author.Tests.{eqb-true, lt-ltb, le-ltb}
use Rattle.order.specs.Cells.{tally, count_if, count, below, is_order}
use Rattle.order.proofs.Cells.{lt_cases, tally-eq, tally-ne, IsOrder, order_true, order_range}
use Rattle.coordinates.specs.Coordinates.{after, coordinate_of}
use Rattle.distance.specs.Distance.{exchange}
use Rattle.distance.proofs.Counts.{Distinct, order_distinct}
use Rattle.distance.proofs.Exchange.{Exchanged, here, there, back, place_of_lem, exchange_at, exchanged_count, exchanged_order_lem, exchanged_away, exchanged_apart}

-- the number of cells below c that stand after c: coordinate i where c is i + 1
below_after : ℕ → List ℕ → ℕ
below_after c u = below c (after c u)

-- one less after x where y is lower, and one more after y where x is lower
exchanged_below : (c : ℕ) {x y : ℕ} {u v : List ℕ} → Exchanged x y u v → count c u ≤ 1
    → below_after c v + tally (eqb c x && ltb y c) ≡ below_after c u + tally (eqb c y && ltb x c)
unfolding below_after
exchanged_below c {x} {y} (here u) h = go (eqb c x) (eqb c y)
  where
    low : ℕ → Bool
    low y = ltb y c

    go : (p q : Bool) → count_if low (cond q (x ∷ u) (cond p u (after c u))) + tally (p && low y) ≡ count_if low (cond p (y ∷ u) (cond q u (after c u))) + tally (q && low x)
    go true true = omega arith
    go true false = omega arith
    go false true = omega arith
    go false false = refl
exchanged_below c {x} {y} (there z {u} {v} s) h = go (eqb c z) refl (λ k. exchanged_below c s k)
  where
    low : ℕ → Bool
    low y = ltb y c

    go : (b : Bool) → eqb c z ≡ b → (count c u ≤ 1 → below_after c v + tally (eqb c x && low y) ≡ below_after c u + tally (eqb c y && low x))
        → count_if low (cond b v (after c v)) + tally (eqb c x && low y) ≡ count_if low (cond b u (after c u)) + tally (eqb c y && low x)
    go true e rest =
        let (p, q) = exchanged_away c s (omega (arith, ap tally e)) in
        omega (arith, exchanged_count low s, ap (λ b. tally (b && low y)) p, ap (λ b. tally (b && low x)) q)
    go false e rest = rest (omega (arith, ap tally e))

not_above : (c x y : ℕ) → x < y → (eqb c x && ltb y c) ≡ false
not_above c x y h = go (eqb c x) refl
  where
    go : (b : Bool) → eqb c x ≡ b → (b && ltb y c) ≡ false
    go true e = le-ltb y c (omega (arith, eqb-true c x e))
    go false e = refl

is_below : (c x y : ℕ) → x < y → (eqb c y && ltb x c) ≡ eqb c y
is_below c x y h = go (eqb c y) refl
  where
    go : (b : Bool) → eqb c y ≡ b → (b && ltb x c) ≡ b
    go true e = lt-ltb x c (omega (arith, eqb-true c y e))
    go false e = refl

-- the exchange of x and a greater y behind it, at every coordinate
pub exchanged_coordinate : {x y : ℕ} {u v : List ℕ} → Exchanged x y u v → Distinct u → x < y → (i : ℕ) → coordinate_of v i ≡ coordinate_of u i + tally (eqb (suc i) y)
unfolding below_after coordinate_of
exchanged_coordinate {x} {y} s d h i =
    omega (arith, exchanged_below (suc i) s (d.once (suc i)), ap tally (not_above (suc i) x y h), ap tally (is_below (suc i) x y h))

-- the coordinates of v are those of u, but for coordinate i, one of 1 to n - 1, which is one more
pub record OneMore (n i : ℕ) (u v : List ℕ) : Type 0 where
  pub first : 1 ≤ i
  pub last : i < n
  pub more : coordinate_of v i ≡ coordinate_of u i + 1
  pub others : (j : ℕ) → (j ≡ i → ⊥) → coordinate_of v j ≡ coordinate_of u j

-- the two that are exchanged are cells of the order
exchanged_cells : {n x y : ℕ} {u v : List ℕ} → Exchanged x y u v → IsOrder n u → (1 ≤ x) × (y ≤ n)
exchanged_cells {n} {u = u} s o =
    let (k, h, p, q, _) = place_of_lem s in
    (omega (arith, order_range n u o k (omega (arith, o.size))), omega (arith, order_range n u o (suc k) (omega (arith, o.size))))

pub coordinate_more : {n x y : ℕ} {u v : List ℕ} → Exchanged x y u v → IsOrder n u → x < y → OneMore n (y - 1) u v
coordinate_more {n} {x} {y} s o h =
    let (g, l) = exchanged_cells s o in
    let at = exchanged_coordinate s (order_distinct o) h in
    record {
      first = omega arith;
      last = omega arith;
      more = omega (arith, at (y - 1), tally-eq y (suc (y - 1)) (omega arith));
      others = λ j e. omega (arith, at j, tally-ne y (suc j) (λ f. e (omega arith)));
    }

pub coordinate_less : {n x y : ℕ} {u v : List ℕ} → Exchanged x y u v → IsOrder n u → y < x → OneMore n (x - 1) v u
coordinate_less s o h = coordinate_more (back s) (exchanged_order_lem s o) h

pub one_coordinate : (n : ℕ) (u : List ℕ) → is_order n u ≡ true → (k : ℕ) → 1 ≤ k → k < n
    → (i : ℕ) × (OneMore n i u (exchange k u) ⊎ OneMore n i (exchange k u) u)
one_coordinate n u p zero g h = absurd (omega arith)
one_coordinate n u p (suc k) g h = found (exchange_at k u (omega (arith, o.size)))
  where
    o : IsOrder n u
    o = order_true n u p

    found : {x y : ℕ} {v : List ℕ} → Exchanged x y u v → (i : ℕ) × (OneMore n i u v ⊎ OneMore n i v u)
    found {x} {y} s =
        ⊎_elim (λ t. (y - 1, inl (coordinate_more s o t.0)))
        (λ t. (x - 1, inr (coordinate_less s o (let f : (x ≡ y → ⊥) = exchanged_apart s (order_distinct o) in omega arith))))
        (lt_cases x y)
