-- The distance is the least number of neighbour exchanges, over lists of the same cells.
-- Assumes nothing.
use Prim.Native.Nat.{ℕ, zero, suc, ◌+◌, ◌*◌, ◌≤◌, ◌<◌}
use native.Mathlib.Omega.{arith}
use mathlib.Core.Path.{◌≡◌, refl, sym, ap, ap₂, subst, ◌∙◌}
use mathlib.Core.Logic.{◌⊎◌, inl, inr, ⊎_elim}
use mathlib.Core.Bool.{Bool, true, false, cond, true≢false, false≢true}
use mathlib.Core.List.{List, [], ◌∷◌, ◌++◌}
use lib.Dec.{eqb}
use lib.ListN.{length}
use borrow.Author.Tests.{eqb-true, eqb-false, eq-eqb, ne_eqb}
use Rattle.order.specs.Cells.{tally, count_if, count}
use Rattle.order.proofs.Cells.{eq_cases, tally-le, tally-ne}
use Rattle.distance.specs.Distance.{before, opposed, exchange, exchanges}
use Rattle.order.proofs.Cells.{count_if_length}
use Rattle.distance.proofs.Counts.{tally-zero, count_if_le, count_if_away, count_if_none, count_head, Distinct, SameCells, same_rest, distinct_rest, distinct_head}
use Rattle.distance.proofs.Exchange.{Exchanged, here, there, place_of_lem, exchange_cases, exchanged_count, exchanged_length, exchanged_opposed, exchanged_same, exchanged_distinct}

-- ---- which of two cells is met first

pub eqb_sym : (a b : ℕ) → eqb a b ≡ false → eqb b a ≡ false
eqb_sym a b e = ne_eqb b a (λ f. eqb-false a b e (sym f))

-- a cell that is met first is not met second
pub before_asym : (w : List ℕ) (x y : ℕ) → before w y x ≡ true → before w x y ≡ false
before_asym [] x y h = refl
before_asym (a ∷ w) x y h = go (eqb x a) (eqb y a) h (before_asym w x y)
  where
    go : (p q : Bool) → cond p false (cond q true (before w y x)) ≡ true → (before w y x ≡ true → before w x y ≡ false) → cond q false (cond p true (before w x y)) ≡ false
    go true q h rest = absurd (false≢true h)
    go false true h rest = refl
    go false false h rest = rest h

-- where y is not met before x, what is met before x is met before y
before_mono : (w : List ℕ) (x y z : ℕ) → before w y x ≡ false → tally (before w z x) ≤ tally (before w z y)
before_mono [] x y z h = omega arith
before_mono (a ∷ w) x y z h = go (eqb x a) (eqb y a) (eqb z a) h (before_mono w x y z)
  where
    go : (p q r : Bool) → cond p false (cond q true (before w y x)) ≡ false → (before w y x ≡ false → tally (before w z x) ≤ tally (before w z y))
        → tally (cond p false (cond r true (before w z x))) ≤ tally (cond q false (cond r true (before w z y)))
    go true q r h rest = omega arith
    go false true r h rest = absurd (true≢false h)
    go false false true h rest = omega arith
    go false false false h rest = rest h

-- a third cell does not matter
before_drop : (l : List ℕ) (x : ℕ) (r : List ℕ) (y z : ℕ) → eqb x y ≡ false → eqb x z ≡ false → before (l ++ x ∷ r) y z ≡ before (l ++ r) y z
before_drop [] x r y z p q = rw (eqb_sym x y p, eqb_sym x z q)
before_drop (a ∷ l) x r y z p q = ap (λ b. cond (eqb z a) false (cond (eqb y a) true b)) (before_drop l x r y z p q)

-- the first cell of a list is met before any other
before_first : (y : ℕ) (w : List ℕ) (x z : ℕ) → eqb y x ≡ false → tally (eqb y z) ≤ tally (before (y ∷ w) z x)
before_first y w x z h = rw (eqb_sym y x h) (go (eqb y z) refl)
  where
    go : (b : Bool) → eqb y z ≡ b → tally b ≤ tally (cond (eqb z y) true (before w z x))
    go true e = rw (eq-eqb z y (sym (eqb-true y z e))) (omega arith)
    go false e = omega arith

-- ---- the distance

-- a cell that u does not have can be dropped from the other list
pub opposed_drop : (u l r : List ℕ) (x : ℕ) → count x u ≡ 0 → opposed u (l ++ x ∷ r) ≡ opposed u (l ++ r)
opposed_drop [] l r x h = refl
opposed_drop (y ∷ u) l r x h =
    ap₂ ◌+◌
    (count_if_away x (λ z. before (l ++ x ∷ r) z y) (λ z. before (l ++ r) z y) (λ z e. before_drop l x r z y e (tally-zero (eqb x y) (omega arith))) u (omega arith))
    (opposed_drop u l r x (omega arith))

-- a bound, for the widths of the code
pub opposed_small : (u v : List ℕ) → length u ≤ 12 → opposed u v ≤ 12 * length u
opposed_small [] v h = omega arith
opposed_small (x ∷ u) v h = omega (arith, count_if_length (λ y. before v y x) u, opposed_small u v (omega arith))

pub opposed_self : {w : List ℕ} → Distinct w → opposed w w ≡ 0
opposed_self {w = []} d = refl
opposed_self {w = x ∷ w} d =
    omega (arith, count_if_none (λ y. before (x ∷ w) y x) (λ y. rw (eq-eqb x x refl)) w, opposed_drop w [] w x (distinct_head d), opposed_self (distinct_rest d))

-- two lists of the same cells at distance 0 are the same
pub opposed_zero : {u w : List ℕ} → SameCells u w → Distinct u → opposed u w ≡ 0 → u ≡ w
opposed_zero {u = []} {w = []} s d e = refl
opposed_zero {u = []} {w = y ∷ w} s d e = absurd (omega (arith, s.same y, count_head y w))
opposed_zero {u = x ∷ u} {w = []} s d e = absurd (omega (arith, s.same x, count_head x u))
opposed_zero {u = x ∷ u} {w = y ∷ w} s d e = go (eqb y x) refl (λ t f. opposed_zero t (distinct_rest d) f)
  where
    go : (b : Bool) → eqb y x ≡ b → (SameCells u w → opposed u w ≡ 0 → u ≡ w) → x ∷ u ≡ y ∷ w
    go true q rest =
        let p : y ≡ x = eqb-true y x q in
        ap₂ (λ (z : ℕ) (v : List ℕ). z ∷ v) (sym p)
        (rest (same_rest [] w s (ap (λ (z : ℕ). z ∷ w) p)) (omega (arith, opposed_drop u [] w y (omega (arith, distinct_head d, ap (λ (z : ℕ). count z u) p)))))
    go false q rest =
        absurd (omega (arith, s.same y, count_head y w, ap tally q, count_if_le (eqb y) (λ z. before (y ∷ w) z x) (λ z. before_first y w x z q) u))

-- a pair that is listed oppositely is so for some two neighbours
opposed_neighbours : (u w : List ℕ) → 0 < opposed u w → (x : ℕ) × (y : ℕ) × (v : List ℕ) × Exchanged x y u v × (before w y x ≡ true)
opposed_neighbours [] w h = absurd (omega arith)
opposed_neighbours (x ∷ u) w h = go (opposed u w) refl (opposed_neighbours u w)
  where
    Result : List ℕ → Type 0
    Result u = (x : ℕ) × (y : ℕ) × (v : List ℕ) × Exchanged x y u v × (before w y x ≡ true)

    first : (u : List ℕ) → 0 < count_if (λ y. before w y x) u → opposed u w ≡ 0 → Result (x ∷ u)
    first [] h e = absurd (omega arith)
    first (y ∷ u) h e = test (before w y x) refl
      where
        test : (b : Bool) → before w y x ≡ b → Result (x ∷ y ∷ u)
        test true b = (x, y, y ∷ x ∷ u, here u, b)
        test false b = absurd (omega (arith, ap tally b, count_if_le (λ z. before w z x) (λ z. before w z y) (λ z. before_mono w x y z b) u))

    go : (m : ℕ) → opposed u w ≡ m → (0 < opposed u w → Result u) → Result (x ∷ u)
    go zero e rest = first u (omega arith) e
    go (suc m) e rest = let (y, z, v, s, b) = rest (omega arith) in (y, z, x ∷ v, there x s, b)

-- ---- the least number of exchanges

-- one exchange brings u nearer by one at most
exchange_nearer : (k : ℕ) (u w : List ℕ) → opposed u w ≤ suc (opposed (exchange k u) w)
exchange_nearer k u w = ⊎_elim (λ (x, y, s). omega (arith, exchanged_opposed w s, tally-le (before w y x))) (λ e. omega (arith, ap (λ (v : List ℕ). opposed v w) e)) (exchange_cases k u)

exchanges_count : (f : ℕ → Bool) (ks u : List ℕ) → count_if f (exchanges ks u) ≡ count_if f u
exchanges_count f [] u = refl
exchanges_count f (k ∷ ks) u = exchanges_count f ks (exchange k u) ∙ ⊎_elim (λ (x, y, s). sym (exchanged_count f s)) (λ e. ap (count_if f) e) (exchange_cases k u)

-- no fewer exchanges lead from u to where they lead
pub least : {u : List ℕ} → Distinct u → (ks : List ℕ) → opposed u (exchanges ks u) ≤ length ks
least {u} d ks = go ks u refl
  where
    w : List ℕ
    w = exchanges ks u

    go : (js v : List ℕ) → exchanges js v ≡ w → opposed v w ≤ length js
    go [] v e = omega (arith, ap (λ (v : List ℕ). opposed v w) e, opposed_self {w = w} (record { once = λ c. omega (arith, exchanges_count (eqb c) ks u, d.once c) }))
    go (j ∷ js) v e = omega (arith, exchange_nearer j v w, go js (exchange j v) e)

-- one exchange of neighbours that w lists oppositely
nearer : {u w : List ℕ} {m : ℕ} → opposed u w ≡ suc m → (x : ℕ) × (y : ℕ) × (v : List ℕ) × Exchanged x y u v × (opposed v w ≡ m)
nearer {u} {w} e =
    let (x, y, v, t, b) = opposed_neighbours u w (omega arith) in
    (x, y, v, t, omega (arith, exchanged_opposed w t, ap tally b, ap tally (before_asym w x y b)))

-- each of ks is a place from 1 to n - 1
abbrev pub Places : ℕ → List ℕ → Type 0
Places n ks = (k : ℕ) → 0 < count k ks → (1 ≤ k) × (k < n)

places_more : (n j : ℕ) (ks : List ℕ) → suc j < n → Places n ks → Places n (suc j ∷ ks)
places_more n j ks h p k l =
    ⊎_elim (λ (t : (suc j ≡ k) × (eqb k (suc j) ≡ true)). (omega arith, omega arith))
    (λ t. p k (omega (arith, tally-ne (suc j) k t.0)))
    (eq_cases (suc j) k)

-- and as many exchanges as the distance lead to any list of the same cells
pub reached : {u w : List ℕ} → SameCells u w → Distinct u
    → (ks : List ℕ) × (length ks ≡ opposed u w) × (exchanges ks u ≡ w) × Places (length u) ks
reached {u} {w} s d = go (opposed u w) s d refl refl
  where
    n : ℕ
    n = length u

    go : (m : ℕ) {v : List ℕ} → SameCells v w → Distinct v → opposed v w ≡ m → length v ≡ n
        → (ks : List ℕ) × (length ks ≡ m) × (exchanges ks v ≡ w) × Places n ks
    go zero s d e q = ([], refl, opposed_zero s d e, λ k l. absurd (omega arith))
    go (suc m) s d e q =
        let (x, y, v, t, f) = nearer e in
        let (k, h, _, _, p) = place_of_lem t in
        let (ks, l, g, a) = go m (exchanged_same t s) (exchanged_distinct t d) f (sym (exchanged_length t) ∙ q) in
        (suc k ∷ ks, ap suc l, ap (exchanges ks) (sym p) ∙ g, places_more n k ks (omega arith) a)

-- at distance 1 at most: the list itself, or one exchange
pub within_one : {u w : List ℕ} → SameCells u w → Distinct u → opposed u w ≤ 1 → (u ≡ w) ⊎ ((x : ℕ) × (y : ℕ) × Exchanged x y u w)
within_one {u} {w} s d h = go (opposed u w) refl h
  where
    go : (m : ℕ) → opposed u w ≡ m → m ≤ 1 → (u ≡ w) ⊎ ((x : ℕ) × (y : ℕ) × Exchanged x y u w)
    go zero e h = inl (opposed_zero s d e)
    go (suc m) e h =
        let (x, y, v, t, f) = nearer e in
        inr (x, y, subst (λ (v : List ℕ). Exchanged x y u v) (opposed_zero (exchanged_same t s) (exchanged_distinct t d) (omega arith)) t)
