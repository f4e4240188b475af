-- Lists one exchange apart, and that the distance is the same both ways.
-- Assumes nothing.
use Prim.Native.Nat.{ℕ, zero, suc, ◌≤◌, ◌<◌}
use native.Mathlib.Omega.{arith}
use native.Mathlib.Nat.{le_antisymm}
use mathlib.Core.Path.{◌≡◌, refl, sym, ap, ◌∙◌}
use mathlib.Core.Logic.{⊎_elim, ◌↔◌}
use mathlib.Core.Bool.{true}
use mathlib.Core.List.{List, [], ◌∷◌, ◌++◌}
use lib.Dec.{eqb}
use lib.ListN.{length, length-append}
use borrow.Author.Tests.{eq-eqb}
use Rattle.order.specs.Cells.{tally}
use Rattle.distance.specs.Distance.{before, opposed, exchange, exchange_past, exchanges}
use Rattle.distance.proofs.Counts.{tally-zero, Distinct, SameCells, same_sym, same_distinct, distinct_head, distinct_rest}
use Rattle.distance.proofs.Exchange.{Exchanged, here, there, place_of_lem, exchange_at, exchanged_away, exchanged_opposed, exchanged_distinct}
use Rattle.distance.proofs.Opposed.{eqb_sym, before_asym, opposed_self, within_one, least, reached}

-- ---- distance 1

-- the exchange lists y before x
exchanged_before : {x y : ℕ} {u v : List ℕ} → Exchanged x y u v → Distinct u → before v y x ≡ true
exchanged_before {x} {y} (here u) d =
    let e = distinct_head d in
    rw (tally-zero (eqb x y) (omega arith), eq-eqb y y refl)
exchanged_before {x} {y} (there z s) d =
    let (p, q) = exchanged_away z s (distinct_head d) in
    rw (eqb_sym z x p, eqb_sym z y q) (exchanged_before s (distinct_rest d))

exchanged_one : {x y : ℕ} {u v : List ℕ} → Exchanged x y u v → Distinct u → opposed u v ≡ 1
exchanged_one {x} {y} {u} {v} s d =
    let e = exchanged_before s d in
    omega (arith, exchanged_opposed v s, opposed_self (exchanged_distinct s d), ap tally e, ap tally (before_asym v x y e))

-- two lists of the same cells are at distance 1 exactly where one neighbour exchange leads from one to the other
pub one_apart : {u w : List ℕ} → SameCells u w → Distinct u → (opposed u w ≡ 1) ↔ ((k : ℕ) × (1 ≤ k) × (k < length u) × (w ≡ exchange k u))
one_apart {u} {w} s d = (to, from)
  where
    to : opposed u w ≡ 1 → (k : ℕ) × (1 ≤ k) × (k < length u) × (w ≡ exchange k u)
    to e =
        ⊎_elim (λ f. absurd (omega (arith, ap (λ (v : List ℕ). opposed u v) f, opposed_self d)))
        (λ (x, y, t). let (k, h, _, _, f) = place_of_lem t in (suc k, omega arith, h, f))
        (within_one s d (omega arith))

    from : (k : ℕ) × (1 ≤ k) × (k < length u) × (w ≡ exchange k u) → opposed u w ≡ 1
    from (zero, g, h, e) = absurd (omega arith)
    from (suc k, g, h, e) = ap (opposed u) e ∙ exchanged_one (exchange_at k u h) d

-- ---- both ways

pub exchange_twice : (k : ℕ) (u : List ℕ) → exchange k (exchange k u) ≡ u
exchange_twice zero u = refl
exchange_twice (suc k) u = past k u
  where
    past : (k : ℕ) (u : List ℕ) → exchange_past k (exchange_past k u) ≡ u
    past zero [] = refl
    past zero (x ∷ []) = refl
    past zero (x ∷ y ∷ u) = refl
    past (suc k) [] = refl
    past (suc k) (x ∷ u) = ap (λ (w : List ℕ). x ∷ w) (past k u)

exchanges_append : (ks js u : List ℕ) → exchanges (ks ++ js) u ≡ exchanges js (exchanges ks u)
exchanges_append [] js u = refl
exchanges_append (k ∷ ks) js u = exchanges_append ks js (exchange k u)

-- as many exchanges lead back
way_back : (ks u : List ℕ) → (js : List ℕ) × (length js ≡ length ks) × (exchanges js (exchanges ks u) ≡ u)
way_back [] u = ([], refl, refl)
way_back (k ∷ ks) u =
    let (js, l, e) = way_back ks (exchange k u) in
    (js ++ k ∷ [], omega (arith, length-append js (k ∷ [])), exchanges_append js (k ∷ []) (exchanges ks (exchange k u)) ∙ ap (exchange k) e ∙ exchange_twice k u)

back_no_farther : {u w : List ℕ} → SameCells u w → Distinct u → Distinct w → opposed w u ≤ opposed u w
back_no_farther {u} {w} s d f =
    let (ks, l, e, _) = reached s d in
    let (js, m, g) = way_back ks u in
    omega (arith, least f js, ap (opposed w) (ap (exchanges js) (sym e) ∙ g))

pub opposed_sym : {u w : List ℕ} → SameCells u w → Distinct u → opposed u w ≡ opposed w u
opposed_sym {u} {w} s d =
    let f = same_distinct s d in
    le_antisymm (back_no_farther (same_sym s) f d) (back_no_farther s d f)
