-- A neighbour exchange: what it keeps, and what it does to the distance.
-- Assumes nothing.
use Prim.Native.Nat.{ℕ, zero, suc, ◌+◌, ◌<◌}
use native.Mathlib.Omega.{arith}
use mathlib.Core.Path.{◌≡◌, refl, sym, ap, ◌∙◌}
use mathlib.Core.Logic.{◌⊎◌, inl, inr, ⊎_elim}
use mathlib.Core.Bool.{Bool, false}
use mathlib.Core.List.{List, [], ◌∷◌}
use lib.Dec.{eqb, ltb}
use lib.ListN.{length, get_or}
use Rattle.order.specs.Cells.{tally, count_if, count}
use Rattle.order.proofs.Cells.{IsOrder, tally-eq}
use Rattle.distance.specs.Distance.{before, opposed, exchange, exchange_past}
use Rattle.distance.proofs.Counts.{tally-zero, Distinct, SameCells, distinct_head, distinct_rest}

-- v is u with the neighbours x and y exchanged
pub data Exchanged (x y : ℕ) : List ℕ → List ℕ → Type 0 where
  here : (u : List ℕ) → Exchanged x y (x ∷ y ∷ u) (y ∷ x ∷ u)
  there : (z : ℕ) {u v : List ℕ} → Exchanged x y u v → Exchanged x y (z ∷ u) (z ∷ v)

pub back : {x y : ℕ} {u v : List ℕ} → Exchanged x y u v → Exchanged y x v u
back (here u) = here u
back (there z s) = there z (back s)

-- every such exchange is the neighbour exchange at a place from 1 to n - 1
pub place_of_lem : {x y : ℕ} {u v : List ℕ} → Exchanged x y u v
    → (k : ℕ) × (suc k < length u) × (get_or u k 0 ≡ x) × (get_or u (suc k) 0 ≡ y) × (v ≡ exchange (suc k) u)
place_of_lem (here u) = (0, omega arith, refl, refl, refl)
place_of_lem (there z s) = let (k, h, p, q, e) = place_of_lem s in (suc k, omega arith, p, q, ap (λ (w : List ℕ). z ∷ w) e)

-- the exchange at such a place is that of the cells of its rank and the next
pub exchange_at : (k : ℕ) (u : List ℕ) → suc k < length u → Exchanged (get_or u k 0) (get_or u (suc k) 0) u (exchange (suc k) u)
exchange_at k [] h = absurd (omega arith)
exchange_at zero (x ∷ []) h = absurd (omega arith)
exchange_at zero (x ∷ y ∷ u) h = here u
exchange_at (suc k) (z ∷ u) h = there z (exchange_at k u (omega arith))

-- and at any place it is one of neighbours, or changes nothing
pub exchange_cases : (k : ℕ) (u : List ℕ) → ((x : ℕ) × (y : ℕ) × Exchanged x y u (exchange k u)) ⊎ (exchange k u ≡ u)
exchange_cases zero u = inr refl
exchange_cases (suc k) u = past k u
  where
    past : (k : ℕ) (u : List ℕ) → ((x : ℕ) × (y : ℕ) × Exchanged x y u (exchange_past k u)) ⊎ (exchange_past k u ≡ u)
    past zero [] = inr refl
    past zero (x ∷ []) = inr refl
    past zero (x ∷ y ∷ u) = inl (x, y, here u)
    past (suc k) [] = inr refl
    past (suc k) (z ∷ u) = ⊎_elim (λ (x, y, s). inl (x, y, there z s)) (λ e. inr (ap (λ (w : List ℕ). z ∷ w) e)) (past k u)

pub exchanged_count : (f : ℕ → Bool) {x y : ℕ} {u v : List ℕ} → Exchanged x y u v → count_if f u ≡ count_if f v
exchanged_count f (here u) = omega arith
exchanged_count f (there z s) = omega (arith, exchanged_count f s)

pub exchanged_length : {x y : ℕ} {u v : List ℕ} → Exchanged x y u v → length u ≡ length v
exchanged_length (here u) = refl
exchanged_length (there z s) = ap suc (exchanged_length s)

-- so it keeps the cells
pub exchanged_same : {x y : ℕ} {u v w : List ℕ} → Exchanged x y u v → SameCells u w → SameCells v w
exchanged_same t s = record { same = λ c. sym (exchanged_count (eqb c) t) ∙ s.same c }

pub exchanged_distinct : {x y : ℕ} {u v : List ℕ} → Exchanged x y u v → Distinct u → Distinct v
exchanged_distinct t d = record { once = λ c. omega (arith, exchanged_count (eqb c) t, d.once c) }

pub exchanged_order_lem : {n x y : ℕ} {u v : List ℕ} → Exchanged x y u v → IsOrder n u → IsOrder n v
exchanged_order_lem s o = record {
  size = sym (exchanged_length s) ∙ o.size;
  up_to = λ j l. sym (exchanged_count (λ x. ltb x (suc j)) s) ∙ o.up_to j l;
}

-- the distance to any list changes by the one pair that was exchanged
pub exchanged_opposed : (w : List ℕ) {x y : ℕ} {u v : List ℕ} → Exchanged x y u v → opposed u w + tally (before w x y) ≡ opposed v w + tally (before w y x)
exchanged_opposed w (here u) = omega arith
exchanged_opposed w (there z s) = omega (arith, exchanged_opposed w s, exchanged_count (λ y. before w y z) s)

-- a cell that is not in the list is neither of the two
pub exchanged_away : (c : ℕ) {x y : ℕ} {u v : List ℕ} → Exchanged x y u v → count c u ≡ 0 → (eqb c x ≡ false) × (eqb c y ≡ false)
exchanged_away c {x} {y} (here u) e = (tally-zero (eqb c x) (omega arith), tally-zero (eqb c y) (omega arith))
exchanged_away c (there z s) e = exchanged_away c s (omega arith)

-- in a list without doubles the two differ
pub exchanged_apart : {x y : ℕ} {u v : List ℕ} → Exchanged x y u v → Distinct u → x ≡ y → ⊥
exchanged_apart {x} {y} (here u) d e = omega (arith, distinct_head d, tally-eq y x (sym e))
exchanged_apart (there z s) d e = exchanged_apart s (distinct_rest d) e
