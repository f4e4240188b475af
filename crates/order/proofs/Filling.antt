-- The loop that puts a list of cell numbers into the twelve places of an order's record.
-- Assumes nothing.
use Prim.Native.Nat.{ℕ, zero, suc, ◌+◌, ◌≤◌, ◌<◌}
use native.Mathlib.Numerals.{add-one}
use native.Mathlib.Omega.{arith}
use mathlib.Core.Path.{◌≡◌, refl, ap}
use mathlib.Core.List.{List, [], ◌∷◌}
use lib.ListN.{length, get_or, take, set, replicate}
use lib.Seq.{get_or-take, take_all}
use Rattle.order.specs.declared.Cell.{Cell}
use Rattle.order.specs.Cells.{tabulate}
use Rattle.order.specs.Order.{order_record}
use Rattle.order.proofs.Tabulate.{tabulate_set}

-- one number more changes one place
take_other : (i j : ℕ) (xs : List ℕ) → (j ≡ i → ⊥) → get_or (take i xs) j 0 ≡ get_or (take (suc i) xs) j 0
take_other zero zero xs h = absurd (h refl)
take_other zero (suc j) [] h = refl
take_other zero (suc j) (x ∷ xs) h = refl
take_other (suc i) j [] h = refl
take_other (suc i) zero (x ∷ xs) h = refl
take_other (suc i) (suc j) (x ∷ xs) h = take_other i j xs (λ e. h (ap suc e))

places_of : List ℕ → ℕ → Cell
places_of xs k = record { 0 = get_or xs k 0 }

-- the first i numbers are in place
pub record Filled (xs : List ℕ) (held : List Cell) (i : ℕ) : Type 0 where
  pub left : i ≤ length xs
  pub sofar : held ≡ tabulate 12 (λ k. record { 0 = get_or (take i xs) k 0 })

pub filled_none : (xs : List ℕ) → Filled xs (replicate 12 (record { 0 = 0 })) 0
filled_none xs = record { left = omega arith; sofar = refl }

module _ {xs : List ℕ} {held : List Cell} {i : ℕ} (f : Filled xs held i) where
  pub filled_more : i < length xs → {k : ℕ} → k ≡ i → Filled xs (set held i (record { 0 = get_or xs k 0 })) (i + 1)
  unfolding places_of
  filled_more l e = record {
    left = omega arith;
    sofar =
        rw (e, f.sofar, add-one i, ← get_or-take (suc i) xs i 0 (omega arith))
        (tabulate_set 12 (places_of (take i xs)) (places_of (take (suc i) xs)) i
        (λ j q. ap (λ (n : ℕ). record { 0 = n }) (take_other i j xs q)));
  }

  pub filled_all : length xs ≤ i → record { len = length xs; cells = held } ≡ order_record xs
  unfolding order_record
  filled_all l =
      let e : take i xs ≡ xs = take_all i xs l in
      rw (f.sofar, e)
