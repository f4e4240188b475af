-- The check that a record is an order.
-- Assumes nothing.
use Prim.Native.Nat.{ℕ, ◌≤◌, ◌<◌}
use native.Mathlib.Omega.{arith}
use mathlib.Core.Path.{◌≡◌, refl, sym, ap, ◌∙◌}
use mathlib.Core.Bool.{Bool, true, false, ◌&&◌, and-true, and-false}
use mathlib.Core.List.{List}
use lib.ListN.{get_or, take, drop}
use lib.Seq.{get_or-take}
use lib.Dec.{eqb}
use borrow.Author.Tests.{eq-eqb, ne_eqb, eqb-true}
use Rattle.order.specs.declared.Order.{Order}
use Rattle.order.specs.Refusals.{is_size}
use Rattle.order.specs.Cells.{is_order, all_zero, is_listing}
use Rattle.order.specs.Steps.{is_padded}
use Rattle.order.specs.Order.{cell_numbers, is_order_of}
use Rattle.order.proofs.Cells.{IsOrder, order_true, order_range, both}
use Rattle.order.proofs.Spare.{padded_zeros, small_padded}

-- ---- what a listing tells, and when there is one

pub record Listing (n len : ℕ) (xs : List ℕ) : Type 0 where
  pub long : len ≡ n
  pub order : is_order n (take len xs) ≡ true
  pub clear : all_zero (drop len xs) ≡ true

pub listing_parts : (xs : List ℕ) (len n : ℕ) → is_listing n len xs ≡ true → Listing n len xs
unfolding is_listing
listing_parts xs len n e =
    let t = both (eqb len n) (is_order n (take len xs) && all_zero (drop len xs)) e in
    let u = both (is_order n (take len xs)) (all_zero (drop len xs)) t.1 in
    record { long = eqb-true len n t.0; order = u.0; clear = u.1 }

module _ (xs : List ℕ) (len n : ℕ) (e : len ≡ n) where
  pub by_listed : is_order len (take len xs) ≡ true → all_zero (drop len xs) ≡ is_listing n len xs
  unfolding is_listing
  by_listed t = rw (eq-eqb len n e, ap (λ (k : ℕ). is_order k (take len xs)) (sym e) ∙ t)

  pub not_listed : is_order len (take len xs) ≡ false → false ≡ is_listing n len xs
  unfolding is_listing
  not_listed t = rw (eq-eqb len n e, ap (λ (k : ℕ). is_order k (take len xs)) (sym e) ∙ t)

  -- where the numbers are padded, and where they are not
  pub by_padded : is_padded len xs ≡ true → is_order len (take len xs) ≡ is_listing n len xs
  unfolding is_listing
  by_padded p = rw (eq-eqb len n e, padded_zeros len xs p, and-true, e) refl

  pub not_padded : len ≤ 12 → is_padded len xs ≡ false → false ≡ is_listing n len xs
  not_padded s p = go (is_listing n len xs) refl
    where
      low : IsOrder n (take len xs) → (k : ℕ) → k < len → get_or xs k 0 ≤ 15
      low o k l = omega (arith, order_range n (take len xs) o k (omega arith), get_or-take len xs k 0 l)

      go : (b : Bool) → is_listing n len xs ≡ b → false ≡ b
      go true q =
          let t = listing_parts xs len n q in
          sym p ∙ small_padded len xs (low (order_true n (take len xs) t.order)) t.clear
      go false q = refl

-- ---- an order of n cells: n is a size, and the record is a listing of the cells

module _ (n : ℕ) (o : Order) where
  pub order_parts : is_order_of n o ≡ true → (is_size n ≡ true) × Listing n o.len (cell_numbers o)
  unfolding is_order_of
  order_parts e =
      let t = both (is_size n) (is_listing n o.len (cell_numbers o)) e in
      (t.0, listing_parts (cell_numbers o) o.len n t.1)

  pub sized_listing : is_size n ≡ true → is_listing n o.len (cell_numbers o) ≡ is_order_of n o
  unfolding is_order_of
  sized_listing s = rw s

  pub not_size : is_size n ≡ false → false ≡ is_order_of n o
  unfolding is_order_of
  not_size s = rw s

  pub other_length : (o.len ≡ n → ⊥) → false ≡ is_order_of n o
  unfolding is_order_of is_listing
  other_length h = rw (ne_eqb o.len n h, and-false)
