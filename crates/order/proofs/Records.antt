-- A list of cells and its record determine each other.
-- Assumes nothing.
use Prim.Native.Nat.{ℕ, ◌≤◌}
use native.Mathlib.Omega.{arith}
use mathlib.Core.Path.{◌≡◌, refl, ap, ◌∙◌}
use mathlib.Core.Bool.{Bool, true, false, ◌&&◌}
use mathlib.Core.List.{List}
use lib.ListN.{length}
use borrow.Author.Tests.{eq-eqb}
use Rattle.order.specs.declared.Order.{Order}
use Rattle.order.specs.Refusals.{number_of, is_size}
use Rattle.order.specs.Cells.{is_order, is_listing}
use Rattle.order.specs.Order.{cell_numbers, listed, is_order_of, order_checks, order_record}
use Rattle.order.proofs.Cells.{IsOrder, order_true}
use Rattle.order.proofs.Refusals.{sized_done, sized_holds, size_in}
use Rattle.order.proofs.Check.{order_parts}
use Rattle.order.proofs.Padded.{padded, padded_listed, padded_clear, padded_back}
use Rattle.order.proofs.Numbers.{cell, cell_number}

and-true : (b : Bool) → (b && true) ≡ b
and-true true = refl
and-true false = refl

module _ (xs : List ℕ) (s : length xs ≤ 12) where
  pub record_listed : listed (order_record xs) ≡ xs
  unfolding cell_numbers order_record padded
  record_listed = padded_listed cell cell_number (λ k. refl) (λ c. refl) 12 xs s (length xs) refl

  pub record_order : is_size (length xs) ≡ true → is_order_of (length xs) (order_record xs) ≡ is_order (length xs) xs
  unfolding is_order_of is_listing cell_numbers order_record padded
  record_order z =
      rw (z, eq-eqb (length xs) (length xs) refl, record_listed, padded_clear cell cell_number (λ k. refl) (λ c. refl) 12 xs s (length xs) refl)
      (and-true (is_order (length xs) xs))

-- the record of an order of n cells: its length, its list, and that it passes the checks
module _ (n : ℕ) (xs : List ℕ) (t : is_order n xs ≡ true) where
  pub recorded_length : (order_record xs).len ≡ n
  unfolding order_record
  recorded_length = (order_true n xs t).size

  module _ (low : 3 ≤ n) (high : n ≤ 12) where
    short : length xs ≤ 12
    short = omega (arith, (order_true n xs t).size)

    pub recorded_list : listed (order_record xs) ≡ xs
    recorded_list = record_listed xs short

    pub recorded_order : is_order_of n (order_record xs) ≡ true
    recorded_order =
        let size = (order_true n xs t).size in
        let whole : is_order (length xs) xs ≡ true = rw size t in
        rw size at (record_order xs short (size_in (length xs) (omega arith) short) ∙ whole)

    pub recorded_passes : number_of (order_checks (order_record xs)) ≡ 0
    recorded_passes =
        let whole : is_order_of (order_record xs).len (order_record xs) ≡ true = ap (λ (k : ℕ). is_order_of k (order_record xs)) recorded_length ∙ recorded_order in
        sized_holds (order_record xs).len _ _ (omega (arith, recorded_length)) (omega (arith, recorded_length)) whole

-- what an order that passes the checks tells
module _ (o : Order) (d : number_of (order_checks o) ≡ 0) where
  pub passed : (3 ≤ o.len) × (o.len ≤ 12) × (is_order_of o.len o ≡ true)
  passed = sized_done o.len _ _ d

  pub passed_listed : is_order o.len (listed o) ≡ true
  passed_listed = (order_parts o.len o passed.2).1.order

  pub passed_order : IsOrder o.len (listed o)
  passed_order = order_true o.len (listed o) passed_listed

  pub record_back : length o.cells ≡ 12 → order_record (listed o) ≡ o
  unfolding cell_numbers order_record padded
  record_back w =
      λ i. record {
        len = passed_order.size i;
        cells =
            padded_back cell cell_number (λ k. refl) (λ c. refl) o.cells 12 o.len w passed.1
            (order_parts o.len o passed.2).1.clear i;
      }
