-- An order and its coordinates determine each other: over the records and the calls' answers.
-- Assumes nothing.
use Prim.Native.Nat.{ℕ, zero, suc, ◌+◌, ◌-◌, ◌≤◌, ◌<◌}
use native.Mathlib.Omega.{arith}
use mathlib.Core.Path.{◌≡◌, sym, ap, ◌∙◌}
use mathlib.Core.Bool.{true}
use mathlib.Core.Logic.{⊎_elim}
use mathlib.Core.List.{List}
use lib.ListN.{length, get_or}
use lib.Seq.{ext_get_or}
use Rattle.order.specs.declared.Order.{Order}
use Rattle.order.specs.Refusals.{number_of}
use Rattle.order.specs.Order.{listed, order_checks, order_record}
use Rattle.order.proofs.Cells.{true_order, lt_cases}
use Rattle.order.proofs.Tabulate.{get_d_tabulate}
use Rattle.order.proofs.Refusals.{told_done, sized_done, sized_holds, size_in}
use Rattle.order.proofs.Records.{record_listed, record_order, record_back, passed, passed_listed, passed_order}
use Rattle.coordinates.specs.declared.Coordinates.{Coordinates}
use Rattle.coordinates.specs.Coordinates.{coordinate_of, coordinates_to, order_from, in_range}
use Rattle.coordinates.specs.Conversion.{coordinates_of, coordinate_at, order_by_coordinates, coordinate_checks, coordinates_of_order, order_of_coordinates}
use Rattle.coordinates.proofs.Range.{value_low, value_past}
use Rattle.coordinates.proofs.RoundTrip.{coordinate_le, coordinate_past, order_ext, order_back, order_is, coordinate_back, coordinates_in_range}

-- ---- an order that passes its checks

module _ (o : Order) (d : number_of (order_checks o) ≡ 0) where
  -- its coordinates pass theirs
  pub coordinates_pass : number_of (coordinate_checks (coordinates_of o)) ≡ 0
  unfolding coordinates_of
  coordinates_pass =
      sized_holds (o.len - 1 + 1) _ _ (omega (arith, (passed o d).0)) (omega (arith, (passed o d).0, (passed o d).1))
      (coordinates_in_range o.len (listed o) (passed_listed o d) 11)

  held : (i : ℕ) → i < o.len → coordinate_at (coordinates_to 11 (listed o)) i ≡ coordinate_of (listed o) i
  unfolding coordinates_to
  held zero l = omega (arith, coordinate_le o.len (listed o) (passed_order o d) 0 (omega arith))
  held (suc k) l = get_d_tabulate 11 (λ k. coordinate_of (listed o) (suc k)) k 0 (omega (arith, (passed o d).1))

  module _ (w : length o.cells ≡ 12) where
    pub order_by_its_coordinates : order_by_coordinates (coordinates_of o) ≡ o
    unfolding order_by_coordinates coordinates_of
    order_by_its_coordinates =
        let e : o.len - 1 + 1 ≡ o.len = omega (arith, (passed o d).0) in
        let back : order_from (coordinate_at (coordinates_to 11 (listed o))) (o.len - 1 + 1) ≡ listed o =
        rw e (order_ext o.len _ _ held ∙ order_back o.len (listed o) (passed_order o d)) in
        ap order_record back ∙ record_back o d w

    -- an order is the order of its coordinates
    pub order_of_its_coordinates : order_of_coordinates (coordinates_of o) ≡ record { number = 0; value = o }
    unfolding order_of_coordinates
    order_of_its_coordinates =
        sym (told_done _ _ _ coordinates_pass) ∙ ap (λ (v : Order). record { number = 0; value = v }) order_by_its_coordinates

-- ---- coordinates that pass their checks

module _ (x : Coordinates) (d : number_of (coordinate_checks x) ≡ 0) where
  passed_coordinates : (3 ≤ x.len + 1) × (x.len + 1 ≤ 12) × (in_range x.len 1 x.values ≡ true)
  passed_coordinates = sized_done (x.len + 1) _ _ d

  cells : List ℕ
  cells = order_from (coordinate_at x.values) (x.len + 1)

  size : length cells ≡ x.len + 1
  unfolding cells
  size = (order_is (coordinate_at x.values) (x.len + 1)).size

  -- their order passes its own
  pub order_passes : number_of (order_checks (order_by_coordinates x)) ≡ 0
  unfolding order_by_coordinates order_record cells
  order_passes =
      let low : 3 ≤ length cells = omega (arith, size, passed_coordinates.0) in
      let high : length cells ≤ 12 = omega (arith, size, passed_coordinates.1) in
      sized_holds (length cells) _ _ low high
      (record_order cells high (size_in (length cells) low high) ∙ rw size (true_order _ cells (order_is (coordinate_at x.values) (x.len + 1))))

  module _ (w : length x.values ≡ 11) where
    coordinate_low : (i : ℕ) → i < x.len + 1 → coordinate_at x.values i ≤ i
    coordinate_low zero l = omega arith
    coordinate_low (suc k) l = value_low x w passed_coordinates.2 k (omega (arith, passed_coordinates.1)) (omega arith)

    value_at : (k : ℕ) → k < 11 → coordinate_of cells (suc k) ≡ get_or x.values k 0
    unfolding cells
    value_at k l =
        ⊎_elim (λ t. coordinate_back (coordinate_at x.values) (x.len + 1) coordinate_low (suc k) (omega arith))
        (λ t. coordinate_past (x.len + 1) cells (order_is (coordinate_at x.values) (x.len + 1)) (suc k) (omega arith) ∙ sym (value_past x w passed_coordinates.2 k l t.0))
        (lt_cases k x.len)

    values_back : coordinates_to 11 cells ≡ x.values
    unfolding coordinates_to
    values_back =
        ext_get_or 0 (coordinates_to 11 cells) x.values (sym w)
        (λ k l. get_d_tabulate 11 (λ k. coordinate_of cells (suc k)) k 0 l ∙ value_at k l)

    pub coordinates_by_their_order : coordinates_of (order_by_coordinates x) ≡ x
    unfolding coordinates_of order_by_coordinates order_record cells
    coordinates_by_their_order =
        let e : length cells - 1 ≡ x.len = omega (arith, size) in
        let same : listed (order_record cells) ≡ cells = record_listed cells (omega (arith, size, passed_coordinates.1)) in
        λ i. record { len = e i; values = (ap (coordinates_to 11) same ∙ values_back) i }

    -- coordinates are the coordinates of their order
    pub coordinates_of_their_order : coordinates_of_order (order_by_coordinates x) ≡ record { number = 0; value = x }
    unfolding coordinates_of_order
    coordinates_of_their_order =
        sym (told_done _ _ _ order_passes) ∙ ap (λ (v : Coordinates). record { number = 0; value = v }) coordinates_by_their_order
