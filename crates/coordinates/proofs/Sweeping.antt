-- What a sweep holds, place by place: zeros at first, with each place the coordinate of the cell met there and its term, and after all places the
-- coordinates of the order and their weighted sum.
-- Assumes nothing.
use Prim.Native.Nat.{ℕ, zero, suc, ◌+◌, ◌-◌, ◌*◌, ◌≤◌, ◌<◌}
use native.Mathlib.Omega.{arith}
use mathlib.Core.Path.{◌≡◌, refl, sym, ap, ◌∙◌}
use mathlib.Core.Bool.{true, cond}
use mathlib.Core.Logic.{⊎_elim, ◌↔◌}
use mathlib.Core.List.{List, ◌∷◌, ◌++◌}
use lib.Dec.{ltb, eqb}
use lib.ListN.{length, get_or, take, drop, set, replicate, take-append-drop, length-drop}
use lib.Seq.{get_or-drop}
use borrow.Author.Tests.{lt-ltb, le-ltb, ltb-true}
use Rattle.order.specs.declared.Order.{Order}
use Rattle.order.specs.Refusals.{number_of, if_done, Told, answer}
use Rattle.order.specs.Cells.{count, below, place_of, tabulate}
use Rattle.order.specs.Order.{listed, order_checks}
use Rattle.order.proofs.Cells.{IsOrder, order_count, order_range, count_if_append, tally-eq, lt_cases}
use Rattle.order.proofs.Numbers.{drop_up}
use Rattle.order.proofs.Places.{stands, count_at, own_place, place_past, cell_stands, rank_high}
use Rattle.order.proofs.Tabulate.{tabulate_ext, tabulate_set}
use Rattle.order.proofs.Records.{passed, passed_order}
use Rattle.coordinates.specs.declared.Coordinates.{Coordinates}
use Rattle.coordinates.specs.declared.Sweep.{Sweep}
use Rattle.coordinates.specs.Coordinates.{after, coordinate_of, coordinates_to, weight}
use Rattle.coordinates.specs.Conversion.{coordinates_of, no_coordinates, coordinates_of_order}
use Rattle.coordinates.specs.Sweep.{is_met, met_coordinate, met_to, sweep_of, no_sweep, sweep_of_order}
use Rattle.coordinates.proofs.RoundTrip.{after_cell, coordinate_past}
use Rattle.coordinates.proofs.WeightedSum.{weight_more, weight_past}

zeros : (m : ℕ) → tabulate m (λ k. 0) ≡ replicate {A = ℕ} m 0
zeros zero = refl
zeros (suc m) = ap (λ (t : List ℕ). 0 ∷ t) (zeros m)

-- a sweep goes by the number of places that it leaves out
pub met_left_out : (m j k : ℕ) (xs : List ℕ) → length xs - j ≡ length xs - k → met_to m j xs ≡ met_to m k xs
unfolding met_to met_coordinate
met_left_out m j k xs e = ap (λ (p : ℕ). tabulate m (λ i. cond (ltb p (place_of xs (suc (suc i)))) (coordinate_of xs (suc i)) 0)) e

module _ {n : ℕ} {u : List ℕ} (o : IsOrder n u) where
  -- ---- the cell at an index has as its coordinate the number of lower cells that stand after it

  module _ (p : ℕ) (l : p < n) where
    abbrev here : ℕ
    here = get_or u p 0

    parts : take p u ++ here ∷ drop (p + 1) u ≡ u
    parts = ap (λ (r : List ℕ). take p u ++ r) (sym (drop_up u p (omega (arith, o.size)))) ∙ take-append-drop p u

    first : count here (take p u) ≡ 0
    first =
        let r = order_range n u o p l in
        let e : suc (here - 1) ≡ here = omega arith in
        let once : count here u ≡ 1 = rw e at (order_count n u o (here - 1) (omega arith)) in
        omega (arith, ap (count here) parts, count_if_append (eqb here) (take p u) (here ∷ drop (p + 1) u), tally-eq here here refl)

    pub coordinate_place : coordinate_of u (here - 1) ≡ below here (drop (p + 1) u)
    unfolding coordinate_of
    coordinate_place =
        let e : suc (here - 1) ≡ here = omega (arith, order_range n u o p l) in
        rw e (ap (λ (r : List ℕ). below here (after here r)) (sym parts) ∙ ap (below here) (after_cell here (take p u) (drop (p + 1) u) first))

  -- ---- the cells met after k places are those listed in the last k

  pub met_listed : (k i : ℕ) → (is_met k u (suc i) ≡ true) ↔ (1 ≤ count (suc i) (drop (n - k) u))
  unfolding place_of
  met_listed k i = (listed_there, stands_there)
    where
      rest : length (drop (n - k) u) ≡ n - (n - k)
      rest = length-drop (n - k) u ∙ ap (λ (m : ℕ). m - (n - k)) o.size

      listed_there : is_met k u (suc i) ≡ true → 1 ≤ count (suc i) (drop (n - k) u)
      listed_there t =
          let far = ltb-true (length u - k) (place_of u (suc i)) t in
          ⊎_elim
          (λ h.
          let s = cell_stands n u o (suc i) (omega arith) h.0 in
          let j = s.index - (n - k) in
          let e : n - k + j ≡ s.index = omega (arith, far, s.place, o.size) in
          let same : get_or (drop (n - k) u) j 0 ≡ suc i = get_or-drop (n - k) u j 0 ∙ rw e s.there in
          rw same at (count_at j (drop (n - k) u) (omega (arith, rest, s.inside, o.size, far, s.place))))
          (λ h. absurd (omega (arith, far, place_past n u o i h.0)))
          (lt_cases i n)

      stands_there : 1 ≤ count (suc i) (drop (n - k) u) → is_met k u (suc i) ≡ true
      stands_there l =
          let s = stands 1 (suc i) (drop (n - k) u) l in
          let there : get_or u (n - k + s.index) 0 ≡ suc i = sym (get_or-drop (n - k) u s.index 0) ∙ s.there in
          let place : place_of u (suc i) ≡ suc (n - k + s.index) = rw there at (own_place n u o (n - k + s.index) (omega (arith, rest, s.inside))) in
          lt-ltb (length u - k) (place_of u (suc i)) (omega (arith, place, o.size))

  -- ---- no place

  pub met_none : (m : ℕ) → met_to m 0 u ≡ replicate m 0
  unfolding met_to met_coordinate
  met_none m = tabulate_ext m _ (λ j. 0) (λ j l. rw (le-ltb (length u - 0) (place_of u (suc (suc j))) (omega (arith, o.size, rank_high n u o (suc j))))) ∙ zeros m

  -- ---- one place more, the next above the last k

  module _ (k : ℕ) (l : k < n) where
    abbrev next : ℕ
    next = get_or u (n - suc k) 0

    next_place : place_of u next ≡ n - k
    next_place = own_place n u o (n - suc k) (omega arith) ∙ omega arith

    next_low : suc (next - 1) ≡ next
    next_low = omega (arith, order_range n u o (n - suc k) (omega arith))

    -- its cell was not met before
    old_value : met_coordinate k u (next - 1) ≡ 0
    unfolding met_coordinate
    old_value = rw (next_low, le-ltb (length u - k) (place_of u next) (omega (arith, o.size, next_place)))

    -- it is now
    new_value : met_coordinate (suc k) u (next - 1) ≡ coordinate_of u (next - 1)
    unfolding met_coordinate
    new_value = rw (next_low, lt-ltb (length u - suc k) (place_of u next) (omega (arith, o.size, next_place)))

    -- and no other
    next_is : (i : ℕ) → place_of u (suc i) ≡ n - k → suc i ≡ next
    unfolding place_of
    next_is i e =
        ⊎_elim
        (λ t.
        let s = cell_stands n u o (suc i) (omega arith) t.0 in
        let q : s.index ≡ n - suc k = omega (arith, s.place, e) in
        sym (rw q at s.there))
        (λ t. absurd (omega (arith, e, place_past n u o i t.0)))
        (lt_cases i n)

    same_value : (i : ℕ) → (suc i ≡ next → ⊥) → met_coordinate (suc k) u i ≡ met_coordinate k u i
    unfolding met_coordinate
    same_value i h =
        let p = place_of u (suc i) in
        let apart : p ≡ n - k → ⊥ = λ e. h (next_is i e) in
        ⊎_elim (λ t. rw (t.1, lt-ltb (length u - k) p (omega (arith, o.size)))) (λ t. rw (t.1, le-ltb (length u - k) p (omega (arith, o.size))))
        (lt_cases (length u - suc k) p)

    pub met_step : (m : ℕ) → cond (ltb next 2) (met_to m k u) (set (met_to m k u) (next - 2) (coordinate_of u (next - 1))) ≡ met_to m (suc k) u
    unfolding met_to
    met_step m =
        ⊎_elim
        (λ t. rw t.1 (tabulate_ext m _ _ (λ j g. sym (same_value (suc j) (omega arith)))))
        (λ t.
        let e : suc (next - 2) ≡ next - 1 = omega arith in
        let v : met_coordinate (suc k) u (suc (next - 2)) ≡ coordinate_of u (next - 1) = rw e new_value in
        rw (t.1, ← v) (tabulate_set m _ (λ j. met_coordinate (suc k) u (suc j)) (next - 2) (λ j q. sym (same_value (suc j) (omega arith)))))
        (lt_cases next 2)

    pub sum_step : (m : ℕ) → next ≤ suc m → weight 1 (met_to m (suc k) u) ≡ weight 1 (met_to m k u) + (next - 1) * coordinate_of u (next - 1)
    unfolding met_to
    sum_step m h =
        ⊎_elim
        (λ (t : (next < 2) × (ltb next 2 ≡ true)).
        let none : next - 1 ≡ 0 = omega (arith, t.0) in
        let same : met_to m (suc k) u ≡ met_to m k u = tabulate_ext m _ _ (λ j g. same_value (suc j) (omega arith)) in
        rw none (omega (arith, ap (weight 1) same)))
        (λ t.
        let e : suc (next - 2) ≡ next - 1 = omega arith in
        let number : 1 + (next - 2) ≡ next - 1 = omega arith in
        rw number at
        (weight_more m 1 (next - 2) (coordinate_of u (next - 1)) (λ j. met_coordinate k u (suc j)) (λ j. met_coordinate (suc k) u (suc j)) (omega arith)
        (rw e (omega (arith, new_value, old_value))) (λ j q. same_value (suc j) (omega arith))))
        (lt_cases next 2)

  -- ---- all places

  module _ (k : ℕ) (l : n ≤ k) where
    all_value : (i : ℕ) → met_coordinate k u i ≡ coordinate_of u i
    unfolding met_coordinate place_of
    all_value i =
        ⊎_elim
        (λ t. let s = cell_stands n u o (suc i) (omega arith) t.0 in rw (lt-ltb (length u - k) (place_of u (suc i)) (omega (arith, o.size, s.place))))
        (λ t. rw (le-ltb (length u - k) (place_of u (suc i)) (omega (arith, place_past n u o i t.0)), coordinate_past n u o i t.0))
        (lt_cases i n)

    pub met_all : (m : ℕ) → met_to m k u ≡ coordinates_to m u
    unfolding met_to coordinates_to
    met_all m = tabulate_ext m _ _ (λ j g. all_value (suc j))

-- ---- over the records

module _ (o : Order) (d : number_of (order_checks o) ≡ 0) where
  -- no place is swept: zeros
  pub sweep_none : sweep_of o 0 ≡ record { coordinates = record { len = o.len - 1; values = replicate 11 0 }; sum = 0 }
  unfolding sweep_of weight
  sweep_none = rw (met_none (passed_order o d) 11)

  -- one place more: the coordinate of the cell c there is put in, but for cell 1, and its term added
  pub sweep_step : (k : ℕ) → k < o.len →
      let c = get_or (listed o) (o.len - suc k) 0 in
      let x = coordinate_of (listed o) (c - 1) in
      let before = sweep_of o k in
      sweep_of o (suc k) ≡ record {
        coordinates = record { len = o.len - 1; values = cond (ltb c 2) before.coordinates.values (set before.coordinates.values (c - 2) x) };
        sum = before.sum + (c - 1) * x;
      }
  unfolding sweep_of
  sweep_step k l =
      let u = passed_order o d in
      let range = order_range o.len (listed o) u (o.len - suc k) (omega arith) in
      let values = sym (met_step u k l 11) in
      let sum = sum_step u k l 11 (omega (arith, (passed o d).1)) in
      λ i. record { coordinates = record { len = o.len - 1; values = values i }; sum = sum i }

module _ (o : Order) (d : number_of (order_checks o) ≡ 0) (k : ℕ) (l : o.len ≤ k) where
  pub sweep_coordinates : (sweep_of o k).coordinates ≡ coordinates_of o
  unfolding sweep_of coordinates_of
  sweep_coordinates = rw (met_all (passed_order o d) k l 11)

  -- the sum over i from 1 to n - 1 of i times coordinate i
  pub sweep_sum : (sweep_of o k).sum ≡ weight 1 (coordinates_to (o.len - 1) (listed o))
  unfolding sweep_of coordinates_to
  sweep_sum =
      ap (weight 1) (met_all (passed_order o d) k l 11)
      ∙ weight_past (o.len - 1) 11 1 (λ j. coordinate_of (listed o) (suc j)) (omega (arith, (passed o d).1))
      (λ j h. coordinate_past o.len (listed o) (passed_order o d) (suc j) (omega arith))

-- the answer to `coordinates_of` is a part of that of the sweep of all places
abbrev pub coordinates_part : Told Sweep → Told Coordinates
coordinates_part t = record { number = t.number; value = t.value.coordinates }

pub coordinates_part_lem : (o : Order) → coordinates_part (sweep_of_order o o.len) ≡ coordinates_of_order o
unfolding sweep_of_order coordinates_of_order answer
coordinates_part_lem o = go (number_of (order_checks o)) refl
  where
    go : (k : ℕ) → number_of (order_checks o) ≡ k
        → ◌≡◌ {A = Told Coordinates} (coordinates_part (record { number = k; value = if_done k (sweep_of o o.len) no_sweep }))
        (record { number = k; value = if_done k (coordinates_of o) no_coordinates })
    go zero e = rw (sweep_coordinates o e o.len (omega arith))
    go (suc k) e = refl
