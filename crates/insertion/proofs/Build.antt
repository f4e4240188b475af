-- The loop that builds the order of given coordinates.
-- Assumes nothing.
use Prim.Native.Nat.{ℕ, zero, suc, ◌+◌, ◌-◌, ◌≤◌, ◌<◌}
use native.Mathlib.Nat.{not-suc-le-zero}
use native.Mathlib.Numerals.{add-one}
use native.Mathlib.Omega.{arith}
use mathlib.Core.Path.{◌≡◌, refl, sym, ap, ◌∙◌}
use mathlib.Core.Bool.{true}
use mathlib.Core.Logic.{⊎_elim}
use mathlib.Core.List.{List}
use lib.ListN.{length, get_or, take, set, replicate, get_or-eq_default}
use lib.Seq.{ext_get_or, get_or-take, length-take-le}
use Rattle.order.specs.declared.Cell.{Cell}
use Rattle.order.specs.Order.{order_record}
use Rattle.order.proofs.Cells.{lt_cases, eq_cases}
use Rattle.order.proofs.Tabulate.{get_d_tabulate}
use Rattle.order.proofs.Numbers.{cell}
use Rattle.coordinates.specs.declared.Coordinates.{Coordinates}
use Rattle.coordinates.specs.Coordinates.{insert_at, order_from, in_range}
use Rattle.coordinates.specs.Conversion.{coordinate_at, order_by_coordinates}
use Rattle.insertion.proofs.Insert.{length_insert, insert_before, insert_here, insert_after, Moved, moved_none}
use Rattle.coordinates.proofs.Range.{value_low}
use Rattle.coordinates.proofs.RoundTrip.{order_is}

-- ---- a cell is put in among cells that leave the last place free

-- the places of a list's record
abbrev pub cells_of : List ℕ → List Cell
cells_of xs = (order_record xs).cells

module _ (at c : ℕ) (xs : List ℕ) (l : at ≤ length xs) (free : length xs < 12) where
  long : length (insert_at at (cell c) (cells_of xs)) ≡ 13
  unfolding order_record
  long = length_insert at (cell c) (cells_of xs)

  cell_at : (k : ℕ) → k < 12 → get_or (insert_at at (cell c) (cells_of xs)) k (cell 0) ≡ cell (get_or (insert_at at c xs) k 0)
  unfolding order_record
  cell_at k g =
      ⊎_elim
      (λ t. insert_before at (cell c) (cells_of xs) k (cell 0) (omega arith) t.0 ∙ get_d_tabulate 12 (λ k. cell (get_or xs k 0)) k (cell 0) g ∙ sym (ap cell (insert_before at c xs k 0 l t.0)))
      (λ t.
      ⊎_elim
      (λ q. rw q.0 (insert_here at (cell c) (cells_of xs) (cell 0) (omega arith) ∙ sym (ap cell (insert_here at c xs 0 l))))
      (λ q. insert_after at (cell c) (cells_of xs) k (cell 0) (omega arith) (omega arith) ∙ get_d_tabulate 12 (λ k. cell (get_or xs k 0)) (k - 1) (cell 0) (omega arith) ∙ sym (ap cell (insert_after at c xs k 0 l (omega arith))))
      (eq_cases k at))
      (lt_cases k at)

  cells_insert : take 12 (insert_at at (record { 0 = c }) (cells_of xs)) ≡ cells_of (insert_at at c xs)
  unfolding order_record
  cells_insert =
      let long12 : length (take 12 (insert_at at (cell c) (cells_of xs))) ≡ 12 = length-take-le 12 (insert_at at (cell c) (cells_of xs)) (omega (arith, long)) in
      ext_get_or (cell 0) (take 12 (insert_at at (cell c) (cells_of xs))) (cells_of (insert_at at c xs)) long12
      (λ k g. get_or-take 12 (insert_at at (cell c) (cells_of xs)) k (cell 0) (omega arith) ∙ cell_at k (omega arith) ∙ sym (get_d_tabulate 12 (λ k. cell (get_or (insert_at at c xs) k 0)) k (cell 0) (omega arith)))

cells_long : (xs : List ℕ) → length (cells_of xs) ≡ 12
unfolding order_record
cells_long xs = refl

-- ---- the loop

-- the cells 1 to i are in place
pub record Built (x : Coordinates) (cells : List Cell) (i : ℕ) : Type 0 where
  pub whole : length x.values ≡ 11
  pub small : x.len ≤ 11
  pub range : in_range x.len 1 x.values ≡ true
  pub low : 1 ≤ i
  pub left : i ≤ x.len + 1
  pub sofar : cells ≡ cells_of (order_from (coordinate_at x.values) i)

pub built_one : (x : Coordinates) → length x.values ≡ 11 → x.len ≤ 11 → in_range x.len 1 x.values ≡ true
    → Built x (set (replicate 12 (record { 0 = 0 })) 0 (record { 0 = 1 })) 1
unfolding order_from order_record
built_one x w s r = record { whole = w; small = s; range = r; low = omega arith; left = omega arith; sofar = refl }

coordinate_at_lem : (values : List ℕ) (i : ℕ) → 1 ≤ i → coordinate_at values i ≡ get_or values (i - 1) 0
coordinate_at_lem values zero l = absurd (not-suc-le-zero l)
coordinate_at_lem values (suc i) l = let e : i ≡ suc i - 1 = omega arith in ap (λ (k : ℕ). get_or values k 0) e

-- the places past them hold no cell
built_clear : {x : Coordinates} {cells : List Cell} {i : ℕ} → Built x cells i → (k : ℕ) → i ≤ k → k < 12 → get_or cells k (cell 0) ≡ cell 0
unfolding order_record
built_clear {x} {cells} {i} b k l g =
    let xs = order_from (coordinate_at x.values) i in
    rw b.sofar
    (get_d_tabulate 12 (λ k. cell (get_or xs k 0)) k (cell 0) g ∙ ap cell (get_or-eq_default xs 0 (omega (arith, (order_is (coordinate_at x.values) i).size))))

pub built_room : {x : Coordinates} {cells : List Cell} {i : ℕ} → Built x cells i → i < x.len + 1 → (at : ℕ) → at ≤ i → Moved (cell 0) at cells cells i
built_room {x} {cells} {i} b l at h =
    moved_none (cell 0) at i cells (rw b.sofar (cells_long (order_from (coordinate_at x.values) i))) h (omega (arith, b.small))
    (λ k g t. built_clear b k (omega arith) t ∙ sym (built_clear b (k - 1) (omega arith) (omega arith)))

module _ {x : Coordinates} {cells : List Cell} {i : ℕ} (b : Built x cells i) (l : i < x.len + 1) {v : ℕ} (at : v ≡ get_or x.values (i - 1) 0) where
  pub coordinate_low : v ≤ i
  coordinate_low =
      omega (arith, value_low x b.whole b.range (i - 1) (omega (arith, b.small)) (omega (arith, b.low)), b.low)

  order_more : insert_at (i - v) (i + 1) (order_from (coordinate_at x.values) i) ≡ order_from (coordinate_at x.values) (i + 1)
  unfolding order_from
  order_more = rw (add-one i, at, ← coordinate_at_lem x.values i b.low)

  pub built_more : Built x (take 12 (insert_at (i - v) (record { 0 = i + 1 }) cells)) (i + 1)
  built_more = record {
    whole = b.whole;
    small = b.small;
    range = b.range;
    low = omega arith;
    left = omega arith;
    sofar =
        rw b.sofar
        (cells_insert (i - v) (i + 1) (order_from (coordinate_at x.values) i) (omega (arith, (order_is (coordinate_at x.values) i).size)) (omega (arith, (order_is (coordinate_at x.values) i).size, b.small)))
        ∙ ap cells_of order_more;
  }

pub built_all : {x : Coordinates} {cells : List Cell} {i : ℕ} → Built x cells i → x.len + 1 ≤ i → record { len = x.len + 1; cells = cells } ≡ order_by_coordinates x
unfolding order_by_coordinates order_record
built_all {x} {cells} {i} b l =
    let e : i ≡ x.len + 1 = omega (arith, b.left) in
    λ k. record { len = sym (order_is (coordinate_at x.values) (x.len + 1)).size k; cells = (rw e at b.sofar) k }
