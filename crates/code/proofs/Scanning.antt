-- The coordinates of a record, read one after the other from coordinate 1, and those of an order.
-- Assumes nothing.
use mathlib.Core.Path.{◌≡◌, refl, ap}
use mathlib.Core.List.{List, [], ◌∷◌}
use Prim.Native.Nat.{ℕ, zero, suc, ◌+◌, ◌-◌, ◌≤◌, ◌<◌}
use native.Mathlib.Nat.{not-suc-le-zero, le_of_suc-le-suc}
use native.Mathlib.Omega.{arith}
use lib.ListN.{length, get_or, take, drop, drop_of_length-le}
use lib.Seq.{length-take-le, drop-cons, get_or-take}
use Rattle.order.specs.declared.Order.{Order}
use Rattle.order.specs.Cells.{tabulate}
use Rattle.order.specs.Order.{listed}
use Rattle.coordinates.specs.declared.Coordinates.{Coordinates}
use Rattle.coordinates.specs.Coordinates.{coordinate_of, coordinates_to}
use Rattle.coordinates.specs.Conversion.{coordinates_of}

-- at most eleven coordinates, in an array of eleven places
pub record Sized (x : Coordinates) : Type 0 where
  pub size : length x.values ≡ 11
  pub high : x.len ≤ 11

-- the coordinates, without the places past the last
abbrev pub cut : Coordinates → List ℕ
cut x = take x.len x.values

-- the coordinates from i on
abbrev pub from : Coordinates → ℕ → List ℕ
from x i = drop (i - 1) (cut x)

-- coordinate i
abbrev pub at : Coordinates → ℕ → ℕ
at x i = get_or x.values (i - 1) 0

module _ (x : Coordinates) (s : Sized x) where
  pub length_cut : length (cut x) ≡ x.len
  length_cut = length-take-le x.len x.values (omega arith)

  pub from_cons : (i : ℕ) → 1 ≤ i → i ≤ x.len → from x i ≡ at x i ∷ from x (i + 1)
  from_cons i h1 h2 =
      let e : i + 1 - 1 ≡ suc (i - 1) = omega arith in
      let l : i - 1 < length (cut x) = omega (arith, length_cut) in
      rw (e, ← get_or-take x.len x.values (i - 1) 0 (omega arith)) (drop-cons (cut x) (i - 1) 0 l)

  pub from_end : (i : ℕ) → x.len < i → from x i ≡ []
  from_end i h = drop_of_length-le (cut x) {i = i - 1} (omega (arith, length_cut))

-- ---- the record of an order's coordinates

take_tabulate : (m k : ℕ) (f : ℕ → ℕ) → m ≤ k → take m (tabulate k f) ≡ tabulate m f
take_tabulate zero k f l = refl
take_tabulate (suc m) zero f l = absurd (not-suc-le-zero l)
take_tabulate (suc m) (suc k) f l = ap (λ (t : List ℕ). f 0 ∷ t) (take_tabulate m k (λ j. f (suc j)) (le_of_suc-le-suc l))

module _ (o : Order) (low : 1 ≤ o.len) (high : o.len ≤ 12) where
  pub cut_coordinates : cut (coordinates_of o) ≡ coordinates_to (o.len - 1) (listed o)
  unfolding coordinates_of coordinates_to
  cut_coordinates = take_tabulate (o.len - 1) 11 (λ k. coordinate_of (listed o) (suc k)) (omega arith)

  -- the number of cells
  pub cells_of : (coordinates_of o).len + 1 ≡ o.len
  unfolding coordinates_of
  cells_of = omega arith
