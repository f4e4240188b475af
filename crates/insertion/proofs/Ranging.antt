-- The loop that tests whether coordinates are in range.
-- Assumes nothing.
use Prim.Native.Nat.{ℕ, ◌+◌, ◌≤◌, ◌<◌}
use native.Mathlib.Numerals.{add-one}
use native.Mathlib.Omega.{arith}
use mathlib.Core.Path.{◌≡◌, refl}
use mathlib.Core.Bool.{Bool, true, ◌&&◌, and-true, and_assoc}
use lib.ListN.{length, get_or, drop, drop_of_length-le}
use lib.Dec.{leb}
use Rattle.coordinates.specs.declared.Coordinates.{Coordinates}
use Rattle.coordinates.specs.Coordinates.{in_range, limit}
use Rattle.order.proofs.Numbers.{drop_up}

-- `within` says whether the first k coordinates are in range
pub record RangedTo (x : Coordinates) (within : Bool) (k : ℕ) : Type 0 where
  pub whole : length x.values ≡ 11
  pub left : k ≤ 11
  pub same : within && in_range x.len (k + 1) (drop k x.values) ≡ in_range x.len 1 x.values

pub ranged_none : (x : Coordinates) → length x.values ≡ 11 → RangedTo x true 0
ranged_none x w = record { whole = w; left = omega arith; same = refl }

module _ {x : Coordinates} {within : Bool} {k : ℕ} (t : RangedTo x within k) where
  -- v is coordinate k + 1, and m the largest that it can be
  pub ranged_more : k < 11 → {v m : ℕ} → v ≡ get_or x.values k 0 → m ≡ limit x.len (k + 1) → RangedTo x (within && leb v m) (k + 1)
  unfolding in_range
  ranged_more l {v} {m} at top =
      let next : in_range x.len (k + 1) (drop k x.values) ≡ leb v m && in_range x.len (k + 1 + 1) (drop (k + 1) x.values) =
      rw (drop_up x.values k (omega (arith, t.whole)), add-one (k + 1), at, top) in
      record { whole = t.whole; left = omega arith; same = rw (and_assoc, ← next) t.same }

  pub ranged_all : 11 ≤ k → within ≡ in_range x.len 1 x.values
  unfolding in_range
  ranged_all l = rw (drop_of_length-le x.values {i = k} (omega (arith, t.whole)), and-true) at t.same
