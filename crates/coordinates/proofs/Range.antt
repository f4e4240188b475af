-- The check that coordinates are in range, and what it tells.
-- Assumes nothing.
use Prim.Native.Nat.{ℕ, zero, suc, ◌+◌, ◌≤◌, ◌<◌}
use native.Mathlib.Nat.{not-suc-le-zero, le_of_suc-le-suc, le_refl, add-zero}
use native.Mathlib.Omega.{arith}
use mathlib.Core.Path.{◌≡◌, refl}
use mathlib.Core.Bool.{Bool, true, false, cond}
use mathlib.Core.List.{List, [], ◌∷◌}
use lib.ListN.{length, get_or}
use lib.Dec.{leb}
use borrow.Author.Tests.{le-leb, lt-leb, leb-true}
use Rattle.coordinates.specs.declared.Coordinates.{Coordinates}
use Rattle.coordinates.specs.Coordinates.{in_range, limit}
use Rattle.order.proofs.Cells.{both}

pub limit_low : (m i : ℕ) → limit m i ≤ i
limit_low m i = go (leb i m)
  where
    go : (b : Bool) → cond b i 0 ≤ i
    go true = le_refl i
    go false = omega arith

pub range_at : (m i k : ℕ) (xs : List ℕ) → in_range m i xs ≡ true → k < length xs → get_or xs k 0 ≤ limit m (i + k)
unfolding in_range
range_at m i k [] e l = absurd (not-suc-le-zero l)
range_at m i zero (x ∷ xs) e l = rw add-zero (leb-true x (limit m i) (both (leb x (limit m i)) (in_range m (suc i) xs) e).0)
range_at m i (suc k) (x ∷ xs) e l =
    let next : i + suc k ≡ suc i + k = omega arith in
    rw next (range_at m (suc i) k xs (both (leb x (limit m i)) (in_range m (suc i) xs) e).1 (le_of_suc-le-suc l))

module _ (x : Coordinates) (w : length x.values ≡ 11) (r : in_range x.len 1 x.values ≡ true) (k : ℕ) (l : k < 11) where
  pub value_low : k < x.len → get_or x.values k 0 ≤ suc k
  value_low h = omega (arith, rw (le-leb (1 + k) x.len (omega arith)) at (range_at x.len 1 k x.values r (omega arith)))

  pub value_past : x.len ≤ k → get_or x.values k 0 ≡ 0
  value_past h = omega (arith, rw (lt-leb (1 + k) x.len (omega arith)) at (range_at x.len 1 k x.values r (omega arith)))

pub all_in_range : (m i : ℕ) (xs : List ℕ) → ((k : ℕ) → k < length xs → get_or xs k 0 ≤ limit m (i + k)) → in_range m i xs ≡ true
unfolding in_range
all_in_range m i [] h = refl
all_in_range m i (x ∷ xs) h =
    let first : x ≤ limit m i = rw add-zero at (h 0 (omega arith)) in
    rw (le-leb x (limit m i) first)
    (all_in_range m (suc i) xs (λ k l. let e : i + suc k ≡ suc i + k = omega arith in rw e at (h (suc k) (omega arith))))
