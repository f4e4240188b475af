-- The distance of two orders of n cells, as lists of cell numbers.
--
--   distance_least       no fewer neighbour exchanges lead from u to v, whatever the places
--   distance_reached     as many do, each at a place from 1 to n - 1
--   distance_symmetric   the distance is the same both ways
--   distance_zero        it is 0 for equal orders, and only for these
--   distance_one         it is 1 where one exchange leads from u to v, and only there
-- Assumes nothing.
use Prim.Native.Nat.{ℕ, ◌≤◌, ◌<◌}
use native.Mathlib.Omega.{arith}
use mathlib.Core.Path.{◌≡◌, sym, ap, ◌∙◌}
use mathlib.Core.Logic.{◌↔◌}
use mathlib.Core.Bool.{true}
use mathlib.Core.List.{List}
use lib.ListN.{length}
use Rattle.order.specs.Cells.{count, is_order}
use Rattle.order.proofs.Cells.{IsOrder, order_true}
use Rattle.distance.specs.Distance.{opposed, exchange, exchanges}
use Rattle.distance.proofs.Counts.{Distinct, SameCells, order_same, order_distinct}
use Rattle.distance.proofs.Opposed.{opposed_self, opposed_zero, least, reached}
use Rattle.distance.proofs.Apart.{one_apart, opposed_sym}

module _ (n : ℕ) (u : List ℕ) (p : is_order n u ≡ true) where
  order_u : IsOrder n u
  order_u = order_true n u p

  distinct : Distinct u
  distinct = order_distinct order_u

  pub distance_least : (v ks : List ℕ) → exchanges ks u ≡ v → opposed u v ≤ length ks
  distance_least v ks e = omega (arith, least distinct ks, ap (opposed u) e)

  module _ (v : List ℕ) (q : is_order n v ≡ true) where
    same : SameCells u v
    same = order_same order_u (order_true n v q)

    pub distance_reached : (ks : List ℕ) × (exchanges ks u ≡ v) × (length ks ≡ opposed u v) × ((k : ℕ) → 0 < count k ks → (1 ≤ k) × (k < n))
    distance_reached = let (ks, l, e, h) = reached same distinct in (ks, e, l, rw order_u.size at h)

    pub distance_symmetric : opposed u v ≡ opposed v u
    distance_symmetric = opposed_sym same distinct

    pub distance_zero : (opposed u v ≡ 0) ↔ (u ≡ v)
    distance_zero = (opposed_zero same distinct, λ e. ap (opposed u) (sym e) ∙ opposed_self distinct)

    pub distance_one : (opposed u v ≡ 1) ↔ ((k : ℕ) × (1 ≤ k) × (k < n) × (v ≡ exchange k u))
    distance_one = rw order_u.size at (one_apart same distinct)
