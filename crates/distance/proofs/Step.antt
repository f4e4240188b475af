-- One step of the recursion, from n cells to n - 1.
-- Assumes nothing.
use Prim.Native.Nat.{ℕ, suc, ◌+◌, ◌-◌, ◌≤◌}
use native.Mathlib.Omega.{arith}
use mathlib.Core.Path.{◌≡◌, sym, ap, ap₂, subst, ◌∙◌}
use mathlib.Core.Bool.{true}
use mathlib.Core.List.{List, [], ◌∷◌, ◌++◌}
use lib.ListN.{length, get_or}
use lib.Seq.{take-suc}
use Rattle.order.specs.declared.Order.{Order}
use Rattle.order.specs.Cells.{place_of, is_order}
use Rattle.order.specs.Order.{cell_numbers}
use Rattle.order.proofs.Cells.{order_true}
use Rattle.order.proofs.Numbers.{length_front}
use Rattle.distance.specs.Distance.{opposed}
use Rattle.distance.specs.Steps.{front, without, SameFront}
use Rattle.distance.proofs.Counts.{Distinct, SameCells, order_same, order_distinct}
use Rattle.distance.proofs.Opposed.{opposed_small}
use Rattle.distance.proofs.Recursion.{LastDropped, last_dropped}

-- p is the place, among the first n cells of v, of the last of the first n cells of u
pub record Step (u v : Order) (n p : ℕ) : Type 0 where
  pub both : SameFront u v n
  pub more : n ≡ 0 → ⊥
  pub full_u : length (cell_numbers u) ≡ 12
  pub full_v : length (cell_numbers v) ≡ 12
  pub found : p ≡ place_of (front n v) (get_or (cell_numbers u) (n - 1) 0)

module _ {u v : Order} {n p : ℕ} (s : Step u v n p) where
  open s use {both, more, found}

  abbrev x : ℕ
  x = get_or (cell_numbers u) (n - 1) 0

  whole : front n u ≡ front (n - 1) u ++ x ∷ []
  whole =
      let e : n ≡ suc (n - 1) = omega arith in
      ap (λ (k : ℕ). front k u) e ∙ take-suc (cell_numbers u) (n - 1) 0 (omega (arith, both.small, s.full_u))

  size : length (front n v) ≡ n
  size = length_front (cell_numbers v) n s.full_v both.small

  dropped : LastDropped (front (n - 1) u) x (front n v) p
  dropped =
      rw found
      (last_dropped (subst (λ (l : List ℕ). SameCells l (front n v)) whole (record { same = both.same }))
      (subst Distinct whole (record { once = both.once })))

  pub place_first : 1 ≤ p
  place_first = dropped.at.first

  pub place_last : p ≤ n
  place_last = omega (arith, dropped.at.last, size)

  module _ (w : Order) (closed : front (n - 1) w ≡ without p (front n v)) where
    pub next_listed : SameFront u w (n - 1)
    next_listed = record {
      small = omega (arith, both.small);
      same = rw closed dropped.same.same;
      once = dropped.distinct.once;
    }

    pub next_distance : opposed (front n u) (front n v) ≡ opposed (front (n - 1) u) (front (n - 1) w) + (n - p)
    next_distance =
        ap (λ (l : List ℕ). opposed l (front n v)) whole ∙ dropped.sum
        ∙ ap₂ ◌+◌ (ap (opposed (front (n - 1) u)) (sym closed)) (omega (arith, size))

    pub next_small : opposed (front (n - 1) u) (front (n - 1) w) ≤ 144
    next_small =
        let l = length_front (cell_numbers u) (n - 1) s.full_u (omega (arith, both.small)) in
        omega (arith, both.small, opposed_small (front (n - 1) u) (front (n - 1) w) (omega (arith, both.small)))

-- two orders of n cells list the same cells
pub orders_listed : (u v : Order) (n : ℕ) → n ≤ 12 → is_order n (front n u) ≡ true → is_order n (front n v) ≡ true → SameFront u v n
orders_listed u v n h p q =
    let a = order_true n (front n u) p in
    let b = order_true n (front n v) q in
    record { small = h; same = (order_same a b).same; once = (order_distinct a).once }
