-- What the loops find in the ranks of two orders is their displacements and their cost.
-- Assumes nothing.
use Prim.Native.Nat.{ℕ, suc, ◌-◌, ◌≤◌, ◌<◌}
use native.Mathlib.Omega.{arith}
use mathlib.Core.Path.{◌≡◌, ap₂}
use mathlib.Core.Logic.{⊎_elim}
use lib.IntN.{pos, sub_ℕ}
use lib.Signed.{◌≤ℤ◌}
use Rattle.order.specs.declared.Order.{Order}
use Rattle.order.specs.Refusals.{number_of}
use Rattle.order.specs.Cells.{place_of}
use Rattle.order.specs.Order.{listed, pair_checks}
use Rattle.ranks.specs.Ranks.{rank_numbers, ranks_of}
use Rattle.order.proofs.Tabulate.{tabulate_ext}
use Rattle.order.proofs.Pairs.{pair_size, first_order, second_order}
use Rattle.cost.specs.Cost.{displacement, displacements, cost}
use Rattle.cost.specs.Steps.{displacements_by_rank, Grows, LargestGrowth}
use Rattle.cost.proofs.Signs.{≤ℤ-antisym, sub_rise, sub_most}
use Rattle.cost.proofs.Costs.{IsLargest, cost_largest, cost_at_least_zero}
use Rattle.cost.proofs.Pairs.{rank_place}

pub displacements_ranked : (u v : Order) → displacements_by_rank (ranks_of u) (ranks_of v) ≡ displacements 12 (listed u) (listed v)
unfolding displacements_by_rank displacements displacement
displacements_ranked u v = tabulate_ext 12 _ _ (λ k l. ap₂ sub_ℕ (rank_place v k l) (rank_place u k l))

module _ (u v : Order) (d : number_of (pair_checks u v) ≡ 0) (most : ℕ) (r : LargestGrowth (rank_numbers (ranks_of u)) (rank_numbers (ranks_of v)) u.len most) where
  largest : IsLargest u.len (listed u) (listed v) (cost u.len (listed u) (listed v))
  largest = cost_largest u.len (listed u) (listed v) (omega (arith, pair_size u v d))

  -- no cell's displacement is above the largest rise
  at_most : (c : ℕ) → 1 ≤ c → c ≤ u.len → displacement (listed u) (listed v) c ≤ℤ pos most
  unfolding displacement
  at_most c low high =
      let e : suc (c - 1) ≡ c = omega arith in
      sub_most (place_of (listed v) c) (place_of (listed u) c) most
      (rw (rank_place v (c - 1) (omega (arith, pair_size u v d)), rank_place u (c - 1) (omega (arith, pair_size u v d)), e) at
      (r.over (c - 1) (omega arith)))

  -- the largest rise is a cell's displacement
  reached : (s : Grows (rank_numbers (ranks_of u)) (rank_numbers (ranks_of v)) u.len most) → displacement (listed u) (listed v) (suc s.index) ≡ pos most
  unfolding displacement
  reached s =
      let k : s.index < 12 = omega (arith, s.inside, pair_size u v d) in
      sub_rise (place_of (listed v) (suc s.index)) (place_of (listed u) (suc s.index)) most
      (omega (arith, s.by, rank_place u s.index k, rank_place v s.index k))

  pub cost_ranked : pos most ≡ cost u.len (listed u) (listed v)
  cost_ranked =
      ≤ℤ-antisym
      (⊎_elim
      (λ z. rw z (cost_at_least_zero u.len (listed u) (listed v) (omega (arith, pair_size u v d)) (first_order u v d) (second_order u v d)))
      (λ s. rw (reached s) at (largest.over (suc s.index) (omega arith) s.inside))
      r.some)
      (rw largest.there at (at_most largest.cell largest.from largest.up_to))
