-- The cost: it is the largest displacement, and from order to order it is at least 0.
-- Assumes nothing.
use Prim.Native.Nat.{ℕ, suc, ◌-◌, ◌≤◌, ◌<◌}
use native.Mathlib.Omega.{arith}
use mathlib.Core.Path.{◌≡◌, sym, ◌∙◌}
use mathlib.Core.Bool.{true}
use mathlib.Core.List.{List}
use lib.ListN.{length, get_or}
use lib.IntN.{ℤ, pos}
use lib.Signed.{◌≤ℤ◌}
use Rattle.order.specs.Cells.{place_of, is_order}
use Rattle.order.proofs.Cells.{order_true}
use Rattle.order.proofs.Places.{cell_stands, rank_high, inverse_to, length_inverse, inverse_at, inverse_order}
use Rattle.order.proofs.Tabulate.{length_tabulate, get_d_tabulate}
use Rattle.cost.specs.Cost.{displacement, displacements, cost}
use Rattle.cost.proofs.Signs.{≤ℤ-trans, sub_positive}
use Rattle.cost.proofs.Largest.{largest_over, largest_found}

-- ---- what "the largest of the displacements" means

-- no cell of 1 to n has a displacement above z, and one has z
pub record IsLargest (n : ℕ) (u v : List ℕ) (z : ℤ) : Type 0 where
  pub over : (c : ℕ) → 1 ≤ c → c ≤ n → displacement u v c ≤ℤ z
  pub cell : ℕ
  pub from : 1 ≤ cell
  pub up_to : cell ≤ n
  pub there : displacement u v cell ≡ z

module _ (n : ℕ) (u v : List ℕ) where
  length_displacements : length (displacements n u v) ≡ n
  unfolding displacements
  length_displacements = length_tabulate n (λ k. displacement u v (suc k))

  displacement_at : (k : ℕ) → k < n → get_or (displacements n u v) k (pos 0) ≡ displacement u v (suc k)
  unfolding displacements
  displacement_at k l = get_d_tabulate n (λ k. displacement u v (suc k)) k (pos 0) l

  pub cost_largest : 1 ≤ n → IsLargest n u v (cost n u v)
  unfolding cost
  cost_largest l =
      let f = largest_found (displacements n u v) (omega (arith, length_displacements)) in
      let i : f.place < n = omega (arith, f.inside, length_displacements) in
      record {
        over = λ c low high.
            let e : suc (c - 1) ≡ c = omega arith in
            rw (displacement_at (c - 1) (omega arith), e) at (largest_over (displacements n u v) (c - 1) (omega (arith, length_displacements)));
        cell = suc f.place;
        from = omega arith;
        up_to = i;
        there = sym (displacement_at f.place i) ∙ f.there;
      }

-- ---- it is not negative

-- the cell in the last place of v has rank n, which is at least its rank in u
pub cost_at_least_zero : (n : ℕ) (u v : List ℕ) → 1 ≤ n → is_order n u ≡ true → is_order n v ≡ true → pos 0 ≤ℤ cost n u v
unfolding displacement
cost_at_least_zero n u v l p q =
    let s = cell_stands n (inverse_to n v) (inverse_order n v (order_true n v q)) n l (omega arith) in
    let i : s.index < n = omega (arith, s.inside, length_inverse n v) in
    let r : place_of v (suc s.index) ≡ n = sym (inverse_at n v s.index i) ∙ s.there in
    ≤ℤ-trans
    (sub_positive (place_of v (suc s.index)) (place_of u (suc s.index)) (omega (arith, rank_high n u (order_true n u p) s.index)))
    ((cost_largest n u v l).over (suc s.index) (omega arith) i)
