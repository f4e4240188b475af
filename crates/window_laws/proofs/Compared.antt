-- Windows of different levels have the same number exactly when their cells compare alike.
-- Assumes nothing.
use Prim.Native.Nat.{ℕ, suc, ◌-◌, ◌≤◌, ◌<◌}
use mathlib.Core.Path.{◌≡◌, sym, ap, ◌∙◌}
use mathlib.Core.Logic.{◌↔◌, inl, ⊎_elim}
use mathlib.Core.List.{List}
use native.Mathlib.Omega.{arith}
use lib.ListN.{length, get_or}
use Rattle.order.proofs.Cells.{true_order, order_range}
use Rattle.group.specs.Levels.{level}
use Rattle.group.proofs.Levels.{level_next}
use Rattle.push_up.proofs.Orders.{Falling, falling_shows}
use Rattle.sensing.specs.Sense.{stands_above, sensed}
use Rattle.sensing.specs.LevelCells.{Stands, Different}
use Rattle.sensing.proofs.Sensed.{sensed_is_order, sensed_back}
use Rattle.sensing.proofs.LevelCells.{rank_stands, levels_fall, present_by_level}
use Rattle.window.specs.Ring.{window_order, window_number}
use Rattle.window_laws.specs.Compared.{SameComparisons}
use Rattle.window_laws.proofs.Numbers.{number_by_order}

cell_range : (ls : List ℕ) (k : ℕ) → k < length ls → (1 ≤ get_or (window_order ls) k 0) × (get_or (window_order ls) k 0 ≤ length ls)
cell_range ls = order_range (length ls) (window_order ls) (sensed_is_order (length ls) ls)

-- ---- from comparisons to the order

module _ (ls ms : List ℕ) (n : length ls ≡ length ms) (d : Different (length ls) ls) (a : SameComparisons ls ms) where
  -- the other window's levels fall along it too
  alike_falling : Falling 1 (window_order ls) ms
  unfolding Falling level sensed
  alike_falling i l =
      let xs = window_order ls in
      let m : suc i < length ls = omega (arith, (sensed_is_order (length ls) ls).size) in
      let p = cell_range ls i (omega arith) in
      let q = cell_range ls (suc i) m in
      omega (arith, a (get_or xs (suc i) 0 - 1) (get_or xs i 0 - 1) (omega arith) (omega arith) (levels_fall stands_above present_by_level ls (length ls) d i (suc i) (omega arith) m))

  alike_order : window_order ls ≡ window_order ms
  alike_order =
      let xs = window_order ls in
      let o = true_order (length ls) xs (sensed_is_order (length ls) ls) in
      sym (sensed_back (length ls) xs ms o (falling_shows 1 xs ms alike_falling)) ∙ ap (λ (k : ℕ). sensed k ms) n

-- ---- from the order to comparisons

order_alike : (ls ms : List ℕ) → length ls ≡ length ms → Different (length ms) ms → window_order ls ≡ window_order ms → SameComparisons ls ms
order_alike ls ms n f same i j hi hj l =
    let higher : Stands ls (suc j) (suc i) = inl (rw (level_next ls i, level_next ls j) l) in
    let rank = (rank_stands (length ls) ls j i hj hi).1 higher in
    let there : Stands ms (suc j) (suc i) = (rank_stands (length ms) ms j i (omega arith) (omega arith)).0 (rw same at rank) in
    let apart : level ms (suc i) ≡ level ms (suc j) → i < j → ⊥ = λ e h. f i j h (omega arith) (rw (level_next ms i, level_next ms j) at e) in
    ⊎_elim (λ t. rw (level_next ms i, level_next ms j) at t) (λ t. absurd (apart t.0 (omega arith))) there

pub number_by_comparison : (ls ms : List ℕ) → length ls ≡ length ms → Different (length ls) ls → Different (length ms) ms → (window_number ls ≡ window_number ms) ↔ SameComparisons ls ms
number_by_comparison ls ms n d f =
    let t = number_by_order ls ms n in
    ((λ e. order_alike ls ms n f (t.0 e)), (λ a. t.1 (alike_order ls ms n d a)))
