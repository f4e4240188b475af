-- The two loops over the cells: what each has found in the cells before place i.
-- Assumes nothing.
use Prim.Native.Nat.{ℕ, suc, ◌+◌, ◌-◌, ◌≤◌, ◌<◌, max}
use native.Mathlib.Numerals.{add-one}
use native.Mathlib.Omega.{arith}
use mathlib.Core.Path.{◌≡◌, refl, sym, ◌∙◌}
use mathlib.Core.Bool.{cond, false}
use mathlib.Core.Logic.{inl, inr, ⊎_elim}
use mathlib.Core.List.{List}
use lib.Dec.{ltb}
use lib.ListN.{get_or, set, replicate}
use lib.IntN.{ℤ, pos, sub_ℕ}
use borrow.Author.Tests.{lt-ltb, le-ltb}
use Rattle.ranks.specs.declared.Ranks.{Ranks}
use Rattle.order.specs.Cells.{tabulate}
use Rattle.ranks.specs.Ranks.{rank_numbers}
use Rattle.ranks.proofs.RankNumbers.{rank_at_lem}
use Rattle.order.proofs.Cells.{lt_cases}
use Rattle.order.proofs.Tabulate.{tabulate_ext, tabulate_set}
use Rattle.cost.specs.Steps.{Low, displacements_by_rank, LargestGrowth}

pub low_at : {r : Ranks} → Low r → (k : ℕ) → (get_or r.ranks k (record { 0 = 0 })).0 ≤ 12
low_at {r} l k = rw (rank_at_lem r k) (l.low k)

-- ---- the displacements

module _ (from to : Ranks) where
  abbrev pub change : ℕ → ℤ
  change k = sub_ℕ (get_or (rank_numbers to) k 0) (get_or (rank_numbers from) k 0)

  -- the displacements of the cells before place i, and 0 for the others
  unfoldable pub change_before : ℕ → ℕ → ℤ
  change_before i k = cond (ltb k i) (change k) (pos 0)

  pub record Changed (found : List ℤ) (i : ℕ) : Type 0 where
    pub left : i ≤ 12
    pub sofar : found ≡ tabulate 12 (change_before i)

  pub changed_none : Changed (replicate 12 (pos 0)) 0
  unfolding change_before
  changed_none = record { left = omega arith; sofar = refl }

  change_here : (i : ℕ) → change_before (suc i) i ≡ change i
  unfolding change_before
  change_here i = rw (lt-ltb i (suc i) (omega arith))

  change_other : (i j : ℕ) → (j ≡ i → ⊥) → change_before i j ≡ change_before (suc i) j
  unfolding change_before
  change_other i j h =
      ⊎_elim (λ t. rw (t.1, lt-ltb j (suc i) (omega arith))) (λ t. rw (t.1, le-ltb j (suc i) (omega arith))) (lt_cases j i)

  pub changed_more : {found : List ℤ} {i : ℕ} → Changed found i → i < 12
      → {d : ℤ} → d ≡ sub_ℕ (get_or (rank_numbers to) i 0) (get_or (rank_numbers from) i 0) → Changed (set found i d) (i + 1)
  changed_more {found} {i} s l e = record {
    left = omega arith;
    sofar = rw (s.sofar, add-one i, e ∙ sym (change_here i)) (tabulate_set 12 (change_before i) (change_before (suc i)) i (change_other i));
  }

  pub changed_all : {found : List ℤ} {i : ℕ} → Changed found i → 12 ≤ i → found ≡ displacements_by_rank from to
  unfolding displacements_by_rank change_before
  changed_all {found} {i} s l =
      s.sofar ∙ tabulate_ext 12 (change_before i) change (λ k h. rw (lt-ltb k i (omega arith)))

-- ---- the largest rise

-- the largest rise of the cells before place i
pub record Grown (from to : Ranks) (most i : ℕ) : Type 0 where
  pub left : i ≤ from.len
  pub small : most ≤ 12
  pub largest : LargestGrowth (rank_numbers from) (rank_numbers to) i most

pub grown_none : (from to : Ranks) → Grown from to 0 0
grown_none from to = record { left = omega arith; small = omega arith; largest = record { over = λ k l. omega arith; some = inl refl } }

-- with the rise of the cell at i, the larger is the largest
pub grown_more : {from to : Ranks} {most i before after next : ℕ} → Grown from to most i → i < from.len → Low to → before ≡ get_or (rank_numbers from) i 0
    → after ≡ get_or (rank_numbers to) i 0 → next ≡ max most (after - before) → Grown from to next (i + 1)
grown_more {from} {to} {most} {i} {before} {after} {next} s l low b a m = record {
  left = omega arith;
  small = omega (arith, s.small, low.low i);
  largest = record {
    over = λ k g.
        ⊎_elim (λ t. omega (arith, s.largest.over k t.0)) (λ (t : (i ≤ k) × (ltb k i ≡ false)). let here : k ≡ i = omega arith in rw here (omega arith)) (lt_cases k i);
    some =
        ⊎_elim (λ t. inr (record { index = i; inside = omega arith; by = omega arith }))
        (λ t.
        let kept : next ≡ most = omega arith in
        rw kept (⊎_elim (λ z. inl z) (λ r. inr (record { index = r.index; inside = omega (arith, r.inside); by = r.by })) s.largest.some))
        (lt_cases (most + before) after);
  };
}

pub grown_all : {from to : Ranks} {most i : ℕ} → Grown from to most i → from.len ≤ i → LargestGrowth (rank_numbers from) (rank_numbers to) from.len most
grown_all {from} {to} {most} {i} s l = let e : i ≡ from.len = omega (arith, s.left) in rw e at s.largest
