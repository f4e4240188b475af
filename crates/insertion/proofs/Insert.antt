-- A list with an element put in, and the loop that makes room for one in an array.
-- Assumes nothing.
use Prim.Native.Nat.{ℕ, zero, suc, ◌-◌, ◌≤◌, ◌<◌}
use native.Mathlib.Nat.{not-suc-le-zero, le_of_suc-le-suc}
use native.Mathlib.Omega.{arith}
use mathlib.Core.Path.{◌≡◌, refl, sym, ap, ◌∙◌}
use mathlib.Core.Logic.{⊎_elim}
use mathlib.Core.List.{List, [], ◌∷◌}
use lib.ListN.{length, get_or, take, set, length-set}
use lib.Seq.{ext_get_or, get_or-take, get_or-set_same, get_or-set_other, length-take-le}
use Rattle.coordinates.specs.Coordinates.{insert_at}
use Rattle.order.proofs.Cells.{lt_cases, eq_cases}

module _ {A : Type 0} where
  pub length_insert : (at : ℕ) (c : A) (xs : List A) → length (insert_at at c xs) ≡ suc (length xs)
  length_insert zero c xs = refl
  length_insert (suc at) c [] = refl
  length_insert (suc at) c (x ∷ xs) = ap suc (length_insert at c xs)

  pub insert_before : (at : ℕ) (c : A) (xs : List A) (k : ℕ) (d : A) → at ≤ length xs → k < at → get_or (insert_at at c xs) k d ≡ get_or xs k d
  insert_before zero c xs k d h l = absurd (not-suc-le-zero l)
  insert_before (suc at) c [] k d h l = absurd (not-suc-le-zero h)
  insert_before (suc at) c (x ∷ xs) zero d h l = refl
  insert_before (suc at) c (x ∷ xs) (suc k) d h l = insert_before at c xs k d (le_of_suc-le-suc h) (le_of_suc-le-suc l)

  pub insert_here : (at : ℕ) (c : A) (xs : List A) (d : A) → at ≤ length xs → get_or (insert_at at c xs) at d ≡ c
  insert_here zero c xs d h = refl
  insert_here (suc at) c [] d h = absurd (not-suc-le-zero h)
  insert_here (suc at) c (x ∷ xs) d h = insert_here at c xs d (le_of_suc-le-suc h)

  insert_suc : (at : ℕ) (c : A) (xs : List A) (k : ℕ) (d : A) → at ≤ length xs → at ≤ k → get_or (insert_at at c xs) (suc k) d ≡ get_or xs k d
  insert_suc zero c xs k d h l = refl
  insert_suc (suc at) c [] k d h l = absurd (not-suc-le-zero h)
  insert_suc (suc at) c (x ∷ xs) zero d h l = absurd (not-suc-le-zero l)
  insert_suc (suc at) c (x ∷ xs) (suc k) d h l = insert_suc at c xs k d (le_of_suc-le-suc h) (le_of_suc-le-suc l)

  pub insert_after : (at : ℕ) (c : A) (xs : List A) (k : ℕ) (d : A) → at ≤ length xs → at < k → get_or (insert_at at c xs) k d ≡ get_or xs (k - 1) d
  insert_after at c xs k d h l =
      let e : suc (k - 1) ≡ k = omega arith in
      rw e at (insert_suc at c xs (k - 1) d h (omega arith))

  -- ---- the loop: the elements from j on have moved up by one
  pub record Moved (d : A) (at : ℕ) (xs ys : List A) (j : ℕ) : Type 0 where
    pub whole : length xs ≡ 12
    pub long : length ys ≡ 12
    pub down : at ≤ j
    pub top : j ≤ 11
    pub low : (k : ℕ) → k ≤ j → get_or ys k d ≡ get_or xs k d
    pub high : (k : ℕ) → j < k → k < 12 → get_or ys k d ≡ get_or xs (k - 1) d

  -- those past place `len` are all the same as it
  pub moved_none : (d : A) (at len : ℕ) (xs : List A) → length xs ≡ 12 → at ≤ len → len ≤ 11
      → ((k : ℕ) → len < k → k < 12 → get_or xs k d ≡ get_or xs (k - 1) d) → Moved d at xs xs len
  moved_none d at len xs w l h same =
      record { whole = w; long = w; down = l; top = h; low = λ k h. refl; high = same }

  module _ {d : A} {at j : ℕ} {xs ys : List A} (m : Moved d at xs ys j) where
    pub moved_more : at < j → Moved d at xs (set ys j (get_or ys (j - 1) d)) (j - 1)
    moved_more l = record {
      whole = m.whole;
      long = length-set ys j (get_or ys (j - 1) d) ∙ m.long;
      down = omega arith;
      top = omega (arith, m.top);
      low = λ k h. get_or-set_other ys j k _ d (omega arith) ∙ m.low k (omega arith);
      high = λ k h g.
          ⊎_elim
          (λ t. rw t.0 (get_or-set_same ys j _ d (omega (arith, m.long, m.top)) ∙ m.low (j - 1) (omega arith)))
          (λ t. get_or-set_other ys j k _ d t.0 ∙ m.high k (omega arith) g)
          (eq_cases k j);
    }

    module _ (c : A) (l : j ≤ at) where
      moved_at : (k : ℕ) → k < 12 → get_or (set ys at c) k d ≡ get_or (insert_at at c xs) k d
      moved_at k g =
          ⊎_elim
          (λ t. get_or-set_other ys at k c d (omega arith) ∙ m.low k (omega (arith, m.down)) ∙ sym (insert_before at c xs k d (omega (arith, m.down, m.top, m.whole)) t.0))
          (λ t.
          ⊎_elim
          (λ q. rw q.0 (get_or-set_same ys at c d (omega (arith, m.down, m.top, m.long)) ∙ sym (insert_here at c xs d (omega (arith, m.down, m.top, m.whole)))))
          (λ q. get_or-set_other ys at k c d q.0 ∙ m.high k (omega arith) g ∙ sym (insert_after at c xs k d (omega (arith, m.down, m.top, m.whole)) (omega arith)))
          (eq_cases k at))
          (lt_cases k at)

      pub moved_all : set ys at c ≡ take 12 (insert_at at c xs)
      moved_all =
          let long : length (set ys at c) ≡ 12 = length-set ys at c ∙ m.long in
          ext_get_or d (set ys at c) (take 12 (insert_at at c xs))
          (long ∙ sym (length-take-le 12 (insert_at at c xs) (omega (arith, length_insert at c xs, m.whole))))
          (λ k g. moved_at k (omega arith) ∙ sym (get_or-take 12 (insert_at at c xs) k d (omega arith)))
