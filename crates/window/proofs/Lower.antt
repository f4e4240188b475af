-- Coordinate i of a reading's order counts the cells below i + 1 that do not stand above cell i + 1: a comparison of levels finds it, and no order
-- has to be made. The rule of reading stays closed here.
-- Assumes nothing.
use Prim.Native.Nat.{ℕ, zero, suc, ◌+◌, ◌-◌, ◌≤◌, ◌<◌}
use mathlib.Core.Path.{◌≡◌, refl, sym, ap, ◌∙◌}
use mathlib.Core.Bool.{Bool, true, false, not, ◌&&◌, cond}
use mathlib.Core.Logic.{⊎_elim}
use mathlib.Core.List.{List, [], ◌∷◌}
use native.Mathlib.Nat.{add-zero}
use native.Mathlib.Numerals.{add-one}
use native.Mathlib.Omega.{arith}
use lib.Dec.{ltb}
use lib.ListN.{length, get_or, take}
use lib.Seq.{get_or-take, length-take-le}
use borrow.Author.Tests.{lt-ltb, le-ltb}
use Rattle.order.specs.Cells.{tally, count_if, count, below}
use Rattle.order.proofs.Cells.{tally-ne, tally-le, eq_cases, lt_cases, order_count}
use Rattle.coordinates.specs.Coordinates.{after, coordinate_of}
use Rattle.group.specs.Levels.{level}
use Rattle.group.proofs.Levels.{level_next}
use Rattle.sensing.specs.Sense.{stands_above, insert, sorted, sensed}
use Rattle.sensing.specs.LevelCells.{Stands}
use Rattle.push_up.proofs.Minimal.{Each}
use Rattle.sensing.proofs.Sensed.{stands_above_lem, stands_below, Sorted, each_count, sensed_sorted, sensed_is_order}
use Rattle.window.specs.Ring.{window_order}
use Rattle.window.specs.Steps.{stands_after}

-- ---- two cells of a window

-- cell x is below cell d in number, and stands below it too
unfoldable pub under : List ℕ → ℕ → ℕ → Bool
under ls d x = ltb x d && not (stands_above (level ls x) (level ls d))

-- the levels of the two tell
under_levels : (ls : List ℕ) (i j : ℕ) → j < i → tally (under ls (suc i) (suc j)) ≡ stands_after (get_or ls j 0) (get_or ls i 0)
unfolding under stands_after
under_levels ls i j l = rw (← level_next ls i, ← level_next ls j, lt-ltb (suc j) (suc i) (omega arith)) refl

after_one : (a b : ℕ) → stands_after a b ≤ 1
unfolding stands_after
after_one a b = tally-le (not (stands_above a b))

-- ---- in a list by falling level

under_stands : (ls : List ℕ) (d x : ℕ) → Stands ls d x → tally (ltb x d) ≡ tally (under ls d x)
unfolding under
under_stands ls d x s = ⊎_elim (λ t. rw (t.1, stands_below ls x d t.0 s)) (λ t. rw t.1) (lt_cases x d)

under_none : (ls : List ℕ) (d x : ℕ) → Stands ls x d → tally (under ls d x) ≡ 0
unfolding under
under_none ls d x s = ⊎_elim (λ t. rw (t.1, stands_above_lem ls x d t.0 s)) (λ t. rw t.1) (lt_cases x d)

under_past : (ls : List ℕ) (d x : ℕ) → d ≤ x → tally (under ls d x) ≡ 0
unfolding under
under_past ls d x l = rw (le-ltb x d l)

below_under : (ls : List ℕ) (d : ℕ) (xs : List ℕ) → Each (Stands ls d) xs → below d xs ≡ count_if (under ls d) xs
below_under ls d [] e = refl
below_under ls d (x ∷ xs) e = omega (arith, under_stands ls d x e.0, below_under ls d xs e.1)

-- those that stand after cell d and are below it in number are those under it
after_under : (ls : List ℕ) (d : ℕ) (xs : List ℕ) → Sorted ls xs → 1 ≤ count d xs → below d (after d xs) ≡ count_if (under ls d) xs
after_under ls d [] s h = absurd (omega arith)
after_under ls d (x ∷ xs) s h =
    ⊎_elim
    (λ t.
    let low : Each (Stands ls d) xs = rw t.0 at s.0 in
    rw t.1 (omega (arith, below_under ls d xs low, under_past ls d x (omega arith))))
    (λ t.
    let more : 1 ≤ count d xs = omega (arith, tally-ne x d t.0) in
    rw t.1 (omega (arith, after_under ls d xs s.1 more, under_none ls d x (each_count (Stands ls x) d xs s.0 more))))
    (eq_cases x d)

-- ---- cell by cell

-- how many of the cells 1 to j pass a test
unfoldable pub count_to : (ℕ → Bool) → ℕ → ℕ
count_to test zero = 0
count_to test (suc j) = count_to test j + tally (test (suc j))

pub count_to_le : (test : ℕ → Bool) (j : ℕ) → count_to test j ≤ j
unfolding count_to
count_to_le test zero = omega arith
count_to_le test (suc j) = omega (arith, count_to_le test j, tally-le (test (suc j)))

module _ (test : ℕ → Bool) (ls : List ℕ) where
  countIf_insert : (c : ℕ) (ds : List ℕ) → count_if test (insert stands_above ls c ds) ≡ tally (test c) + count_if test ds
  unfolding insert
  countIf_insert c [] = refl
  countIf_insert c (d ∷ ds) = go (stands_above (level ls c) (level ls d)) (countIf_insert c ds)
    where
      go : (b : Bool) → count_if test (insert stands_above ls c ds) ≡ tally (test c) + count_if test ds
          → count_if test (cond b (c ∷ d ∷ ds) (d ∷ insert stands_above ls c ds)) ≡ tally (test c) + (tally (test d) + count_if test ds)
      go true e = refl
      go false e = omega arith

  sorted_count : (b k : ℕ) → count_if test (sorted stands_above ls (suc b) k) + count_to test b ≡ count_to test (b + k)
  unfolding sorted count_to
  sorted_count b zero = rw (add-zero b) (omega arith)
  sorted_count b (suc k) =
      let e : b + suc k ≡ suc b + k = omega arith in
      rw e (omega (arith, countIf_insert (suc b) (sorted stands_above ls (suc (suc b)) k), sorted_count (suc b) k))

count-one : (test : ℕ → Bool) (i : ℕ) → count_to test (i + 1) ≡ count_to test i + tally (test (suc i))
unfolding count_to
count-one test i = rw (add-one i) refl

-- none past cell i is below cell i + 1 in number
count_stop : (ls : List ℕ) (i m : ℕ) → count_to (under ls (suc i)) (i + m) ≡ count_to (under ls (suc i)) i
unfolding count_to
count_stop ls i zero = rw (add-zero i)
count_stop ls i (suc m) =
    let e : i + suc m ≡ suc (i + m) = omega arith in
    rw e (omega (arith, count_stop ls i m, under_past ls (suc i) (suc (i + m)) (omega arith)))

pub coordinate_under : (n : ℕ) (ls : List ℕ) (i : ℕ) → i < n → coordinate_of (sensed n ls) i ≡ count_to (under ls (suc i)) i
unfolding coordinate_of sensed
coordinate_under n ls i l =
    let test = under ls (suc i) in
    let o = sensed_is_order n ls in
    let e : i + (n - i) ≡ n = omega arith in
    let all : count_if test (sorted stands_above ls 1 n) + count_to test 0 ≡ count_to test (0 + n) = sorted_count test ls 0 n in
    let f : 0 + n ≡ i + (n - i) = omega arith in
    after_under ls (suc i) (sorted stands_above ls 1 n) (sensed_sorted n ls) (omega (arith, order_count n (sensed n ls) o i l))
    ∙ omega (arith, all, count_to_le test 0, ap (count_to test) f, count_stop ls i (n - i))

-- ---- two coordinates in one sweep

-- after j of the cells before cells i + 1 and i + 2; the first of the two is counted for the second from the start
pub record Counting (ls : List ℕ) (i j here next : ℕ) : Type 0 where
  pub reached : j ≤ i
  pub first : here ≡ count_to (under ls (suc i)) j
  pub second : next ≡ tally (under ls (suc (i + 1)) (suc i)) + count_to (under ls (suc (i + 1))) j

pub counting_none : (ls : List ℕ) (i : ℕ) {v : ℕ} → v ≡ stands_after (get_or ls i 0) (get_or ls (i + 1) 0) → Counting ls i 0 0 v
unfolding count_to
counting_none ls i e = record { reached = omega arith; first = refl; second = omega (arith, e, under_levels ls (i + 1) i (omega arith)) }

module _ {ls : List ℕ} {i j here next : ℕ} (c : Counting ls i j here next) where
  counted_low : (here ≤ j) × (next ≤ j + 1)
  counted_low = (
    omega (arith, c.first, count_to_le (under ls (suc i)) j),
    omega (arith, c.second, count_to_le (under ls (suc (i + 1))) j, tally-le (under ls (suc (i + 1)) (suc i))),
  )

  -- one more of each
  pub counted_fits : (a b : ℕ) {u : ℕ} → u ≡ stands_after a b → (here + u ≤ i + 1) × (next + u ≤ i + 2)
  counted_fits a b e = let low = counted_low in (omega (arith, low, c.reached, e, after_one a b), omega (arith, low, c.reached, e, after_one a b))

  -- the cells before are the first i levels
  pub counting_more : {u v : ℕ} → i ≤ length ls → j < length (take i ls) → u ≡ stands_after (get_or (take i ls) j 0) (get_or ls i 0)
      → v ≡ stands_after (get_or (take i ls) j 0) (get_or ls (i + 1) 0) → Counting ls i (j + 1) (here + u) (next + v)
  unfolding count_to
  counting_more m h e f =
      let l : j < i = omega (arith, length-take-le i ls m) in
      let same = get_or-take i ls j 0 l in
      record {
        reached = omega arith;
        first = rw (add-one j) (omega (arith, c.first, rw same at e, under_levels ls i j l));
        second = rw (add-one j) (omega (arith, c.second, rw same at f, under_levels ls (i + 1) j (omega arith)));
      }

  pub counting_done : length (take i ls) ≤ j → i + 1 < length ls → (here ≡ coordinate_of (window_order ls) i) × (next ≡ coordinate_of (window_order ls) (i + 1))
  counting_done h l =
      let e : j ≡ i = omega (arith, c.reached, length-take-le i ls (omega arith)) in
      let last : next ≡ count_to (under ls (suc (i + 1))) (i + 1) = omega (arith, c.second, ap (count_to (under ls (suc (i + 1)))) e, count-one (under ls (suc (i + 1))) i) in
      (c.first ∙ ap (count_to (under ls (suc i))) e ∙ sym (coordinate_under (length ls) ls i (omega arith)), last ∙ sym (coordinate_under (length ls) ls (i + 1) l))
