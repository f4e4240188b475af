-- The loops of a shared write: over the places for rank sizes, over the cells that a rank lists, over the cells in rising number, and over the ranks.
-- Assumes nothing.
use Prim.Native.Nat.{ℕ, zero, suc, ◌+◌, ◌-◌, ◌≤◌, ◌<◌}
use mathlib.Core.Path.{◌≡◌, refl, sym, ap, ◌∙◌}
use mathlib.Core.Logic.{⊎_elim}
use mathlib.Core.Bool.{Bool, true, false, ◌&&◌, and_assoc, and-false, and-true}
use mathlib.Core.List.{List, [], ◌∷◌}
use native.Mathlib.Nat.{add-zero, zero-add}
use native.Mathlib.Omega.{arith}
use lib.Dec.{eqb, leb, ltb}
use lib.ListN.{length, get_or, set, take, drop, length-take, length-drop, drop_of_length-le}
use lib.Seq.{drop-drop, take_all, length-take-le, get_or-set_same, get_or-set_other}
use borrow.Author.Tests.{eqb-true, eq-eqb, ne_eqb, le-leb}
use Rattle.order.specs.Cells.{count, is_order, all_zero}
use Rattle.order.proofs.Cells.{lt_cases, eq_cases, count-drop, order_true}
use Rattle.order.proofs.Numbers.{drop_up, drop_down}
use Rattle.group.specs.Levels.{level, sum}
use Rattle.group.specs.Record.{all_at_most}
use Rattle.group.proofs.LevelRows.{all_at}
use Rattle.push_up.specs.declared.PushUp.{PushUp}
use Rattle.push_up.specs.PushUp.{floor_over, raise, pushes, pulses_in}
use Rattle.push_up.specs.WriteAnswer.{push_array}
use Rattle.push_up.specs.Steps.{push_up_to}
use Rattle.push_up.proofs.Minimal.{Each, OffAll, Apart, apart_wider}
use Rattle.push_up.proofs.Orders.{order_cells}
use Rattle.push_up.proofs.Pushes.{cells_above, few_pushes}
use Rattle.push_up.proofs.OneMore.{rank_opened, cell_up_lem, cells_on, bounded}
use Rattle.sharing.specs.declared.Ranked.{Ranked}
use Rattle.sharing.specs.Shared.{sizes_of, each_filled, is_sizes, is_listed, by_number, ranks_of}
use Rattle.sharing.specs.Steps.{is_place, part, Flags, rank_up, PushesFit}
use Rattle.sharing.proofs.Targets.{sizes_true, number_none, number_in, number_out, number_length, listed_or_not, apart_to, ranks_apart, ranks_above}

-- ---- the places for rank sizes

-- what the places that are left, k of them used, decide: m is what the sizes before them add up to
abbrev pub sizes_left : ℕ → ℕ → ℕ → List ℕ → Bool
sizes_left k m n xs = each_filled (take k xs) && (eqb (m + sum (take k xs)) n && all_zero (drop k xs))

left_used : (k m n x : ℕ) (xs : List ℕ) → sizes_left (suc k) m n (x ∷ xs) ≡ (leb 1 x && sizes_left k (m + x) n xs)
unfolding each_filled sum
left_used k m n x xs =
    let adds : m + (x + sum (take k xs)) ≡ m + x + sum (take k xs) = omega arith in
    rw adds (and_assoc (leb 1 x) (each_filled (take k xs)) _)

left_unused : (m n x : ℕ) (xs : List ℕ) → sizes_left 0 m n (x ∷ xs) ≡ (eqb x 0 && sizes_left 0 (m + x) n xs)
unfolding each_filled sum all_zero
left_unused m n x xs = go (eqb x 0) refl
  where
    go : (b : Bool) → eqb x 0 ≡ b → (eqb (m + 0) n && (b && all_zero xs)) ≡ (b && (eqb (m + x + 0) n && all_zero xs))
    go true e = let same : m + 0 ≡ m + x + 0 = omega (arith, eqb-true x 0 e) in ap (λ (k : ℕ). eqb k n && all_zero xs) same
    go false e = and-false (eqb (m + 0) n)

module _ (count m n i : ℕ) (xs : List ℕ) (inside : i < length xs) where
  abbrev here : ℕ
  here = get_or xs i 0

  left_step : sizes_left (count - i) m n (drop i xs) ≡ (is_place (ltb i count) here && sizes_left (count - (i + 1)) (m + here) n (drop (i + 1) xs))
  left_step =
      ⊎_elim
      (λ t. let e : count - i ≡ suc (count - (i + 1)) = omega (arith, t.0) in rw (t.1, drop_up xs i inside, e) (left_used (count - (i + 1)) m n here (drop (i + 1) xs)))
      (λ t.
      let e : count - i ≡ 0 = omega (arith, t.0) in
      let f : count - (i + 1) ≡ 0 = omega (arith, t.0) in
      rw (t.1, drop_up xs i inside, e, f) (left_unused m n here (drop (i + 1) xs)))
      (lt_cases i count)

  pub left_next : is_place (ltb i count) here ≡ true → sizes_left (count - (i + 1)) (m + here) n (drop (i + 1) xs) ≡ sizes_left (count - i) m n (drop i xs)
  left_next e = sym (left_step ∙ rw e)

  pub left_stop : is_place (ltb i count) here ≡ false → sizes_left (count - i) m n (drop i xs) ≡ false
  left_stop e = left_step ∙ rw e

-- past the last place
pub left_end : (k m n i : ℕ) (xs : List ℕ) → length xs ≤ i → sizes_left k m n (drop i xs) ≡ eqb m n
unfolding each_filled sum all_zero
left_end k m n i xs l = rw (drop_of_length-le xs {i = i} l) (nothing k)
  where
    nothing : (k : ℕ) → sizes_left k m n [] ≡ eqb m n
    nothing zero = rw add-zero (and-true (eqb m n))
    nothing (suc k) = rw add-zero (and-true (eqb m n))

-- ---- the cells that a rank lists

level_next : (ls : List ℕ) (c : ℕ) → level ls (suc c) ≡ get_or ls c 0
unfolding level
level_next ls c = let e : suc c - 1 ≡ c = omega arith in rw e

-- one cell more is marked
pub flags_more : (on : List Bool) (r : List ℕ) (x : ℕ) → 1 ≤ x → x - 1 < length on → Flags on r → Flags (set on (x - 1) true) (x ∷ r)
flags_more on r x low inside marks c =
    ⊎_elim
    (λ t.
    let here : c ≡ x - 1 = omega (arith, t.0) in
    let same : get_or (set on (x - 1) true) c false ≡ true
    = ap (λ (i : ℕ). get_or (set on (x - 1) true) i false) here ∙ get_or-set_same on (x - 1) true false inside in
    rw (eq-eqb (suc c) x (sym t.0), le-leb 1 (1 + count (suc c) r) (omega arith)) same)
    (λ t.
    let kept = get_or-set_other on (x - 1) c true false (λ e. t.0 (omega (arith, e, low))) in
    rw (ne_eqb (suc c) x (λ e. t.0 (sym e)), zero-add) (kept ∙ marks c))
    (eq_cases x (suc c))

pub flags_none : (on : List Bool) (xs : List ℕ) (i : ℕ) → ((c : ℕ) → get_or on c false ≡ false) → Flags on (part i i xs)
flags_none on xs i zeros c = let e : i - i ≡ 0 = omega arith in rw e (zeros c)

-- the list from one place before
pub part_down : (first end : ℕ) (xs : List ℕ) → 0 < first → first ≤ end → end ≤ length xs → part (first - 1) end xs ≡ get_or xs (first - 1) 0 ∷ part first end xs
part_down first end xs l m k =
    let e : end - (first - 1) ≡ suc (end - first) = omega arith in
    rw (drop_down xs first l (omega arith), e)

-- ---- the cells of one rank, in rising number

-- a rank that lists the cells r, above the ranks rs
pub record Above (n : ℕ) (r : List ℕ) (rs : List (List ℕ)) (old : List ℕ) : Type 0 where
  pub small : n ≤ 12
  pub twelve : length old ≡ 12
  pub low : (i : ℕ) → get_or old i 0 ≤ 4095
  pub ranks : length rs < 12
  pub cells : cells_on rs + length r ≤ 12
  pub apart : (c : ℕ) → c ≤ n → Apart 12 (by_number c r ∷ rs)
  pub few : (c : ℕ) → is_listed (suc c) r ≡ true → cells_above (by_number c r ∷ rs) < 11

module _ {n : ℕ} {r : List ℕ} {rs : List (List ℕ)} {old : List ℕ} (a : Above n r rs old) (on : List Bool) (marks : Flags on r) where
  abbrev below : PushUp
  below = push_up_to 1 rs old

  marked : (c : ℕ) → is_listed (suc c) r ≡ true → get_or on c false ≡ true
  marked c e = marks c ∙ e

  unmarked : (c : ℕ) → is_listed (suc c) r ≡ false → get_or on c false ≡ false
  unmarked c e = marks c ∙ e

  short : (c : ℕ) → is_listed (suc c) r ≡ true → length (pushes 1 (by_number c r ∷ rs) old) < 11
  short c e = omega (arith, few_pushes 1 old (by_number c r ∷ rs), a.few c e)

  off : (c : ℕ) → suc c ≤ n → is_listed (suc c) r ≡ true → OffAll (suc c) (by_number c r ∷ rs)
  unfolding Apart
  off c l e = (rw (number_in c r e) at (a.apart (suc c) l)).0.0.1

  pub rank_up_lem : (c : ℕ) → c ≤ n → rank_up c on old below ≡ push_up_to 1 (by_number c r ∷ rs) old
  unfolding rank_up push_up_to
  rank_up_lem zero l = rw (number_none r) (sym (rank_opened 1 rs old))
  rank_up_lem (suc c) l =
      ⊎_elim
      (λ e.
      rw (marked c e, rank_up_lem c (omega arith), number_in c r e, ← level_next old c)
      (cell_up_lem 1 (record { 0 = suc c }) (by_number c r) rs old (omega (arith, a.twelve, a.small)) (off c l e) (short c e)))
      (λ e. rw (unmarked c e, number_out c r e) (rank_up_lem c (omega arith)))
      (listed_or_not (suc c) r)

  pub rank_fits : PushesFit n on old below
  unfolding push_up_to
  rank_fits c l e =
      let listed : is_listed (suc c) r ≡ true = sym (marks c) ∙ e in
      rw (rank_up_lem c (omega arith))
      ((bounded 1 (omega arith) old a.low (by_number c r ∷ rs) (omega (arith, a.ranks)) (omega (arith, a.cells, number_length c r))).pulses, short c listed)

-- ---- the ranks, from the lowest

sum_split : (k : ℕ) (ss : List ℕ) → sum (take k ss) + sum (drop k ss) ≡ sum ss
unfolding sum
sum_split zero ss = omega arith
sum_split (suc k) [] = refl
sum_split (suc k) (s ∷ ss) = omega (arith, sum_split k ss)

each_drop : (P : ℕ → Type 0) (k : ℕ) (xs : List ℕ) → Each P xs → Each P (drop k xs)
each_drop P zero xs p = p
each_drop P (suc k) [] p = p
each_drop P (suc k) (x ∷ xs) p = each_drop P k xs p.1

pub ranks_length : (n : ℕ) (ss xs : List ℕ) → length (ranks_of n ss xs) ≡ length ss
unfolding ranks_of
ranks_length n [] xs = refl
ranks_length n (s ∷ ss) xs = ap suc (ranks_length n ss (drop s xs))

ranks_cells : (n : ℕ) (ss xs : List ℕ) → cells_on (ranks_of n ss xs) ≤ length xs
unfolding ranks_of
ranks_cells n [] xs = omega arith
ranks_cells n (s ∷ ss) xs = omega (arith, ranks_cells n ss (drop s xs), number_length n (take s xs), length-take s xs, length-drop s xs)

above_few : (n c size : ℕ) (ts ys : List ℕ) → Each (λ s. 1 ≤ s) ts → length ys ≡ size + sum ts → length ys ≤ 12 → is_listed (suc c) (take size ys) ≡ true
    → cells_above (by_number c (take size ys) ∷ ranks_of n ts (drop size ys)) < 11
unfolding ranks_of
above_few n c size [] ys p e l q = omega arith
above_few n c size (t ∷ ts) ys p e l q =
    let rest = ranks_above n t ts (drop size ys) p (omega (arith, length-drop size ys, e)) in
    let here : length (by_number (suc c) (take size ys)) ≡ suc (length (by_number c (take size ys))) = ap length (number_in c (take size ys) q) in
    omega (arith, rest, here, number_length (suc c) (take size ys), length-take size ys, length-drop size ys, e, l)

-- a target of n cells, with rank sizes ss and cells xs, and the old levels
pub record Base (n : ℕ) (ss xs old : List ℕ) : Type 0 where
  pub small : n ≤ 12
  pub size : length xs ≡ n
  pub few : length ss ≤ 12
  pub filled : Each (λ s. 1 ≤ s) ss
  pub adds : sum ss ≡ n
  pub once : (c : ℕ) → count c xs ≤ 1
  pub twelve : length old ≡ 12
  pub low : (i : ℕ) → get_or old i 0 ≤ 4095

module _ (n : ℕ) (t : Ranked) (xs old : List ℕ) (e : is_sizes n t ≡ true) (w : length t.sizes ≡ 12) where
  pub sizes_length : length (sizes_of t) ≡ t.count
  sizes_length = length-take-le t.count t.sizes (omega (arith, (sizes_true n t e).few))

  pub base_of : is_order n xs ≡ true → n ≤ 12 → length old ≡ 12 → all_at_most 4095 old ≡ true → Base n (sizes_of t) xs old
  base_of o l v m =
      let s = sizes_true n t e in
      let order = order_true n xs o in
      record {
        small = l;
        size = order.size;
        few = omega (arith, sizes_length, s.few);
        filled = s.filled;
        adds = s.adds;
        once = (order_cells n xs order).once;
        twelve = v;
        low = all_at 4095 old m;
      }

-- the ranks from index k on, whose cells are listed from index end on, are raised
pub record RaisedFrom (n : ℕ) (ss xs old : List ℕ) (p : PushUp) (k end : ℕ) : Type 0 where
  pub base : Base n ss xs old
  pub left : k ≤ length ss
  pub at : end ≡ sum (take k ss)
  pub sofar : p ≡ push_up_to 1 (ranks_of n (drop k ss) (drop end xs)) old

pub raised_none : {n : ℕ} {ss xs old : List ℕ} → Base n ss xs old
    → RaisedFrom n ss xs old (record { levels = old; floor = 0; pulses = 0; count = 0; pushes = push_array [] }) (length ss) n
unfolding push_up_to ranks_of raise floor_over pushes pulses_in
raised_none {n} {ss} {xs} {old} b =
    let all = take_all (length ss) ss (omega arith) in
    let none = drop_of_length-le ss {i = length ss} (omega arith) in
    record { base = b; left = omega arith; at = rw all (sym b.adds); sofar = rw none }

module _ {n : ℕ} {ss xs old : List ℕ} {p : PushUp} {k end : ℕ} (r : RaisedFrom n ss xs old p k end) (more : 0 < k) where
  open r use {base as b}

  -- the size of the next rank up, where its cells begin, and the ranks below it
  abbrev size : ℕ
  size = get_or ss (k - 1) 0

  abbrev first : ℕ
  first = end - size

  abbrev lower : List (List ℕ)
  lower = ranks_of n (drop k ss) (drop end xs)

  next_sizes : drop (k - 1) ss ≡ size ∷ drop k ss
  next_sizes = drop_down ss k more r.left

  -- its cells are listed before those that are done
  parts : end ≡ sum (take (k - 1) ss) + size
  unfolding sum
  parts =
      let here : sum (drop (k - 1) ss) ≡ size + sum (drop k ss) = ap sum next_sizes in
      omega (arith, r.at, sum_split k ss, sum_split (k - 1) ss, here)

  pub size_fits : size ≤ end
  size_fits = omega (arith, parts)

  pub end_small : end ≤ n
  end_small = omega (arith, r.at, sum_split k ss, b.adds)

  once : (d : ℕ) → count d (drop first xs) ≤ 1
  once d = omega (arith, count-drop d first xs, b.once d)

  as_many : end - first ≡ size
  as_many = omega (arith, size_fits)

  after : drop size (drop first xs) ≡ drop end xs
  after =
      let back : first + size ≡ end = omega (arith, size_fits) in
      drop-drop size first xs ∙ ap (λ (i : ℕ). drop i xs) back

  left_cells : length (drop first xs) ≡ size + sum (drop k ss)
  left_cells = omega (arith, length-drop first xs, b.size, b.adds, r.at, sum_split k ss, size_fits)

  pub next_above : Above n (part first end xs) lower old
  next_above =
      record {
        small = b.small;
        twelve = b.twelve;
        low = b.low;
        ranks = omega (arith, ranks_length n (drop k ss) (drop end xs), length-drop k ss, b.few, more);
        cells = omega (arith, ranks_cells n (drop k ss) (drop end xs), length-drop end xs, length-take (end - first) (drop first xs), as_many, size_fits, end_small, b.size, b.small);
        apart = λ c l.
            let a = apart_to n c size (drop k ss) (drop first xs) l once (ranks_apart n (drop k ss) _ (λ d. omega (arith, count-drop d size (drop first xs), once d))) in
            rw (as_many, ← after) (apart_wider _ b.small a);
        few = λ c q.
            rw (as_many, ← after)
            (above_few n c size (drop k ss) (drop first xs) (each_drop (λ s. 1 ≤ s) k ss b.filled) left_cells (omega (arith, length-drop first xs, b.size, b.small)) (rw as_many at q));
      }

  pub next_floor : p.floor ≤ 5000
  next_floor =
      let a = next_above in
      rw r.sofar (bounded 1 (omega arith) old b.low lower (omega (arith, a.ranks)) (omega (arith, a.cells))).floor

  module _ (on : List Bool) (marks : Flags on (part first end xs)) where
    pub next_fits : PushesFit n on old p
    next_fits = rw r.sofar (rank_fits next_above on marks)

    pub raised_more : {q : PushUp} → q ≡ rank_up n on old p → RaisedFrom n ss xs old q (k - 1) first
    unfolding ranks_of
    raised_more e =
        record {
          base = b;
          left = omega (arith, r.left);
          at = omega (arith, parts);
          sofar = e ∙ rw (r.sofar, next_sizes, after) (rw as_many at (rank_up_lem next_above on marks n (omega arith)));
        }

pub raised_all : {n : ℕ} {ss xs old : List ℕ} {p : PushUp} {k end : ℕ} → RaisedFrom n ss xs old p k end → k ≤ 0 → p ≡ push_up_to 1 (ranks_of n ss xs) old
unfolding sum
raised_all {k = k} r l =
    let none : k ≡ 0 = omega arith in
    let start = rw none at r.at in
    rw (none, start) at r.sofar
