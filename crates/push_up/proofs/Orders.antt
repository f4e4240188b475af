-- Targets of a push-up: what every one of n cells has, and that an order has it, so that the push-up shows it; and what showing an order says.
-- Assumes nothing.
use Rattle.std.proofs.Common.{◌≡◌, ℕ, zero, suc, ◌+◌, ◌-◌, ◌<◌, ◌≤◌, true, ◌↔◌, List, [], ◌∷◌, length, get_or, drop, refl, ap, ⊎_elim, le_trans, le_refl, le_of_suc-le-suc, not-suc-le-zero, arith}
use mathlib.Core.List.{flatten}
use Rattle.order.specs.Cells.{count, is_order}
use Rattle.order.proofs.Cells.{IsOrder, order_true, order_count, order_past, below_suc, count-drop, tally-eq, lt_cases, eq_cases}
use Rattle.group.specs.Levels.{level}
use Rattle.push_up.specs.PushUp.{singles, top, floor_over, Reach, Shows, raise}
use Rattle.push_up.proofs.Minimal.{OffAll, Apart, raise_shows}
use Rattle.push_up.proofs.Pushes.{cells_above, singles_above}

-- ---- cells of 1 to n, none doubled

pub record CellsOf (n : ℕ) (cs : List ℕ) : Type 0 where
  pub none : count 0 cs ≡ 0
  pub once : (c : ℕ) → count c cs ≤ 1
  pub past : (c : ℕ) → n < c → count c cs ≡ 0

pub order_cells : (n : ℕ) (xs : List ℕ) → IsOrder n xs → CellsOf n xs
order_cells n xs o =
    record {
      none = zero_none;
      once = λ c. at_most_once c;
      past = λ c l. beyond c l;
    }
  where
    zero_none : count 0 xs ≡ 0
    zero_none = omega (arith, below_suc 0 xs, o.up_to 0 (omega arith))

    at_most_once : (c : ℕ) → count c xs ≤ 1
    at_most_once zero = omega (arith, zero_none)
    at_most_once (suc c) =
        ⊎_elim (λ t. omega (arith, order_count n xs o c t.0)) (λ t. omega (arith, order_past n xs o c t.0)) (lt_cases c n)

    beyond : (c : ℕ) → n < c → count c xs ≡ 0
    beyond zero l = absurd (not-suc-le-zero l)
    beyond (suc c) l = order_past n xs o c (le_of_suc-le-suc l)

pub cells_drop : {n : ℕ} {cs : List ℕ} (i : ℕ) → CellsOf n cs → CellsOf n (drop i cs)
cells_drop {n} {cs} i s =
    record {
      none = omega (arith, count-drop 0 i cs, s.none);
      once = λ c. omega (arith, count-drop c i cs, s.once c);
      past = λ c l. omega (arith, count-drop c i cs, s.past c l);
    }

pub cells_wider : {n m : ℕ} {cs : List ℕ} → n ≤ m → CellsOf n cs → CellsOf m cs
cells_wider l s = record { none = s.none; once = s.once; past = λ c h. s.past c (omega arith) }

pub cells_tail : {n c : ℕ} {cs : List ℕ} → CellsOf n (c ∷ cs) → CellsOf n cs
cells_tail s = cells_drop 1 s

-- what the first one tells
module _ {n c : ℕ} {cs : List ℕ} (s : CellsOf n (c ∷ cs)) where
  pub first_low : 1 ≤ c
  first_low = ⊎_elim (λ t. omega (arith, tally-eq c 0 (omega arith), s.none)) (λ t. t.0) (lt_cases c 1)

  pub first_high : c ≤ n
  first_high = ⊎_elim (λ t. omega (arith, tally-eq c c refl, s.past c t.0)) (λ t. t.0) (lt_cases n c)

  pub first_new : count c cs ≡ 0
  first_new = omega (arith, tally-eq c c refl, s.once c)

-- a cell that is listed is one of 1 to n
pub listed_range : (n : ℕ) (cs : List ℕ) → CellsOf n cs → (c : ℕ) → 1 ≤ count c cs → (1 ≤ c) × (c ≤ n)
listed_range n cs s zero l = absurd (omega (arith, s.none))
listed_range n cs s (suc c) l = (omega arith, ⊎_elim (λ t. absurd (omega (arith, s.past (suc c) t.0))) (λ t. t.0) (lt_cases n (suc c)))

off_all : (n c : ℕ) (cs : List ℕ) → 1 ≤ c → CellsOf n cs → count c cs ≡ 0 → OffAll c (singles cs)
unfolding singles
off_all n c [] l s e = tt
off_all n c (d ∷ ds) l s e =
    ⊎_elim (λ t. absurd (omega (arith, tally-eq d c t.0)))
    (λ t. ((λ q. t.0 (omega (arith, first_low s)), tt), off_all n c ds l (cells_tail s) (omega arith)))
    (eq_cases d c)

pub cells_off : {n c : ℕ} {cs : List ℕ} → CellsOf n (c ∷ cs) → OffAll c (singles cs)
cells_off {n} {c} {cs} s = off_all n c cs (first_low s) (cells_tail s) (first_new s)

cells_apart : {n : ℕ} (m : ℕ) (cs : List ℕ) → n ≤ m → CellsOf n cs → Apart m (singles cs)
unfolding singles Apart
cells_apart m [] l s = tt
cells_apart m (c ∷ cs) l s = ((((first_low s, le_trans (first_high s) l), (tt, cells_off s)), tt), cells_apart m cs l (cells_tail s))

-- ---- targets

-- the cells of an order's ranks are its own
pub flatten_singles : (xs : List ℕ) → flatten (singles xs) ≡ xs
unfolding flatten singles
flatten_singles [] = refl
flatten_singles (x ∷ xs) = ap (λ (ys : List ℕ). x ∷ ys) (flatten_singles xs)

-- a target of n cells: they stand apart, and at most n - 1 of them stand above the lowest rank
pub record TargetOf (n : ℕ) (t : List (List ℕ)) : Type 0 where
  pub apart : Apart n t
  pub few : cells_above t ≤ n - 1

pub order_target : (n : ℕ) (xs : List ℕ) → is_order n xs ≡ true → TargetOf n (singles xs)
order_target n xs e =
    let o = order_true n xs e in
    record { apart = cells_apart n xs (le_refl n) (order_cells n xs o); few = omega (arith, singles_above xs, o.size) }

-- the cells of an order stand apart, so that it shows after its push-up
pub order_apart : (n : ℕ) (xs ls : List ℕ) → is_order n xs ≡ true → n ≤ length ls → Apart (length ls) (singles xs)
order_apart n xs ls e l = cells_apart (length ls) xs l (order_cells n xs (order_true n xs e))

pub order_shows : (gap n : ℕ) (xs ls : List ℕ) → is_order n xs ≡ true → n ≤ length ls → Shows gap (singles xs) (raise gap (singles xs) ls)
order_shows gap n xs ls e l = raise_shows gap (singles xs) ls (order_apart n xs ls e l)

-- an order shows when the levels fall along it, each time by the gap or more: with gap 1, strictly
unfoldable pub Falling : ℕ → List ℕ → List ℕ → Type 0
Falling gap xs ls = (i : ℕ) → suc i < length xs → level ls (get_or xs (suc i) 0) + gap ≤ level ls (get_or xs i 0)

module _ (gap : ℕ) where
  pub shows_falling : (xs ls : List ℕ) → Shows gap (singles xs) ls → Falling gap xs ls
  unfolding singles Shows Reach floor_over top Falling
  shows_falling [] ls s i l = absurd (not-suc-le-zero l)
  shows_falling (c ∷ []) ls s i l = absurd (not-suc-le-zero (le_of_suc-le-suc l))
  shows_falling (c ∷ d ∷ ds) ls s zero l = omega (arith, s.0.0)
  shows_falling (c ∷ d ∷ ds) ls s (suc i) l = shows_falling (d ∷ ds) ls s.1 i (le_of_suc-le-suc l)

  pub falling_shows : (xs ls : List ℕ) → Falling gap xs ls → Shows gap (singles xs) ls
  unfolding singles Shows Reach floor_over top Falling
  falling_shows [] ls f = tt
  falling_shows (c ∷ []) ls f = ((omega arith, tt), tt)
  falling_shows (c ∷ d ∷ ds) ls f = ((omega (arith, f 0 (omega arith)), tt), falling_shows (d ∷ ds) ls (λ i l. f (suc i) (omega arith)))

  pub shows_iff_falling : (xs ls : List ℕ) → Shows gap (singles xs) ls ↔ Falling gap xs ls
  shows_iff_falling xs ls = (shows_falling xs ls, falling_shows xs ls)
