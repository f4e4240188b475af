-- What a shared target is: each rank has the cells that its part of the list names, as many as its size says and in any way listed; and it shows exactly when every
-- cell of a rank is strictly above every cell of the next.
-- Assumes nothing.
use Prim.Native.Nat.{ℕ, zero, suc, ◌+◌, ◌≤◌, ◌<◌, zero-le}
use mathlib.Core.Path.{◌≡◌, refl, sym, ap, ap₂, ◌∙◌}
use mathlib.Core.Logic.{◌≢◌, ◌↔◌, ⊎_elim}
use mathlib.Core.Bool.{true}
use mathlib.Core.List.{List, [], ◌∷◌, map}
use native.Mathlib.Omega.{arith}
use lib.ListN.{length, take, drop, length-take, length-drop}
use borrow.Author.Tests.{lt-ltb, le-ltb}
use Rattle.order.specs.Cells.{tally, count, below}
use Rattle.order.specs.Order.{listed, is_order_of}
use Rattle.order.proofs.Cells.{below_suc, tally-eq, tally-ne, eq_cases, order_true}
use Rattle.order.proofs.Check.{order_parts}
use Rattle.group.specs.Levels.{level, sum}
use Rattle.push_up.specs.PushUp.{floor_over, Shows}
use Rattle.push_up.proofs.Minimal.{Each, each_reach, shows_over}
use Rattle.push_up.proofs.Orders.{CellsOf, order_cells, cells_tail, cells_drop, first_high, listed_range}
use Rattle.sharing.specs.declared.Ranked.{Ranked}
use Rattle.sharing.specs.Shared.{sizes_of, is_sizes, is_listed, by_number, ranks_of, shared_target}
use Rattle.sharing.proofs.Targets.{sizes_true, count_split, number_none, number_in, number_out, listed_or_not}

-- ---- the cells of a rank

-- they depend on which cells are listed alone, not on the way
pub number_same : (n : ℕ) (r s : List ℕ) → ((c : ℕ) → is_listed c r ≡ is_listed c s) → by_number n r ≡ by_number n s
number_same zero r s e = number_none r ∙ sym (number_none s)
number_same (suc n) r s e =
    ⊎_elim (λ t. number_in n r t ∙ ap (λ (xs : List ℕ). suc n ∷ xs) (number_same n r s e) ∙ sym (number_in n s (sym (e (suc n)) ∙ t)))
    (λ t. number_out n r t ∙ number_same n r s e ∙ sym (number_out n s (sym (e (suc n)) ∙ t))) (listed_or_not (suc n) r)

-- a cell that is listed once is counted once
listed_once : (c : ℕ) (r : List ℕ) → count c r ≤ 1 → count c r ≡ tally (is_listed c r)
listed_once c r l = go (count c r) refl l
  where
    go : (k : ℕ) → count c r ≡ k → k ≤ 1 → k ≡ tally (is_listed c r)
    go zero e l = rw e
    go (suc zero) e l = rw e
    go (suc (suc k)) e l = absurd (omega arith)

number_past : (c n : ℕ) (r : List ℕ) → n < c → count c (by_number n r) ≡ 0
number_past c zero r l = rw (number_none r)
number_past c (suc n) r l =
    ⊎_elim (λ t. rw (number_in n r t) (omega (arith, number_past c n r (omega arith), tally-ne (suc n) c (λ e. omega (arith, e)))))
    (λ t. rw (number_out n r t) (number_past c n r (omega arith))) (listed_or_not (suc n) r)

number_at : (n : ℕ) (r : List ℕ) → count (suc n) r ≤ 1 → count (suc n) (by_number (suc n) r) ≡ count (suc n) r
number_at n r once =
    let here = listed_once (suc n) r once in
    let none = number_past (suc n) n r (omega arith) in
    ⊎_elim (λ t. rw (number_in n r t) (omega (arith, none, tally-eq (suc n) (suc n) refl, here, ap tally t)))
    (λ t. rw (number_out n r t) (omega (arith, none, here, ap tally t))) (listed_or_not (suc n) r)

number_under : (c n : ℕ) (r : List ℕ) → c ≢ suc n → count c (by_number (suc n) r) ≡ count c (by_number n r)
number_under c n r d =
    ⊎_elim (λ t. rw (number_in n r t) (omega (arith, tally-ne (suc n) c (λ e. d (sym e))))) (λ t. rw (number_out n r t)) (listed_or_not (suc n) r)

-- each cell of 1 to n is on the rank as often as it is listed, where that is once at most
pub number_count : (c n : ℕ) (r : List ℕ) → 1 ≤ c → c ≤ n → count c r ≤ 1 → count c (by_number n r) ≡ count c r
number_count c zero r low high once = absurd (omega arith)
number_count c (suc n) r low high once =
    ⊎_elim {C = count c (by_number (suc n) r) ≡ count c r} (λ t. rw t.0 (number_at n r (rw t.0 at once)))
    (λ t. number_under c n r t.0 ∙ number_count c n r low (omega (arith, t.0)) once) (eq_cases c (suc n))

number_range : (c n : ℕ) (r : List ℕ) → 1 ≤ count c (by_number n r) → (1 ≤ c) × (c ≤ n)
number_range c zero r l = absurd (omega (arith, ap (λ (xs : List ℕ). count c xs) (number_none r)))
number_range c (suc n) r l =
    ⊎_elim (λ t. (omega arith, omega arith))
    (λ t. let later = number_range c n r (rw (number_under c n r t.0) at l) in (later.0, omega (arith, later.1))) (eq_cases c (suc n))

below_all : {n : ℕ} (r : List ℕ) → CellsOf n r → below (suc n) r ≡ length r
below_all [] s = refl
below_all {n} (c ∷ cs) s = rw (lt-ltb c (suc n) (omega (arith, first_high s))) (omega (arith, below_all cs (cells_tail s)))

number_exact : (n : ℕ) (r : List ℕ) → ((c : ℕ) → count c r ≤ 1) → length (by_number n r) + below 1 r ≡ below (suc n) r
number_exact zero r once = rw (number_none r) (omega arith)
number_exact (suc n) r once =
    let here = listed_once (suc n) r (once (suc n)) in
    ⊎_elim (λ t. rw (number_in n r t) (omega (arith, number_exact n r once, below_suc (suc n) r, here, ap tally t)))
    (λ t. rw (number_out n r t) (omega (arith, number_exact n r once, below_suc (suc n) r, here, ap tally t))) (listed_or_not (suc n) r)

below_zero : (r : List ℕ) → below 0 r ≡ 0
below_zero [] = refl
below_zero (x ∷ xs) = rw (le-ltb x 0 (omega arith)) (omega (arith, below_zero xs))

-- as many as are listed
number_size : {n : ℕ} (r : List ℕ) → CellsOf n r → length (by_number n r) ≡ length r
number_size {n} r s = omega (arith, number_exact n r s.once, below_all r s, below_suc 0 r, below_zero r, s.none)

-- ---- the ranks of a list of cells

cells_take : {n : ℕ} (s : ℕ) {xs : List ℕ} → CellsOf n xs → CellsOf n (take s xs)
cells_take s {xs} c =
    record {
      none = omega (arith, count_split 0 s xs, c.none);
      once = λ d. omega (arith, count_split d s xs, c.once d);
      past = λ d l. omega (arith, count_split d s xs, c.past d l);
    }

-- each rank has as many cells as its size says
pub ranks_sizes : {n : ℕ} (ss xs : List ℕ) → CellsOf n xs → sum ss ≤ length xs → map length (ranks_of n ss xs) ≡ ss
unfolding ranks_of sum
ranks_sizes [] xs c l = refl
ranks_sizes (s ∷ ss) xs c l =
    ap₂ ◌∷◌ (number_size (take s xs) (cells_take s c) ∙ omega (arith, length-take s xs)) (ranks_sizes ss (drop s xs) (cells_drop s c) (omega (arith, length-drop s xs)))

-- every cell of a rank is strictly above every cell of the next: the cells as the list has them, in parts of these sizes
abbrev pub Strictly : List ℕ → List ℕ → List ℕ → Type 0
Strictly [] xs ls = Unit {0}
Strictly (s ∷ []) xs ls = Unit {0}
Strictly (s ∷ t ∷ ss) xs ls = ((c d : ℕ) → 1 ≤ count c (take s xs) → 1 ≤ count d (take t (drop s xs)) → level ls d < level ls c) × Strictly (t ∷ ss) (drop s xs) ls

module _ (n : ℕ) (ls : List ℕ) where
  -- a cell of a list of the cells 1 to n is on the rank of that list, and the other way round
  onto : (c : ℕ) (r : List ℕ) → CellsOf n r → 1 ≤ count c r → 1 ≤ count c (by_number n r)
  onto c r s l = let at = listed_range n r s c l in rw (number_count c n r at.0 at.1 (s.once c)) l

  back : (c : ℕ) (r : List ℕ) → CellsOf n r → 1 ≤ count c (by_number n r) → 1 ≤ count c r
  back c r s l = let at = number_range c n r l in rw (← number_count c n r at.0 at.1 (s.once c)) l

  pub shows_strictly : (ss xs : List ℕ) → CellsOf n xs → Each (λ s. 1 ≤ s) ss → sum ss ≤ length xs → Shows 1 (ranks_of n ss xs) ls ↔ Strictly ss xs ls
  unfolding ranks_of Shows floor_over sum
  shows_strictly [] xs s p l = (λ e. tt, λ e. tt)
  shows_strictly (a ∷ []) xs s p l = (λ e. tt, λ e. (each_reach 0 (by_number n (take a xs)) ls (λ c k. zero-le), tt))
  shows_strictly (a ∷ b ∷ ss) xs s p l =
      let rest = cells_drop a s in
      let here = take a xs in
      let next = take b (drop a xs) in
      let some : 1 ≤ length (by_number n next) = omega (arith, number_size next (cells_take b rest), length-take b (drop a xs), length-drop a xs, p.1.0) in
      let over = shows_over 1 (by_number n here) (by_number n next) (ranks_of n ss (drop b (drop a xs))) ls some in
      let later = shows_strictly (b ∷ ss) (drop a xs) rest p.1 (omega (arith, length-drop a xs)) in (
        λ e. let o = over.0 e in (λ c d k m. omega (arith, o.0 c d (onto c here (cells_take a s) k) (onto d next (cells_take b rest) m)), later.0 o.1),
        λ e. over.1 (λ c d k m. omega (arith, e.0 c d (back c here (cells_take a s) k) (back d next (cells_take b rest) m)), later.1 e.1),
      )

-- a shared target past its checks: each rank has as many cells as its size says, and the target shows in levels exactly when every cell of a rank is strictly above every
-- cell of the next
module _ (n : ℕ) (t : Ranked) (e : is_sizes n t ≡ true) (f : is_order_of n t.cells ≡ true) where
  cells : CellsOf n (listed t.cells)
  cells = order_cells n (listed t.cells) (order_true n (listed t.cells) (order_parts n t.cells f).1.order)

  enough : sum (sizes_of t) ≤ length (listed t.cells)
  enough = omega (arith, (sizes_true n t e).adds, (order_true n (listed t.cells) (order_parts n t.cells f).1.order).size)

  pub target_sizes : map length (shared_target n t) ≡ sizes_of t
  target_sizes = ranks_sizes (sizes_of t) (listed t.cells) cells enough

  pub target_strictly : (ls : List ℕ) → Shows 1 (shared_target n t) ls ↔ Strictly (sizes_of t) (listed t.cells) ls
  target_strictly ls = shows_strictly n ls (sizes_of t) (listed t.cells) cells (sizes_true n t e).filled enough
