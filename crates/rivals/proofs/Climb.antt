-- The minimal push-up along an order: how high its first cell comes, and that this cell is the highest.
-- Assumes nothing.
use Prim.Native.Nat.{ℕ, zero, suc, ◌+◌, ◌≤◌, ◌<◌, max}
use native.Mathlib.Nat.{le_refl, max-zero}
use native.Mathlib.Omega.{arith}
use mathlib.Core.Path.{◌≡◌, refl, sym, ap}
use mathlib.Core.Bool.{true}
use mathlib.Core.Logic.{⊎_elim}
use mathlib.Core.List.{List, [], ◌∷◌}
use lib.ListN.{length, get_or}
use borrow.Author.Tests.{eq-eqb, ne_eqb}
use Rattle.order.specs.Cells.{count, place_from, is_order}
use Rattle.order.proofs.Cells.{order_true, lt_cases, eq_cases, tally-eq, tally-ne}
use Rattle.order.proofs.Places.{cell_stands}
use Rattle.group.specs.Levels.{level}
use Rattle.push_up.specs.PushUp.{singles, top, floor_over, lift, raise}
use Rattle.group.proofs.Levels.{level_put, at_most_length}
use Rattle.push_up.proofs.Minimal.{raise_above}
use Rattle.push_up.proofs.Orders.{CellsOf, cells_tail, first_low, first_high, first_new, order_shows, Falling, shows_falling}

-- ---- places

place_here : (p c : ℕ) (cs : List ℕ) → place_from p (c ∷ cs) c ≡ p
unfolding place_from
place_here p c cs = rw (eq-eqb c c refl)

place_later : (p x c : ℕ) (cs : List ℕ) → (c ≡ x → ⊥) → place_from p (c ∷ cs) x ≡ place_from (suc p) cs x
unfolding place_from
place_later p x c cs d = rw (ne_eqb x c (λ e. d (sym e)))

-- ---- how high the first cell comes

-- h is the largest of the cells' levels, each with its distance from the first place p added
pub record Peak (old : List ℕ) (p : ℕ) (cs : List ℕ) (h : ℕ) : Type 0 where
  pub over : (x : ℕ) → 1 ≤ count x cs → level old x + place_from p cs x ≤ h + p
  pub cell : ℕ
  pub listed : 1 ≤ count cell cs
  pub there : level old cell + place_from p cs cell ≡ h + p

-- a last cell keeps its level
peak_last : (old : List ℕ) (p c : ℕ) → Peak old p (c ∷ []) (level old c)
peak_last old p c =
    record {
      over = λ x l.
          ⊎_elim (λ t. omega (arith, ap (level old) t.0, ap (place_from p (c ∷ [])) t.0, place_here p c []))
          (λ t. absurd (omega (arith, tally-ne c x t.0)))
          (eq_cases c x);
      cell = c;
      listed = omega (arith, tally-eq c c refl);
      there = omega (arith, place_here p c []);
    }

-- a cell that comes to stand first is as high as it was, or one above the one below it
module _ (old : List ℕ) (p c : ℕ) (cs : List ℕ) (new : count c cs ≡ 0) (h : ℕ) (k : Peak old (suc p) cs h) where
  peak_over : (x : ℕ) → 1 ≤ count x (c ∷ cs) → level old x + place_from p (c ∷ cs) x ≤ max (level old c) (h + 1) + p
  peak_over x l = grind (arith, place_here, place_later, tally-ne, eq_cases)

  other : c ≡ k.cell → ⊥
  other e = grind arith

  peak_more : Peak old p (c ∷ cs) (max (level old c) (h + 1))
  peak_more =
      ⊎_elim
      (λ t. record {
        over = peak_over;
        cell = k.cell;
        listed = omega (arith, k.listed);
        there = omega (arith, place_later p k.cell c cs other, k.there);
      })
      (λ t. record {
        over = peak_over;
        cell = c;
        listed = omega (arith, tally-eq c c refl);
        there = omega (arith, place_here p c cs);
      })
      (lt_cases (level old c) (h + 1))

-- the level to which the first cell is raised
first_level : {n : ℕ} (old : List ℕ) (c : ℕ) (cs : List ℕ) → CellsOf n (c ∷ cs) → n ≤ length old
    → level (raise 1 (singles (c ∷ cs)) old) c ≡ max (level old c) (floor_over 1 (singles cs) (raise 1 (singles cs) old))
unfolding singles raise lift
first_level old c cs s l =
    level_put (raise 1 (singles cs) old) c _ (omega (arith, at_most_length (raise_above 1 (singles cs) old), first_low s, first_high s))

-- with no cell below it there is no floor, else it is one above the cell below
floor_none : (ls : List ℕ) → floor_over 1 (singles []) ls ≡ 0
unfolding singles floor_over
floor_none ls = refl

floor_first : (d : ℕ) (ds ls : List ℕ) → floor_over 1 (singles (d ∷ ds)) ls ≡ level ls d + 1
unfolding singles floor_over top
floor_first d ds ls = omega arith

pub raise_peak : {n : ℕ} (old : List ℕ) (p c : ℕ) (cs : List ℕ) → CellsOf n (c ∷ cs) → n ≤ length old
    → Peak old p (c ∷ cs) (level (raise 1 (singles (c ∷ cs)) old) c)
raise_peak old p c [] s l = rw (first_level old c [] s l, floor_none (raise 1 (singles []) old), max-zero) (peak_last old p c)
raise_peak old p c (d ∷ ds) s l =
    let new = raise 1 (singles (d ∷ ds)) old in
    rw (first_level old c (d ∷ ds) s l, floor_first d ds new)
    (peak_more old p c (d ∷ ds) (first_new s) (level new d) (raise_peak old (suc p) d ds (cells_tail s) l))

-- ---- the first cell is the highest

falling_first : (xs ls : List ℕ) → Falling 1 xs ls → (i : ℕ) → i < length xs → level ls (get_or xs i 0) ≤ level ls (get_or xs 0 0)
unfolding Falling
falling_first xs ls f zero l = le_refl _
falling_first xs ls f (suc i) l = omega (arith, f i l, falling_first xs ls f i (omega arith))

module _ (n : ℕ) (v : List ℕ) (q : is_order n v ≡ true) where
  pub first_highest : (ls : List ℕ) → n ≤ length ls → (c : ℕ) → 1 ≤ c → c ≤ n
      → level (raise 1 (singles v) ls) c ≤ level (raise 1 (singles v) ls) (get_or v 0 0)
  first_highest ls l c low high =
      let s = cell_stands n v (order_true n v q) c low high in
      let new = raise 1 (singles v) ls in
      omega (arith, ap (level new) s.there, falling_first v new (shows_falling 1 v new (order_shows 1 n v ls q l)) s.index s.inside)
