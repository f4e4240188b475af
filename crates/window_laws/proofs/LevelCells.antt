-- Level cells of windows (document 02, request (c)): the one whose new number is greater stands higher, whatever their numbers in the ring; an order
-- that shows is the one sensed; and where no two cells are level, numbers are those of the former rule.
-- Assumes nothing.
use Prim.Native.Nat.{ℕ, ◌+◌, ◌-◌, ◌*◌, ◌/◌, ◌%◌, ◌≤◌, ◌<◌}
use mathlib.Core.Path.{◌≡◌, sym, ap, ap₂, ◌∙◌}
use mathlib.Core.Bool.{true}
use mathlib.Core.Logic.{◌↔◌}
use mathlib.Core.List.{List}
use native.Mathlib.Decide.{dec_lt}
use native.Mathlib.Nat.{mod-lt, mod-eq_of_lt, add-mod-mod, add-mod_left}
use native.Mathlib.Omega.{arith}
use lib.ListN.{length, get_or}
use Rattle.order.specs.Cells.{place_of, is_order}
use Rattle.order.proofs.Tabulate.{get_d_tabulate, tabulate_ext}
use Rattle.group.specs.Levels.{level}
use Rattle.group.proofs.Levels.{level_next}
use Rattle.push_up.specs.PushUp.{singles, Shows}
use Rattle.sensing.specs.LevelCells.{Different}
use Rattle.sensing.proofs.Sensed.{sensed_back}
use Rattle.sensing.proofs.LevelCells.{rank_stands, former_order_lem}
use Rattle.window.specs.Ring.{order_number, window_order, window_number, level_round, window_at, number_at, window_numbers}
use Rattle.window.proofs.Numbering.{window_length}
use Rattle.window_laws.specs.LevelCells.{new_number, InWindow, StandsInWindow, former_number, former_numbers}

-- ---- a window

former_number_lem : (ls : List ℕ) → Different (length ls) ls → former_number ls ≡ window_number ls
unfolding former_number window_number
former_number_lem ls apart = ap (order_number (length ls)) (former_order_lem (length ls) ls apart)

module _ (ring : List ℕ) (width p : ℕ) where
  window_at_lem : (i : ℕ) → i < width → get_or (window_at ring width p) i 0 ≡ level_round ring (p + i)
  unfolding window_at
  window_at_lem i l = get_d_tabulate width (λ j. level_round ring (p + j)) i 0 l

  -- an order of the window's cells that shows is the one sensed, and has the window's number
  pub window_shows : (xs : List ℕ) → is_order width xs ≡ true → Shows 1 (singles xs) (window_at ring width p)
      → (window_order (window_at ring width p) ≡ xs) × (window_number (window_at ring width p) ≡ order_number width xs)
  unfolding window_number
  window_shows xs o s =
      let w = window_at ring width p in
      let n = window_length ring width p in
      let back : window_order w ≡ xs = rw n (sensed_back width xs w o s) in
      (back, ap₂ order_number n back)

  pub window_former : Different width (window_at ring width p) → former_number (window_at ring width p) ≡ window_number (window_at ring width p)
  window_former apart = former_number_lem (window_at ring width p) (rw (window_length ring width p) apart)

-- ---- the cells of a ring in a window

module _ (ring : List ℕ) (width p : ℕ) (start : p ≤ length ring) where
  -- a cell of the window is as far past its start as its new number says
  cell_level : (c : ℕ) → InWindow ring width p c → level (window_at ring width p) (new_number ring p c) ≡ level ring c
  unfolding new_number level
  cell_level c w =
      let n = length ring in
      let i = (c - 1 + (n - p)) % n in
      let f : p + (c - 1 + (n - p)) ≡ n + (c - 1) = omega arith in
      let back : (p + i) % n ≡ c - 1
      = add-mod-mod p (c - 1 + (n - p)) n ∙ ap (λ (x : ℕ). x % n) f ∙ add-mod_left n (c - 1) ∙ mod-eq_of_lt (omega (arith, w.first, w.last)) in
      level_next (window_at ring width p) i ∙ window_at_lem ring width p i w.inside ∙ ap (λ (x : ℕ). get_or ring x 0) back

  -- cell a comes before cell b in the window's order exactly where it stands above it: by level, and among equal levels by new number
  pub window_stands : (a b : ℕ) → InWindow ring width p a → InWindow ring width p b
      → (place_of (window_order (window_at ring width p)) (new_number ring p a) < place_of (window_order (window_at ring width p)) (new_number ring p b))
      ↔ StandsInWindow ring p a b
  unfolding new_number
  window_stands a b v w =
      let window = window_at ring width p in
      let long = window_length ring width p in
      let i = (a - 1 + (length ring - p)) % length ring in
      let j = (b - 1 + (length ring - p)) % length ring in
      rw (cell_level a v, cell_level b w) at (rank_stands (length window) window i j (omega (arith, long, v.inside)) (omega (arith, long, w.inside)))

-- ---- along a ring

-- two places that are less than once round apart
places_apart : (n a d : ℕ) → 0 < d → d < n → (a + d) % n ≡ a % n → ⊥
places_apart n a d p l e =
    let r = a % n in
    let small : r < n = mod-lt a (omega arith) in
    let f : d + a ≡ a + d = omega arith in
    let same : (d + r) % n ≡ r = add-mod-mod d a n ∙ ap (λ (x : ℕ). x % n) f ∙ e in
    elim (dec_lt (d + r) n) [
      | yes h ↦ omega (arith, mod-eq_of_lt h, same)
      | no h ↦
          let g : d + r ≡ n + (d + r - n) = omega arith in
          let back : (d + r) % n ≡ d + r - n = ap (λ (x : ℕ). x % n) g ∙ add-mod_left n (d + r - n) ∙ mod-eq_of_lt (omega arith) in
          omega (arith, back, same)
    ]

-- where no two cells of the ring are level, no two of a window are
window_apart : (ring : List ℕ) (width p : ℕ) → width ≤ length ring → Different (length ring) ring → Different width (window_at ring width p)
window_apart ring width p inside apart i j h l e =
    let n = length ring in
    let a = (p + i) % n in
    let b = (p + j) % n in
    let la : a < n = mod-lt (p + i) (omega arith) in
    let lb : b < n = mod-lt (p + j) (omega arith) in
    let same : get_or ring a 0 ≡ get_or ring b 0 = sym (window_at_lem ring width p i (omega arith)) ∙ e ∙ window_at_lem ring width p j l in
    let g : p + i + (j - i) ≡ p + j = omega arith in
    elim (dec_lt a b) [
      | yes q ↦ apart a b q lb same
      | no q ↦
          elim (dec_lt b a) [
            | yes r ↦ apart b a r la (sym same)
            | no r ↦ places_apart n (p + i) (j - i) (omega arith) (omega arith) (ap (λ (x : ℕ). x % n) g ∙ omega arith)
          ]
    ]

module _ (ring : List ℕ) (width step : ℕ) where
  -- where no two cells of a window are level, the numbers are those of the former rule
  pub former_numbers_lem : ((k : ℕ) → k < length ring / step → Different width (window_at ring width (k * step)))
      → former_numbers ring width step ≡ window_numbers ring width step
  unfolding former_numbers window_numbers
  former_numbers_lem apart =
      tabulate_ext (length ring / step) (λ k. former_number (window_at ring width (k * step))) (number_at ring width step)
      (λ k l. window_former ring width (k * step) (apart k l))

  pub former_ring : width ≤ length ring → Different (length ring) ring → former_numbers ring width step ≡ window_numbers ring width step
  former_ring inside apart = former_numbers_lem (λ k l. window_apart ring width (k * step) inside apart)
