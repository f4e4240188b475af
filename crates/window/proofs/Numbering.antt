-- The loop over the windows: what the lists hold after each window.
-- Assumes nothing.
use Prim.Native.Nat.{ℕ, ◌+◌, ◌-◌, ◌*◌, ◌/◌, ◌≤◌, ◌<◌}
use mathlib.Core.Path.{◌≡◌, refl, sym, ap, ◌∙◌}
use mathlib.Core.List.{List, ◌++◌}
use native.Mathlib.Nat.{suc-mul, mul-le-mul_right, div-mul-le_self, mod-eq_of_lt}
use native.Mathlib.Omega.{arith}
use lib.ListN.{length, get_or, set, take, drop, length-append, length-drop}
use lib.Seq.{take_at, drop_at, drop-drop, ext_get_or, get_or-take, get_or-drop, length-take-le, take_all}
use Rattle.order.specs.Cells.{tabulate}
use Rattle.order.proofs.Tabulate.{length_tabulate, get_d_tabulate}
use Rattle.window.specs.Ring.{window_number, window_at, number_at, window_numbers}
use Rattle.window.specs.Calls.{put_first}
use Rattle.window.specs.Steps.{Numberable, KeptPast}
use Rattle.window.proofs.Placing.{grown, grown_none, grown_length, grown_more, grown_whole, level_on}

-- ---- windows

pub window_length : (ring : List ℕ) (width p : ℕ) → length (window_at ring width p) ≡ width
unfolding window_at
window_length ring width p = length_tabulate width (level_on ring p)

pub numbers_length : (ring : List ℕ) (width step : ℕ) → length (window_numbers ring width step) ≡ length ring / step
unfolding window_numbers
numbers_length ring width step = length_tabulate (length ring / step) (number_at ring width step)

-- a window that does not go round the end
pub window_inside : (ring : List ℕ) (width p : ℕ) → p + width ≤ length ring → window_at ring width p ≡ take (p + width - p) (drop p ring)
unfolding window_at
window_inside ring width p l =
    let e : p + width - p ≡ width = omega arith in
    let long : length (take width (drop p ring)) ≡ width = length-take-le width (drop p ring) (omega (arith, length-drop p ring)) in
    rw e
    (ext_get_or 0 (window_at ring width p) (take width (drop p ring)) (window_length ring width p ∙ sym long)
    (λ i g.
    let h : i < width = omega (arith, window_length ring width p) in
    let f : p + i < length ring = omega arith in
    get_d_tabulate width (level_on ring p) i 0 h ∙ ap (λ (k : ℕ). get_or ring k 0) (mod-eq_of_lt f)
    ∙ sym (get_or-take width (drop p ring) i 0 h ∙ get_or-drop p ring i 0)))

-- the window that is the whole ring, from its first cell
pub window_ring : (ring : List ℕ) → window_at ring (length ring) 0 ≡ ring
window_ring ring = window_inside ring (length ring) 0 (omega arith) ∙ take_all (0 + length ring - 0) ring (omega arith)

-- a list with a window first
module _ (ring : List ℕ) (width p : ℕ) (old : List ℕ) {new : List ℕ} (e : new ≡ put_first (window_at ring width p) old) where
  pub placed_first : take width new ≡ window_at ring width p
  placed_first = rw e (take_at (window_at ring width p) _ width (window_length ring width p))

  pub placed_later : drop width new ≡ drop width old
  placed_later = rw e (drop_at (window_at ring width p) _ width (window_length ring width p) ∙ rw (window_length ring width p))

  pub placed_length : width ≤ length old → length new ≡ length old
  placed_length l =
      let w = window_length ring width p in
      rw e (omega (arith, length-append (window_at ring width p) (drop (length (window_at ring width p)) old), length-drop (length (window_at ring width p)) old, w))

  pub placed_kept : width ≤ length old → KeptPast width old new
  placed_kept l = record { later = placed_later; long = placed_length l }

-- ---- the loop

pub record Numbering (ring : List ℕ) (width step : ℕ) (numbers₀ scratch₀ numbers scratch : List ℕ) (k : ℕ) : Type 0 where
  pub needs : Numberable ring width step numbers₀ scratch₀
  pub list : numbers ≡ grown (number_at ring width step) k numbers₀
  pub kept : drop width scratch ≡ drop width scratch₀
  pub long : length scratch ≡ length scratch₀

pub begin : {ring : List ℕ} {width step : ℕ} {numbers scratch : List ℕ} → Numberable ring width step numbers scratch
    → Numbering ring width step numbers scratch numbers scratch 0
begin {ring} {width} {step} {numbers} {scratch} n =
    record { needs = n; list = grown_none (number_at ring width step) numbers; kept = refl; long = refl }

module _ {ring : List ℕ} {width step : ℕ} {numbers₀ scratch₀ numbers scratch : List ℕ} {k : ℕ} (s : Numbering ring width step numbers₀ scratch₀ numbers scratch k) where
  pub numbers_long : k ≤ length ring / step → length numbers ≡ length numbers₀
  numbers_long l = ap length s.list ∙ grown_length (number_at ring width step) k numbers₀ (omega (arith, s.needs.count))

  pub has_room : width ≤ length scratch
  has_room = omega (arith, s.long, s.needs.inside, s.needs.room)

  module _ (l : k < length ring / step) where
    -- a window starts on the ring
    pub start_inside : k * step < length ring
    start_inside = omega (arith, s.needs.forward, suc-mul k step, mul-le-mul_right step l, div-mul-le_self (length ring) step)

    pub next : {new : List ℕ} {number : ℕ} → number ≡ window_number (window_at ring width (k * step)) → KeptPast width scratch new
        → Numbering ring width step numbers₀ scratch₀ (set numbers k number) new (k + 1)
    next {new} {number} f e =
        record {
          needs = s.needs;
          list = rw (s.list, f) (grown_more (number_at ring width step) k numbers₀ (omega (arith, s.needs.count)));
          kept = e.later ∙ s.kept;
          long = e.long ∙ s.long;
        }

  pub numbers_done : k ≡ length ring / step → numbers ≡ put_first (window_numbers ring width step) numbers₀
  unfolding window_numbers
  numbers_done e =
      s.list ∙ grown_whole (number_at ring width step) k numbers₀ ∙ ap (λ (n : ℕ). put_first (tabulate n (number_at ring width step)) numbers₀) e

  -- the whole ring put over the last window
  pub scratch_done : {new : List ℕ} → new ≡ put_first ring scratch → new ≡ put_first ring scratch₀
  scratch_done {new} e =
      let past : width + (length ring - width) ≡ length ring = omega (arith, s.needs.inside) in
      let later : drop (length ring) scratch ≡ drop (length ring) scratch₀ =
      ap (λ (n : ℕ). drop n scratch) (sym past) ∙ sym (drop-drop (length ring - width) width scratch) ∙ ap (drop (length ring - width)) s.kept
      ∙ drop-drop (length ring - width) width scratch₀ ∙ ap (λ (n : ℕ). drop n scratch₀) past in
      e ∙ ap (λ (t : List ℕ). ring ++ t) later
