-- A ring that is turned by so many steps has its numbers turned by as many.
-- Assumes nothing.
use Prim.Native.Nat.{ℕ, ◌+◌, ◌-◌, ◌*◌, ◌/◌, ◌%◌, ◌≤◌, ◌<◌}
use mathlib.Core.Path.{◌≡◌, sym, ap, ap₂, ◌∙◌}
use mathlib.Core.List.{List, ◌++◌}
use native.Mathlib.Nat.{add_assoc, add-mul, one-mul, mul-le-mul_right, le-div_iff_mul-le, mod-lt, mod-eq_of_lt, add-mod-mod, add-mod_left, div-add-mod'}
use native.Mathlib.Omega.{arith}
use lib.ListN.{length, get_or}
use lib.Seq.{take_at, drop_at, ext_get_or}
use Rattle.order.specs.Cells.{tabulate}
use Rattle.order.proofs.Tabulate.{length_tabulate, get_d_tabulate, tabulate_ext, tabulate_add}
use Rattle.window.specs.Ring.{window_number, level_round, window_at, number_at, window_numbers}
use Rattle.window_laws.specs.Turn.{turned}

-- ---- a list that is turned

-- a function that comes back after k + m places, from place k on
turned_parts : (k m : ℕ) (f : ℕ → ℕ) → ((i : ℕ) → f (k + m + i) ≡ f i) → turned k (tabulate (k + m) f) ≡ tabulate (m + k) (λ i. f (k + i))
unfolding turned
turned_parts k m f r =
    let front = tabulate k f in
    let back = tabulate m (λ i. f (k + i)) in
    let again : tabulate k (λ i. f (k + (m + i))) ≡ front = tabulate_ext k _ _ (λ i l. ap f (sym (add_assoc k m i)) ∙ r i) in
    rw (tabulate_add k m f, drop_at front back k (length_tabulate k f), take_at front back k (length_tabulate k f))
    (ap (λ (t : List ℕ). back ++ t) (sym again) ∙ sym (tabulate_add m k (λ i. f (k + i))))

turned_tabulate : (n k : ℕ) (f : ℕ → ℕ) → k ≤ n → ((i : ℕ) → f (n + i) ≡ f i) → turned k (tabulate n f) ≡ tabulate n (λ i. f (k + i))
turned_tabulate n k f l r =
    let e : k + (n - k) ≡ n = omega arith in
    let g : n - k + k ≡ n = omega arith in
    ap (λ (t : ℕ). turned k (tabulate t f)) (sym e)
    ∙ turned_parts k (n - k) f (λ i. ap (λ (t : ℕ). f (t + i)) e ∙ r i)
    ∙ ap (λ (t : ℕ). tabulate t (λ i. f (k + i))) g

-- ---- a ring that is turned

ring_tabulate : (ring : List ℕ) → ring ≡ tabulate (length ring) (level_round ring)
ring_tabulate ring =
    let n = length ring in
    ext_get_or 0 ring (tabulate n (level_round ring)) (sym (length_tabulate n (level_round ring)))
    (λ i l. ap (λ (t : ℕ). get_or ring t 0) (sym (mod-eq_of_lt l)) ∙ sym (get_d_tabulate n (level_round ring) i 0 l))

module _ (ring : List ℕ) (s : ℕ) (l : s ≤ length ring) where
  turned_ring : turned s ring ≡ tabulate (length ring) (λ i. level_round ring (s + i))
  turned_ring =
      ap (turned s) (ring_tabulate ring)
      ∙ turned_tabulate (length ring) s (level_round ring) l (λ i. ap (λ (t : ℕ). get_or ring t 0) (add-mod_left (length ring) i))

  turned_length : length (turned s ring) ≡ length ring
  turned_length = ap length turned_ring ∙ length_tabulate (length ring) _

  turned_level : 0 < length ring → (i : ℕ) → level_round (turned s ring) i ≡ level_round ring (s + i)
  turned_level p i =
      let n = length ring in
      ap₂ (λ (xs : List ℕ) (t : ℕ). get_or xs (i % t) 0) turned_ring turned_length
      ∙ get_d_tabulate n (λ i. level_round ring (s + i)) (i % n) 0 (mod-lt i p)
      ∙ ap (λ (t : ℕ). get_or ring t 0) (add-mod-mod s i n)

  -- a window of the turned ring is the window of the ring that starts s cells later
  turned_window : 0 < length ring → (width p : ℕ) → window_at (turned s ring) width p ≡ window_at ring width (s + p)
  unfolding window_at
  turned_window h width p =
      tabulate_ext width _ _ (λ j l. turned_level h (p + j) ∙ ap (level_round ring) (sym (add_assoc s p j)))

-- the ring comes back to the same window
window_round : (ring : List ℕ) (width p : ℕ) → window_at ring width (length ring + p) ≡ window_at ring width p
unfolding window_at
window_round ring width p =
    let n = length ring in
    tabulate_ext width _ _ (λ j l. ap (λ (t : ℕ). get_or ring t 0) (ap (λ (t : ℕ). t % n) (add_assoc n p j) ∙ add-mod_left n (p + j)))

module _ (ring : List ℕ) (width step : ℕ) (forward : 1 ≤ step) (inside : step ≤ length ring) (divides : length ring % step ≡ 0) where
  count : ℕ
  count = length ring / step

  -- the windows go once round the ring
  pub once_round : length ring / step * step ≡ length ring
  once_round = omega (arith, div-add-mod' (length ring) step, divides)

  number_round : (i : ℕ) → number_at ring width step (count + i) ≡ number_at ring width step i
  unfolding count
  number_round i =
      let e : (count + i) * step ≡ length ring + i * step = omega (arith, add-mul count i step, once_round) in
      ap (λ (p : ℕ). window_number (window_at ring width p)) e ∙ ap window_number (window_round ring width (i * step))

  pub numbers_turned : (k : ℕ) → k ≤ length ring / step → window_numbers (turned (k * step) ring) width step ≡ turned k (window_numbers ring width step)
  unfolding window_numbers count
  numbers_turned k l =
      let s = k * step in
      let h : s ≤ length ring = omega (arith, mul-le-mul_right step l, once_round) in
      let later : (i : ℕ) → window_at (turned s ring) width (i * step) ≡ window_at ring width ((k + i) * step)
      = λ i. turned_window ring s h (omega arith) width (i * step) ∙ ap (window_at ring width) (sym (add-mul k i step)) in
      ap (λ (t : ℕ). tabulate (t / step) (number_at (turned s ring) width step)) (turned_length ring s h)
      ∙ tabulate_ext count _ _ (λ i l. ap window_number (later i))
      ∙ sym (turned_tabulate count k (number_at ring width step) l number_round)

  pub numbers_turned_once : window_numbers (turned step ring) width step ≡ turned 1 (window_numbers ring width step)
  numbers_turned_once =
      let one : 1 * step ≡ step = one-mul step in
      let some : 1 ≤ length ring / step = (le-div_iff_mul-le forward).1 (rw one inside) in
      ap (λ (s : ℕ). window_numbers (turned s ring) width step) (sym one) ∙ numbers_turned 1 some
