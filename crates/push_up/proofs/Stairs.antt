-- Levels that fall by one along an order: it shows in them, so that a group with full caps has room for it.
--
--   stairs h n xs   levels h, h - 1, .. along xs, in twelve places
--   stairs_fit      a group with full caps whose levels are nowhere above such levels has room to be raised to show xs
--   stairs_last     and where its cells have taken no pulses, the endurance lasts from h on
-- Assumes nothing.
use Rattle.std.proofs.Common.{◌≡◌, ℕ, zero, suc, ◌-◌, ◌<◌, ◌≤◌, true, List, [], ◌∷◌, ◌++◌, length, get_or, replicate, ap, ◌∙◌, arith, length-append}
use lib.ListN.{length-replicate, get_or-append}
use Rattle.order.specs.Cells.{tabulate, place_of, is_order}
use Rattle.order.proofs.Cells.{IsOrder, order_true, order_range}
use Rattle.order.proofs.Tabulate.{length_tabulate, get_d_tabulate}
use Rattle.order.proofs.Places.{own_place, cell_stands}
use Rattle.group.specs.declared.Group.{Group}
use Rattle.group.specs.Levels.{level, AtMost, empty, more}
use Rattle.group.specs.Record.{all_at_most}
use Rattle.group.proofs.Levels.{at_most_refl}
use Rattle.group.proofs.LevelRows.{all_below, row_true, full_row}
use Rattle.group.proofs.Tallies.{tallied_fresh}
use Rattle.push_up.specs.PushUp.{singles, Shows}
use Rattle.push_up.specs.WriteAnswer.{fits, lasts}
use Rattle.push_up.proofs.Orders.{Falling, falling_shows}
use Rattle.push_up.proofs.Writes.{fits_where, lasts_where}

unfoldable pub stairs : ℕ → ℕ → List ℕ → List ℕ
stairs h n xs = tabulate n (λ k. suc h - place_of xs (suc k)) ++ replicate (12 - n) 0

-- ---- the cellwise order of such lists

pub at_most_tabulate : (n : ℕ) (f g : ℕ → ℕ) (zs : List ℕ) → ((k : ℕ) → k < n → f k ≤ g k) → AtMost (tabulate n f ++ zs) (tabulate n g ++ zs)
at_most_tabulate zero f g zs h = at_most_refl zs
at_most_tabulate (suc n) f g zs h = more (h 0 (omega arith)) (at_most_tabulate n (λ k. f (suc k)) (λ k. g (suc k)) zs (λ k l. h (suc k) (omega arith)))

at_most_full : (n m : ℕ) (f : ℕ → ℕ) (zs : List ℕ) → ((k : ℕ) → k < n → f k ≤ m) → AtMost (tabulate n f ++ zs) (replicate n m ++ zs)
at_most_full zero m f zs h = at_most_refl zs
at_most_full (suc n) m f zs h = more (h 0 (omega arith)) (at_most_full n m (λ k. f (suc k)) zs (λ k l. h (suc k) (omega arith)))

pub zeros_under : (xs : List ℕ) → AtMost (replicate (length xs) 0) xs
zeros_under [] = empty
zeros_under (x ∷ xs) = let low : 0 ≤ x = omega arith in more low (zeros_under xs)

-- ---- stairs

module _ (n : ℕ) (xs : List ℕ) (p : is_order n xs ≡ true) (h : ℕ) where
  o : IsOrder n xs
  o = order_true n xs p

  pub length_stairs : n ≤ 12 → length (stairs h n xs) ≡ 12
  unfolding stairs
  length_stairs m =
      let f : ℕ → ℕ = λ k. suc h - place_of xs (suc k) in
      length-append (tabulate n f) (replicate (12 - n) 0) ∙ omega (arith, length_tabulate n f, length-replicate {A = ℕ} (12 - n) 0)

  pub stairs_at : (k : ℕ) → k < n → level (stairs h n xs) (get_or xs k 0) ≡ h - k
  unfolding stairs level
  stairs_at k l =
      let f : ℕ → ℕ = λ k. suc h - place_of xs (suc k) in
      let r = order_range n xs o k l in
      let x = get_or xs k 0 in
      let e : suc (x - 1) ≡ x = omega arith in
      get_or-append (tabulate n f) (replicate (12 - n) 0) 0 (x - 1) (omega (arith, length_tabulate n f))
      ∙ get_d_tabulate n f (x - 1) 0 (omega arith)
      ∙ ap (λ (c : ℕ). suc h - place_of xs c) e ∙ omega (arith, own_place n xs o k l)

  stairs_show : n ≤ suc h → Shows 1 (singles xs) (stairs h n xs)
  unfolding Falling
  stairs_show high =
      falling_shows 1 xs (stairs h n xs)
      (λ i l. let m : suc i < n = omega (arith, o.size) in omega (arith, stairs_at (suc i) m, stairs_at i (omega arith)))

  pub stairs_low : h < 4095 → AtMost (stairs h n xs) (replicate n 4095 ++ replicate (12 - n) 0)
  unfolding stairs
  stairs_low l = at_most_full n 4095 _ (replicate (12 - n) 0) (λ k m. omega arith)

  stairs_under : (e : ℕ) → h ≤ e → all_at_most e (stairs h n xs) ≡ true
  unfolding stairs place_of
  stairs_under e l =
      all_below e (at_most_full n e (λ k. suc h - place_of xs (suc k)) (replicate (12 - n) 0) (λ k m. omega (arith, (cell_stands n xs o (suc k) (omega arith) (omega arith)).place)))
      (row_true e n _ (full_row e n))

  pub stairs_fit : (g : Group) → g.caps ≡ replicate n 4095 ++ replicate (12 - n) 0 → AtMost g.levels (stairs h n xs) → n ≤ suc h → h < 4095
      → fits g (singles xs) ≡ true
  stairs_fit g full low high l = fits_where g (singles xs) (stairs h n xs) low (stairs_show high) (rw full (stairs_low l))

  -- and cells that have taken no pulses come to none above the highest of these levels
  pub stairs_last : (g : Group) → g.used ≡ replicate 12 0 → AtMost g.levels (stairs h n xs) → n ≤ suc h → n ≤ 12 → h ≤ g.endurance → lasts g (singles xs) ≡ true
  stairs_last g none low high m l =
      lasts_where g (singles xs) (stairs h n xs) low (stairs_show high)
      (rw none (all_below g.endurance (tallied_fresh 12 low (length_stairs m)) (stairs_under g.endurance l)))
