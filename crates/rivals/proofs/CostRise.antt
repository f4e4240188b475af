-- Document 01, "Calls outside the list" (SD 000, theorem 1): the cost of orders u to v equals the rise of the top level when v is
-- written from levels n down to 1 along u.
-- Assumes nothing.
--
--   cost_is_rise    the sentence
--   stairs_fall     there are such levels
use Prim.Native.Nat.{ℕ, zero, suc, ◌+◌, ◌-◌, ◌≤◌, ◌<◌}
use native.Mathlib.Nat.{not-suc-le-zero, le_of_suc-le-suc, le_antisymm}
use native.Mathlib.Omega.{arith}
use mathlib.Core.Path.{◌≡◌, ap, ◌∙◌}
use mathlib.Core.Bool.{true}
use mathlib.Core.List.{List, [], ◌∷◌}
use lib.ListN.{length, get_or}
use lib.IntN.{pos, sub_ℕ}
use lib.Signed.{◌≤ℤ◌}
use Rattle.order.specs.Cells.{tabulate, place_of, is_order}
use Rattle.order.proofs.Cells.{IsOrder, order_true, order_count, order_range}
use Rattle.order.proofs.Places.{cell_stands}
use Rattle.order.proofs.Tabulate.{length_tabulate, get_d_tabulate}
use Rattle.cost.specs.Cost.{displacement, cost}
use Rattle.cost.proofs.Signs.{≤ℤ-antisym, sub_rise, sub_most}
use Rattle.cost.proofs.Costs.{cost_largest}
use Rattle.group.specs.Levels.{level}
use Rattle.push_up.specs.PushUp.{singles, top}
use Rattle.group.proofs.Levels.{at_most_level}
use Rattle.push_up.proofs.Minimal.{raise_above}
use Rattle.push_up.proofs.Orders.{CellsOf, order_cells, listed_range}
use Rattle.push_up.proofs.Stairs.{stairs, stairs_at}
use Rattle.rivals.specs.Rise.{top_level, written, Staircase}
use Rattle.rivals.proofs.Climb.{Peak, raise_peak, first_highest}

-- ---- the top level

top_over : (r ls : List ℕ) (i : ℕ) → i < length r → level ls (get_or r i 0) ≤ top r ls
unfolding top
top_over [] ls i l = absurd (not-suc-le-zero l)
top_over (c ∷ cs) ls zero l = omega arith
top_over (c ∷ cs) ls (suc i) l = omega (arith, top_over cs ls i (le_of_suc-le-suc l))

top_under : (r ls : List ℕ) (h : ℕ) → ((i : ℕ) → i < length r → level ls (get_or r i 0) ≤ h) → top r ls ≤ h
unfolding top
top_under [] ls h all = omega arith
top_under (c ∷ cs) ls h all = omega (arith, all 0 (omega arith), top_under cs ls h (λ i l. all (suc i) (omega arith)))

-- the level of a cell than which no other is higher is the top level
pub top_is : (n : ℕ) (ls : List ℕ) (d : ℕ) → 1 ≤ d → d ≤ n → ((c : ℕ) → 1 ≤ c → c ≤ n → level ls c ≤ level ls d) → top_level n ls ≡ level ls d
unfolding top_level
top_is n ls d low high all =
    le_antisymm
    (top_under cells ls (level ls d) (λ i l. rw (at i (omega (arith, size))) (all (suc i) (omega arith) (omega (arith, size)))))
    (rw (at (d - 1) (omega arith), e) at (top_over cells ls (d - 1) (omega (arith, size))))
  where
    cells : List ℕ
    cells = tabulate n suc

    size : length cells ≡ n
    size = length_tabulate n suc

    at : (i : ℕ) → i < n → get_or cells i 0 ≡ suc i
    at i l = get_d_tabulate n suc i 0 l

    e : suc (d - 1) ≡ d
    e = omega arith

-- ---- levels n down to 1

module _ (n : ℕ) (u : List ℕ) (p : is_order n u ≡ true) where
  o : IsOrder n u
  o = order_true n u p

  -- a cell's level and its rank come to n + 1
  stair_rank : (ls : List ℕ) → Staircase n u ls → (c : ℕ) → 1 ≤ c → c ≤ n → level ls c + place_of u c ≡ suc n
  unfolding place_of
  stair_rank ls s c low high =
      let t = cell_stands n u o c low high in
      omega (arith, ap (level ls) t.there, s.along t.index (omega (arith, t.inside, o.size)), t.place, t.inside, o.size)

  -- there are levels n down to 1
  pub stairs_fall : Staircase n u (stairs n n u)
  stairs_fall = record { along = λ k l. stairs_at n u p n k l }

-- ---- the theorem

order_peak : {n : ℕ} (v ls : List ℕ) → 1 ≤ length v → CellsOf n v → n ≤ length ls → Peak ls 1 v (level (written v ls) (get_or v 0 0))
order_peak [] ls l s w = absurd (not-suc-le-zero l)
order_peak (c ∷ cs) ls l s w = raise_peak ls 1 c cs s w

module _ (n : ℕ) (u v ls : List ℕ) (low : 1 ≤ n) (p : is_order n u ≡ true) (q : is_order n v ≡ true) (w : n ≤ length ls) (s : Staircase n u ls) where
  ou : IsOrder n u
  ou = order_true n u p

  ov : IsOrder n v
  ov = order_true n v q

  -- before the write the first cell of u is the highest, at n
  pub top_before : top_level n ls ≡ n
  unfolding place_of
  top_before =
      let r = order_range n u ou 0 low in
      let e : level ls (get_or u 0 0) ≡ n = s.along 0 low ∙ omega arith in
      top_is n ls (get_or u 0 0) r.0 r.1 (λ c l m. omega (arith, stair_rank n u p ls s c l m, (cell_stands n u ou c l m).place)) ∙ e

  -- after it the first cell of v is
  pub top_after : top_level n (written v ls) ≡ level (written v ls) (get_or v 0 0)
  top_after = let r = order_range n v ov 0 low in top_is n (written v ls) (get_or v 0 0) r.0 r.1 (first_highest n v q ls w)

  -- the level of that cell
  abbrev h : ℕ
  h = level (written v ls) (get_or v 0 0)

  not_lower : n ≤ h
  not_lower =
      let r = order_range n u ou 0 low in
      omega (arith, s.along 0 low, at_most_level (get_or u 0 0) (raise_above 1 (singles v) ls), first_highest n v q ls w (get_or u 0 0) r.0 r.1)

  peak : Peak ls 1 v h
  peak = order_peak v ls (omega (arith, ov.size)) (order_cells n v ov) w

  -- no displacement is above the rise to h, and one is equal to it
  displaced_over : (c : ℕ) → 1 ≤ c → c ≤ n → displacement u v c ≤ℤ pos (h - n)
  unfolding displacement place_of
  displaced_over c l m =
      let e : suc (c - 1) ≡ c = omega arith in
      let listed = rw e at (order_count n v ov (c - 1) (omega arith)) in
      sub_most (place_of v c) (place_of u c) (h - n) (omega (arith, peak.over c (omega arith), stair_rank n u p ls s c l m, not_lower))

  peak_range : (1 ≤ peak.cell) × (peak.cell ≤ n)
  peak_range = listed_range n v (order_cells n v ov) peak.cell peak.listed

  displaced_there : displacement u v peak.cell ≡ pos (h - n)
  unfolding displacement place_of
  displaced_there = grind (arith, sub_rise, peak, stair_rank, peak_range, not_lower)

  cost_is : cost n u v ≡ pos (h - n)
  cost_is =
      let most = cost_largest n u v low in
      ≤ℤ-antisym (rw most.there at (displaced_over most.cell most.from most.up_to))
      (rw displaced_there at (most.over peak.cell peak_range.0 peak_range.1))

  -- the cost is the rise of the top level
  pub cost_is_rise : cost n u v ≡ sub_ℕ (top_level n (written v ls)) (top_level n ls)
  cost_is_rise = grind (arith, top_before, top_after, cost_is, sub_rise, not_lower)
