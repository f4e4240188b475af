-- The numbers in the twelve places of ranks.
-- Assumes nothing.
use Prim.Native.Nat.{ℕ, ◌≤◌, ◌<◌}
use mathlib.Core.Path.{◌≡◌, refl, sym, ap, ◌∙◌}
use mathlib.Core.Bool.{Bool, true, ◌&&◌}
use mathlib.Core.List.{List, [], ◌∷◌, map}
use lib.Seq.{get_or-take}
use lib.ListN.{length, get_or, drop, length-map, get_or-map}
use lib.Dec.{eqb}
use Rattle.std.specs.Prelude.{nat_eq}
use Rattle.std.specs.List.{list_all}
use Rattle.std.proofs.lemmas.List.{drop-map}
use Rattle.order.specs.declared.Rank.{Rank}
use Rattle.order.specs.declared.Order.{Order}
use Rattle.order.specs.Cells.{is_order, all_zero}
use Rattle.order.specs.Order.{cell_numbers, listed}
use Rattle.order.proofs.Cells.{order_true, order_range}
use Rattle.order.proofs.Numbers.{place_at}
use Rattle.ranks.specs.declared.Ranks.{Ranks}
use Rattle.ranks.specs.Ranks.{rank_numbers}

abbrev pub rank : ℕ → Rank
rank k = record { 0 = k }

abbrev pub rank_number : Rank → ℕ
rank_number k = k.0

pub length_ranks : (r : Ranks) → length r.ranks ≡ 12 → length (rank_numbers r) ≡ 12
unfolding rank_numbers
length_ranks r e = length-map r.ranks (λ (k : Rank). k.0) ∙ e

pub rank_at_lem : (r : Ranks) (i : ℕ) → (get_or r.ranks i (record { 0 = 0 })).0 ≡ get_or (rank_numbers r) i 0
unfolding rank_numbers
rank_at_lem r i = sym (get_or-map (λ (k : Rank). k.0) r.ranks i (record { 0 = 0 }))

-- the cells that a sweep over an order meets
pub cell_met : (o : Order) (k : ℕ) → is_order o.len (listed o) ≡ true → k < o.len
    → (1 ≤ (get_or o.cells k (record { 0 = 0 })).0) × ((get_or o.cells k (record { 0 = 0 })).0 ≤ o.len)
cell_met o k t l =
    rw (get_or-take o.len (cell_numbers o) k 0 l, ← place_at o k) at (order_range o.len (listed o) (order_true o.len (listed o) t) k l)

-- ---- the places past the length

zeros : (ks : List Rank) → list_all (λ (k : Rank). nat_eq k.0 0) ks ≡ all_zero (map (λ (k : Rank). k.0) ks)
unfolding all_zero
zeros [] = refl
zeros (k ∷ ks) = ap (λ (b : Bool). eqb k.0 0 && b) (zeros ks)

pub clear_past : (r : Ranks) (n : ℕ) → list_all (λ (k : Rank). nat_eq k.0 0) (drop n r.ranks) ≡ all_zero (drop n (rank_numbers r))
unfolding rank_numbers
clear_past r n = zeros (drop n r.ranks) ∙ ap all_zero (sym (drop-map (λ (k : Rank). k.0) n r.ranks))
