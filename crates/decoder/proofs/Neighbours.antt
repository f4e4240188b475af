-- The cells of ranks k and k + 1, as they are read in the record of an order, and the coordinates after their exchange: one store in the record
-- of the coordinates before it.
-- Assumes nothing.
use Prim.Native.Nat.{ℕ, suc, ◌+◌, ◌-◌, ◌≤◌, ◌<◌}
use native.Mathlib.Omega.{arith}
use mathlib.Core.Path.{◌≡◌, sym, ap, ◌∙◌}
use mathlib.Core.List.{List}
use lib.ListN.{get_or, set}
use lib.Seq.{get_or-take}
use Rattle.order.specs.declared.Order.{Order}
use Rattle.order.specs.Order.{cell_numbers, listed}
use Rattle.order.proofs.Cells.{IsOrder}
use Rattle.order.proofs.Numbers.{cell, place_at}
use Rattle.order.proofs.Records.{passed, passed_listed, passed_order}
use Rattle.order.proofs.Tabulate.{get_d_tabulate, tabulate_set}
use Rattle.coordinates.specs.declared.Coordinates.{Coordinates}
use Rattle.coordinates.specs.Coordinates.{coordinate_of, coordinates_to}
use Rattle.coordinates.specs.Conversion.{coordinates_of}
use Rattle.coordinates.proofs.RoundTrip.{coordinates_low}
use Rattle.distance.specs.Distance.{exchange}
use Rattle.distance.proofs.OneCoordinate.{OneMore}
use Rattle.decoder.specs.Decoding.{is_codeword}
use Rattle.decoder.specs.Nearest.{exchanged_order}
use Rattle.decoder.specs.Steps.{syndrome_of, corrects_by, Exchangeable}
use Rattle.decoder.proofs.Weight.{place_cells, place_more, place_less, corrects_by_lem}
use Rattle.decoder.proofs.Stores.{same_length, same_list_lem}

-- the cells a and b of ranks k and k + 1
pub record Neighbours (o : Order) (k a b : ℕ) : Type 0 where
  pub place : Exchangeable o k
  pub above : a ≡ (get_or o.cells (k - 1) (cell 0)).0
  pub below : b ≡ (get_or o.cells k (cell 0)).0

-- ---- one coordinate changed in a list of them

coordinate_at_lem : (m : ℕ) (u : List ℕ) (i : ℕ) → 1 ≤ i → i ≤ m → get_or (coordinates_to m u) (i - 1) 0 ≡ coordinate_of u i
unfolding coordinates_to
coordinate_at_lem m u i g l =
    let e : suc (i - 1) ≡ i = omega arith in
    get_d_tabulate m (λ k. coordinate_of u (suc k)) (i - 1) 0 (omega arith) ∙ ap (coordinate_of u) e

-- a store of the one coordinate in which v differs from u
coordinates_stored : (m : ℕ) (u v : List ℕ) (i : ℕ) → 1 ≤ i → ((j : ℕ) → (j ≡ i → ⊥) → coordinate_of v j ≡ coordinate_of u j)
    → set (coordinates_to m u) (i - 1) (coordinate_of v i) ≡ coordinates_to m v
unfolding coordinates_to
coordinates_stored m u v i g others =
    let e : suc (i - 1) ≡ i = omega arith in
    ap (λ (j : ℕ). set (coordinates_to m u) (i - 1) (coordinate_of v j)) (sym e)
    ∙ tabulate_set m (λ k. coordinate_of u (suc k)) (λ k. coordinate_of v (suc k)) (i - 1) (λ j q. sym (others (suc j) (λ p. q (omega arith))))

module _ {o : Order} {k a b : ℕ} (t : Neighbours o k a b) where
  open t use {place, above, below}

  abbrev n : ℕ
  n = o.len

  abbrev u : List ℕ
  u = listed o

  abbrev v : List ℕ
  v = exchange k (listed o)

  order : IsOrder n u
  order = passed_order o place.passed

  listed_at : (i : ℕ) → i < n → (get_or o.cells i (cell 0)).0 ≡ get_or u i 0
  listed_at i h = place_at o i ∙ sym (get_or-take n (cell_numbers o) i 0 h)

  next : suc (k - 1) ≡ k
  next = omega (arith, place.first)

  upper : a ≡ get_or u (k - 1) 0
  upper = above ∙ listed_at (k - 1) (omega (arith, place.last))

  lower : b ≡ get_or u (suc (k - 1)) 0
  lower = below ∙ listed_at k place.last ∙ ap (λ (i : ℕ). get_or u i 0) (sym next)

  -- two cells of the order
  pub cells_read : ((1 ≤ a) × (a ≤ n)) × ((1 ≤ b) × (b ≤ n)) × (a ≡ b → ⊥)
  cells_read = rw (upper, lower) (place_cells n u order (k - 1) (omega (arith, next, place.last)))

  same_exchange : exchange (suc (k - 1)) u ≡ v
  same_exchange = ap (λ (i : ℕ). exchange i u) next

  -- the syndrome tells whether their exchange makes a codeword
  pub exchange_tested : is_codeword n v ≡ corrects_by n (syndrome_of n u) a b
  exchange_tested = rw (upper, lower, ← same_exchange) (corrects_by_lem n u order (k - 1) (omega (arith, next, place.last)))

  -- ---- the coordinate of the greater of the two

  up : a < b → OneMore n (b - 1) u v
  up l = rw (lower, ← same_exchange) (place_more n u order (k - 1) (omega (arith, next, place.last)) (omega (arith, upper, lower)))

  down : b ≤ a → OneMore n (a - 1) v u
  down l =
      let less : get_or u (suc (k - 1)) 0 < get_or u (k - 1) 0 = let (_, _, apart) = cells_read in omega (arith, upper, lower) in
      rw (upper, ← same_exchange) (place_less n u order (k - 1) (omega (arith, next, place.last)) less)

  small : n ≤ 12
  small = (passed o place.passed).1

  module _ (x : Coordinates) (e : x ≡ coordinates_of o) where
    -- coordinate i in its record
    at : (i : ℕ) → 1 ≤ i → i < n → get_or x.values (i - 1) 0 ≡ coordinate_of u i
    unfolding coordinates_of
    at i g h = rw e (coordinate_at_lem 11 u i g (omega (arith, small)))

    -- the record with coordinate i stored is that of the order after the exchange
    stored : (i : ℕ) → 1 ≤ i → ((j : ℕ) → (j ≡ i → ⊥) → coordinate_of v j ≡ coordinate_of u j)
        → record { len = x.len; values = set x.values (i - 1) (coordinate_of v i) } ≡ coordinates_of (exchanged_order o k)
    unfolding coordinates_of
    stored i g others =
        let len : x.len ≡ (exchanged_order o k).len - 1 = rw (e, same_length o place.passed k) in
        let values : set x.values (i - 1) (coordinate_of v i) ≡ coordinates_to 11 (listed (exchanged_order o k)) =
        rw (e, same_list_lem o place.passed k) (coordinates_stored 11 u v i g others) in
        λ j. record { len = len j; values = values j }

    module _ (l : a < b) where
      step : b - 2 ≡ b - 1 - 1
      step = omega arith

      pub coordinate_small : get_or x.values (b - 2) 0 ≤ 11
      coordinate_small =
          let m = up l in
          rw step (omega (arith, small, m.last, at (b - 1) m.first m.last, coordinates_low n u (passed_listed o place.passed) (b - 1) (omega (arith, m.last))))

      pub stored_more : record { len = x.len; values = set x.values (b - 2) (get_or x.values (b - 2) 0 + 1) } ≡ coordinates_of (exchanged_order o k)
      stored_more =
          let m = up l in
          rw (step, at (b - 1) m.first m.last, ← m.more) (stored (b - 1) m.first m.others)

    module _ (l : b ≤ a) where
      step' : a - 2 ≡ a - 1 - 1
      step' = omega arith

      pub coordinate_some : 1 ≤ get_or x.values (a - 2) 0
      coordinate_some = let m = down l in rw step' (omega (arith, at (a - 1) m.first m.last, m.more))

      pub stored_less : record { len = x.len; values = set x.values (a - 2) (get_or x.values (a - 2) 0 - 1) } ≡ coordinates_of (exchanged_order o k)
      stored_less =
          let m = down l in
          let one : coordinate_of u (a - 1) - 1 ≡ coordinate_of v (a - 1) = omega (arith, m.more) in
          rw (step', at (a - 1) m.first m.last, one) (stored (a - 1) m.first (λ j q. sym (m.others j q)))
