-- An order and its ranks determine each other, both ways: over the crate's records.
-- Assumes nothing.
use Prim.Native.Nat.{◌≤◌}
use mathlib.Core.Path.{◌≡◌, refl, sym, ap, ◌∙◌}
use mathlib.Core.Bool.{true, ◌&&◌}
use mathlib.Core.List.{List}
use lib.ListN.{length, drop}
use borrow.Author.Tests.{eq-eqb}
use Rattle.order.specs.declared.Cell.{Cell}
use Rattle.order.specs.declared.Rank.{Rank}
use Rattle.order.specs.declared.Order.{Order}
use Rattle.ranks.specs.declared.Ranks.{Ranks}
use Rattle.order.specs.Refusals.{number_of, is_size}
use Rattle.order.specs.Cells.{is_listing, is_order, all_zero}
use Rattle.order.specs.Order.{cell_numbers, listed, is_order_of, order_checks, order_record}
use Rattle.ranks.specs.Ranks.{rank_numbers, ranked, rank_checks, ranks_of, order_by_rank, ranks_of_order, order_of_ranks}
use Rattle.order.proofs.Cells.{IsOrder, order_true}
use Rattle.order.proofs.Refusals.{told_done, sized_done, sized_holds, size_true, size_in}
use Rattle.order.proofs.Check.{Listing, listing_parts}
use Rattle.order.proofs.Records.{passed, passed_order, record_back}
use Rattle.order.proofs.Padded.{padded, padded_back}
use Rattle.order.proofs.Places.{inverse_to}
use Rattle.ranks.proofs.InverseArray.{inverted, inverted_listed, inverted_listing, inverted_back, inverted_order}
use Rattle.order.proofs.Check.{sized_listing}
use Rattle.order.proofs.Numbers.{cell, cell_number, length_front}
use Rattle.ranks.proofs.RankNumbers.{rank, rank_number, length_ranks}

-- ranks list each rank once where their inverse lists each cell once
pub ranks_order : (r : Ranks) → length r.ranks ≡ 12 → is_size r.len ≡ true → is_order_of r.len (order_by_rank r) ≡ is_order r.len (ranked r)
unfolding cell_numbers order_by_rank inverted
ranks_order r w z =
    let s = (size_true r.len z).1 in
    sym (sized_listing r.len (order_by_rank r) z)
    ∙ inverted_order cell cell_number (λ k. refl) (λ c. refl) 12 r.len (ranked r) (length_front (rank_numbers r) r.len (length_ranks r w) s) s

-- so the checks of ranks hold where their inverse is an order and the places past the length are clear
pub ranks_listing : (r : Ranks) → length r.ranks ≡ 12 → is_size r.len ≡ true
    → is_listing r.len r.len (rank_numbers r) ≡ (is_order_of r.len (order_by_rank r) && all_zero (drop r.len (rank_numbers r)))
unfolding is_listing
ranks_listing r w z = rw (eq-eqb r.len r.len refl, ranks_order r w z)

-- ---- the order of an order's ranks

module _ (o : Order) (w : length o.cells ≡ 12) (d : number_of (order_checks o) ≡ 0) where
  ranks_pass : number_of (rank_checks (ranks_of o)) ≡ 0
  unfolding ranks_of rank_numbers inverted
  ranks_pass =
      sized_holds o.len _ _ (passed o d).0 (passed o d).1
      (inverted_listing rank rank_number (λ k. refl) (λ k. refl) 12 o.len (listed o) (passed_order o d) (passed o d).1)

  cells_back : inverted cell cell_number (λ k. refl) (λ c. refl) 12 (ranked (ranks_of o)) ≡ o.cells
  unfolding ranks_of rank_numbers inverted order_record padded
  cells_back =
      ap (inverted cell cell_number (λ k. refl) (λ c. refl) 12) (inverted_listed rank rank_number (λ k. refl) (λ k. refl) 12 o.len (listed o) (passed o d).1)
      ∙ inverted_back cell cell_number (λ k. refl) (λ c. refl) 12 o.len (listed o) (passed_order o d) (passed o d).1
      ∙ ap (λ (r : Order). r.cells) (record_back o d w)

  order_back : order_by_rank (ranks_of o) ≡ o
  unfolding order_by_rank ranks_of inverted
  order_back = ap (λ (cs : List Cell). record { len = o.len; cells = cs }) cells_back

  -- an order is the order of its ranks
  pub order_of_its_ranks : order_of_ranks (ranks_of o) ≡ record { number = 0; value = o }
  unfolding order_of_ranks
  order_of_its_ranks = sym (told_done _ _ _ ranks_pass) ∙ ap (λ (r : Order). record { number = 0; value = r }) order_back

-- ---- the ranks of the order of ranks

module _ (r : Ranks) (w : length r.ranks ≡ 12) (d : number_of (rank_checks r) ≡ 0) where
  hold : (3 ≤ r.len) × (r.len ≤ 12) × (is_listing r.len r.len (rank_numbers r) ≡ true)
  hold = sized_done r.len _ _ d

  listing : Listing r.len r.len (rank_numbers r)
  listing = listing_parts (rank_numbers r) r.len r.len hold.2

  ranked_order : IsOrder r.len (ranked r)
  ranked_order = order_true r.len (ranked r) listing.order

  order_passes : number_of (order_checks (order_by_rank r)) ≡ 0
  unfolding order_by_rank
  order_passes =
      sized_holds r.len _ _ hold.0 hold.1 (ranks_order r w (size_in r.len hold.0 hold.1) ∙ listing.order)

  ranks_back : ranks_of (order_by_rank r) ≡ r
  unfolding ranks_of order_by_rank cell_numbers rank_numbers inverted padded
  ranks_back =
      let listed-is : listed (order_by_rank r) ≡ inverse_to r.len (ranked r) =
      inverted_listed cell cell_number (λ k. refl) (λ c. refl) 12 r.len (ranked r) hold.1 in
      ap (λ (ks : List Rank). record { len = r.len; ranks = ks })
      (ap (inverted rank rank_number (λ k. refl) (λ k. refl) 12) listed-is
      ∙ inverted_back rank rank_number (λ k. refl) (λ k. refl) 12 r.len (ranked r) ranked_order hold.1
      ∙ padded_back rank rank_number (λ k. refl) (λ k. refl) r.ranks 12 r.len w hold.1
      listing.clear)

  -- ranks are the ranks of their order
  pub ranks_of_their_order : ranks_of_order (order_by_rank r) ≡ record { number = 0; value = r }
  unfolding ranks_of_order
  ranks_of_their_order = sym (told_done _ _ _ order_passes) ∙ ap (λ (k : Ranks). record { number = 0; value = k }) ranks_back
