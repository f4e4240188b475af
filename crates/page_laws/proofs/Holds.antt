-- What a page holds.
--
--   holds_after     a page of groups is one after any list of calls on it
--   page_reads      after a page store that went through a page read answers its symbols
-- Assumes nothing.
use Prim.Native.Nat.{ℕ, suc, ◌<◌}
use native.Mathlib.Omega.{arith}
use mathlib.Core.Path.{◌≡◌, sym, ap, ◌∙◌}
use mathlib.Core.Bool.{true}
use mathlib.Core.List.{List}
use lib.Dec.{leb}
use lib.ListN.{replicate}
use borrow.Author.Tests.{leb-true}
use Rattle.order.proofs.Cells.{both}
use Rattle.group.specs.Record.{IsGroup}
use Rattle.engine.specs.ReadStore.{read_of, store_of}
use Rattle.engine.proofs.Holds.{store_holds, store_reads}
use Rattle.rivals.proofs.Demand3.{group_after_lem}
use Rattle.page.specs.declared.Page.{Page}
use Rattle.page.specs.Groups.{put_each}
use Rattle.page.specs.Pages.{group_at, like_first, is_page, number_read, symbol_read, symbols_of, unread, read_page_of}
use Rattle.page_store.specs.StoreAnswer.{symbol_at, number_stored, all_stored, store_page_of}
use Rattle.page_store.proofs.Storing.{taken_parts}
use Rattle.page.proofs.Pages.{page_done}
use Rattle.page_laws.specs.PageLists.{PageCall, HoldsGroups, after_calls, calls_of}
use Rattle.page_laws.proofs.Groups.{among_below, of_among, all_same, put_same, no_first}
use Rattle.page_laws.proofs.Steps.{room, through, group_by_store}
use Rattle.page_laws.proofs.PageDemand3.{count_after, groups_after}

-- ---- groups

pub holds_after : (p : Page) → HoldsGroups p → (cs : List PageCall) → HoldsGroups (after_calls store_page_of p cs)
holds_after p h cs =
    let now = after_calls store_page_of p cs in
    let same = count_after p cs in
    of_among now.count (λ k. IsGroup (group_at now k))
    (λ i l.
    let m : i < p.count = omega arith in
    rw (groups_after p cs (room p h) i m) (group_after_lem (group_at p (suc i)) (calls_of store_page_of (suc i) p cs) (h (suc i) (among_below p.count i m))))

-- ---- what is stored is read

module _ (p : Page) (h : HoldsGroups p) (ss : List ℕ) (z : (store_page_of p ss).number ≡ 0) where
  abbrev stored : Page
  stored = (all_stored p ss).page

  -- the store of group i + 1 was accepted
  accepted : (i : ℕ) → i < p.count → (store_of (group_at p (suc i)) (symbol_at ss (suc i))).number ≡ 0
  unfolding number_stored
  accepted i l = (through p ss z).1 i l

  group_held : (i : ℕ) → i < p.count → IsGroup (group_at p (suc i))
  group_held i l = h (suc i) (among_below p.count i l)

  same_n : (i : ℕ) → i < p.count → (group_at stored (suc i)).n ≡ (group_at p (suc i)).n
  same_n i l =
      rw (group_by_store p (room p h) ss i l) (store_holds (group_at p (suc i)) (symbol_at ss (suc i)) (group_held i l) (accepted i l)).1

  reading : (i : ℕ) → i < p.count → ((read_of (group_at stored (suc i))).number ≡ 0) × ((read_of (group_at stored (suc i))).value.symbol ≡ symbol_at ss (suc i))
  reading i l = grind (arith, store_reads, group_held, accepted, group_by_store, room)

  stored_page : is_page stored ≡ true
  unfolding is_page like_first
  stored_page =
      let e = (taken_parts p ss (through p ss z).0).0 in
      let low = leb-true 1 p.count (both (leb 1 p.count) _ e).0 in
      rw (all_same (like_first stored) (like_first p) p.count (λ i l. rw (same_n i l, same_n 0 (omega arith)))) e

  pub page_reads : read_page_of (store_page_of p ss).value.page
      ≡ record { number = 0; value = record { group = 0; count = p.count; symbols = put_each p.count (symbol_at ss) (replicate 8 0) } }
  unfolding read_page_of number_read symbol_read
  page_reads =
      rw (through p ss z).2
      (sym (page_done (is_page stored) p.count (number_read stored) (symbols_of stored) unread stored_page
      (no_first (number_read stored) p.count (λ i l. (reading i l).0)))
      ∙ ap (λ (ys : List ℕ). record { number = 0; value = record { group = 0; count = p.count; symbols = ys } })
      (put_same (symbol_read stored) (symbol_at ss) (replicate 8 0) p.count (λ i l. (reading i l).1)))
