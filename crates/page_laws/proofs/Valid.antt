-- The claim speaks of something. There are freshly opened pages, of every n, each endurance in its range and each number of groups. On every such page with
-- an endurance of n - 1 or more a first page store goes through, whichever of the symbols below K(n) it stores (there are some: `some_symbol`, code/Laws). And
-- one is refused half way, by whichever group, though each other one would have taken its symbol: as worn, where the cell that the codeword of its symbol has
-- on top has worn to 0 in this group (`worn_at`); and as spent, where this group has stored the symbol before and was erased, and the endurance is below twice
-- n - 1 (`spent_at`); both by page_laws/Stuck.
-- Assumes nothing.
use Prim.Native.Nat.{ℕ, suc, ◌+◌, ◌-◌, ◌≤◌, ◌<◌}
use native.Mathlib.Omega.{arith}
use mathlib.Core.Path.{◌≡◌, refl, sym, ap, ◌∙◌}
use mathlib.Core.Logic.{◌≢◌}
use mathlib.Core.Bool.{Bool, true, false, cond}
use mathlib.Core.List.{List, [], ◌∷◌, ◌++◌}
use lib.Dec.{eqb}
use lib.ListN.{length, replicate, get_or-replicate}
use borrow.Author.Tests.{le-leb, eq-eqb, ne_eqb}
use Rattle.order.specs.Refusals.{is_size}
use Rattle.order.proofs.Refusals.{check_held}
use Rattle.code.specs.Words.{K}
use Rattle.group.specs.declared.Group.{Group}
use Rattle.group.specs.Record.{is_endurance, opened}
use Rattle.changes.specs.Changes.{open_of}
use Rattle.group.proofs.Groups.{told_accepted}
use Rattle.changes.proofs.Groups.{open_group}
use Rattle.push_up.specs.WriteAnswer.{pushed}
use Rattle.plain_machine.specs.declared.Call.{Call}
use Rattle.plain_machine.specs.Machine.{apply_of}
use Rattle.rivals.specs.Rivals.{after}
use Rattle.rivals.proofs.Valid.{first_store}
use Rattle.page.specs.declared.Page.{Page}
use Rattle.page.specs.Pages.{group_at, like_first, is_page}
use Rattle.page_store.specs.StoreAnswer.{symbol_at, takes, number_stored, none_stored, store_page_of}
use Rattle.page_store.proofs.Storing.{is_taken}
use Rattle.page.proofs.Pages.{page_done}
use Rattle.page_laws.specs.PageLists.{PageCall, on_group, among, store_call, HoldsGroups, OpenedPage, page_step, own_call, after_calls, calls_of}
use Rattle.page_laws.proofs.Groups.{among_below, of_among, all_each, no_first}
use Rattle.page_laws.proofs.Steps.{room, store_call_number}
use Rattle.page_laws.proofs.PageDemand3.{count_after, groups_after, page_claim}
use Rattle.page_laws.proofs.Stuck.{wearing, wear_done, worn_number, erasing, spent_reached, spent_number}

pub opened_holds : (n e : ℕ) (p : Page) → OpenedPage n e p → HoldsGroups p
opened_holds n e p o k m = rw (o.groups k m) (open_group n e o.opens)

-- ---- a freshly opened page: of every n from 3 to 12, each endurance from 1 to 1,000,000, and each number of groups

pub opened_page_of : (n e c : ℕ) → (open_of n e).number ≡ 0 → 1 ≤ c → c ≤ 8 → OpenedPage n e (record { count = c; groups = replicate 8 (open_of n e).value })
opened_page_of n e c done l m = grind (arith, of_among, get_or-replicate)

-- ---- the first page store goes through

-- records with one n are a page
like_all : (p : Page) → 1 ≤ p.count → p.count ≤ 8 → (n : ℕ) → ((i : ℕ) → i < p.count → (group_at p (suc i)).n ≡ n) → is_page p ≡ true
unfolding is_page like_first
like_all p l m n h = grind (arith, le-leb, all_each, eq-eqb)

module _ (n e : ℕ) (p : Page) (o : OpenedPage n e p) where
  ranges : (is_size n ≡ true) × (is_endurance e ≡ true)
  unfolding open_of
  ranges = grind (arith, check_held, told_accepted)

  opened_at : (i : ℕ) → i < p.count → group_at p (suc i) ≡ opened n e
  unfolding open_of
  opened_at i l = grind (arith, among_below, told_accepted)

  opened_page : is_page p ≡ true
  opened_page = like_all p o.least o.most n (λ i l. ap (λ (g : Group). g.n) (opened_at i l))

  module _ (enough : n - 1 ≤ e) (ss : List ℕ) where
    -- the store of a symbol that there is, in a group of the page
    first_number : (i : ℕ) → i < p.count → symbol_at ss (suc i) < K n → number_stored p ss (suc i) ≡ 0
    first_number i l s =
        sym (store_call_number p ss (suc i))
        ∙ rw (opened_at i l) (first_store n e ranges.0 ranges.1 enough (symbol_at ss (suc i)) s)

    pub first_page : length ss ≡ p.count → ((k : ℕ) → among p.count k ≡ true → symbol_at ss k < K n) → (store_page_of p ss).number ≡ 0
    unfolding store_page_of
    first_page w s = grind (arith, page_done, is_taken, opened_page, no_first, first_number, among_below)

-- ---- one is refused half way: one group has had calls of its own

-- calls on group k alone
pub alone : ℕ → List Call → List PageCall
alone k [] = []
alone k (c ∷ cs) = on_group k c ∷ alone k cs

alone_calls : (k j : ℕ) (p : Page) (cs : List Call) → calls_of store_page_of j p (alone k cs) ≡ cond (eqb k j) cs []
unfolding calls_of own_call alone
alone_calls k j p [] = go (eqb k j)
  where
    go : (b : Bool) → ◌≡◌ {A = List Call} [] (cond b [] [])
    go true = refl
    go false = refl
alone_calls k j p (c ∷ cs) = rw (alone_calls k j (page_step store_page_of p (on_group k c)) cs) (go (eqb k j))
  where
    go : (b : Bool) → (cond b (c ∷ []) [] ++ cond b cs []) ≡ cond b (c ∷ cs) []
    go true = refl
    go false = refl

module _
    (n e : ℕ) (p : Page) (o : OpenedPage n e p) (enough : n - 1 ≤ e) (ss : List ℕ) (each : length ss ≡ p.count)
    (there : (k : ℕ) → among p.count k ≡ true → symbol_at ss k < K n) (i : ℕ) (inside : i < p.count) where
  there_at : (j : ℕ) → j < p.count → symbol_at ss (suc j) < K n
  there_at j l = there (suc j) (among_below p.count j l)

  abbrev own_symbol : ℕ
  own_symbol = symbol_at ss (suc i)

  -- the page store is refused with this number by group i + 1 after these calls on it, and no group changes, though each other one would have taken its symbol
  abbrev pub RefusedHalfWay : ℕ → List Call → Type 0
  RefusedHalfWay number cs =
      let now = after_calls store_page_of p (alone (suc i) cs) in
      let t = store_page_of now ss in
      (t.number ≡ number) × (t.value ≡ none_stored now (suc i)) × ((j : ℕ) → j < p.count → j ≢ i → number_stored now ss (suc j) ≡ 0)

  -- what the calls left refuses its symbol
  module _ (cs : List Call) (g : Group) (reached : after apply_of (opened n e) cs ≡ g) (same_n : g.n ≡ n) (number : ℕ) (refuses : (apply_of g (store_call own_symbol)).number ≡ number)
      (refusal : number ≢ 0) where
    abbrev now : Page
    now = after_calls store_page_of p (alone (suc i) cs)

    abbrev found : Bool → Group
    found here = cond here g (opened n e)

    group_now : (j : ℕ) → j < p.count → group_at now (suc j) ≡ found (eqb (suc i) (suc j))
    unfolding after
    group_now j l =
        groups_after p (alone (suc i) cs) (room p (opened_holds n e p o)) j l
        ∙ rw (opened_at n e p o j l, alone_calls (suc i) (suc j) p cs) (go (eqb (suc i) (suc j)))
      where
        go : (b : Bool) → after apply_of (opened n e) (cond b cs []) ≡ found b
        go true = reached
        go false = refl

    here_refuses : number_stored now ss (suc i) ≡ number
    here_refuses = grind (arith, group_now, eq-eqb, store_call_number)

    others_take : (j : ℕ) → j < p.count → j ≢ i → number_stored now ss (suc j) ≡ 0
    others_take j l d =
        let group : group_at now (suc j) ≡ opened n e = group_now j l ∙ ap found (ne_eqb (suc i) (suc j) (λ q. d (omega arith))) in
        let r = ranges n e p o in
        sym (store_call_number now ss (suc j)) ∙ rw group (first_store n e r.0 r.1 enough (symbol_at ss (suc j)) (there_at j l))

    taken_now : takes now ss ≡ true
    taken_now =
        let same = count_after p (alone (suc i) cs) in
        is_taken now ss
        (like_all now (omega (arith, o.least)) (omega (arith, o.most)) n (λ j l. rw (group_now j (omega (arith, same))) (go (eqb (suc i) (suc j)))))
        (each ∙ sym same)
      where
        go : (b : Bool) → (found b).n ≡ n
        go true = same_n
        go false = refl

    refused_at : RefusedHalfWay number cs
    refused_at =
        let claim = page_claim p (opened_holds n e p o) (alone (suc i) cs) in
        let before = of_among (suc i - 1) (λ j. number_stored now ss j ≡ 0) (λ j l. others_take j (omega (arith, inside)) (λ q. absurd (omega arith))) in
        let first = claim.first_refuses ss (suc i) taken_now (among_below p.count i inside) (λ z. refusal (sym here_refuses ∙ z)) before in
        let same = claim.refused ss (λ z. refusal (sym here_refuses ∙ sym first.0 ∙ z)) in
        (first.0 ∙ here_refuses, λ x. record { group = first.1 x; page = same.0 x; pulses = same.1 x }, others_take)

  -- as worn
  pub worn_at : RefusedHalfWay 8 (wearing n own_symbol ∷ [])
  worn_at =
      let r = ranges n e p o in
      refused_at (wearing n own_symbol ∷ []) _ (wear_done n e r.0 r.1 own_symbol) refl 8 (worn_number n e r.0 r.1 own_symbol (there_at i inside)) (λ z. omega arith)

  -- and as spent
  pub spent_at : e < (n - 1) + (n - 1) → RefusedHalfWay 19 (store_call own_symbol ∷ erasing ∷ [])
  unfolding pushed
  spent_at short =
      let r = ranges n e p o in
      let l = there_at i inside in
      refused_at (store_call own_symbol ∷ erasing ∷ []) _ (spent_reached n e r.0 r.1 own_symbol enough l) refl 19 (spent_number n e r.0 r.1 own_symbol enough l short) (λ z. omega arith)
