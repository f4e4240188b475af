-- Document 02, "A page of groups", and demand 3 (document 01, "The rivals of demand 3"): each group of a page has a list of calls of its own.
-- The claim is about any machine that answers page stores. That ours meets it is the theorem `page_demand3` (proofs/PageDemand3) about `store_page_of`,
-- which is the whole answer of the public function `store_page` by its contract. It leaves open nothing of what it speaks of (proofs/Determined); to the
-- contracts alone it leaves pages with a record that is no group, what stands in a page after its groups, that an accepted page store names group 0, and
-- the page read.
--
--   PageCall            a call on a page: one of the plain machine's on group k alone, a page store of these symbols, or a page read
--   PageMachine         the claim is about it: it answers a page store
--   among n k           k is one of 1, 2, .., n
--   put_group p k g      the page with g as its group k
--   stands t k          a page store with the answer t stands in the list of group k: it went through, or it is refused as worn or as spent and names group k
--   store_call s         the store of a symbol, as a call on one group
--   HoldsGroups p       each of the page's groups is a group
--   OpenedPage n e p    a freshly opened page: 1 to 8 groups, each as an accepted open of n cells with the endurance e returns it
--   page_step, page_pulses    the page after a call, and the pulses of its answer. A call on a group that the page does not have changes nothing
--   own_call k p c       what the call c on the page p is in the list of group k: one call, or none. A page read, which changes nothing, is none
--   after_calls, pulses_of_calls    the page after the calls, each handed the page as the call before left it, and what their answers add up to
--   calls_of k p cs      the list of group k, where the page p has had the calls cs
--   PageDemand3 p cs    what is claimed of such a machine, of the page p that has had the calls cs
--   MeetsPageDemand3    the whole: of every page of groups and every list of calls
use Rattle.std.specs.Prelude.{ℕ, ◌+◌, ◌-◌, ◌≤◌, ◌≡◌, ◌≢◌, ◌↔◌, Bool, true, false, cond, ◌&&◌, List, [], ◌∷◌, ◌++◌, leb, eqb, set}
use Rattle.order.specs.Refusals.{number_of, if_done, Told}
use Rattle.order.specs.Order.{no_order}
use Rattle.group.specs.declared.Group.{Group}
use Rattle.group.specs.Levels.{rises}
use Rattle.group.specs.Record.{IsGroup}
use Rattle.changes.specs.Changes.{open_of}
use Rattle.plain_machine.specs.declared.Kind.TheVariants.{Store}
use Rattle.sharing.specs.Shared.{plain_target}
use Rattle.plain_machine.specs.declared.Call.{Call}
use Rattle.plain_machine.specs.Machine.{target, earlier_checks, apply_of}
use Rattle.rivals.specs.Rivals.{Rival, latest, is_worn_or_spent, after, pulses_of, Course, plain, Raisable, Demand3}
use Rattle.page.specs.declared.Page.{Page}
use Rattle.page.specs.Groups.{total}
use Rattle.page.specs.Pages.{group_at}
use Rattle.page_store.specs.StoreAnswer.{symbol_at, takes, number_stored, AfterStore}

pub data PageCall : Type 0 where
  on_group : ℕ → Call → PageCall
  store_page : List ℕ → PageCall
  read_page : PageCall

abbrev pub PageMachine : Type 0
PageMachine = Page → List ℕ → Told AfterStore

abbrev pub among : ℕ → ℕ → Bool
among n k = leb 1 k && leb k n

unfoldable pub put_group : Page → ℕ → Group → Page
put_group p k g = record { count = p.count; groups = set p.groups (k - 1) g }

unfoldable pub stands : Told AfterStore → ℕ → Bool
stands t k = if_done t.number true (is_worn_or_spent t.number && eqb t.value.group k)

abbrev pub store_call : ℕ → Call
store_call s = record { kind = Store s; target = plain_target no_order }

abbrev pub HoldsGroups : Page → Type 0
HoldsGroups p = (k : ℕ) → among p.count k ≡ true → IsGroup (group_at p k)

pub record OpenedPage (n e : ℕ) (p : Page) : Type 0 where
  pub opens : (open_of n e).number ≡ 0
  pub least : 1 ≤ p.count
  pub most : p.count ≤ 8
  pub groups : (k : ℕ) → among p.count k ≡ true → group_at p k ≡ (open_of n e).value

module _ (store : PageMachine) where
  unfoldable pub page_step : Page → PageCall → Page
  page_step p (on_group k c) = cond (among p.count k) (put_group p k (apply_of (group_at p k) c).value.group) p
  page_step p (store_page ss) = (store p ss).value.page
  page_step p read_page = p

  unfoldable pub page_pulses : Page → PageCall → ℕ
  page_pulses p (on_group k c) = cond (among p.count k) (apply_of (group_at p k) c).value.pulses 0
  page_pulses p (store_page ss) = (store p ss).value.pulses
  page_pulses p read_page = 0

  unfoldable pub own_call : ℕ → Page → PageCall → List Call
  own_call k p (on_group j c) = cond (eqb j k) (c ∷ []) []
  own_call k p (store_page ss) = cond (stands (store p ss) k) (store_call (symbol_at ss k) ∷ []) []
  own_call k p read_page = []

  unfoldable pub after_calls : Page → List PageCall → Page
  after_calls p [] = p
  after_calls p (c ∷ cs) = after_calls (page_step p c) cs

  unfoldable pub pulses_of_calls : Page → List PageCall → ℕ
  pulses_of_calls p [] = 0
  pulses_of_calls p (c ∷ cs) = page_pulses p c + pulses_of_calls (page_step p c) cs

  unfoldable pub calls_of : ℕ → Page → List PageCall → List Call
  calls_of k p [] = []
  calls_of k p (c ∷ cs) = own_call k p c ++ calls_of k (page_step p c) cs

  pub record PageDemand3 (p : Page) (cs : List PageCall) : Type 0 where
    -- the page has as many groups as before
    pub as_many : (after_calls p cs).count ≡ p.count
    -- group k of the page is what the plain machine makes of its own list
    pub groups : (k : ℕ) → among p.count k ≡ true → group_at (after_calls p cs) k ≡ after apply_of (group_at p k) (calls_of k p cs)
    -- the answers' pulses add up to what the answers in the groups' own lists add up to
    pub pulses : pulses_of_calls p cs ≡ total p.count (λ k. pulses_of apply_of (group_at p k) (calls_of k p cs))
    -- demand 3 holds of each group with its own list
    pub demand3 : (k : ℕ) → among p.count k ≡ true → Demand3 apply_of (group_at p k) (calls_of k p cs)
    -- a page store that comes next goes through exactly when there is one symbol a group of a page and no group refuses its own
    pub accepted : (ss : List ℕ) → let now = after_calls p cs in
        ((store now ss).number ≡ 0) ↔ ((takes now ss ≡ true) × ((k : ℕ) → among p.count k ≡ true → number_stored now ss k ≡ 0))
    -- it is then one more accepted store in the list of each group, with the group's own rises as the pulses of that answer
    pub went_through : (ss : List ℕ) → let now = after_calls p cs in
        (store now ss).number ≡ 0 → (k : ℕ) → among p.count k ≡ true
        → let c = store_call (symbol_at ss k) in let answer = apply_of (group_at now k) c in
        (own_call k now (store_page ss) ≡ c ∷ [])
        × (answer.number ≡ 0)
        × (answer.value.pulses ≡ rises (group_at now k).levels (group_at (store now ss).value.page k).levels)
    -- where it is no page, or there is not one symbol a group, it is refused 16 and names none
    pub no_page : (ss : List ℕ) → let now = after_calls p cs in takes now ss ≡ false → ((store now ss).number ≡ 16) × ((store now ss).value.group ≡ 0)
    -- else group k refuses it, with that group's own number, where that one refuses its own and none before it does
    pub first_refuses : (ss : List ℕ) (k : ℕ) → let now = after_calls p cs in
        takes now ss ≡ true → among p.count k ≡ true → number_stored now ss k ≢ 0 → ((j : ℕ) → among (k - 1) j ≡ true → number_stored now ss j ≡ 0)
        → ((store now ss).number ≡ number_stored now ss k) × ((store now ss).value.group ≡ k)
    -- refused, it changes no group and carries no pulses
    pub refused : (ss : List ℕ) → let now = after_calls p cs in
        (store now ss).number ≢ 0 → ((store now ss).value.page ≡ now) × ((store now ss).value.pulses ≡ 0)
    -- and it leaves all rivals unchanged: whatever it is in the list of group k, a rival of that group stays where it stands
    pub rivals_stay : (ss : List ℕ) → let now = after_calls p cs in
        (store now ss).number ≢ 0 → (k : ℕ) → among p.count k ≡ true → (q : Group) (r : Rival) (rs : List Rival)
        → Course apply_of (group_at now k) q r (own_call k now (store_page ss)) rs → latest r rs ≡ r
    -- refused as worn or as spent, it is such a store in the list of the group that it names, and in that list alone
    pub stuck_named : (ss : List ℕ) → let now = after_calls p cs in let k = (store now ss).value.group in let c = store_call (symbol_at ss k) in
        is_worn_or_spent (store now ss).number ≡ true
        → (among p.count k ≡ true)
        × (own_call k now (store_page ss) ≡ c ∷ [])
        × ((apply_of (group_at now k) c).number ≡ (store now ss).number)
        × ((j : ℕ) → j ≢ k → own_call j now (store_page ss) ≡ [])
    -- refused otherwise, it stands in no list
    pub in_no_list : (ss : List ℕ) → let now = after_calls p cs in
        (store now ss).number ≢ 0 → is_worn_or_spent (store now ss).number ≡ false → (k : ℕ) → own_call k now (store_page ss) ≡ []
    -- it is refused as worn or as spent with group k exactly when there is one symbol a group of a page, no group before k refuses its own, group k passes
    -- the earlier checks, and no rival of group k so far can be raised to show the symbol's codeword within the caps and the endurance
    pub stuck_exactly : (ss : List ℕ) (k : ℕ)
        → let now = after_calls p cs in let g = group_at p k in let own = calls_of k p cs in let c = store_call (symbol_at ss k) in
        ((is_worn_or_spent (store now ss).number ≡ true) × ((store now ss).value.group ≡ k))
        ↔ ((takes now ss ≡ true)
        × (among p.count k ≡ true)
        × ((j : ℕ) → among (k - 1) j ≡ true → number_stored now ss j ≡ 0)
        × (number_of (earlier_checks (group_at now k) c) ≡ 0)
        × (¬ (Raisable apply_of g own (target (plain apply_of g g own) c))))

  abbrev pub MeetsPageDemand3 : Type 0
  MeetsPageDemand3 = (p : Page) → HoldsGroups p → (cs : List PageCall) → PageDemand3 p cs
