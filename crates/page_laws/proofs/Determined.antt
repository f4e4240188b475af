-- What the claim determines of a page store. After every list of calls on a page of groups, one that meets it has as many groups as ours, the same
-- groups, and the same lists of their calls; its answers have added up to the same pulses; and its answer to the next page store has our number and,
-- where it is refused, names our group. What stands in the page after its groups is left to the contract.
-- Assumes nothing.
use Prim.Native.Nat.{ℕ, zero, suc, ◌-◌, ◌<◌}
use native.Mathlib.Omega.{arith}
use mathlib.Core.Path.{◌≡◌, refl, sym, ap, ap₂, ◌∙◌}
use mathlib.Core.Logic.{◌≢◌}
use mathlib.Core.Bool.{true, ◌&&◌}
use mathlib.Core.List.{List, [], ◌∷◌, ◌++◌}
use lib.Dec.{leb, eqb}
use Rattle.order.specs.Refusals.{if_done, Told}
use Rattle.group.specs.declared.Group.{Group}
use Rattle.plain_machine.specs.declared.Call.{Call}
use Rattle.plain_machine.specs.Machine.{apply_of}
use Rattle.rivals.specs.Rivals.{is_worn_or_spent, after, pulses_of}
use Rattle.page.specs.declared.Page.{Page}
use Rattle.page.specs.Groups.{all_of}
use Rattle.page.specs.Pages.{group_at, like_first, is_page}
use Rattle.page_store.specs.StoreAnswer.{takes, number_stored, AfterStore, store_page_of}
use Rattle.page_laws.specs.PageLists.{PageCall, on_group, store_page, read_page, PageMachine, among, stands, HoldsGroups, page_step, own_call, after_calls, pulses_of_calls, calls_of, PageDemand3, MeetsPageDemand3}
use Rattle.page_laws.proofs.Groups.{among_below, of_among, all_same, total_same, FirstAt, first_not}
use Rattle.page_laws.proofs.Steps.{Answered, no_page, done, refused, answered}
use Rattle.page_laws.proofs.PageDemand3.{page_claim}
use Rattle.page_laws.proofs.Holds.{holds_after}

-- as many groups, and the same
pub record SameGroups (p q : Page) : Type 0 where
  pub count : p.count ≡ q.count
  pub groups : (k : ℕ) → among q.count k ≡ true → group_at p k ≡ group_at q k

module _ {p q : Page} (s : SameGroups p q) where
  holds_same : HoldsGroups q → HoldsGroups p
  holds_same h = rw s.count (λ k e. rw (s.groups k e) (h k e))

  page_same : is_page p ≡ is_page q
  unfolding is_page like_first
  page_same =
      rw s.count
      (go q.count (λ i l. s.groups (suc i) (among_below q.count i l)))
    where
      go : (c : ℕ) → ((i : ℕ) → i < c → group_at p (suc i) ≡ group_at q (suc i))
          → (leb 1 c && (leb c 8 && all_of c (like_first p))) ≡ (leb 1 c && (leb c 8 && all_of c (like_first q)))
      go zero f = refl
      go (suc c) f = rw (all_same (like_first p) (like_first q) (suc c) (λ i l. rw (f i l, f 0 (omega arith))))

  module _ (ss : List ℕ) where
    takes_same : takes p ss ≡ takes q ss
    unfolding takes
    takes_same = rw (page_same, s.count)

    number_same : (k : ℕ) → among q.count k ≡ true → number_stored p ss k ≡ number_stored q ss k
    unfolding number_stored
    number_same k e = grind arith

module _ (store : PageMachine) (meets : MeetsPageDemand3 store) where
  -- ---- the next page store

  module _ {p q : Page} (s : SameGroups p q) (h : HoldsGroups q) (ss : List ℕ) where
    abbrev theirs : Told AfterStore
    theirs = store p ss

    abbrev ours : Told AfterStore
    ours = store_page_of q ss

    abbrev claim : PageDemand3 store p []
    claim = meets p (holds_same s h) []

    before : (i : ℕ) → FirstAt (number_stored q ss) q.count i → (j : ℕ) → among (suc i - 1) j ≡ true → number_stored p ss j ≡ 0
    before i a =
        of_among (suc i - 1) (λ j. number_stored p ss j ≡ 0)
        (λ j l.
        let m : j < i = omega arith in
        number_same s ss (suc j) (among_below q.count j (omega (arith, a.below))) ∙ first_not (number_stored q ss) i a.before j m)

    all : ((i : ℕ) → i < q.count → number_stored q ss (suc i) ≡ 0) → (k : ℕ) → among p.count k ≡ true → number_stored p ss k ≡ 0
    all f k m =
        let inside : among q.count k ≡ true = ap (λ (c : ℕ). among c k) (sym s.count) ∙ m in
        number_same s ss k inside ∙ of_among q.count (λ j. number_stored q ss j ≡ 0) f k inside

    same_told : (theirs.number ≡ ours.number) × (ours.number ≢ 0 → theirs.value.group ≡ ours.value.group)
    unfolding after_calls
    same_told = go (answered q ss)
      where
        go : Answered q ss → (theirs.number ≡ ours.number) × (ours.number ≢ 0 → theirs.value.group ≡ ours.value.group)
        go (no_page t e) = let x = claim.no_page ss (takes_same s ss ∙ t) in rw e (x.0, λ r. x.1)
        go (done t f e) =
            rw e (
              (claim.accepted ss).1 (takes_same s ss ∙ t, all f),
              λ r. absurd (r refl),
            )
        go (refused t i a e) =
            let inside = among_below q.count i a.below in
            let x = claim.first_refuses ss (suc i) (takes_same s ss ∙ t) (ap (λ (c : ℕ). among c (suc i)) s.count ∙ inside) (λ z. a.refuses (sym (number_same s ss (suc i) inside) ∙ z)) (before i a) in
            rw e (x.0 ∙ number_same s ss (suc i) inside, λ r. x.1)

    stands_same : (k : ℕ) → stands theirs k ≡ stands ours k
    unfolding stands
    stands_same k = let t = same_told in rw t.0 (go ours.number t.1)
      where
        go : (m : ℕ) → (m ≢ 0 → theirs.value.group ≡ ours.value.group)
            → if_done m true (is_worn_or_spent m && eqb theirs.value.group k) ≡ if_done m true (is_worn_or_spent m && eqb ours.value.group k)
        go zero f = refl
        go (suc m) f = rw (f (λ e. absurd (omega arith)))

  -- ---- lists of calls

  module _ {p q : Page} (s : SameGroups p q) (h : HoldsGroups q) where
    own_same : (c : PageCall) (k : ℕ) → own_call store k p c ≡ own_call store_page_of k q c
    unfolding own_call
    own_same (on_group j c) k = refl
    own_same (store_page ss) k = rw (stands_same s h ss k)
    own_same read_page k = refl

    step_same : (c : PageCall) → SameGroups (page_step store p c) (page_step store_page_of q c)
    unfolding after_calls calls_of
    step_same c =
        let t = meets p (holds_same s h) (c ∷ []) in
        let o = page_claim q h (c ∷ []) in
        record {
          count = t.as_many ∙ s.count ∙ sym o.as_many;
          groups =
              λ k e.
              let inside : among q.count k ≡ true = ap (λ (n : ℕ). among n k) (sym o.as_many) ∙ e in
              t.groups k (ap (λ (n : ℕ). among n k) s.count ∙ inside)
              ∙ ap₂ (λ (g : Group) (cs : List Call). after apply_of g (cs ++ [])) (s.groups k inside) (own_same c k)
              ∙ sym (o.groups k inside);
        }

  calls_same : (cs : List PageCall) {p q : Page} → SameGroups p q → HoldsGroups q → (k : ℕ) → calls_of store k p cs ≡ calls_of store_page_of k q cs
  unfolding calls_of after_calls
  calls_same [] s h k = refl
  calls_same (c ∷ cs) {p} {q} s h k =
      ap₂ (λ (xs ys : List Call). xs ++ ys) (own_same s h c k) (calls_same cs (step_same s h c) (holds_after q h (c ∷ [])) k)

  module _ (p : Page) (h : HoldsGroups p) (cs : List PageCall) where
    abbrev now : Page
    now = after_calls store_page_of p cs

    -- the lists of calls of the groups
    pub same_calls : (k : ℕ) → calls_of store k p cs ≡ calls_of store_page_of k p cs
    same_calls k = calls_same cs (record { count = refl; groups = λ k e. refl }) h k

    pub same_page : SameGroups (after_calls store p cs) now
    same_page =
        let t = meets p h cs in
        let o = page_claim p h cs in
        record {
          count = t.as_many ∙ sym o.as_many;
          groups =
              λ k e.
              let inside : among p.count k ≡ true = ap (λ (n : ℕ). among n k) (sym o.as_many) ∙ e in
              t.groups k inside ∙ ap (after apply_of (group_at p k)) (same_calls k) ∙ sym (o.groups k inside);
        }

    pub same_pulses : pulses_of_calls store p cs ≡ pulses_of_calls store_page_of p cs
    same_pulses =
        (meets p h cs).pulses
        ∙ total_same _ _ p.count (λ i l. ap (pulses_of apply_of (group_at p (suc i))) (same_calls (suc i)))
        ∙ sym (page_claim p h cs).pulses

    pub same_answer : (ss : List ℕ) → let t = store (after_calls store p cs) ss in let o = store_page_of now ss in
        (t.number ≡ o.number) × (o.number ≢ 0 → t.value.group ≡ o.value.group)
    same_answer ss = same_told same_page (holds_after p h cs) ss
