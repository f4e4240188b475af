-- One call on a page and the groups' own lists: what a page store answers, by cases, and that each group goes as its own call, if it has one, takes it.
-- Assumes nothing.
use Prim.Native.Nat.{ℕ, zero, suc, ◌-◌, ◌≤◌, ◌<◌}
use native.Mathlib.Nat.{add-zero}
use native.Mathlib.Decide.{dec_lt}
use native.Mathlib.Omega.{arith}
use mathlib.Core.Path.{◌≡◌, refl, sym, ap, ◌∙◌}
use mathlib.Core.Logic.{◌≢◌, ◌⊎◌, inl, inr, ⊎_elim}
use mathlib.Core.Bool.{Bool, true, false, false≢true, cond}
use mathlib.Core.List.{List, [], ◌∷◌}
use lib.Dec.{eqb}
use lib.ListN.{length, length-set, get_or-eq_default}
use lib.Seq.{get_or-set_same, get_or-set_other}
use borrow.Author.Tests.{leb-true, eqb-true, eq-eqb, ne_eqb}
use Rattle.order.specs.declared.Refusal.TheVariants.{NoPage}
use Rattle.order.specs.Refusals.{refusal_number, number_of, Told, answer}
use Rattle.order.proofs.Cells.{both, eq_cases}
use Rattle.order.proofs.Refusals.{picked_zeros}
use Rattle.group.specs.declared.Group.{Group}
use Rattle.group.specs.Record.{no_group, IsGroup}
use Rattle.plain_machine.specs.declared.Kind.{Kind}
use Rattle.plain_machine.specs.declared.Call.{Call}
use Rattle.engine.specs.ReadStore.{store_of}
use Rattle.engine.specs.Scrub.{quiet}
use Rattle.plain_machine.specs.Machine.{apply_of}
use Rattle.plain_machine.proofs.Machine.{accept, apply_number, apply_value}
use Rattle.rivals.specs.Rivals.{Rival, Moves, latest, is_worn_or_spent, after, pulses_of, Course, rest, next}
use Rattle.page.specs.declared.Page.{Page}
use Rattle.page.specs.Groups.{total}
use Rattle.page.specs.Pages.{group_at}
use Rattle.page_store.specs.StoreAnswer.{symbol_at, takes, AfterStore, number_stored, group_stored, pulses_stored, all_stored, none_stored, store_page_of}
use Rattle.page_store.proofs.Storing.{store_not}
use Rattle.page.proofs.Pages.{back_one, page_done, page_refused}
use Rattle.page_laws.specs.PageLists.{PageCall, on_group, store_page, read_page, among, put_group, stands, store_call, HoldsGroups, page_step, page_pulses, own_call}
use Rattle.page_laws.proofs.Groups.{among_true, among_below, total_same, total_none, total_one, length_put, put_at, FirstAt, no_first, none_or_first}

-- ---- a page of groups has places for them

no_group_lem : ¬ (IsGroup no_group)
unfolding number_of
no_group_lem h = let e : ◌≡◌ {A = ℕ} 1 0 = h.passes in omega arith

pub room : (p : Page) → HoldsGroups p → p.count ≤ length p.groups
room p h = elim (dec_lt (length p.groups) p.count) [ yes l ↦ absurd (past p.count refl l) | no n ↦ omega arith ]
  where
    past : (c : ℕ) → p.count ≡ c → length p.groups < c → ⊥
    past zero e l = omega arith
    past (suc i) e l =
        let default : group_at p (suc i) ≡ no_group = get_or-eq_default p.groups no_group {n = suc i - 1} (omega arith) in
        no_group_lem (rw default at (h (suc i) (rw e (among_below (suc i) i (omega arith)))))

-- ---- what a page store answers

module _ (p : Page) (ss : List ℕ) where
  pub data Answered : Type 0 where
    no_page : takes p ss ≡ false → store_page_of p ss ≡ record { number = refusal_number NoPage; value = none_stored p 0 } → Answered
    done : takes p ss ≡ true → ((i : ℕ) → i < p.count → number_stored p ss (suc i) ≡ 0) → store_page_of p ss ≡ record { number = 0; value = all_stored p ss } → Answered
    refused : takes p ss ≡ true → (i : ℕ) → FirstAt (number_stored p ss) p.count i
        → store_page_of p ss ≡ record { number = number_stored p ss (suc i); value = none_stored p (suc i) } → Answered

  pub first_refused : takes p ss ≡ true → (i : ℕ) → FirstAt (number_stored p ss) p.count i
      → store_page_of p ss ≡ record { number = number_stored p ss (suc i); value = none_stored p (suc i) }
  unfolding store_page_of
  first_refused e i a = grind (arith, page_refused)

  pub answered : Answered
  unfolding store_page_of
  answered = go (takes p ss) refl
    where
      go : (b : Bool) → takes p ss ≡ b → Answered
      go false e = no_page e (sym (store_not p ss e))
      go true e =
          ⊎_elim
          (λ h. done e h (sym (page_done (takes p ss) p.count (number_stored p ss) (all_stored p ss) (none_stored p) e (no_first (number_stored p ss) p.count h))))
          (λ t. let (i, a) = t in refused e i a (first_refused e i a))
          (none_or_first (number_stored p ss) p.count)

  -- the store of group k, as a call on it
  pub store_call_number : (k : ℕ) → (apply_of (group_at p k) (store_call (symbol_at ss k))).number ≡ number_stored p ss k
  unfolding number_stored store_of answer
  store_call_number k = apply_number (group_at p k) (store_call (symbol_at ss k))

-- a refused call leaves the group and carries no pulses
apply_refused : (g : Group) (c : Call) → (apply_of g c).number ≢ 0 → (apply_of g c).value ≡ quiet g
apply_refused g c r = grind (arith, apply_value, picked_zeros, accept, apply_number)

-- ---- the page has as many groups after a call

pub step_count : (p : Page) (c : PageCall) → (page_step store_page_of p c).count ≡ p.count
unfolding page_step put_group
step_count p (on_group k c) = go (among p.count k)
  where
    go : (b : Bool) → (cond b (put_group p k (apply_of (group_at p k) c).value.group) p).count ≡ p.count
    go true = refl
    go false = refl
step_count p (store_page ss) = go (answered p ss)
  where
    go : Answered p ss → (store_page_of p ss).value.page.count ≡ p.count
    go (no_page t e) = rw e
    go (done t h e) = rw e
    go (refused t i h e) = rw e
step_count p read_page = refl

pub step_length : (p : Page) (c : PageCall) → length (page_step store_page_of p c).groups ≡ length p.groups
unfolding page_step put_group
step_length p (on_group k c) = go (among p.count k)
  where
    go : (b : Bool) → length (cond b (put_group p k (apply_of (group_at p k) c).value.group) p).groups ≡ length p.groups
    go true = length-set p.groups (k - 1) _
    go false = refl
step_length p (store_page ss) = go (answered p ss)
  where
    go : Answered p ss → length (store_page_of p ss).value.page.groups ≡ length p.groups
    go (no_page t e) = rw e
    go (done t h e) = rw e (length_put (group_stored p ss) p.groups p.count)
    go (refused t i h e) = rw e
step_length p read_page = refl

-- ---- a page store that went through, and one that did not

-- worn or spent is refused
stuck_refused : (k : ℕ) → is_worn_or_spent k ≡ true → k ≢ 0
stuck_refused k w z = false≢true (rw z at w)

zero_or : (k : ℕ) → (k ≡ 0) ⊎ (k ≢ 0)
zero_or zero = inl refl
zero_or (suc k) = inr (λ e. absurd (omega arith))

module _ (p : Page) (ss : List ℕ) where
  abbrev told : Told AfterStore
  told = store_page_of p ss

  pub through : told.number ≡ 0 → (takes p ss ≡ true) × ((i : ℕ) → i < p.count → number_stored p ss (suc i) ≡ 0) × (told.value ≡ all_stored p ss)
  through z = go (answered p ss)
    where
      go : Answered p ss → (takes p ss ≡ true) × ((i : ℕ) → i < p.count → number_stored p ss (suc i) ≡ 0) × (told.value ≡ all_stored p ss)
      go (no_page t e) = absurd (omega (arith, z, ap (λ (t : Told AfterStore). t.number) e))
      go (done t h e) = (t, h, ap (λ (t : Told AfterStore). t.value) e)
      go (refused t i h e) = absurd (h.refuses (sym (ap (λ (t : Told AfterStore). t.number) e) ∙ z))

  pub kept : told.number ≢ 0 → (told.value.page ≡ p) × (told.value.pulses ≡ 0)
  kept r = go (answered p ss)
    where
      go : Answered p ss → (told.value.page ≡ p) × (told.value.pulses ≡ 0)
      go (no_page t e) = rw e (refl, refl)
      go (done t h e) = absurd (r (ap (λ (t : Told AfterStore). t.number) e))
      go (refused t i h e) = rw e (refl, refl)

  -- it is refused by group i + 1, the first that refuses
  pub record RefusedAt (i : ℕ) : Type 0 where
    pub taken : takes p ss ≡ true
    pub first : FirstAt (number_stored p ss) p.count i
    pub named : told.value.group ≡ suc i
    pub number : told.number ≡ number_stored p ss (suc i)

  -- so it is where it is refused as worn or as spent
  pub stuck_first : is_worn_or_spent told.number ≡ true → (i : ℕ) × RefusedAt i
  stuck_first w = go (answered p ss)
    where
      go : Answered p ss → (i : ℕ) × RefusedAt i
      go (no_page t e) = absurd (false≢true (rw e at w))
      go (done t h e) = absurd (false≢true (rw e at w))
      go (refused t i h e) =
          (i, record { taken = t; first = h; named = ap (λ (t : Told AfterStore). t.value.group) e; number = ap (λ (t : Told AfterStore). t.number) e })

  -- that is the number of the store, as a call on the group
  pub stuck_store : is_worn_or_spent told.number ≡ true
      → let k = told.value.group in (among p.count k ≡ true) × ((apply_of (group_at p k) (store_call (symbol_at ss k))).number ≡ told.number)
  stuck_store w = grind (arith, stuck_first, among_below, store_call_number)

  -- ---- in which lists it stands

  pub own_stands : (k : ℕ) → stands told k ≡ true → own_call store_page_of k p (store_page ss) ≡ store_call (symbol_at ss k) ∷ []
  unfolding own_call
  own_stands k e = rw e

  pub own_not : (k : ℕ) → stands told k ≡ false → own_call store_page_of k p (store_page ss) ≡ []
  unfolding own_call
  own_not k e = rw e

  pub stuck_stands : is_worn_or_spent told.number ≡ true → stands told told.value.group ≡ true
  unfolding stands
  stuck_stands w = grind (arith, picked_zeros, stuck_refused, eq-eqb)

  pub other_not : is_worn_or_spent told.number ≡ true → (j : ℕ) → j ≢ told.value.group → stands told j ≡ false
  unfolding stands
  other_not w j d = grind (arith, picked_zeros, stuck_refused, ne_eqb)

  pub not_stands : told.number ≢ 0 → is_worn_or_spent told.number ≡ false → (k : ℕ) → stands told k ≡ false
  unfolding stands
  not_stands r w k = picked_zeros told.number true _ r ∙ rw w

  pub through_stands : (k : ℕ) → told.number ≡ 0 → stands told k ≡ true
  unfolding stands
  through_stands k z = rw z

  stands_as_stuck : (k : ℕ) → told.number ≢ 0 → stands told k ≡ true → (is_worn_or_spent told.number ≡ true) × (told.value.group ≡ k)
  unfolding stands
  stands_as_stuck k r e = grind (arith, both, picked_zeros, eqb-true)

  -- its call in the list of a group, if it has one, is refused
  own_refused : (k : ℕ) → told.number ≢ 0 → stands told k ≡ true → (apply_of (group_at p k) (store_call (symbol_at ss k))).number ≢ 0
  own_refused k r e z = grind (arith, stands_as_stuck, stuck_store)

-- a list of one call or none, where the call would be refused
one_refused : (g : Group) (c : Call) (b : Bool) → (b ≡ true → (apply_of g c).number ≢ 0)
    → (after apply_of g (cond b (c ∷ []) []) ≡ g) × (pulses_of apply_of g (cond b (c ∷ []) []) ≡ 0)
unfolding after pulses_of
one_refused g c true r = grind (arith, apply_refused)
one_refused g c false r = (refl, refl)

-- and a rival that has such a list stays where it stands
moved_not : (k : ℕ) (kind : Kind) (t : List (List ℕ)) (r s : Rival) → k ≢ 0 → Moves k kind t r s → s ≡ r
unfolding Moves
moved_not zero kind t r s z m = absurd (z refl)
moved_not (suc k) kind t r s z m = m

one_stays : (g q : Group) (c : Call) (b : Bool) (r : Rival) (rs : List Rival) → (b ≡ true → (apply_of g c).number ≢ 0)
    → Course apply_of g q r (cond b (c ∷ []) []) rs → latest r rs ≡ r
unfolding latest
one_stays g q c true r rs z (next {s = s} m rest) = moved_not _ c.kind _ r s (z refl) m
one_stays g q c false r rs z rest = refl

pub rival_stays : (p : Page) (ss : List ℕ) → (store_page_of p ss).number ≢ 0 → (k : ℕ) (q : Group) (r : Rival) (rs : List Rival)
    → Course apply_of (group_at p k) q r (own_call store_page_of k p (store_page ss)) rs → latest r rs ≡ r
unfolding own_call
rival_stays p ss z k q r rs x = grind (arith, one_stays, own_refused)

pub no_calls : (g : Group) → pulses_of apply_of g [] ≡ 0
unfolding pulses_of
no_calls g = refl

-- ---- each group goes as its own call takes it

module _ (p : Page) where
  module _ (places : p.count ≤ length p.groups) where
    on_group_lem : (j : ℕ) (c : Call) (i : ℕ) → i < p.count
        → group_at (page_step store_page_of p (on_group j c)) (suc i) ≡ after apply_of (group_at p (suc i)) (cond (eqb j (suc i)) (c ∷ []) [])
    unfolding page_step put_group after
    on_group_lem j c i l =
        ⊎_elim
        (λ t.
        rw (← t.0, among_below p.count i l, eq-eqb (suc i) (suc i) refl)
        (get_or-set_same p.groups (suc i - 1) (apply_of (group_at p (suc i)) c).value.group no_group (omega arith)))
        (λ t. rw t.1 (other t.0 (among p.count j) refl))
        (eq_cases (suc i) j)
      where
        other : (suc i ≡ j → ⊥) → (b : Bool) → among p.count j ≡ b
            → group_at (cond b (put_group p j (apply_of (group_at p j) c).value.group) p) (suc i) ≡ group_at p (suc i)
        other d true e = grind (arith, leb-true, both, get_or-set_other)
        other d false e = refl

    pub group_by_store : (ss : List ℕ) (i : ℕ) → i < p.count → group_at (all_stored p ss).page (suc i) ≡ (store_of (group_at p (suc i)) (symbol_at ss (suc i))).value.group
    unfolding group_stored
    group_by_store ss i l = grind (arith, back_one, put_at)

    pub group_by_call : (ss : List ℕ) (i : ℕ) → i < p.count
        → group_at (all_stored p ss).page (suc i) ≡ (apply_of (group_at p (suc i)) (store_call (symbol_at ss (suc i)))).value.group
    unfolding apply_of
    group_by_call ss i l = group_by_store ss i l

    pub group_step : (c : PageCall) (i : ℕ) → i < p.count
        → group_at (page_step store_page_of p c) (suc i) ≡ after apply_of (group_at p (suc i)) (own_call store_page_of (suc i) p c)
    unfolding page_step own_call after
    group_step (on_group j c) i l = on_group_lem j c i l
    group_step (store_page ss) i l =
        ⊎_elim
        (λ z.
        ap (λ (v : AfterStore). group_at v.page (suc i)) (through p ss z).2
        ∙ group_by_call ss i l
        ∙ ap (λ (b : Bool). after apply_of (group_at p (suc i)) (cond b (store_call (symbol_at ss (suc i)) ∷ []) [])) (sym (through_stands p ss (suc i) z)))
        (λ r.
        let same = (one_refused (group_at p (suc i)) (store_call (symbol_at ss (suc i))) _ (own_refused p ss (suc i) r)).0 in
        ap (λ (q : Page). group_at q (suc i)) (kept p ss r).0 ∙ sym same)
        (zero_or (store_page_of p ss).number)
    group_step read_page i l = refl

  on_pulses : (j : ℕ) (c : Call) (b : Bool) → among p.count j ≡ b
      → cond b (apply_of (group_at p j) c).value.pulses 0 ≡ total p.count (λ k. pulses_of apply_of (group_at p k) (cond (eqb j k) (c ∷ []) []))
  unfolding pulses_of
  on_pulses zero c true e = absurd (false≢true e)
  on_pulses (suc i) c true e =
      sym
      (total_one _ p.count i (among_true p.count i e) (λ k l d. rw (ne_eqb (suc i) (suc k) (λ q. d (omega arith))))
      ∙ rw (eq-eqb (suc i) (suc i) refl) (add-zero _))
  on_pulses j c false e =
      sym
      (total_none _ p.count
      (λ k l. rw (ne_eqb j (suc k) (λ q. absurd (false≢true (sym e ∙ ap (among p.count) q ∙ among_below p.count k l))))))

  stored_pulses : (ss : List ℕ) (k : ℕ) → pulses_stored p ss k ≡ pulses_of apply_of (group_at p k) (store_call (symbol_at ss k) ∷ [])
  unfolding apply_of pulses_stored pulses_of
  stored_pulses ss k = sym (add-zero _)

  pub pulses_step : (c : PageCall) → page_pulses store_page_of p c ≡ total p.count (λ k. pulses_of apply_of (group_at p k) (own_call store_page_of k p c))
  unfolding page_pulses own_call
  pulses_step (on_group j c) = on_pulses j c (among p.count j) refl
  pulses_step (store_page ss) =
      ⊎_elim
      (λ z.
      ap (λ (t : AfterStore). t.pulses) (through p ss z).2
      ∙ total_same (pulses_stored p ss) _ p.count (λ k l. rw (through_stands p ss (suc k) z) (stored_pulses ss (suc k))))
      (λ r.
      (kept p ss r).1
      ∙ sym (total_none _ p.count (λ k l. (one_refused (group_at p (suc k)) (store_call (symbol_at ss (suc k))) _ (own_refused p ss (suc k) r)).1)))
      (zero_or (store_page_of p ss).number)
  pulses_step read_page = sym (total_none _ p.count (λ k l. no_calls (group_at p (suc k))))
