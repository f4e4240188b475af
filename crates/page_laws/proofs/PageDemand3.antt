-- Demand 3 and pages: each group of a page goes by its own list of calls, so demand 3 holds of it, and the page's pulses are the groups'.
-- Assumes nothing.
use Prim.Native.Nat.{ℕ, zero, suc, ◌+◌, ◌-◌, ◌≤◌, ◌<◌}
use native.Mathlib.Omega.{arith}
use mathlib.Core.Path.{◌≡◌, refl, sym, ap, ◌∙◌}
use mathlib.Core.Logic.{◌≢◌, ◌↔◌}
use mathlib.Core.Bool.{Bool, true, false, false≢true}
use mathlib.Core.List.{List, [], ◌∷◌, ◌++◌}
use lib.ListN.{length}
use Rattle.order.specs.declared.Refusal.TheVariants.{Size, NoGroup, NoSymbol, Worn, Spent}
use Rattle.order.specs.Refusals.{number_of, Told}
use Rattle.group.specs.declared.Group.{Group}
use Rattle.group.specs.Levels.{rises}
use Rattle.plain_machine.specs.declared.Call.{Call}
use Rattle.plain_machine.specs.Machine.{target, earlier_checks, apply_of}
use Rattle.plain_machine.proofs.Machine.{apply_number, apply_rises}
use Rattle.rivals.specs.Rivals.{is_worn_or_spent, after, pulses_of, plain, Raisable, Demand3}
use Rattle.rivals.proofs.Demand3.{group_after_lem, demand3}
use Rattle.page.specs.declared.Page.{Page}
use Rattle.page.specs.Groups.{total}
use Rattle.page.specs.Pages.{group_at}
use Rattle.page_store.specs.StoreAnswer.{symbol_at, takes, AfterStore, number_stored, store_page_of}
use Rattle.page_store.proofs.Storing.{store_not}
use Rattle.page_laws.specs.PageLists.{PageCall, store_page, among, store_call, HoldsGroups, page_step, own_call, after_calls, pulses_of_calls, calls_of, PageDemand3, MeetsPageDemand3}
use Rattle.page_laws.proofs.Groups.{among_true, among_below, of_among, total_same, total_plus, total_none, FirstAt, no_first, first_not}
use Rattle.page_laws.proofs.Steps.{room, Answered, no_page, done, refused, answered, store_call_number, first_refused, step_count, step_length, through, kept, through_stands, stuck_stands, other_not, not_stands, own_stands, own_not, stuck_first, stuck_store, rival_stays, no_calls, group_by_call, group_step, pulses_step}

-- ---- lists of calls on one group, one after the other

after_append : (g : Group) (xs ys : List Call) → after apply_of g (xs ++ ys) ≡ after apply_of (after apply_of g xs) ys
unfolding after
after_append g [] ys = refl
after_append g (x ∷ xs) ys = after_append (apply_of g x).value.group xs ys

pulses_append : (g : Group) (xs ys : List Call) → pulses_of apply_of g (xs ++ ys) ≡ pulses_of apply_of g xs + pulses_of apply_of (after apply_of g xs) ys
unfolding after pulses_of
pulses_append g [] ys = omega arith
pulses_append g (x ∷ xs) ys = omega (arith, pulses_append (apply_of g x).value.group xs ys)

-- a store that is worn or spent passed the earlier checks
only_last_stuck : (a b c f l : Bool) → is_worn_or_spent (number_of ((a, Size) ∷ (b, NoGroup) ∷ (c, NoSymbol) ∷ (f, Worn) ∷ (l, Spent) ∷ [])) ≡ true
    → number_of ((a, Size) ∷ (b, NoGroup) ∷ (c, NoSymbol) ∷ []) ≡ 0
unfolding number_of
only_last_stuck true true true f l e = refl
only_last_stuck true true false f l e = absurd (false≢true e)
only_last_stuck true false c f l e = absurd (false≢true e)
only_last_stuck false b c f l e = absurd (false≢true e)

stuck_passed : (g : Group) (s : ℕ) → is_worn_or_spent (apply_of g (store_call s)).number ≡ true → number_of (earlier_checks g (store_call s)) ≡ 0
stuck_passed g s w = grind (arith, only_last_stuck, apply_number)

-- ---- lists of calls on a page

abbrev calls : ℕ → Page → List PageCall → List Call
calls k p cs = calls_of store_page_of k p cs

abbrev stepped : Page → PageCall → Page
stepped p c = page_step store_page_of p c

pub count_after : (p : Page) (cs : List PageCall) → (after_calls store_page_of p cs).count ≡ p.count
unfolding after_calls
count_after p [] = refl
count_after p (c ∷ cs) = count_after (stepped p c) cs ∙ step_count p c

room_after : (p : Page) (cs : List PageCall) → p.count ≤ length p.groups → (after_calls store_page_of p cs).count ≤ length (after_calls store_page_of p cs).groups
unfolding after_calls
room_after p [] r = r
room_after p (c ∷ cs) r = room_after (stepped p c) cs (omega (arith, step_count p c, step_length p c))

pub groups_after : (p : Page) (cs : List PageCall) → p.count ≤ length p.groups → (i : ℕ) → i < p.count
    → group_at (after_calls store_page_of p cs) (suc i) ≡ after apply_of (group_at p (suc i)) (calls (suc i) p cs)
unfolding after_calls calls_of after
groups_after p [] r i l = refl
groups_after p (c ∷ cs) r i l =
    groups_after (stepped p c) cs (omega (arith, step_count p c, step_length p c)) i (omega (arith, step_count p c))
    ∙ ap (λ (g : Group). after apply_of g (calls (suc i) (stepped p c) cs)) (group_step p r c i l)
    ∙ sym (after_append (group_at p (suc i)) (own_call store_page_of (suc i) p c) (calls (suc i) (stepped p c) cs))

pulses_after : (p : Page) (cs : List PageCall) → p.count ≤ length p.groups
    → pulses_of_calls store_page_of p cs ≡ total p.count (λ k. pulses_of apply_of (group_at p k) (calls k p cs))
unfolding pulses_of_calls calls_of
pulses_after p [] r = sym (total_none _ p.count (λ k l. no_calls (group_at p (suc k))))
pulses_after p (c ∷ cs) r =
    let q = stepped p c in
    let own : ℕ → ℕ = λ k. pulses_of apply_of (group_at p k) (own_call store_page_of k p c) in
    let rest : ℕ → ℕ = λ k. pulses_of apply_of (group_at q k) (calls k q cs) in
    let later : pulses_of_calls store_page_of q cs ≡ total p.count rest = pulses_after q cs (omega (arith, step_count p c, step_length p c)) ∙ ap (λ (n : ℕ). total n rest) (step_count p c) in
    let both-parts : total p.count (λ k. own k + rest k) ≡ total p.count own + total p.count rest = total_plus own rest p.count in
    omega (arith, pulses_step p c, later, both-parts)
    ∙ total_same (λ k. own k + rest k) _ p.count
    (λ k l.
    ap (λ (g : Group). own (suc k) + pulses_of apply_of g (calls (suc k) q cs)) (group_step p r c k l)
    ∙ sym (pulses_append (group_at p (suc k)) (own_call store_page_of (suc k) p c) (calls (suc k) q cs)))

-- ---- the claim, for a page of groups and a list of calls

module _ (p : Page) (h : HoldsGroups p) (cs : List PageCall) where
  abbrev now : Page
  now = after_calls store_page_of p cs

  own_demand : (k : ℕ) → among p.count k ≡ true → Demand3 apply_of (group_at p k) (calls k p cs)
  own_demand k e = demand3 (group_at p k) (h k e) (calls k p cs)

  in_page : (i : ℕ) → i < p.count → i < now.count
  in_page i l = omega (arith, count_after p cs)

  module _ (ss : List ℕ) where
    abbrev told : Told AfterStore
    told = store_page_of now ss

    abbrev Each : ℕ → Type 0
    Each n = (k : ℕ) → among n k ≡ true → number_stored now ss k ≡ 0

    each_among : (n : ℕ) → ((i : ℕ) → i < n → number_stored now ss (suc i) ≡ 0) → Each n
    each_among n f = of_among n (λ k. number_stored now ss k ≡ 0) f

    each_done : told.number ≡ 0 → (takes now ss ≡ true) × Each p.count
    each_done z = let t = through now ss z in (t.0, each_among p.count (λ i l. t.1 i (in_page i l)))

    done_each : takes now ss ≡ true → Each p.count → told.number ≡ 0
    done_each t all = go (answered now ss)
      where
        go : Answered now ss → told.number ≡ 0
        go (no_page f e) = absurd (false≢true (sym f ∙ t))
        go (done f a e) = ap (λ (s : Told AfterStore). s.number) e
        go (refused f i a e) = absurd (a.refuses (all (suc i) (among_below p.count i (omega (arith, a.below, count_after p cs)))))

    abbrev call : ℕ → Call
    call k = store_call (symbol_at ss k)

    abbrev own : ℕ → List Call
    own k = own_call store_page_of k now (store_page ss)

    stored_each : told.number ≡ 0 → (k : ℕ) → among p.count k ≡ true → let answer = apply_of (group_at now k) (call k) in
        (own k ≡ call k ∷ []) × (answer.number ≡ 0) × (answer.value.pulses ≡ rises (group_at now k).levels (group_at told.value.page k).levels)
    stored_each z zero e = absurd (false≢true e)
    stored_each z (suc i) e =
        let t = through now ss z in
        let l = among_true p.count i e in
        let g = group_at now (suc i) in
        let new : group_at told.value.page (suc i) ≡ (apply_of g (call (suc i))).value.group = ap (λ (v : AfterStore). group_at v.page (suc i)) t.2 ∙ group_by_call now (room_after p cs (room p h)) ss i (in_page i l) in
        let twelve : length g.levels ≡ 12 = rw (groups_after p cs (room p h) i l) (group_after_lem (group_at p (suc i)) (calls (suc i) p cs) (h (suc i) e)).levels in (
          own_stands now ss (suc i) (through_stands now ss (suc i) z),
          store_call_number now ss (suc i) ∙ t.1 i (in_page i l),
          sym (apply_rises g (call (suc i)) twelve) ∙ ap (λ (x : Group). rises g.levels x.levels) (sym new),
        )

    none_taken : takes now ss ≡ false → (told.number ≡ 16) × (told.value.group ≡ 0)
    none_taken e = rw (← store_not now ss e) (refl, refl)

    -- no group before k refuses
    abbrev Before : ℕ → Type 0
    Before k = Each (k - 1)

    module _ (i : ℕ) where
      before_first : Before (suc i) → ((j : ℕ) → j < i → number_stored now ss (suc j) ≡ 0)
      before_first b j l = b (suc j) (among_below (suc i - 1) j (omega arith))

      first : i < p.count → Before (suc i) → number_stored now ss (suc i) ≢ 0 → FirstAt (number_stored now ss) now.count i
      first l b r = record { below = in_page i l; before = no_first (number_stored now ss) i (before_first b); refuses = r }

    refused_first : (k : ℕ) → takes now ss ≡ true → among p.count k ≡ true → number_stored now ss k ≢ 0 → Before k
        → (told.number ≡ number_stored now ss k) × (told.value.group ≡ k)
    refused_first zero t m r b = absurd (false≢true m)
    refused_first (suc i) t m r b = grind (arith, first_refused, first, among_true)

    named_stuck : is_worn_or_spent told.number ≡ true
        → let k = told.value.group in
        (among p.count k ≡ true) × (own k ≡ call k ∷ []) × ((apply_of (group_at now k) (call k)).number ≡ told.number) × ((j : ℕ) → j ≢ k → own j ≡ [])
    named_stuck w = grind (arith, stuck_store, count_after, own_stands, stuck_stands, own_not, other_not)

    no_list : told.number ≢ 0 → is_worn_or_spent told.number ≡ false → (k : ℕ) → own k ≡ []
    no_list r w k = own_not now ss k (not_stands now ss r w k)

    -- no rival of group k can be raised to show the codeword of its symbol
    abbrev Shut : ℕ → Type 0
    Shut k = let g = group_at p k in ¬ (Raisable apply_of g (calls k p cs) (target (plain apply_of g g (calls k p cs)) (call k)))

    -- demand 3 of a group of the page: past the earlier checks its store is worn or spent exactly then
    stuck_shut : (i : ℕ) → i < p.count → number_of (earlier_checks (group_at now (suc i)) (call (suc i))) ≡ 0
        → (is_worn_or_spent (apply_of (group_at now (suc i)) (call (suc i))).number ≡ true) ↔ Shut (suc i)
    stuck_shut i l e =
        let same = groups_after p cs (room p h) i l in
        rw same ((own_demand (suc i) (among_below p.count i l)).stuck_exactly (call (suc i)) refl (rw same at e))

    abbrev StuckAt : ℕ → Type 0
    StuckAt k = (takes now ss ≡ true) × (among p.count k ≡ true) × Before k × (number_of (earlier_checks (group_at now k) (call k)) ≡ 0) × Shut k

    stuck_why : (k : ℕ) → is_worn_or_spent told.number ≡ true → told.value.group ≡ k → StuckAt k
    stuck_why k w d =
        let (i, t) = stuck_first now ss w in
        let l : i < p.count = omega (arith, t.first.below, count_after p cs) in
        let own : is_worn_or_spent (apply_of (group_at now (suc i)) (call (suc i))).number ≡ true = ap is_worn_or_spent (store_call_number now ss (suc i) ∙ sym t.number) ∙ w in
        let earlier = stuck_passed (group_at now (suc i)) (symbol_at ss (suc i)) own in
        rw (sym d ∙ t.named) (
          t.taken,
          among_below p.count i l,
          each_among (suc i - 1) (λ j m. first_not (number_stored now ss) i t.first.before j (omega arith)),
          earlier,
          (stuck_shut i l earlier).0 own,
        )

    stuck_where : (k : ℕ) → StuckAt k → (is_worn_or_spent told.number ≡ true) × (told.value.group ≡ k)
    stuck_where zero (t, m, b, e, shut) = absurd (false≢true m)
    stuck_where (suc i) (t, m, b, e, shut) = grind (arith, store_call_number, stuck_shut, among_true, refused_first)

  pub page_claim : PageDemand3 store_page_of p cs
  page_claim =
      record {
        as_many = count_after p cs;
        groups = of_among p.count (λ k. group_at now k ≡ after apply_of (group_at p k) (calls k p cs)) (groups_after p cs (room p h));
        pulses = pulses_after p cs (room p h);
        demand3 = own_demand;
        accepted = λ ss. (each_done ss, λ t. done_each ss t.0 t.1);
        went_through = stored_each;
        no_page = none_taken;
        first_refuses = refused_first;
        refused = kept now;
        rivals_stay = λ ss z k e. rival_stays now ss z k;
        stuck_named = named_stuck;
        in_no_list = no_list;
        stuck_exactly = λ ss k. (λ w. stuck_why ss k w.0 w.1, stuck_where ss k);
      }

pub page_demand3 : MeetsPageDemand3 store_page_of
page_demand3 = page_claim
