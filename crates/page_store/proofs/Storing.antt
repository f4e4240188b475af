-- The loop of a page store: what holds before each turn, that a turn keeps it, and what the answer is at its end or at a refusal.
-- Assumes nothing.
use Prim.Native.Nat.{ℕ, suc, ◌+◌, ◌*◌, ◌≤◌, ◌<◌}
use native.Mathlib.Omega.{arith}
use native.Mathlib.Numerals.{add-one}
use mathlib.Core.Path.{◌≡◌, refl, sym, ap, ◌∙◌}
use mathlib.Core.Bool.{true, false, and-false}
use mathlib.Core.List.{List}
use lib.Dec.{eqb}
use lib.ListN.{length, get_or, set}
use borrow.Author.Tests.{eqb-true, eq-eqb, ne_eqb}
use Rattle.order.specs.declared.Refusal.{Refusal}
use Rattle.order.specs.declared.Refusal.TheVariants.{NoPage}
use Rattle.order.specs.Refusals.{refusal_number, Told}
use Rattle.order.proofs.Cells.{both}
use Rattle.order.proofs.Refusals.{not-zero}
use Rattle.group.specs.declared.Group.{Group}
use Rattle.push_up.specs.WriteAnswer.{Program, unpushed}
use Rattle.engine.specs.ReadStore.{store_of}
use Rattle.page.specs.declared.Page.{Page}
use Rattle.page.specs.Groups.{total, put_each, first_refusing}
use Rattle.page.specs.Pages.{group_at, is_page}
use Rattle.page.proofs.Groups.{none_next}
use Rattle.page.proofs.Pages.{back_one, group_at_lem, page_not, page_done, page_refused, page_most}
use Rattle.page_store.specs.StoreAnswer.{symbol_at, takes, number_stored, group_stored, pulses_stored, all_stored, none_stored, store_page_of}
use Rattle.page_store.proofs.Pulses.{store_pulses}

symbol_at_lem : (ss : List ℕ) (k : ℕ) → get_or ss k 0 ≡ symbol_at ss (suc k)
symbol_at_lem ss k = rw (back_one k)

-- ---- page store

-- the first k groups are stored to in the copy, none of them refused, and their pulses are summed
pub record StoredTo (p : Page) (ss : List ℕ) (groups : List Group) (pulses k : ℕ) : Type 0 where
  pub is_taken : takes p ss ≡ true
  pub long : length p.groups ≡ 8
  pub most : p.count ≤ 8
  pub one_each : length ss ≡ p.count
  pub within : k ≤ p.count
  pub none : first_refusing k (number_stored p ss) ≡ 0
  pub held : groups ≡ put_each k (group_stored p ss) p.groups
  pub sum : pulses ≡ total k (pulses_stored p ss)
  pub low : pulses ≤ 49140 * k

pub taken_parts : (p : Page) (ss : List ℕ) → takes p ss ≡ true → (is_page p ≡ true) × (length ss ≡ p.count)
unfolding takes
taken_parts p ss e = let t = both (is_page p) (eqb (length ss) p.count) e in (t.0, eqb-true (length ss) p.count t.1)

pub store_start : {p : Page} {ss : List ℕ} → length p.groups ≡ 8 → takes p ss ≡ true → StoredTo p ss p.groups 0 0
unfolding first_refusing put_each total
store_start {p} {ss} w e =
    let t = taken_parts p ss e in
    record {
      is_taken = e;
      long = w;
      most = page_most p t.0;
      one_each = t.1;
      within = omega arith;
      none = refl;
      held = refl;
      sum = refl;
      low = omega arith;
    }

module _ {p : Page} {ss : List ℕ} {groups : List Group} {pulses k : ℕ} (h : StoredTo p ss groups pulses k) where
  module _ (l : k < p.count) (d : Group) where
    -- by the store to group k + 1 of its symbol
    store_same : store_of (get_or p.groups k d) (get_or ss k 0) ≡ store_of (group_at p (suc k)) (symbol_at ss (suc k))
    store_same = rw (group_at_lem p k d (omega (arith, h.long, h.most)), symbol_at_lem ss k)

    module _ {a : Program} (e : record { number = 0; value = a } ≡ store_of (get_or p.groups k d) (get_or ss k 0)) (w : length a.group.levels ≡ 12) where
      pub pulses_low : a.pulses ≤ 49140
      pulses_low =
          let same = ap (λ (t : Told Program). t.value.pulses) e in
          omega (arith, same, store_pulses _ _ (sym (ap (λ (t : Told Program). length t.value.group.levels) e) ∙ w))

      pub store_more : (more : ℕ) → more ≡ pulses + a.pulses → StoredTo p ss (set groups k a.group) more (k + 1)
      unfolding put_each total number_stored group_stored pulses_stored
      store_more more sum =
          let stored : record { number = 0; value = a } ≡ store_of (group_at p (suc k)) (symbol_at ss (suc k)) = e ∙ store_same in
          record {
            is_taken = h.is_taken;
            long = h.long;
            most = h.most;
            one_each = h.one_each;
            within = omega arith;
            none = rw (add-one k) (none_next (number_stored p ss) k h.none (sym (ap (λ (t : Told Program). t.number) stored)));
            held = rw (add-one k, h.held) (ap (λ (t : Told Program). set (put_each k (group_stored p ss) p.groups) k t.value.group) stored);
            sum = rw (add-one k, sum, h.sum) (ap (λ (t : Told Program). total k (pulses_stored p ss) + t.value.pulses) stored);
            low = omega (arith, sum, h.low, pulses_low);
          }

    pub store_refused_at : (r : Refusal) {g : Group} → record { number = refusal_number r; value = unpushed g } ≡ store_of (get_or p.groups k d) (get_or ss k 0)
        → (named : ℕ) → named ≡ k + 1 → record { number = refusal_number r; value = none_stored p named } ≡ store_page_of p ss
    unfolding store_page_of number_stored
    store_refused_at r e named one =
        let number : number_stored p ss (suc k) ≡ refusal_number r = ap (λ (t : Told Program). t.number) (sym (e ∙ store_same)) in
        rw (one, add-one k, ← number)
        (page_refused (takes p ss) p.count (number_stored p ss) (all_stored p ss) (none_stored p) h.is_taken k l h.none (λ z. not-zero r (sym number ∙ z)))

  pub store_end : p.count ≤ k
      → record { number = 0; value = record { group = 0; page = record { count = p.count; groups = groups }; pulses = pulses } } ≡ store_page_of p ss
  unfolding store_page_of
  store_end m =
      let e : k ≡ p.count = omega (arith, h.within) in
      rw (h.held, h.sum, e) (page_done (takes p ss) p.count (number_stored p ss) (all_stored p ss) (none_stored p) h.is_taken (rw e at h.none))

-- ---- a record that is no page, or symbols for another

pub store_not : (p : Page) (ss : List ℕ) → takes p ss ≡ false → record { number = refusal_number NoPage; value = none_stored p 0 } ≡ store_page_of p ss
unfolding store_page_of
store_not p ss e = page_not (takes p ss) p.count (number_stored p ss) (all_stored p ss) (none_stored p) e

pub not_taken : (p : Page) (ss : List ℕ) → is_page p ≡ false → takes p ss ≡ false
unfolding takes
not_taken p ss e = rw e

pub other_length : (p : Page) (ss : List ℕ) → (length ss ≡ p.count → ⊥) → takes p ss ≡ false
unfolding takes
other_length p ss e = rw (ne_eqb (length ss) p.count e) (and-false (is_page p))

pub is_taken : (p : Page) (ss : List ℕ) → is_page p ≡ true → length ss ≡ p.count → takes p ss ≡ true
unfolding takes
is_taken p ss e d = rw (e, eq-eqb (length ss) p.count d)
