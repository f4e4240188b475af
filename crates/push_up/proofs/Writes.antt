-- What a write knows of its group, its order and its levels, and what it leaves: a group stays a group.
-- Assumes nothing.
use Rattle.std.proofs.Common.{◌≡◌, ℕ, ◌-◌, ◌≤◌, Bool, true, cond, List, [], ◌∷◌, ◌++◌, length, refl, sym, ap, ◌∙◌, arith}
use Rattle.std.specs.Prelude.{Some, None, Ok, Err, replicate}
use Rattle.push_up.specs.declared.PushUp.{PushUp}
use Rattle.order.specs.declared.Order.{Order}
use Rattle.order.specs.declared.Refusal.{Refusal}
use Rattle.order.specs.declared.Refusal.TheVariants.{NoOrder, Worn, Spent}
use Rattle.order.specs.Refusals.{refusal_number, number_of, Told, told, answer}
use Rattle.order.specs.Cells.{is_order}
use Rattle.order.specs.Order.{listed, is_order_of}
use Rattle.order.proofs.Refusals.{all_held, check_held, check_holds, all_hold, later_decide, told_done, told_refused}
use Rattle.order.proofs.Check.{order_parts}
use Rattle.group.specs.declared.Group.{Group}
use Rattle.group.specs.Record.{all_at_most, group_checks, IsGroup}
use Rattle.group.specs.Levels.{AtMost, tallied}
use Rattle.group.proofs.LevelRows.{all_below, row_true, row_below}
use Rattle.group.proofs.Tallies.{length_tallied, tallied_same, tallied_mono, row_tallied}
use Rattle.group.proofs.Levels.{at_most_refl, at_most_trans, at_most_length, at_most_true, true_at_most}
use Rattle.group.proofs.Checks.{rules_held, checked_size, checked_levels, checked_caps}
use Rattle.group.proofs.Groups.{told_value, told_accepted, group_with}
use Rattle.push_up.specs.PushUp.{singles, Shows}
use Rattle.push_up.specs.WriteAnswer.{Program, raised, fits, lasts, push_checks, pushed, unpushed, write_of, tallies_of, program_of, used_after_of, programmed_of}
use Rattle.push_up.specs.Steps.{push_up_to}
use Rattle.push_up.proofs.Minimal.{Apart, apart_wider, raise_least, raise_shows}
use Rattle.push_up.proofs.Pushes.{few_pushes}
use Rattle.push_up.proofs.Orders.{TargetOf}

-- an order that is handed in for a group, and the group's levels, can be raised
pub checked_target : (g : Group) (o : Order) → number_of (group_checks g) ≡ 0 → is_order_of g.n o ≡ true
    → (is_order o.len (listed o) ≡ true) × (o.len ≤ 12) × (all_at_most 4095 g.levels ≡ true)
checked_target g o d e =
    let t = (order_parts g.n o e).1 in
    (ap (λ (k : ℕ). is_order k (listed o)) t.long ∙ t.order, omega (arith, checked_size g d), row_true 4095 g.n g.levels (checked_levels g d))

-- ---- a write

-- a target of n cells takes at most n - 1 pushes
pub pushes_few : (w : Bool) (g : Group) (t : List (List ℕ)) → TargetOf g.n t → (pushed w g t).count ≤ g.n - 1
unfolding pushed
pushes_few w g t a = omega (arith, few_pushes 1 g.levels t, a.few)

-- the last checks of a call that raises cells hold exactly when no new level is above its cap, and no cell comes past the endurance
pub push_held : (g : Group) (t : List (List ℕ)) → number_of (push_checks g t) ≡ 0 → (fits g t ≡ true) × (lasts g t ≡ true)
push_held g t e = let f = check_held (fits g t) Worn _ e in (f.0, (check_held (lasts g t) Spent [] f.1).0)

pub push_holds : (g : Group) (t : List (List ℕ)) → fits g t ≡ true → lasts g t ≡ true → number_of (push_checks g t) ≡ 0
push_holds g t f l = check_holds Worn _ f ∙ check_holds Spent [] l ∙ all_hold

-- the rises of a push-up, added in a group, and the used pulses after it
module _ (g : Group) (d : number_of (group_checks g) ≡ 0) (t : List (List ℕ)) where
  pub added_lasts : tallies_of g.endurance g.used g.levels (raised g t) ≡ cond (lasts g t) (Some (tallied g.used g.levels (raised g t))) None
  unfolding lasts tallies_of
  added_lasts = rw (rules_held g d).endurance

  pub added_used : lasts g t ≡ true → tallies_of g.endurance g.used g.levels (raised g t) ≡ Some (tallied g.used g.levels (raised g t))
  added_used l = added_lasts ∙ rw l refl

  pub used_push : used_after_of g (raised g t) ≡ answer (push_checks g t) (tallied g.used g.levels (raised g t)) (replicate 12 0)
  unfolding used_after_of fits lasts
  used_push = rw (rules_held g d).endurance

  -- so the answer of a call that passes its first checks, makes the push-up, and asks for its used pulses
  module _ (first : List (Bool × Refusal)) (w : Bool) (f : number_of first ≡ 0) {p : PushUp} (e : p ≡ push_up_to 1 t g.levels) where
    used_known : {a : Told (List ℕ)} → a ≡ used_after_of g p.levels → a ≡ answer (push_checks g t) (tallied g.used g.levels (raised g t)) (replicate 12 0)
    unfolding push_up_to raised
    used_known u = u ∙ ap (λ (q : PushUp). used_after_of g q.levels) e ∙ used_push

    used_number : {a : Told (List ℕ)} → a ≡ used_after_of g p.levels → number_of (first ++ push_checks g t) ≡ a.number
    unfolding answer
    used_number u = later_decide (push_checks g t) first f ∙ sym (ap (λ (a : Told (List ℕ)). a.number) (used_known u))

    pub refused_after : (r : Refusal) → told (replicate 12 0) (Err r) ≡ used_after_of g p.levels
        → record { number = refusal_number r; value = unpushed g } ≡ answer (first ++ push_checks g t) (pushed w g t) (unpushed g)
    refused_after r u = told_refused _ (pushed w g t) (unpushed g) r (used_number u)

    pub programmed_after : (us : List ℕ) → told (replicate 12 0) (Ok us) ≡ used_after_of g p.levels
        → record { number = 0; value = program_of (programmed_of w g p us) } ≡ answer (first ++ push_checks g t) (pushed w g t) (unpushed g)
    unfolding push_up_to answer raised pushed
    programmed_after us u =
        let none : number_of (push_checks g t) ≡ 0 = sym (ap (λ (a : Told (List ℕ)). a.number) (used_known u)) in
        let summed : us ≡ tallied g.used g.levels (raised g t) = ap (λ (a : Told (List ℕ)). a.value) (used_known u) ∙ rw none refl in
        rw (summed, e) (told_done _ (pushed w g t) (unpushed g) (used_number u))

-- cells raised past these checks leave a group
pub group_pushed : (w : Bool) (g : Group) (t : List (List ℕ)) → IsGroup g → number_of (push_checks g t) ≡ 0 → IsGroup (pushed w g t).group
unfolding pushed fits lasts
group_pushed w g t h e =
    let held = push_held g t e in
    let low = at_most_true (raised g t) g.caps held.0 in
    let row = row_below 4095 g.n low (checked_caps g h.passes) in
    group_with g h (raised g t) g.caps _ w row (at_most_length low ∙ h.caps) (at_most_refl g.caps)
    (row_tallied g.endurance 4095 g.n g.used g.levels (raised g t) (rules_held g h.passes).used row held.1)
    (length_tallied g.used g.levels (raised g t) ∙ h.used)

-- so a call that raises cells, whatever it checks first, answers a group
pub push_group :
    {A : Type 0} (group : A → Group) (w : Bool) (g : Group) (t : List (List ℕ)) (first : List (Bool × Refusal)) (result zeros : A)
    → IsGroup g → group result ≡ (pushed w g t).group → group zeros ≡ g → IsGroup (group (answer (first ++ push_checks g t) result zeros).value)
push_group group w g t first result zeros h e f =
    told_value (λ x. IsGroup (group x)) (first ++ push_checks g t) result zeros (λ k. rw e (group_pushed w g t h (all_held _ first k).1)) (rw f h)

-- what an accepted write knows: its group, its order, and that its last checks hold; and what it leaves
pub write_accepted : (g : Group) (o : Order) → (write_of g o).number ≡ 0
    → (number_of (group_checks g) ≡ 0) × (is_order_of g.n o ≡ true) × (number_of (push_checks g (singles (listed o))) ≡ 0)
    × ((write_of g o).value ≡ pushed true g (singles (listed o)))
unfolding write_of
write_accepted g o e =
    let t = told_accepted _ (pushed true g (singles (listed o))) (unpushed g) e in
    let s = all_held _ (group_checks g) t.0 in
    let p = check_held (is_order_of g.n o) NoOrder _ s.1 in
    (s.0, p.0, p.1, t.1)

pub write_group : (g : Group) (o : Order) → IsGroup g → IsGroup (write_of g o).value.group
unfolding write_of
write_group g o h =
    let t = singles (listed o) in
    push_group (λ (p : Program). p.group) true g t (group_checks g ++ (is_order_of g.n o, NoOrder) ∷ []) (pushed true g t) (unpushed g) h refl refl

-- no new level is above its cap where some levels, none lower than the old ones, show the target within the caps
pub fits_where : (g : Group) (t : List (List ℕ)) (ms : List ℕ) → AtMost g.levels ms → Shows 1 t ms → AtMost ms g.caps → fits g t ≡ true
unfolding fits raised
fits_where g t ms p s q = true_at_most (at_most_trans (raise_least 1 t p s) q)

-- and no cell comes past the endurance where it lasts for such levels
pub lasts_where : (g : Group) (t : List (List ℕ)) (ms : List ℕ) → AtMost g.levels ms → Shows 1 t ms → all_at_most g.endurance (tallied g.used g.levels ms) ≡ true
    → lasts g t ≡ true
unfolding lasts raised
lasts_where g t ms p s q = all_below g.endurance (tallied_mono g.used g.levels (raise_least 1 t p s)) q

-- a target of the group's cells stands apart among its levels, so that it shows when they are raised to it
pub target_apart : (g : Group) (t : List (List ℕ)) → IsGroup g → TargetOf g.n t → Apart (length g.levels) t
target_apart g t h a = apart_wider t (omega (arith, checked_size g h.passes, h.levels)) a.apart

pub raised_shows : (g : Group) (t : List (List ℕ)) → IsGroup g → TargetOf g.n t → Shows 1 t (raised g t)
unfolding raised
raised_shows g t h a = raise_shows 1 t g.levels (target_apart g t h a)

-- and they can be raised to it again
pub push_again : (w : Bool) (g : Group) (t : List (List ℕ)) → IsGroup g → TargetOf g.n t → number_of (push_checks g t) ≡ 0 → number_of (push_checks (pushed w g t).group t) ≡ 0
unfolding pushed fits lasts
push_again w g t h a e =
    let after = (pushed w g t).group in
    let held = push_held g t e in
    let shown = raised_shows g t h a in
    push_holds after t
    (fits_where after t (raised g t) (at_most_refl (raised g t)) shown (at_most_true (raised g t) g.caps held.0))
    (lasts_where after t (raised g t) (at_most_refl (raised g t)) shown (rw (tallied_same after.used (raised g t)) held.1))
