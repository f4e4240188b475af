-- Demand 3 holds of the machine, from any group and after any list of calls.
-- A rival and our group go side by side: the rival has the same caps and the same endurance, no cell lower, and has spent our pulses and at least as much
-- more as its levels are higher, cell by cell and in sum. A raise of ours is the least, so no cell of the rival comes to be lower; a raise adds as much to
-- the pulses as to the levels, ours and the rival's; and a leak or an erase takes at least as much from the rival.
-- Assumes nothing.
use Prim.Native.Nat.{ℕ, zero, suc, ◌+◌, ◌≤◌}
use mathlib.Core.Path.{◌≡◌, refl, sym, ap, ◌∙◌}
use mathlib.Core.Bool.{Bool, true, false}
use mathlib.Core.Logic.{◌⊎◌, inl, inr}
use mathlib.Core.List.{List, [], ◌∷◌}
use native.Mathlib.Nat.{add-zero, add_assoc, zero-add, le_refl}
use native.Mathlib.Omega.{arith}
use Rattle.order.specs.declared.Refusal.TheVariants.{Size, Worn, Spent, Endurance}
use Rattle.order.specs.Refusals.{number_of, if_done, Told, is_size}
use Rattle.order.proofs.Refusals.{all_hold, check_holds, told_done}
use Rattle.group.specs.declared.Group.{Group}
use Rattle.group.specs.Levels.{AtMost, rises, sum}
use Rattle.group.specs.Record.{is_endurance, opened, no_group, IsGroup}
use Rattle.push_up.specs.WriteAnswer.{raised, lasts, push_checks, pushed}
use Rattle.changes.specs.Changes.{open_checks, open_of}
use Rattle.group.proofs.Levels.{at_most_refl, at_most_trans, sum_mono, rises_up, rises_down, leaked_loss}
use Rattle.group.proofs.LevelRows.{all_below}
use Rattle.push_up.proofs.Minimal.{raise_above, raise_least}
use Rattle.changes.proofs.Groups.{open_group}
use Rattle.take_over.proofs.Taken.{take_over_group}
use Rattle.push_up.proofs.Writes.{push_holds, fits_where}
use Rattle.sharing.specs.declared.Ranked.{Ranked}
use Rattle.plain_machine.specs.declared.Kind.{Kind}
use Rattle.plain_machine.specs.declared.Kind.TheVariants.{Write, WriteInto, WriteShared, WriteSharedInto, Store, Scrub, Leak, Wear, Erase, Read}
use Rattle.plain_machine.specs.declared.Call.{Call}
use Rattle.engine.specs.Scrub.{quiet}
use Rattle.plain_machine.specs.Machine.{writes, target_by, target, earlier_checks, apply_of, checks}
use Rattle.rivals.specs.Rivals.{Rival, standing, Raised, Follows, Moves, entrant, latest, after, pulses_of, plain_after, Course, rest, next, plain, own, is_worn_or_spent, Raisable, Demand3, Begun, by_open, by_take_over, MeetsDemand3}
use Rattle.plain_machine.proofs.Machine.{accept_by, accept, apply_number, apply_value, same_group, apply_group, target_shows, last_decide, done_pushes, done_checks, done_held, kept_rises, apply_rises}
use Rattle.rivals.proofs.NoDearer.{NoDearer, no_dearer_refl, no_dearer_levels, no_dearer_used, no_dearer_raised, no_dearer_leaked, no_dearer_erased}

-- the rival r beside the group g, whose answers have added up to q
pub record Beside (g : Group) (q : ℕ) (r : Rival) : Type 0 where
  pub caps : r.caps ≡ g.caps
  pub endurance : r.endurance ≡ g.endurance
  pub cells : NoDearer g.used g.levels r.used r.levels
  pub cost : q + sum r.levels ≤ r.pulses + sum g.levels

pub beside_low : {g : Group} {q : ℕ} {r : Rival} → Beside g q r → AtMost g.levels r.levels
beside_low b = no_dearer_levels b.cells

-- it stays so when both are raised
beside_push : (w : Bool) (g : Group) (q : ℕ) (r s : Rival) (t : List (List ℕ)) → Raised t r s → Beside g q r
    → Beside (pushed w g t).group (q + rises g.levels (pushed w g t).group.levels) s
unfolding pushed raised
beside_push w g q r s t m b =
    let above = raise_above 1 t g.levels in
    let least = raise_least 1 t (at_most_trans (beside_low b) m.no_lower) m.shows in
    let our-rises = rises_up above in
    let their-rises = rises_up m.no_lower in
    record {
      caps = m.same_caps ∙ b.caps;
      endurance = m.same_endurance ∙ b.endurance;
      cells = rw m.tallies (no_dearer_raised b.cells above m.no_lower least);
      cost = omega (arith, m.pulses, b.cost);
    }

-- a rival that can be raised has room for our raise, and endurance
room : (g : Group) (q : ℕ) (r s : Rival) (t : List (List ℕ)) → Beside g q r → Raised t r s → number_of (push_checks g t) ≡ 0
unfolding lasts pushed
room g q r s t b m =
    let used = no_dearer_used (beside_push true g q r s t m b).cells in
    push_holds g t (fits_where g t s.levels (at_most_trans (beside_low b) m.no_lower) m.shows (rw (m.same_caps ∙ b.caps) at m.within))
    (all_below g.endurance used (rw (m.same_endurance ∙ b.endurance) at m.lasting))

-- the plain machine goes with us
pub plain_step : (g : Group) (c : Call) → plain_after (apply_of g c).number g c ≡ (apply_of g c).value.group
unfolding plain_after
plain_step g c = same_group g c

pub plain_ours : (g : Group) (cs : List Call) → plain apply_of g g cs ≡ after apply_of g cs
unfolding plain after
plain_ours g [] = refl
plain_ours g (c ∷ cs) = rw (plain_step g c) (plain_ours (apply_of g c).value.group cs)

pub group_after_lem : (g : Group) (cs : List Call) → IsGroup g → IsGroup (after apply_of g cs)
unfolding after
group_after_lem g [] h = h
group_after_lem g (c ∷ cs) h = group_after_lem (apply_of g c).value.group cs (apply_group g c h)

-- ---- every rival stays beside us

beside_accept : (g : Group) (q : ℕ) (a : Ranked) (k : Kind) (r s : Rival) → IsGroup g → Follows k (target_by g a k) r s → Beside g q r
    → Beside (accept_by g a k).group (q + rises g.levels (accept_by g a k).group.levels) s
unfolding Follows
beside_accept g q a Write r s h m b = beside_push true g q r s _ m b
beside_accept g q a (WriteInto room) r s h m b = beside_push true g q r s _ m b
beside_accept g q a WriteShared r s h m b = beside_push false g q r s _ m b
beside_accept g q a (WriteSharedInto room) r s h m b = beside_push false g q r s _ m b
beside_accept g q a (Store symbol) r s h m b = beside_push true g q r s _ m b
beside_accept g q a Scrub r s h m b = beside_push true g q r s _ m b
beside_accept g q a (Leak c d) r s h m b =
    rw m
    (record {
      caps = b.caps;
      endurance = b.endurance;
      cells = no_dearer_leaked c.0 d b.cells;
      cost = omega (arith, kept_rises g a (Leak c d) refl, b.cost, leaked_loss c.0 d (beside_low b));
    })
beside_accept g q a (Wear c cap) r s h m b =
    rw m (record { caps = rw b.caps; endurance = b.endurance; cells = b.cells; cost = omega (arith, kept_rises g a (Wear c cap) refl, b.cost) })
beside_accept g q a Erase r s h m b =
    rw m
    (record {
      caps = b.caps;
      endurance = b.endurance;
      cells = no_dearer_erased 12 h.used b.cells;
      cost = omega (arith, kept_rises g a Erase refl, b.cost, sum_mono (beside_low b));
    })
beside_accept g q a Read r s h m b =
    rw m (record { caps = b.caps; endurance = b.endurance; cells = b.cells; cost = omega (arith, kept_rises g a Read refl, b.cost) })

beside_answer : (k : ℕ) (g : Group) (q : ℕ) (c : Call) (r s : Rival) → IsGroup g → Moves k c.kind (target g c) r s → Beside g q r
    → let t = if_done k (accept g c) (quiet g) in Beside t.group (q + rises g.levels t.group.levels) s
unfolding Moves
beside_answer zero g q c r s h m b = beside_accept g q c.target c.kind r s h m b
beside_answer (suc k) g q c r s h m b =
    rw m (record { caps = b.caps; endurance = b.endurance; cells = b.cells; cost = omega (arith, rises_down (at_most_refl g.levels), b.cost) })

beside_step : (g : Group) (q : ℕ) (c : Call) (r s : Rival) → IsGroup g → Moves (apply_of g c).number c.kind (target g c) r s → Beside g q r
    → Beside (apply_of g c).value.group (q + (apply_of g c).value.pulses) s
beside_step g q c r s h m b =
    rw (← apply_rises g c h.levels, apply_value g c) (beside_answer (number_of (checks g c)) g q c r s h (rw (apply_number g c) at m) b)

beside_course : {g p : Group} {r : Rival} {cs : List Call} {ss : List Rival} (q : ℕ) → IsGroup g → p ≡ g → Course apply_of g p r cs ss → Beside g q r
    → Beside (after apply_of g cs) (q + pulses_of apply_of g cs) (latest r ss)
unfolding after pulses_of latest
beside_course q h e rest b = rw add-zero b
beside_course q h e (next {g} {p} {r} {s} {c} m k) b =
    let same : plain_after (apply_of g c).number p c ≡ (apply_of g c).value.group = rw e (plain_step g c) in
    rw (← add_assoc) (beside_course _ (apply_group g c h) same k (beside_step g q c r s h (rw e at m) b))

-- ---- our own course is that of a rival

-- a call that raises cells and is not refused is open to us
our_raise : (mark : Bool) (g : Group) (q : ℕ) (c : Call) → IsGroup g → writes c.kind ≡ true → number_of (checks g c) ≡ 0
    → Raised (target g c) (standing g q) (standing (pushed mark g (target g c)).group (q + rises g.levels (pushed mark g (target g c)).group.levels))
unfolding pushed raised lasts
our_raise mark g q c h w e =
    let held = done_held g c w e in
    record {
      no_lower = raise_above 1 (target g c) g.levels;
      shows = target_shows g c h w (done_checks g c w e).0;
      within = held.0;
      same_caps = refl;
      tallies = refl;
      lasting = held.1;
      same_endurance = refl;
      pulses = refl;
    }

our_accept : (g : Group) (q : ℕ) (a : Ranked) (k : Kind) → IsGroup g → number_of (checks g (record { kind = k; target = a })) ≡ 0
    → Follows k (target_by g a k) (standing g q) (standing (accept_by g a k).group (q + rises g.levels (accept_by g a k).group.levels))
unfolding Follows
our_accept g q a Write h e = our_raise true g q (record { kind = Write; target = a }) h refl e
our_accept g q a (WriteInto room) h e = our_raise true g q (record { kind = WriteInto room; target = a }) h refl e
our_accept g q a WriteShared h e = our_raise false g q (record { kind = WriteShared; target = a }) h refl e
our_accept g q a (WriteSharedInto room) h e = our_raise false g q (record { kind = WriteSharedInto room; target = a }) h refl e
our_accept g q a (Store s) h e = our_raise true g q (record { kind = Store s; target = a }) h refl e
our_accept g q a Scrub h e = our_raise true g q (record { kind = Scrub; target = a }) h refl e
our_accept g q a (Leak c d) h e = rw (kept_rises g a (Leak c d) refl, add-zero)
our_accept g q a (Wear c cap) h e = rw (kept_rises g a (Wear c cap) refl, add-zero)
our_accept g q a Erase h e = rw (kept_rises g a Erase refl, add-zero)
our_accept g q a Read h e = rw (kept_rises g a Read refl, add-zero)

our_answer : (k : ℕ) (g : Group) (q : ℕ) (c : Call) → IsGroup g → number_of (checks g c) ≡ k
    → let t = if_done k (accept g c) (quiet g) in
    Moves k c.kind (target g c) (standing g q) (standing t.group (q + rises g.levels t.group.levels))
unfolding Moves
our_answer zero g q c h e = our_accept g q c.target c.kind h e
our_answer (suc k) g q c h e = rw (rises_down (at_most_refl g.levels), add-zero)

our_step : (g : Group) (q : ℕ) (c : Call) → IsGroup g
    → Moves (apply_of g c).number c.kind (target g c) (standing g q)
    (standing (apply_of g c).value.group (q + rises g.levels (apply_of g c).value.group.levels))
our_step g q c h = grind (arith, apply_number, apply_value, our_answer)

our_course : (g : Group) (q : ℕ) (cs : List Call) → IsGroup g → Course apply_of g g (standing g q) cs (own apply_of g q cs)
unfolding own
our_course g q [] h = rest
our_course g q (c ∷ cs) h =
    let new = (apply_of g c).value.group in
    let more = q + rises g.levels new.levels in
    let later : Course apply_of new (plain_after (apply_of g c).number g c) (standing new more) cs (own apply_of new more cs) = rw (plain_step g c) (our_course new more cs (apply_group g c h)) in
    next (our_step g q c h) later

-- it ends at our group, with the pulses of our answers
pub our_end : (g : Group) (q : ℕ) (cs : List Call) → IsGroup g
    → latest (standing g q) (own apply_of g q cs) ≡ standing (after apply_of g cs) (q + pulses_of apply_of g cs)
unfolding own latest after pulses_of
our_end g q [] h = rw add-zero
our_end g q (c ∷ cs) h = our_end (apply_of g c).value.group _ cs (apply_group g c h) ∙ rw (apply_rises g c h.levels, add_assoc)

-- ---- the demand, for a group and a list of calls

-- the last checks hold, or the call is refused as worn or as spent
done_or_stuck : (f l : Bool) → let k = number_of ((f, Worn) ∷ (l, Spent) ∷ []) in (k ≡ 0) ⊎ (is_worn_or_spent k ≡ true)
unfolding number_of
done_or_stuck false l = inr refl
done_or_stuck true false = inr refl
done_or_stuck true true = inl refl

module _ (g : Group) (h : IsGroup g) (cs : List Call) where
  abbrev pub now : Group
  now = after apply_of g cs

  abbrev pub so_far : ℕ
  so_far = pulses_of apply_of g cs

  -- a rival can be raised to the target of this call
  abbrev Open : Call → Type 0
  Open c = Raisable apply_of g cs (target now c)

  pub side : (ss : List Rival) → Course apply_of g g (entrant g) cs ss → Beside now (0 + so_far) (latest (entrant g) ss)
  unfolding entrant
  side ss k = beside_course 0 h refl k (record { caps = refl; endurance = refl; cells = no_dearer_refl g.used g.levels (h.used ∙ sym h.levels); cost = le_refl _ })

  open_passes : (c : Call) → Open c → number_of (push_checks now (target now c)) ≡ 0
  unfolding Raisable
  open_passes c k = room now _ _ k.2 _ (side k.0 k.1) k.3

  done_open : (c : Call) → writes c.kind ≡ true → number_of (checks now c) ≡ 0 → Open c
  unfolding Raisable entrant
  done_open c w e =
      (own apply_of g 0 cs, our_course g 0 cs h, _, rw (← our_end g 0 cs h) at (our_raise true now (0 + so_far) c (group_after_lem g cs h) w e))

  not_open : (c : Call) → writes c.kind ≡ true → number_of (earlier_checks now c) ≡ 0 → is_worn_or_spent (apply_of now c).number ≡ true → ¬ (Open c)
  not_open c w e stuck k = grind (arith, apply_number, done_pushes, open_passes)

  shut_stuck : (c : Call) → writes c.kind ≡ true → number_of (earlier_checks now c) ≡ 0 → ¬ (Open c) → is_worn_or_spent (apply_of now c).number ≡ true
  shut_stuck c w e shut = grind (arith, done_open, done_pushes, apply_number, last_decide, done_or_stuck)

  pub demand3 : Demand3 apply_of g cs
  unfolding entrant
  demand3 =
      record {
        answered = apply_number now;
        handed = λ c. rw (plain_ours g cs);
        lowest = λ ss k. beside_low (side ss k);
        least_used = λ ss k. no_dearer_used (side ss k).cells;
        cheapest = λ ss k. let b = side ss k in omega (arith, b.cost, sum_mono (beside_low b));
        ours = our_course g 0 cs h;
        exact = ap (λ (r : Rival). r.pulses) (our_end g 0 cs h) ∙ zero-add so_far;
        stuck_exactly = λ c w e. rw (plain_ours g cs) (not_open c w e, shut_stuck c w e);
      }

-- ---- the two beginnings: a freshly opened group, as the mission has it, and one that was taken over

pub begun_group : {g : Group} → Begun g → IsGroup g
begun_group (by_open n e done) = open_group n e done
begun_group (by_take_over n ls cs us e done) = take_over_group n ls cs us e done

pub demand3_begun : MeetsDemand3 apply_of
demand3_begun g b cs = demand3 g (begun_group b) cs

pub opened_group : (n e : ℕ) → is_size n ≡ true → is_endurance e ≡ true → IsGroup (opened n e)
unfolding open_of
opened_group n e s l =
    let told = told_done (open_checks n e) (opened n e) no_group (check_holds Size _ s ∙ check_holds Endurance [] l ∙ all_hold) in
    rw (sym (ap (λ (t : Told Group). t.value) told)) at (open_group n e (sym (ap (λ (t : Told Group). t.number) told)))
