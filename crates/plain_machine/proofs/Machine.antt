-- The eight calls as one answer each: its checks, what it carries where all of them hold, when worn or spent is given, and that the pushes that an
-- answer carries are a push program to the levels that it leaves, and its pulses the sum of the rises.
-- Assumes nothing.
use Prim.Native.Nat.{ℕ, zero, suc, ◌-◌, ◌≤◌, zero-le}
use mathlib.Core.Path.{◌≡◌, refl, sym, ap, subst, ◌∙◌}
use mathlib.Core.Bool.{Bool, true, false, false≢true, cond}
use mathlib.Core.List.{List, [], ◌∷◌, ◌++◌}
use mathlib.Core.Option.{none}
use native.Mathlib.Omega.{arith}
use lib.ListN.{length, replicate}
use Rattle.order.specs.declared.Refusal.{Refusal}
use Rattle.order.specs.declared.Refusal.TheVariants.{ListShort, NoOrder, RankSizes}
use Rattle.order.specs.Refusals.{number_of, if_done, Told, answer}
use Rattle.order.specs.Cells.{is_order}
use Rattle.order.specs.Order.{listed}
use Rattle.order.proofs.Refusals.{check_held, later_decide, all_held}
use Rattle.order.proofs.Check.{order_parts}
use Rattle.coordinates.specs.Conversion.{coordinate_at}
use Rattle.coordinates.proofs.RoundTrip.{order_of_any}
use Rattle.decoder.proofs.Decoding.{exchange_order}
use Rattle.code.specs.Words.{word_at}
use Rattle.code.specs.Symbols.{word_of, Reading, no_reading}
use Rattle.group.specs.declared.Group.{Group}
use Rattle.group.specs.Levels.{put, AtMost, rises, leaked}
use Rattle.push_up.specs.declared.Push.{Push}
use Rattle.push_up.specs.PushUp.{singles, Shows, pulses_in}
use Rattle.group.specs.Record.{group_checks, IsGroup, with_levels, with_caps, erased}
use Rattle.push_up.specs.WriteAnswer.{Program, write_checks, push_array, raised, fits, lasts, push_checks, pushed, unpushed, write_of}
use Rattle.changes.specs.Changes.{cell_checks, wear_checks, leak_of, wear_of, erase_of}
use Rattle.group.proofs.Levels.{at_most_refl, at_most_true, rises_down, leaked_below}
use Rattle.group.proofs.Checks.{checked_size}
use Rattle.group.proofs.Groups.{by_number_lem}
use Rattle.changes.proofs.Groups.{leak_group, wear_group, erase_group}
use Rattle.push_up.proofs.Orders.{TargetOf, order_target}
use Rattle.push_up.proofs.Writes.{push_held, pushes_few, write_group, raised_shows}
use Rattle.push_up.specs.PushProgram.{counted, IsPushProgram}
use Rattle.push_up.proofs.Programs.{counted_pulses, counted_program, no_pushes}
use Rattle.sharing.specs.declared.Ranked.{Ranked}
use Rattle.sharing.specs.Shared.{shared_target, shared_checks, write_shared_of}
use Rattle.sharing.proofs.Targets.{shared_target_lem}
use Rattle.sharing.proofs.Ones.{shared_group}
use Rattle.push_room.specs.Room.{into_checks, write_into_of, shared_into_checks, write_shared_into_of}
use Rattle.push_room.proofs.Answers.{into_answer, shared_into_answer, into_group}
use Rattle.push_list.specs.LentWrite.{Carried, carried_of}
use Rattle.sensing.proofs.Sensed.{sensed_order_lem}
use Rattle.plain_machine.specs.declared.Kind.{Kind}
use Rattle.plain_machine.specs.declared.Kind.TheVariants.{Write, WriteInto, WriteShared, WriteSharedInto, Store, Scrub, Leak, Wear, Erase, Read}
use Rattle.plain_machine.specs.declared.Call.{Call}
use Rattle.engine.specs.ReadStore.{sensed_order, place_read, read_checks, reading_of, read_of, store_checks, store_of}
use Rattle.engine.specs.Scrub.{Step, quiet, programmed_step, word_found, scrub_of, after_read}
use Rattle.engine.proofs.Holds.{store_group}
use Rattle.engine.proofs.Scrubs.{scrub_group}
use Rattle.plain_machine.specs.Machine.{writes, marks, target_by, target, checks_by, checks, earlier_by, earlier_checks, after_program, after_change, apply_by, apply_of}

-- ---- answers

-- what a call carries where all its checks hold
abbrev read_step : Group → Reading → Step
read_step g r = record { group = g; symbol = r.symbol; verdict = r.verdict; pulses = 0; count = 0; pushes = push_array [] }

abbrev pub accept_by : Group → Ranked → Kind → Step
accept_by g a Write = programmed_step (pushed true g (singles (listed a.cells))) 0 none
accept_by g a (WriteInto room) = programmed_step (pushed true g (singles (listed a.cells))) 0 none
accept_by g a WriteShared = programmed_step (pushed false g (shared_target g.n a)) 0 none
accept_by g a (WriteSharedInto room) = programmed_step (pushed false g (shared_target g.n a)) 0 none
accept_by g a (Store s) = programmed_step (pushed true g (singles (word_of g.n s))) s none
accept_by g a Scrub = programmed_step (pushed true g (singles (word_found g))) (reading_of g).symbol (reading_of g).verdict
accept_by g a (Leak c d) = quiet (with_levels g (leaked c.0 d g.levels))
accept_by g a (Wear c cap) = quiet (with_caps g (put g.caps c.0 cap))
accept_by g a Erase = quiet (erased g)
accept_by g a Read = read_step g (reading_of g)

abbrev pub accept : Group → Call → Step
accept g c = accept_by g c.target c.kind

-- the part of an answer that the answer to a write has too
abbrev pub program_part : Step → Program
program_part s = record { group = s.group; pulses = s.pulses; count = s.count; pushes = s.pushes }

accept_pushed : (g : Group) (a : Ranked) (k : Kind) → writes k ≡ true → program_part (accept_by g a k) ≡ pushed (marks k) g (target_by g a k)
accept_pushed g a Write w = refl
accept_pushed g a (WriteInto room) w = refl
accept_pushed g a WriteShared w = refl
accept_pushed g a (WriteSharedInto room) w = refl
accept_pushed g a (Store s) w = refl
accept_pushed g a Scrub w = refl
accept_pushed g a (Leak c d) w = absurd (false≢true w)
accept_pushed g a (Wear c cap) w = absurd (false≢true w)
accept_pushed g a Erase w = absurd (false≢true w)
accept_pushed g a Read w = absurd (false≢true w)

-- an answer's value, and what is made of it
module _ (list : List (Bool × Refusal)) (g : Group) where
  after_program_lem : (p : Program) (s : ℕ) → after_program (answer list p (unpushed g)) s ≡ answer list (programmed_step p s none) (quiet g)
  unfolding answer
  after_program_lem p s = go (number_of list)
    where
      go : (k : ℕ)
          → ◌≡◌ {A = Told Step} (record { number = k; value = programmed_step (if_done k p (unpushed g)) (if_done k s 0) none })
          (record { number = k; value = if_done k (programmed_step p s none) (quiet g) })
      go zero = refl
      go (suc k) = refl

  after_change_lem : (h : Group) → after_change (answer list h g) ≡ answer list (quiet h) (quiet g)
  unfolding answer
  after_change_lem h = go (number_of list)
    where
      go : (k : ℕ) → ◌≡◌ {A = Told Step} (record { number = k; value = quiet (if_done k h g) }) (record { number = k; value = if_done k (quiet h) (quiet g) })
      go zero = refl
      go (suc k) = refl

  after_read_lem : (r : Reading) → after_read g (answer list r no_reading) ≡ answer list (read_step g r) (quiet g)
  unfolding answer
  after_read_lem r = go (number_of list)
    where
      go : (k : ℕ) → ◌≡◌ {A = Told Step} (record { number = k; value = read_step g (if_done k r no_reading) }) (record { number = k; value = if_done k (read_step g r) (quiet g) })
      go zero = refl
      go (suc k) = refl

apply_by_lem : (g : Group) (a : Ranked) (k : Kind) → apply_by g a k ≡ answer (checks_by g a k) (accept_by g a k) (quiet g)
unfolding write_of write_into_of write_shared_of write_shared_into_of store_of scrub_of leak_of wear_of erase_of read_of
apply_by_lem g a Write = after_program_lem (write_checks g a.cells) g _ _
apply_by_lem g a (WriteInto room) = after_program_lem (into_checks g a.cells room) g _ _
apply_by_lem g a WriteShared = after_program_lem (shared_checks g a) g _ _
apply_by_lem g a (WriteSharedInto room) = after_program_lem (shared_into_checks g a room) g _ _
apply_by_lem g a (Store s) = after_program_lem (store_checks g s) g _ _
apply_by_lem g a Scrub = refl
apply_by_lem g a (Leak c d) = after_change_lem (cell_checks g c) g _
apply_by_lem g a (Wear c cap) = after_change_lem (wear_checks g c cap) g _
apply_by_lem g a Erase = after_change_lem (group_checks g) g _
apply_by_lem g a Read = after_read_lem (read_checks g) g _

pub apply_number : (g : Group) (c : Call) → (apply_of g c).number ≡ number_of (checks g c)
unfolding apply_of answer
apply_number g c = ap (λ (t : Told Step). t.number) (apply_by_lem g c.target c.kind)

-- a write or a shared write into a lent list of so many places, and the machine's answer to it: number, group, pulses and how many pushes are the same
abbrev carried_by : Told Step → Told Carried
carried_by t = record { number = t.number; value = record { group = t.value.group; pulses = t.value.pulses; count = t.value.count } }

pub into_applied : (g : Group) (a : Ranked) (room : ℕ) → carried_of (write_into_of g a.cells room) ≡ carried_by (apply_of g (record { kind = WriteInto room; target = a }))
unfolding apply_of
into_applied g a room = refl

pub shared_into_applied : (g : Group) (a : Ranked) (room : ℕ) → carried_of (write_shared_into_of g a room) ≡ carried_by (apply_of g (record { kind = WriteSharedInto room; target = a }))
unfolding apply_of
shared_into_applied g a room = refl

pub apply_value : (g : Group) (c : Call) → (apply_of g c).value ≡ if_done (number_of (checks g c)) (accept g c) (quiet g)
unfolding apply_of answer
apply_value g c = ap (λ (t : Told Step). t.value) (apply_by_lem g c.target c.kind)

-- an accepted one carries the push-up to its target
pub apply_pushed : (g : Group) (c : Call) → writes c.kind ≡ true → (apply_of g c).number ≡ 0 → program_part (apply_of g c).value ≡ pushed (marks c.kind) g (target g c)
apply_pushed g c w e = rw (apply_value g c, sym (apply_number g c) ∙ e) (accept_pushed g c.target c.kind w)

-- a refused call leaves the record, so that the machine goes where it goes by its accepted calls alone
pub same_group : (g : Group) (c : Call) → if_done (apply_of g c).number (apply_of g c).value.group g ≡ (apply_of g c).value.group
same_group g c = rw (apply_number g c, apply_value g c) (go (number_of (checks g c)))
  where
    go : (k : ℕ) → if_done k (if_done k (accept g c) (quiet g)).group g ≡ (if_done k (accept g c) (quiet g)).group
    go zero = refl
    go (suc k) = refl

-- ---- a group stays a group

group_by : (g : Group) (a : Ranked) (k : Kind) → IsGroup g → IsGroup (apply_by g a k).value.group
group_by g a Write h = write_group g a.cells h
group_by g a (WriteInto room) h = into_group (into_answer g room a.cells) h
group_by g a WriteShared h = shared_group g a h
group_by g a (WriteSharedInto room) h = into_group (shared_into_answer g room a) h
group_by g a (Store s) h = store_group g s h
group_by g a Scrub h = scrub_group g h
group_by g a (Leak c d) h = leak_group g c d h
group_by g a (Wear c cap) h = wear_group g c cap h
group_by g a Erase h = erase_group g h
group_by g a Read h = h

pub apply_group : (g : Group) (c : Call) → IsGroup g → IsGroup (apply_of g c).value.group
unfolding apply_of
apply_group g c h = group_by g c.target c.kind h

-- ---- worn and spent: past the earlier checks, the caps and the endurance decide

module _ (g : Group) (c : Call) (w : writes c.kind ≡ true) where
  last : List (Bool × Refusal)
  last = push_checks g (target g c)

  split : number_of (checks g c) ≡ number_of (earlier_checks g c ++ last)
  unfolding last
  split = ap (λ (b : Bool). number_of (earlier_checks g c ++ cond b last [])) w

  pub last_decide : number_of (earlier_checks g c) ≡ 0 → number_of (checks g c) ≡ number_of (push_checks g (target g c))
  unfolding last
  last_decide e = split ∙ later_decide last (earlier_checks g c) e

  pub done_pushes : number_of (earlier_checks g c) ≡ 0 → number_of (push_checks g (target g c)) ≡ 0 → number_of (checks g c) ≡ 0
  done_pushes e f = last_decide e ∙ f

  -- a write that is done passed them all: no new level is above its cap, and the endurance lasts
  pub done_checks : number_of (checks g c) ≡ 0 → (number_of (earlier_checks g c) ≡ 0) × (number_of (push_checks g (target g c)) ≡ 0)
  unfolding last
  done_checks e = all_held last (earlier_checks g c) (sym split ∙ e)

  pub done_held : number_of (checks g c) ≡ 0 → AtMost (raised g (target g c)) g.caps × (lasts g (target g c) ≡ true)
  unfolding fits
  done_held e = let t = push_held g (target g c) (done_checks e).1 in (at_most_true _ _ t.0, t.1)

-- ---- targets

-- past the earlier checks of a call that raises cells, the record is a group
pub checked_group : (g : Group) (a : Ranked) (k : Kind) → writes k ≡ true → number_of (earlier_by g a k) ≡ 0 → number_of (group_checks g) ≡ 0
checked_group g a Write w e = (all_held _ (group_checks g) e).0
checked_group g a (WriteInto room) w e = (all_held _ (group_checks g) e).0
checked_group g a WriteShared w e = (all_held _ (group_checks g) e).0
checked_group g a (WriteSharedInto room) w e = (all_held _ (group_checks g) e).0
checked_group g a (Store s) w e = (all_held _ (group_checks g) e).0
checked_group g a Scrub w e = (all_held _ (group_checks g) e).0
checked_group g a (Leak c d) w e = absurd (false≢true w)
checked_group g a (Wear c cap) w e = absurd (false≢true w)
checked_group g a Erase w e = absurd (false≢true w)
checked_group g a Read w e = absurd (false≢true w)

-- the target of a call that sets the mark is an order of its cells
pub target_order : (g : Group) (a : Ranked) (k : Kind) → marks k ≡ true → number_of (earlier_by g a k) ≡ 0 → (xs : List ℕ) × (is_order g.n xs ≡ true) × (target_by g a k ≡ singles xs)
unfolding word_of
target_order g a Write w e =
    let t = all_held _ (group_checks g) e in
    (listed a.cells, (order_parts g.n a.cells (check_held _ NoOrder [] t.1).0).1.order, refl)
target_order g a (WriteInto room) w e =
    let t = check_held _ ListShort _ (all_held _ (group_checks g) e).1 in
    (listed a.cells, (order_parts g.n a.cells (check_held _ NoOrder [] t.1).0).1.order, refl)
target_order g a WriteShared w e = absurd (false≢true w)
target_order g a (WriteSharedInto room) w e = absurd (false≢true w)
target_order g a (Store s) w e = (word_of g.n s, order_of_any (coordinate_at (word_at g.n s)) g.n, refl)
target_order g a Scrub w e = (word_found g, exchange_order g.n (sensed_order g) (sensed_order_lem g.n g.levels) (place_read g), refl)
target_order g a (Leak c d) w e = absurd (false≢true w)
target_order g a (Wear c cap) w e = absurd (false≢true w)
target_order g a Erase w e = absurd (false≢true w)
target_order g a Read w e = absurd (false≢true w)

-- every target is one of its cells
ordered_target : (g : Group) (a : Ranked) (k : Kind) → marks k ≡ true → number_of (earlier_by g a k) ≡ 0 → TargetOf g.n (target_by g a k)
ordered_target g a k w e = let (xs, t, same) = target_order g a k w e in rw same (order_target g.n xs t)

pub target_of : (g : Group) (a : Ranked) (k : Kind) → writes k ≡ true → number_of (earlier_by g a k) ≡ 0 → TargetOf g.n (target_by g a k)
target_of g a Write w e = ordered_target g a Write refl e
target_of g a (WriteInto room) w e = ordered_target g a (WriteInto room) refl e
target_of g a WriteShared w e =
    let sizes = check_held _ RankSizes _ (all_held _ (group_checks g) e).1 in
    shared_target_lem g.n a sizes.0 (check_held _ NoOrder [] sizes.1).0
target_of g a (WriteSharedInto room) w e =
    let roomy = check_held _ ListShort _ (all_held _ (group_checks g) e).1 in
    let sizes = check_held _ RankSizes _ roomy.1 in
    shared_target_lem g.n a sizes.0 (check_held _ NoOrder [] sizes.1).0
target_of g a (Store s) w e = ordered_target g a (Store s) refl e
target_of g a Scrub w e = ordered_target g a Scrub refl e
target_of g a (Leak c d) w e = absurd (false≢true w)
target_of g a (Wear c cap) w e = absurd (false≢true w)
target_of g a Erase w e = absurd (false≢true w)
target_of g a Read w e = absurd (false≢true w)

-- at most n - 1 pushes
accept_few : (g : Group) (a : Ranked) (k : Kind) → number_of (earlier_by g a k) ≡ 0 → (accept_by g a k).count ≤ g.n - 1
unfolding pushed
accept_few g a Write e = pushes_few true g _ (target_of g a Write refl e)
accept_few g a (WriteInto room) e = pushes_few true g _ (target_of g a (WriteInto room) refl e)
accept_few g a WriteShared e = pushes_few false g _ (target_of g a WriteShared refl e)
accept_few g a (WriteSharedInto room) e = pushes_few false g _ (target_of g a (WriteSharedInto room) refl e)
accept_few g a (Store s) e = pushes_few true g _ (target_of g a (Store s) refl e)
accept_few g a Scrub e = pushes_few true g _ (target_of g a Scrub refl e)
accept_few g a (Leak c d) e = zero-le
accept_few g a (Wear c cap) e = zero-le
accept_few g a Erase e = zero-le
accept_few g a Read e = zero-le

pub apply_few : (g : Group) (c : Call) → (apply_of g c).value.count ≤ g.n - 1
apply_few g c =
    rw (apply_value g c)
    (by_number_lem (λ (s : Step). s.count ≤ g.n - 1) (number_of (checks g c)) (accept g c) (quiet g)
    (λ e. accept_few g c.target c.kind (all_held _ (earlier_checks g c) e).0) zero-le)

-- past the earlier checks, a write shows its target
pub target_shows : (g : Group) (c : Call) → IsGroup g → writes c.kind ≡ true → number_of (earlier_checks g c) ≡ 0
    → Shows 1 (target g c) (raised g (target g c))
target_shows g c h w e = raised_shows g (target g c) h (target_of g c.target c.kind w e)

-- ---- the push program that an answer carries

abbrev carried : Step → List Push
carried s = counted s.count s.pushes

module _ (g : Group) (a : Ranked) (twelve : length g.levels ≡ 12) where
  target_program : (k : Kind) → writes k ≡ true → number_of (earlier_by g a k) ≡ 0
      → let p = pushed (marks k) g (target_by g a k) in IsPushProgram (counted p.count p.pushes) g.levels p.group.levels
  target_program k w e =
      counted_program (marks k) g _ (target_of g a k w e) (omega (arith, twelve, checked_size g (checked_group g a k w e)))

  accept_program : (k : Kind) → writes k ≡ true → number_of (earlier_by g a k) ≡ 0 → IsPushProgram (carried (accept_by g a k)) g.levels (accept_by g a k).group.levels
  accept_program k w e =
      subst (λ (p : Program). IsPushProgram (counted p.count p.pushes) g.levels p.group.levels) (sym (accept_pushed g a k w)) (target_program k w e)

-- the answer to a call that raises cells, also one that is refused, carries a push program from the levels that it found to those that it left
pub apply_program : (g : Group) (c : Call) → length g.levels ≡ 12 → writes c.kind ≡ true
    → let s = (apply_of g c).value in IsPushProgram (counted s.count s.pushes) g.levels s.group.levels
apply_program g c twelve w =
    rw (apply_value g c)
    (by_number_lem (λ (s : Step). IsPushProgram (carried s) g.levels s.group.levels) (number_of (checks g c)) (accept g c) (quiet g)
    (λ e. accept_program g c.target twelve c.kind w (done_checks g c w e).0) (no_pushes g.levels))

-- the pulses of any answer are those of the pushes that it carries
accept_pulses : (g : Group) (a : Ranked) (k : Kind) → (accept_by g a k).pulses ≡ pulses_in (carried (accept_by g a k))
unfolding pulses_in
accept_pulses g a Write = counted_pulses true g _
accept_pulses g a (WriteInto room) = counted_pulses true g _
accept_pulses g a WriteShared = counted_pulses false g _
accept_pulses g a (WriteSharedInto room) = counted_pulses false g _
accept_pulses g a (Store s) = counted_pulses true g _
accept_pulses g a Scrub = counted_pulses true g _
accept_pulses g a (Leak c d) = refl
accept_pulses g a (Wear c cap) = refl
accept_pulses g a Erase = refl
accept_pulses g a Read = refl

pub apply_pulses : (g : Group) (c : Call) → let s = (apply_of g c).value in s.pulses ≡ pulses_in (counted s.count s.pushes)
unfolding pulses_in
apply_pulses g c =
    rw (apply_value g c)
    (by_number_lem (λ (s : Step). s.pulses ≡ pulses_in (carried s)) (number_of (checks g c)) (accept g c) (quiet g) (λ e. accept_pulses g c.target c.kind) refl)

-- ---- and they are the sum of the rises

rises_zeros : (xs : List ℕ) (k : ℕ) → rises xs (replicate k 0) ≡ 0
unfolding rises
rises_zeros [] k = refl
rises_zeros (x ∷ xs) zero = refl
rises_zeros (x ∷ xs) (suc k) = omega (arith, rises_zeros xs k)

-- a call that writes nothing raises nothing
pub kept_rises : (g : Group) (a : Ranked) (k : Kind) → writes k ≡ false → rises g.levels (accept_by g a k).group.levels ≡ (accept_by g a k).pulses
kept_rises g a Write w = absurd (false≢true (sym w))
kept_rises g a (WriteInto room) w = absurd (false≢true (sym w))
kept_rises g a WriteShared w = absurd (false≢true (sym w))
kept_rises g a (WriteSharedInto room) w = absurd (false≢true (sym w))
kept_rises g a (Store s) w = absurd (false≢true (sym w))
kept_rises g a Scrub w = absurd (false≢true (sym w))
kept_rises g a (Leak c d) w = rises_down (leaked_below c.0 d g.levels)
kept_rises g a (Wear c cap) w = rises_down (at_most_refl g.levels)
kept_rises g a Erase w = rises_zeros g.levels 12
kept_rises g a Read w = rises_down (at_most_refl g.levels)

pub apply_rises : (g : Group) (c : Call) → length g.levels ≡ 12 → rises g.levels (apply_of g c).value.group.levels ≡ (apply_of g c).value.pulses
apply_rises g c twelve = go (writes c.kind) refl
  where
    go : (b : Bool) → writes c.kind ≡ b → rises g.levels (apply_of g c).value.group.levels ≡ (apply_of g c).value.pulses
    go true w = sym (apply_pulses g c ∙ (apply_program g c twelve w).pulses)
    go false w =
        rw (apply_value g c)
        (by_number_lem (λ (s : Step). rises g.levels s.group.levels ≡ s.pulses) (number_of (checks g c)) (accept g c) (quiet g)
        (λ e. kept_rises g c.target c.kind w) (rises_down (at_most_refl g.levels)))
