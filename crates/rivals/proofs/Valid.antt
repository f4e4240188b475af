-- Demand 3 speaks of something: from a group that was opened or taken over no list of calls meets the numbers 1 and 2. Of an opened group, for every n from 3
-- to 12 and every endurance from n - 1 on, a first write is done, whatever its order, and a first store, whatever its symbol (there is one: `some_symbol`,
-- code/Laws), and a scrub that comes next; and, where the endurance is 4,095 or more, a first shared write, whatever its target. Into a lent list they are done where
-- that has n - 1 places or more, and refused 10 where it has fewer. Worn is given too, and spent. Any group can be taken over as it stands, but for the mark:
-- `taken_as_it_stands` (take_over/Taken).
-- Assumes nothing.
use Prim.Native.Nat.{ℕ, zero, suc, ◌-◌, ◌<◌, ◌≤◌, zero-le}
use mathlib.Core.Path.{◌≡◌, refl, ◌∙◌}
use mathlib.Core.Logic.{◌≢◌, ◌⊎◌, inl, inr}
use mathlib.Core.Bool.{Bool, true, false}
use mathlib.Core.List.{List, [], ◌∷◌, ◌++◌}
use native.Mathlib.Omega.{arith}
use lib.ListN.{length, get_or, replicate, length-take}
use borrow.Author.Tests.{lt-ltb, le-leb, lt-leb}
use Rattle.code.specs.Symbols.{word_of}
use Rattle.order.specs.declared.Order.{Order}
use Rattle.order.specs.declared.Refusal.{Refusal}
use Rattle.order.specs.declared.Refusal.TheVariants.{NoOrder, ListShort, RankSizes}
use Rattle.order.specs.Refusals.{refusal_number, number_of, answer, is_size}
use Rattle.order.specs.Cells.{each_once, is_order, all_zero, is_listing}
use Rattle.order.specs.Order.{cell_numbers, listed, is_order_of, order_record, no_order}
use Rattle.order.proofs.Refusals.{all_hold, check_holds, check_fails, later_decide, size_true}
use Rattle.order.proofs.Check.{order_parts}
use Rattle.order.proofs.Records.{recorded_order}
use Rattle.coordinates.specs.Coordinates.{order_from}
use Rattle.coordinates.proofs.RoundTrip.{order_of_any}
use Rattle.code.specs.Words.{K}
use Rattle.group.specs.declared.Group.{Group}
use Rattle.group.specs.Levels.{level, put, at_most, tallied}
use Rattle.push_up.specs.PushUp.{singles, top, floor_over, lift, raise}
use Rattle.group.specs.Record.{all_at_most, is_row, is_endurance, group_checks, IsGroup, opened}
use Rattle.push_up.specs.WriteAnswer.{raised, fits, lasts, push_checks, write_of}
use Rattle.changes.specs.Changes.{wear_of}
use Rattle.push_up.proofs.Minimal.{Each, raise_above}
use Rattle.group.proofs.Levels.{at_most_true, at_most_length}
use Rattle.group.proofs.LevelRows.{all_below, all_under, row_true}
use Rattle.group.proofs.Tallies.{tallied_fresh}
use Rattle.group.proofs.Checks.{checked_caps}
use Rattle.push_up.proofs.FullCaps.{low_fits}
use Rattle.push_up.proofs.Writes.{push_holds}
use Rattle.push_up.proofs.Stairs.{stairs, zeros_under, length_stairs, stairs_fit, stairs_last}
use Rattle.engine.proofs.Scrubs.{store_scrubs}
use Rattle.sharing.specs.declared.Ranked.{Ranked}
use Rattle.sharing.specs.Shared.{sizes_of, is_sizes, shared_target, plain_target, ones_target}
use Rattle.sharing.proofs.Targets.{sizes_true, shared_target_lem}
use Rattle.sharing.proofs.Loops.{ranks_length}
use Rattle.sharing.proofs.Ones.{ones_sizes}
use Rattle.plain_machine.specs.declared.Kind.{Kind}
use Rattle.plain_machine.specs.declared.Kind.TheVariants.{Write, WriteInto, WriteShared, WriteSharedInto, Store, Scrub, Leak, Wear, Erase, Read}
use Rattle.plain_machine.specs.declared.Call.{Call}
use Rattle.plain_machine.specs.Machine.{apply_of, checks_by, checks}
use Rattle.rivals.specs.Rivals.{after, Begun}
use Rattle.plain_machine.proofs.Machine.{apply_number, done_pushes}
use Rattle.rivals.proofs.Demand3.{group_after_lem, begun_group, opened_group}

-- ---- the numbers 1 and 2 never come

-- done, or a number that is neither 1 nor 2
abbrev Other : ℕ → Type 0
Other k = (k ≡ 0) ⊎ (2 < k)

other_number : (list : List (Bool × Refusal)) → Each (λ (k : Bool × Refusal). 2 < refusal_number k.1) list → Other (number_of list)
unfolding number_of
other_number [] e = inl refl
other_number ((true, r) ∷ list) e = other_number list e.1
other_number ((false, r) ∷ list) e = inr e.0

module _ (g : Group) (e : number_of (group_checks g) ≡ 0) where
  past : (list : List (Bool × Refusal)) → Each (λ (k : Bool × Refusal). 2 < refusal_number k.1) list → Other (number_of (group_checks g ++ list))
  past list h = search (arith, later_decide, other_number)

  other_by : (a : Ranked) (k : Kind) → Other (number_of (checks_by g a k))
  other_by a Write = search (arith, past)
  other_by a (WriteInto room) = search (arith, past)
  other_by a WriteShared = search (arith, past)
  other_by a (WriteSharedInto room) = search (arith, past)
  other_by a (Store s) = search (arith, past)
  other_by a Scrub = search (arith, past)
  other_by a (Leak c d) = search (arith, past)
  other_by a (Wear c cap) = search (arith, past)
  other_by a Erase = inl e
  other_by a Read = search (arith, past)

-- the group after any list of calls passes the checks of a record, and no next call is refused by them
module _ (g : Group) (b : Begun g) (cs : List Call) where
  pub passes_after : number_of (group_checks (after apply_of g cs)) ≡ 0
  passes_after = (group_after_lem g cs (begun_group b)).passes

  other_after : (c : Call) → Other (apply_of (after apply_of g cs) c).number
  other_after c = grind (arith, apply_number, other_by, passes_after)

  pub never_size : (c : Call) → (apply_of (after apply_of g cs) c).number ≢ 1
  never_size c e = grind (arith, other_after)

  pub never_no_group : (c : Call) → (apply_of (after apply_of g cs) c).number ≢ 2
  never_no_group c e = grind (arith, other_after)

-- ---- every order fits an opened group

opened_passes : (n e : ℕ) → is_size n ≡ true → n - 1 ≤ e → (xs : List ℕ) → is_order n xs ≡ true → number_of (push_checks (opened n e) (singles xs)) ≡ 0
opened_passes n e size enough xs t =
    let (low, high) = size_true n size in
    let h = n - 1 in
    let under = rw (length_stairs n xs t h high) at (zeros_under (stairs h n xs)) in
    push_holds (opened n e) (singles xs) (stairs_fit n xs t h (opened n e) refl under (omega arith) (omega arith)) (stairs_last n xs t h (opened n e) refl under (omega arith) high enough)

-- ---- first calls

abbrev pub writing : Order → Call
writing o = record { kind = Write; target = plain_target o }

abbrev pub writing_into : Order → ℕ → Call
writing_into o room = record { kind = WriteInto room; target = plain_target o }

abbrev pub sharing : Ranked → Call
sharing t = record { kind = WriteShared; target = t }

abbrev pub sharing_into : Ranked → ℕ → Call
sharing_into t room = record { kind = WriteSharedInto room; target = t }

abbrev pub storing : ℕ → Call
storing s = record { kind = Store s; target = plain_target no_order }

abbrev pub scrubbing : Call
scrubbing = record { kind = Scrub; target = plain_target no_order }

-- from no used pulses the endurance lasts for levels within full caps, where it is 4,095 or more
fresh_lasts : (g : Group) (t : List (List ℕ)) → g.used ≡ replicate 12 0 → IsGroup g → fits g t ≡ true → 4095 ≤ g.endurance → lasts g t ≡ true
unfolding fits lasts raised
fresh_lasts g t none h f l =
    let within = at_most_true (raise 1 t g.levels) g.caps f in
    let low = all_below 4095 within (row_true 4095 g.n g.caps (checked_caps g h.passes)) in
    rw none (all_below g.endurance (tallied_fresh 12 (raise_above 1 t g.levels) (at_most_length within ∙ h.caps)) (all_under 4095 g.endurance _ l low))

zeros_low : (k i : ℕ) → get_or {A = ℕ} (replicate k 0) i 0 ≤ 0
zeros_low zero i = zero-le
zeros_low (suc k) zero = zero-le
zeros_low (suc k) (suc i) = zeros_low k i

module _ (n e : ℕ) (size : is_size n ≡ true) (range : is_endurance e ≡ true) where
  -- past the checks of the record
  one_check : (b : Bool) (r : Refusal) → b ≡ true → number_of (group_checks (opened n e) ++ (b, r) ∷ []) ≡ 0
  one_check b r h = later_decide _ (group_checks (opened n e)) (opened_group n e size range).passes ∙ check_holds r [] h ∙ all_hold

  pub first_write : n - 1 ≤ e → (o : Order) → is_order_of n o ≡ true → (apply_of (opened n e) (writing o)).number ≡ 0
  first_write enough o t =
      apply_number (opened n e) (writing o)
      ∙ done_pushes (opened n e) (writing o) refl (one_check _ _ t) (opened_passes n e size enough (listed o) (order_parts n o t).1.order)

  -- into a lent list of n - 1 places or more too; 10 is given where it has fewer, whatever the order
  pub first_into : n - 1 ≤ e → (o : Order) → is_order_of n o ≡ true → (room : ℕ) → n - 1 ≤ room → (apply_of (opened n e) (writing_into o room)).number ≡ 0
  first_into enough o t room l =
      apply_number (opened n e) (writing_into o room)
      ∙ done_pushes (opened n e) (writing_into o room) refl
      (later_decide _ (group_checks (opened n e)) (opened_group n e size range).passes ∙ check_holds ListShort _ (le-leb (n - 1) room l) ∙ check_holds NoOrder [] t ∙ all_hold)
      (opened_passes n e size enough (listed o) (order_parts n o t).1.order)

  pub short_comes : (o : Order) (room : ℕ) → room < n - 1 → (apply_of (opened n e) (writing_into o room)).number ≡ 10
  short_comes o room l =
      apply_number (opened n e) (writing_into o room)
      ∙ later_decide _ (group_checks (opened n e)) (opened_group n e size range).passes
      ∙ check_fails ListShort _ (lt-leb (n - 1) room l)

  pub shared_short_comes : (t : Ranked) (room : ℕ) → room < n - 1 → (apply_of (opened n e) (sharing_into t room)).number ≡ 10
  shared_short_comes t room l =
      apply_number (opened n e) (sharing_into t room)
      ∙ later_decide _ (group_checks (opened n e)) (opened_group n e size range).passes
      ∙ check_fails ListShort _ (lt-leb (n - 1) room l)

  -- a shared write too, whatever its target, in both its forms
  module _ (most : 4095 ≤ e) (t : Ranked) (s : is_sizes n t ≡ true) (o : is_order_of n t.cells ≡ true) where
    shared_passes : number_of (push_checks (opened n e) (shared_target n t)) ≡ 0
    shared_passes =
        let g = opened n e in
        let rs = shared_target n t in
        let few : length rs ≤ 12 = omega (arith, ranks_length n (sizes_of t) (listed t.cells), length-take t.count t.sizes, (sizes_true n t s).few) in
        let under = rw (opened_group n e size range).caps at (zeros_under g.caps) in
        let fit = low_fits g rs 0 (omega arith) (λ i. zeros_low 12 i) refl under few (shared_target_lem n t s o) in
        push_holds g rs fit (fresh_lasts g rs refl (opened_group n e size range) fit most)

    pub first_shared : (apply_of (opened n e) (sharing t)).number ≡ 0
    first_shared =
        apply_number (opened n e) (sharing t)
        ∙ done_pushes (opened n e) (sharing t) refl
        (later_decide _ (group_checks (opened n e)) (opened_group n e size range).passes ∙ check_holds RankSizes _ s ∙ check_holds NoOrder [] o ∙ all_hold) shared_passes

    pub first_shared_into : (room : ℕ) → n - 1 ≤ room → (apply_of (opened n e) (sharing_into t room)).number ≡ 0
    first_shared_into room l =
        apply_number (opened n e) (sharing_into t room)
        ∙ done_pushes (opened n e) (sharing_into t room) refl
        (later_decide _ (group_checks (opened n e)) (opened_group n e size range).passes ∙ check_holds ListShort _ (le-leb (n - 1) room l) ∙ check_holds RankSizes _ s ∙ check_holds NoOrder [] o ∙ all_hold)
        shared_passes

  -- such an order is there: 1 to n, and rank sizes for it, all of them 1
  pub some_order : is_order_of n (order_record (order_from (λ i. 0) n)) ≡ true
  some_order = grind (arith, size_true, recorded_order, order_of_any)

  pub some_ranks : (o : Order) → is_sizes n (ones_target n o) ≡ true
  some_ranks o = ones_sizes n o (size_true n size).1

  module _ (enough : n - 1 ≤ e) (s : ℕ) (l : s < K n) where
    word_passes : number_of (push_checks (opened n e) (singles (word_of n s))) ≡ 0
    unfolding word_of
    word_passes = grind (arith, opened_passes, order_of_any)

    store_checks_lem : number_of (checks (opened n e) (storing s)) ≡ 0
    store_checks_lem = search (arith, done_pushes, one_check, lt-ltb, word_passes)

    pub first_store : (apply_of (opened n e) (storing s)).number ≡ 0
    first_store = apply_number (opened n e) (storing s) ∙ store_checks_lem

    -- and a scrub that comes next
    pub next_scrub : (apply_of (after apply_of (opened n e) (storing s ∷ [])) scrubbing).number ≡ 0
    unfolding after apply_of
    next_scrub = store_scrubs (opened n e) s (opened_group n e size range) first_store

-- ---- and worn is given: cell 1 capped at 1 can't stand above cell 2, which stands above cell 3

abbrev falling : Call
falling = writing (order_record (1 ∷ 2 ∷ 3 ∷ []))

pub worn_comes : let wearing : Call = record { kind = Wear (record { 0 = 1 }) 1; target = plain_target no_order } in
    (apply_of (after apply_of (opened 3 1000000) (wearing ∷ [])) falling).number ≡ 8
unfolding after apply_of wear_of write_of answer number_of is_row all_at_most order_record cell_numbers is_order_of is_listing is_order each_once all_zero fits lasts raised raise lift singles floor_over top level put at_most tallied
worn_comes = refl

-- ---- and spent: with the endurance 1, cell 1 can't take the 2 pulses that it needs
pub spent_comes : (apply_of (opened 3 1) falling).number ≡ 19
unfolding apply_of write_of answer number_of is_row all_at_most order_record cell_numbers is_order_of is_listing is_order each_once all_zero fits lasts raised raise lift singles floor_over top level put at_most tallied
spent_comes = refl
