-- Wrong machines that fail demand 3. Each is caught on a group of three cells, just opened: one by a read, which the plain machine refuses 6, the
-- others by the order [1, 2, 3]: at once, at that order again or [1, 3, 2] after it, at a read after it, after a cell is worn, again after an erase, or into a
-- list of one place, which the plain machine refuses 10; and two by a shared write of cells 1 and 2 above cell 3. At a write of [1, 2, 3] by value the plain machine goes to levels 2, 1, 0 for 3 pulses, and that course is
-- one of the rivals of every machine that accepts that write.
-- Assumes nothing.
use Prim.Native.Nat.{ℕ, suc, ◌+◌, ◌<◌}
use mathlib.Core.Path.{◌≡◌, refl, sym, ap, ◌∙◌}
use mathlib.Core.Bool.{true, false, cond, ◌&&◌}
use mathlib.Core.List.{List, [], ◌∷◌, flatten}
use native.Mathlib.Omega.{arith}
use lib.Dec.{lit≤, eqb, leb, ltb}
use lib.ListN.{get_or, replicate}
use Rattle.order.specs.declared.Order.{Order}
use Rattle.order.specs.Refusals.{number_of, Told, answer}
use Rattle.order.specs.Cells.{tabulate, each_once, is_order, all_zero, is_listing}
use Rattle.order.specs.Order.{cell_numbers, is_order_of, order_record}
use Rattle.coordinates.specs.Coordinates.{coordinate_of, coordinates_to, weight}
use Rattle.decoder.specs.Decoding.{leaves, is_codeword, first_below, correction}
use Rattle.group.specs.Levels.{level, put, AtMost, at_most, sum, rises, tallied}
use Rattle.push_up.specs.PushUp.{singles, top, floor_over, Reach, Shows, lift, raise, push_of, rank_pushes, pushes, pulses_in}
use Rattle.group.specs.declared.Group.{Group}
use Rattle.group.specs.Record.{all_at_most, is_row, opened, with_levels, with_used, with_mark}
use Rattle.push_up.specs.WriteAnswer.{raised, fits, lasts, pushed, write_of}
use Rattle.changes.specs.Changes.{open_of, wear_of, erase_of}
use Rattle.sensing.specs.Sense.{stands_above, insert, sorted, sensed}
use Rattle.engine.specs.ReadStore.{read_of}
use Rattle.group.proofs.Levels.{at_most_true, at_most_level}
use Rattle.plain_machine.specs.declared.Kind.{Kind}
use Rattle.plain_machine.specs.declared.Kind.TheVariants.{Write, WriteInto, WriteShared, WriteSharedInto, Store, Scrub, Leak, Wear, Erase, Read}
use Rattle.sharing.specs.Shared.{each_filled, is_sizes, by_number, ranks_of, write_shared_of, plain_target}
use Rattle.plain_machine.specs.declared.Call.{Call}
use Rattle.engine.specs.Scrub.{Step, quiet}
use Rattle.plain_machine.specs.Machine.{writes, target, apply_of}
use Rattle.plain_machine.proofs.Machine.{accept}
use Rattle.rivals.specs.Rivals.{Rival, capped, Raised, Follows, Moves, entrant, latest, Machine, after, pulses_of, plain, plain_after, Course, rest, next, is_worn_or_spent, Raisable, Demand3, by_open, MeetsDemand3, own}

-- the machines start from a new group of 3 cells
abbrev start : Group
start = opened 3 1000000

abbrev order : Order
order = order_record (1 ∷ 2 ∷ 3 ∷ [])

abbrev call : Call
call = record { kind = Write; target = plain_target order }

abbrev read_call : Call
read_call = record { kind = Read; target = plain_target order }

-- where the plain machine goes, and its course
abbrev least : List ℕ
least = 2 ∷ 1 ∷ 0 ∷ replicate 9 0

abbrev course : Rival
course = record { levels = least; caps = start.caps; used = least; endurance = 1000000; pulses = 3 }

course_raised : Raised (target start call) (entrant start) course
unfolding entrant order_record cell_numbers singles Shows Reach floor_over top at_most rises tallied all_at_most level
course_raised = search (arith, at_most_true)

module _ (run : Machine) where
  -- one list of calls is enough
  fails : (cs : List Call) → ¬ (Demand3 run start cs) → ¬ (MeetsDemand3 run)
  unfolding open_of answer number_of
  fails cs fault meets = fault (meets start (by_open 3 1000000 refl) cs)

  -- it says worn where a rival can be raised
  worn_refuted : (run start call).number ≡ 8 → ¬ (MeetsDemand3 run)
  unfolding Raisable latest after plain number_of is_row all_at_most order_record cell_numbers is_order_of is_listing is_order each_once all_zero
  worn_refuted e = fails [] (λ d. (d.stuck_exactly call refl refl).0 (ap is_worn_or_spent e) ([], rest, course, course_raised))

  -- it goes higher than the plain machine does
  high_refuted : (run start call).number ≡ 0 → ¬ (AtMost (run start call).value.group.levels least)
      → ¬ (MeetsDemand3 run)
  unfolding latest after Moves Follows
  high_refuted e high = fails (call ∷ []) (λ d. high (d.lowest (course ∷ []) (next (rw e course_raised) rest)))

  -- it reports more pulses
  dear_refuted : (run start call).number ≡ 0 → 3 < (run start call).value.pulses → ¬ (MeetsDemand3 run)
  unfolding latest pulses_of Moves Follows
  dear_refuted e dear = fails (call ∷ []) (λ d. let spent = d.cheapest (course ∷ []) (next (rw e course_raised) rest) in omega arith)

-- ---- such machines

-- one that says worn to everything
pub quitter : Machine
quitter g c = record { number = 8; value = quiet g }

pub quitter_refuted : ¬ (MeetsDemand3 quitter)
unfolding quitter
quitter_refuted = worn_refuted quitter refl

-- one that says worn to whatever it refuses: a read of a group that is not written is refused 6
pub blamer : Machine
blamer g c = let t = apply_of g c in record { number = cond (eqb t.number 0) 0 8; value = t.value }

pub blamer_refuted : ¬ (MeetsDemand3 blamer)
unfolding blamer after apply_of read_of answer number_of is_row all_at_most
blamer_refuted = fails blamer [] (λ d. let e : ◌≡◌ {A = ℕ} 8 6 = d.answered read_call in omega arith)

-- what the plain machine answers to that write
plain_answer : let t = apply_of start call in (t.number ≡ 0) × (t.value.group.levels ≡ least) × (t.value.pulses ≡ 3)
unfolding apply_of write_of answer pushed pushes rank_pushes push_of pulses_in number_of is_row all_at_most order_record cell_numbers is_order_of is_listing is_order each_once all_zero fits lasts raised raise lift singles floor_over top level put at_most tallied
plain_answer = (refl, refl, refl)

-- the plain machine, but for the calls that raise cells and that it accepts
abbrev otherwise : (Group → Call → Told Step → Told Step) → Machine
otherwise wrong g c = let t = apply_of g c in cond (writes c.kind && eqb t.number 0) (wrong g c t) t

-- an answer with another group, and with other pulses
abbrev pub altered : (Group → Group) → (ℕ → ℕ) → Told Step → Told Step
altered group pulses t =
    let v = t.value in
    record {
      number = t.number;
      value =
          record {
            group = group v.group;
            symbol = v.symbol;
            verdict = v.verdict;
            pulses = pulses v.pulses;
            count = v.count;
            pushes = v.pushes;
          };
    }

-- one that raises cell 1 by one more than the plain machine does, and counts that pulse
pub eager : Machine
eager = otherwise (λ g c. altered (λ h. with_levels h (put h.levels 1 (level h.levels 1 + 1))) (λ k. k + 1))

pub eager_refuted : ¬ (MeetsDemand3 eager)
unfolding eager level put
eager_refuted = search (arith, high_refuted, eager, plain_answer, at_most_level)

-- one that reports more pulses than it spent
pub boaster : Machine
boaster = otherwise (λ g c. altered (λ h. h) (λ k. k + 1))

pub boaster_refuted : ¬ (MeetsDemand3 boaster)
unfolding boaster
boaster_refuted = search (arith, dear_refuted, boaster, plain_answer)

-- one that reports no pulses
pub silent : Machine
silent = otherwise (λ g c. altered (λ h. h) (λ k. 0))

pub silent_refuted : ¬ (MeetsDemand3 silent)
unfolding silent own latest entrant pulses_of rises
silent_refuted = fails silent (call ∷ []) (λ d. let e = rw (plain_answer.0, plain_answer.1) at d.exact in omega arith)

-- one that pushes to the top (SD 002): going up the target, a cell that is not above the one below it is raised to one more than the highest
-- level of all cells. From levels 2, 1, 0 it shows [1, 3, 2] by 4, 1, 3, where 3, 1, 2 will do
unfoldable pub to_the_top : List ℕ → List ℕ → List ℕ
to_the_top [] ls = ls
to_the_top (c ∷ []) ls = ls
to_the_top (c ∷ d ∷ cs) ls =
    let new = to_the_top (d ∷ cs) ls in
    cond (ltb (level new d) (level new c)) new (put new c (top (tabulate 12 suc) new + 1))

-- the levels taken instead, and their rises counted
abbrev levelled : (Group → Call → List ℕ) → Group → Call → Told Step → Told Step
levelled new g c = altered (λ h. with_levels h (new g c)) (λ k. rises g.levels (new g c))

pub climber : Machine
climber = otherwise (levelled (λ g c. to_the_top (flatten (target g c)) g.levels))

abbrev second_call : Call
second_call = record { kind = Write; target = plain_target (order_record (1 ∷ 3 ∷ 2 ∷ [])) }

abbrev second_course : Rival
second_course = record { levels = 3 ∷ 1 ∷ 2 ∷ replicate 9 0; caps = start.caps; used = 3 ∷ 1 ∷ 2 ∷ replicate 9 0; endurance = 1000000; pulses = 6 }

pub climber_refuted : ¬ (MeetsDemand3 climber)
unfolding climber flatten to_the_top latest after plain_after entrant Moves Follows apply_of write_of answer pushed rises tallied number_of is_row all_at_most order_record cell_numbers is_order_of is_listing is_order each_once all_zero fits lasts raised raise lift singles floor_over top level put at_most Shows Reach
climber_refuted =
    let second : Raised (singles (1 ∷ 3 ∷ 2 ∷ [])) course second_course =
    search (arith, at_most_true) in
    fails climber (call ∷ second_call ∷ [])
    (λ d.
    let high = at_most_level 1 (d.lowest (course ∷ second_course ∷ []) (next course_raised (next second rest))) in
    omega arith)

-- one that pushes truly on the first write and later only copies the target: a group that is written is raised from levels 0. After the first
-- write it shows [1, 3, 2] by 2, 0, 1: cell 2 has come down from 1
pub copier : Machine
copier = otherwise (λ g c t. cond g.written (levelled (λ g c. raise 1 (target g c) (replicate 12 0)) g c t) t)

-- the second step of a course of two calls
second_step : {run : Machine} {g p : Group} {r s t : Rival} {c d : Call} → Course run g p r (c ∷ d ∷ []) (s ∷ t ∷ [])
    → let h = (run g c).value.group in Moves (run h d).number d.kind (target (plain_after (run g c).number p c) d) s t
second_step (next a (next b rest)) = b

-- its own course is none of the rivals
pub copier_refuted : ¬ (MeetsDemand3 copier)
unfolding copier own latest after plain_after entrant Moves Follows apply_of write_of answer pushed rises tallied number_of is_row all_at_most order_record cell_numbers is_order_of is_listing is_order each_once all_zero fits lasts raised raise lift singles floor_over top level put at_most
copier_refuted = fails copier (call ∷ second_call ∷ []) (λ d. let high = at_most_level 2 (second_step d.ours).no_lower in omega arith)

-- two that leave a record gone wrong, so that calls which come later are refused: one loses n, one never sets the mark
pub spoiler : Machine
spoiler = otherwise (λ g c. altered (λ h. record { n = 0; levels = h.levels; caps = h.caps; used = h.used; endurance = h.endurance; written = h.written }) (λ k. k))

pub forgetter : Machine
forgetter = otherwise (λ g c. altered (λ h. with_mark false h) (λ k. k))

pub spoiler_refuted : ¬ (MeetsDemand3 spoiler)
unfolding spoiler after plain plain_after apply_of write_of answer pushed rises tallied number_of is_row all_at_most order_record cell_numbers is_order_of is_listing is_order each_once all_zero fits lasts raised raise lift singles floor_over top level put at_most
spoiler_refuted = fails spoiler (call ∷ []) (λ d. let e : ◌≡◌ {A = ℕ} 1 0 = d.handed call in omega arith)

pub forgetter_refuted : ¬ (MeetsDemand3 forgetter)
unfolding forgetter after plain plain_after read_of sensed sorted insert stands_above correction first_below is_codeword leaves weight coordinates_to coordinate_of apply_of write_of answer pushed rises tallied number_of is_row all_at_most order_record cell_numbers is_order_of is_listing is_order each_once all_zero fits lasts raised raise lift singles floor_over top level put at_most
forgetter_refuted = fails forgetter (call ∷ []) (λ d. let e : ◌≡◌ {A = ℕ} 6 0 = d.handed read_call in omega arith)

-- two that go wrong at a shared write, here of cells 1 and 2 above cell 3: one sets the mark, so that a read finds a symbol where the plain machine is blank; one
-- shows the list as an order, cell 1 above cell 2
abbrev shared_call : Call
shared_call = record { kind = WriteShared; target = record { count = 2; sizes = 2 ∷ 1 ∷ replicate 10 0; cells = order } }

pub keeper : Machine
keeper = otherwise (λ g c. altered (λ h. with_mark true h) (λ k. k))

pub keeper_refuted : ¬ (MeetsDemand3 keeper)
unfolding keeper after plain plain_after read_of sensed sorted insert stands_above correction first_below is_codeword leaves weight coordinates_to coordinate_of apply_of write_shared_of sum each_filled is_sizes by_number ranks_of answer pushed rises tallied number_of is_row all_at_most order_record cell_numbers is_order_of is_listing is_order each_once all_zero fits lasts raised raise lift floor_over top level put at_most
keeper_refuted = fails keeper (shared_call ∷ []) (λ d. let e : ◌≡◌ {A = ℕ} 0 6 = d.handed read_call in omega arith)

unfoldable pub stacker : Machine
stacker = otherwise (levelled (λ g c. raise 1 (singles (flatten (target g c))) g.levels))

abbrev shared_course : Rival
shared_course = record { levels = 1 ∷ 1 ∷ 0 ∷ replicate 9 0; caps = start.caps; used = 1 ∷ 1 ∷ 0 ∷ replicate 9 0; endurance = 1000000; pulses = 2 }

pub stacker_refuted : ¬ (MeetsDemand3 stacker)
unfolding stacker flatten latest after plain_after entrant Moves Follows apply_of write_shared_of sum each_filled is_sizes by_number ranks_of answer pushed rises tallied number_of is_row all_at_most order_record cell_numbers is_order_of is_listing is_order each_once all_zero fits lasts raised raise lift singles floor_over top level put at_most Shows Reach
stacker_refuted =
    fails stacker (shared_call ∷ [])
    (λ d.
    let shown : Raised (target start shared_call) (entrant start) shared_course =
    search (arith, at_most_true) in
    let high = at_most_level 2 (d.lowest (shared_course ∷ []) (next shown rest)) in
    omega arith)

-- one that takes a lent list of any room
by_value : Kind → Kind
by_value Write = Write
by_value (WriteInto room) = Write
by_value WriteShared = WriteShared
by_value (WriteSharedInto room) = WriteShared
by_value (Store s) = Store s
by_value Scrub = Scrub
by_value (Leak c d) = Leak c d
by_value (Wear c cap) = Wear c cap
by_value Erase = Erase
by_value Read = Read

pub crammer : Machine
crammer g c = apply_of g (record { kind = by_value c.kind; target = c.target })

abbrev short_call : Call
short_call = record { kind = WriteInto 1; target = plain_target order }

pub crammer_refuted : ¬ (MeetsDemand3 crammer)
unfolding crammer by_value after plain number_of is_row all_at_most
crammer_refuted = fails crammer [] (λ d. let e : ◌≡◌ {A = ℕ} 0 10 = sym plain_answer.0 ∙ d.answered short_call in omega arith)

-- one that says worn before it reckons the new levels: where cell 1 stands at its cap or above it. After the write, with cell 1 worn to its level, the
-- same write raises nothing
unfoldable pub hasty : Machine
hasty g c = cond (writes c.kind && leb (level g.caps 1) (level g.levels 1)) (record { number = 8; value = quiet g }) (apply_of g c)

abbrev worn_call : Call
worn_call = record { kind = Wear (record { 0 = 1 }) 2; target = plain_target order }

abbrev worn_course : Rival
worn_course = capped course (put start.caps 1 2)

pub hasty_refuted : ¬ (MeetsDemand3 hasty)
unfolding hasty Raisable latest after plain plain_after entrant Moves Follows wear_of apply_of write_of answer pushed rises tallied number_of is_row all_at_most order_record cell_numbers is_order_of is_listing is_order each_once all_zero fits lasts raised raise lift singles floor_over top level put at_most Shows Reach
hasty_refuted =
    fails hasty (call ∷ worn_call ∷ [])
    (λ d.
    (d.stuck_exactly call refl refl).0 refl (
      course ∷ worn_course ∷ [],
      next course_raised (next refl rest),
      worn_course,
      record {
        no_lower = at_most_true _ _ refl;
        shows = ((lit≤ tt, tt), ((lit≤ tt, tt), ((lit≤ tt, tt), tt)));
        within = at_most_true _ _ refl;
        same_caps = refl;
        tallies = refl;
        lasting = refl;
        same_endurance = refl;
        pulses = refl;
      },
    ))

-- one that holds only the target's top cell to its cap
pub lax : Machine
lax g c =
    let t = apply_of g c in
    let first = get_or (flatten (target g c)) 0 0 in
    let new = raise 1 (target g c) g.levels in
    cond (writes c.kind && eqb t.number 8 && leb (level new first) (level g.caps first)) (record { number = 0; value = accept g c }) t

abbrev second_worn : Call
second_worn = record { kind = Wear (record { 0 = 2 }) 0; target = plain_target order }

-- with cell 2 worn to 0 it takes the order [1, 2, 3], whose top cell has room
pub lax_refuted : ¬ (MeetsDemand3 lax)
unfolding lax flatten after plain plain_after wear_of apply_of write_of answer pushed rises tallied number_of is_row all_at_most order_record cell_numbers is_order_of is_listing is_order each_once all_zero fits lasts raised raise lift singles floor_over top level put at_most
lax_refuted = fails lax (second_worn ∷ []) (λ d. let e : ◌≡◌ {A = ℕ} 0 8 = d.answered call in omega arith)

-- three that go wrong with the endurance, here 2, which the write of [1, 2, 3] just reaches at cell 1: one forgets the used pulses at a call that raises
-- no cell, such as an erase, and one counts no rises, so that the same write is done again after an erase; one says spent where the endurance is reached
abbrev brittle : Group
brittle = opened 3 2

brittle_fails : (run : Machine) (cs : List Call) → ¬ (Demand3 run brittle cs) → ¬ (MeetsDemand3 run)
unfolding open_of answer number_of
brittle_fails run cs fault meets = fault (meets brittle (by_open 3 2 refl) cs)

abbrev erase_call : Call
erase_call = record { kind = Erase; target = plain_target order }

pub resetter : Machine
resetter g c = cond (writes c.kind) (apply_of g c) (altered (λ h. with_used h (replicate 12 0)) (λ k. k) (apply_of g c))

pub resetter_refuted : ¬ (MeetsDemand3 resetter)
unfolding resetter after plain plain_after erase_of apply_of write_of answer pushed rises tallied number_of is_row all_at_most order_record cell_numbers is_order_of is_listing is_order each_once all_zero fits lasts raised raise lift singles floor_over top level put at_most
resetter_refuted = brittle_fails resetter (call ∷ erase_call ∷ []) (λ d. let e : ◌≡◌ {A = ℕ} 0 19 = d.handed call in omega arith)

pub uncounted : Machine
uncounted = otherwise (λ g c. altered (λ h. with_used h g.used) (λ k. k))

pub uncounted_refuted : ¬ (MeetsDemand3 uncounted)
unfolding uncounted after plain plain_after erase_of apply_of write_of answer pushed rises tallied number_of is_row all_at_most order_record cell_numbers is_order_of is_listing is_order each_once all_zero fits lasts raised raise lift singles floor_over top level put at_most
uncounted_refuted = brittle_fails uncounted (call ∷ erase_call ∷ []) (λ d. let e : ◌≡◌ {A = ℕ} 0 19 = d.handed call in omega arith)

pub sparer : Machine
sparer g c = let t = apply_of g c in cond (writes c.kind && eqb (level t.value.group.used 1) g.endurance) (record { number = 19; value = quiet g }) t

pub sparer_refuted : ¬ (MeetsDemand3 sparer)
unfolding sparer after plain apply_of write_of answer pushed rises tallied number_of is_row all_at_most order_record cell_numbers is_order_of is_listing is_order each_once all_zero fits lasts raised raise lift singles floor_over top level put at_most
sparer_refuted = brittle_fails sparer [] (λ d. let e : ◌≡◌ {A = ℕ} 19 0 = d.answered call in omega arith)
