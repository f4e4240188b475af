-- Supply lost in the middle of a write, a shared write, a store or a scrub, any number of times: each time the group is taken over, it ends as after the uncut call,
-- and the pulses add up.
-- Assumes nothing.
use Prim.Native.Nat.{ℕ, ◌+◌}
use mathlib.Core.Path.{◌≡◌, refl, sym, ap, ◌∙◌}
use mathlib.Core.Bool.{true}
use mathlib.Core.List.{List, [], ◌∷◌}
use native.Mathlib.Omega.{arith}
use lib.ListN.{length}
use Rattle.order.specs.Refusals.{number_of, Told}
use Rattle.group.specs.declared.Group.{Group}
use Rattle.group.specs.Levels.{AtMost, sum, tallied}
use Rattle.group.specs.Record.{is_row, IsGroup, programmed}
use Rattle.group.proofs.Levels.{at_most_refl, at_most_trans, at_most_length, true_at_most}
use Rattle.group.proofs.LevelRows.{all_below, row_below}
use Rattle.group.proofs.Tallies.{length_tallied, tallied_mono, tallied_twice, row_tallied}
use Rattle.group.proofs.Checks.{rules_held, checked_caps}
use Rattle.group.proofs.Groups.{group_with}
use Rattle.push_up.specs.PushUp.{pushes}
use Rattle.push_up.specs.WriteAnswer.{Program, raised, fits, lasts, push_checks, pushed}
use Rattle.push_up.proofs.Minimal.{Apart}
use Rattle.push_up.proofs.Programs.{program_runs, counted_pushes}
use Rattle.push_up.proofs.Writes.{push_holds, target_apart}
use Rattle.take_over.proofs.Taken.{taken_with}
use Rattle.plain_machine.specs.declared.Call.{Call}
use Rattle.plain_machine.specs.Machine.{writes, marks, target, checks, apply_of}
use Rattle.plain_machine.proofs.Machine.{program_part, apply_number, apply_program, apply_pushed, done_checks, done_held, done_pushes, target_of}
use Rattle.cuts.specs.Cuts.{Cut, IsCut, levels_at, pulses_at, used_at, program_of, taken_at, IsWriteOf, AreRetries, AllTaken, last_answer, pulses_before, RepairsCuts}
use Rattle.cuts.proofs.Cuts.{first, last, first_cut, last_cut, cut_above, cut_below, cut_used, cut_raised, cut_pulses}

-- ---- one cut of an accepted call

module _ (g : Group) (h : IsGroup g) (c : Call) (w : writes c.kind ≡ true) (e : (apply_of g c).number ≡ 0) where
  done : number_of (checks g c) ≡ 0
  done = sym (apply_number g c) ∙ e

  within : AtMost (raised g (target g c)) g.caps
  within = (done_held g c w done).0

  enduring : lasts g (target g c) ≡ true
  enduring = (done_held g c w done).1

  abbrev ranks : List (List ℕ)
  ranks = target g c

  apart : Apart (length g.levels) ranks
  apart = grind (arith, target_apart, target_of, done_checks, done)

  program : program_of apply_of g c ≡ pushes 1 ranks g.levels
  program = grind (arith, apply_pushed, counted_pushes)

  -- the ends are cuts: nothing pushed yet, and all pushed
  pub call_first : let ps = program_of apply_of g c in IsCut ps (first ps) × (levels_at ps (first ps) g.levels ≡ g.levels) × (pulses_at ps (first ps) ≡ 0)
  call_first = rw program (first_cut (program_runs 1 ranks g.levels apart))

  pub call_last : (v : ℕ)
      → let ps = program_of apply_of g c in
      IsCut ps (last ps v) × (levels_at ps (last ps v) g.levels ≡ (apply_of g c).value.group.levels) × (pulses_at ps (last ps v) ≡ (apply_of g c).value.pulses)
  unfolding pushed raised
  call_last v =
      let end = last_cut v (program_runs 1 ranks g.levels apart) in
      let part = apply_pushed g c w e in
      rw (program, ap (λ (p : Program). p.group.levels) part, ap (λ (p : Program). p.pulses) part) end

  module _ (cut : Cut) (k : IsCut (program_of apply_of g c) cut) where
    -- the levels there, and the group that is taken over
    abbrev pub there : List ℕ
    there = levels_at (program_of apply_of g c) cut g.levels

    abbrev pub taken_group : Group
    taken_group = programmed true g there

    is_cut : IsCut (pushes 1 ranks g.levels) cut
    is_cut = rw program at k

    grown : AtMost g.levels there
    grown = rw program (cut_above (program_runs 1 ranks g.levels apart) cut is_cut)

    to_grow : AtMost there (raised g (target g c))
    unfolding raised
    to_grow = rw program (cut_below (program_runs 1 ranks g.levels apart) cut is_cut)

    low : AtMost there g.caps
    low = at_most_trans to_grow within

    there_row : is_row 4095 g.n there ≡ true
    there_row = row_below 4095 g.n low (checked_caps g h.passes)

    there_twelve : length there ≡ 12
    there_twelve = at_most_length low ∙ h.caps

    -- the used pulses there: all cells together they have grown by the pulses before the cut
    pub call_used : let ps = program_of apply_of g c in sum (used_at g ps cut) ≡ sum g.used + pulses_at ps cut
    call_used = rw program (cut_used g (program_runs 1 ranks g.levels apart) cut is_cut (omega (arith, h.used, h.levels)))

    -- and no cell has taken more than after the uncut call
    used_row : is_row g.endurance g.n taken_group.used ≡ true
    unfolding lasts
    used_row =
        row_tallied g.endurance 4095 g.n g.used g.levels there (rules_held g h.passes).used there_row
        (all_below g.endurance (tallied_mono g.used g.levels to_grow) enduring)

    used_twelve : length taken_group.used ≡ 12
    used_twelve = length_tallied g.used g.levels there ∙ h.used

    pub cut_taken : taken_at apply_of g c cut ≡ record { number = 0; value = taken_group }
    unfolding taken_at
    cut_taken = taken_with g h there taken_group.used there_row there_twelve used_row used_twelve

    pub taken_group_lem : IsGroup taken_group
    taken_group_lem = search (arith, group_with, there_row, there_twelve, at_most_refl, used_row, used_twelve)

    same_levels : raised taken_group (target g c) ≡ raised g (target g c)
    unfolding raised
    same_levels = rw program (cut_raised 1 ranks g.levels apart cut is_cut)

    -- the rise so far and the rise that is left are the uncut rise
    same_used : tallied taken_group.used there (raised taken_group (target g c)) ≡ tallied g.used g.levels (raised g (target g c))
    same_used = rw same_levels (tallied_twice g.used grown to_grow)

    has_room : number_of (push_checks taken_group (target g c)) ≡ 0
    unfolding fits lasts
    has_room = push_holds taken_group (target g c) (true_at_most (rw same_levels within)) (rw same_used enduring)

    -- the same target, written to it
    module _ (d : Call) (a : IsWriteOf g.n (target g c) (marks c.kind) d) where
      same_target : target taken_group d ≡ target g c
      same_target = a.same taken_group refl

      pub again_accepted : (apply_of taken_group d).number ≡ 0
      again_accepted = grind (arith, apply_number, done_pushes, taken_group_lem, same_target, has_room)

      again_pushed : program_part (apply_of taken_group d).value ≡ pushed (marks c.kind) taken_group (target g c)
      again_pushed = grind (arith, apply_pushed, again_accepted, same_target)

      again_same : (apply_of taken_group d).value.group ≡ (apply_of g c).value.group
      unfolding pushed
      again_same = grind (arith, again_pushed, same_levels, same_used, apply_pushed)

      again_pulses : pulses_at (program_of apply_of g c) cut + (apply_of taken_group d).value.pulses ≡ (apply_of g c).value.pulses
      unfolding pushed
      again_pulses = grind (arith, again_pushed, apply_pushed, program, cut_pulses, apart, is_cut)

-- ---- any number of cuts

pub cuts_repaired : RepairsCuts apply_of
unfolding AreRetries AllTaken last_answer pulses_before
cuts_repaired g h c w e [] a = record { program = apply_program g c h.levels w; taken = tt; accepted = e; same = refl; pulses = omega arith }
cuts_repaired g h c w e (r ∷ rs) a =
    let cut = r.cut in
    let new = taken_group g h c w e cut a.0 in
    let taken = cut_taken g h c w e cut a.0 in
    let accepted = again_accepted g h c w e cut a.0 r.again a.1 in
    let later = cuts_repaired new (taken_group_lem g h c w e cut a.0) r.again a.1.raises accepted rs (rw taken at a.2) in
    let last : last_answer apply_of g c (r ∷ rs) ≡ last_answer apply_of new r.again rs = ap (λ (t : Told Group). last_answer apply_of t.value r.again rs) taken in
    record {
      program = apply_program g c h.levels w;
      taken = rw taken (refl, later.taken);
      accepted = rw last later.accepted;
      same = rw last (later.same ∙ again_same g h c w e cut a.0 r.again a.1);
      pulses = rw (last, taken) (omega (arith, later.pulses, again_pulses g h c w e cut a.0 r.again a.1));
    }
