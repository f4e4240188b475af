-- Wrong machines that do not repair every cut. Each is caught on a group of three cells, by one cut of a write and the same write again.
-- Assumes nothing.
use Prim.Native.Nat.{ℕ, ◌+◌}
use mathlib.Core.Path.{◌≡◌, refl, ap}
use mathlib.Core.Bool.{true, false, cond, ◌&&◌}
use mathlib.Core.List.{List, [], ◌∷◌, ◌++◌, flatten}
use mathlib.Core.Option.{none}
use native.Mathlib.Omega.{arith}
use lib.Dec.{lit≤, leb}
use lib.ListN.{length}
use Rattle.order.specs.Refusals.{number_of, answer}
use Rattle.order.specs.Cells.{each_once, is_order, all_zero, is_listing}
use Rattle.order.specs.Order.{cell_numbers, is_order_of}
use Rattle.group.specs.declared.Group.{Group}
use Rattle.group.specs.Levels.{level, put, at_most, tallied}
use Rattle.group.specs.Record.{all_at_most, is_row, IsGroup, opened, programmed}
use Rattle.push_up.specs.declared.Push.{Push}
use Rattle.push_up.specs.PushUp.{singles, top, floor_over, lift, raise, push_of, rank_pushes, pushes, pulses_in}
use Rattle.push_up.specs.PushProgram.{played}
use Rattle.push_up.specs.WriteAnswer.{push_array, raised, fits, lasts, pushed, write_of}
use Rattle.take_over.specs.TakeOver.{is_given, take_over_of}
use Rattle.engine.specs.Scrub.{quiet}
use Rattle.plain_machine.specs.declared.Kind.TheVariants.{Write}
use Rattle.sharing.specs.Shared.{plain_target}
use Rattle.plain_machine.specs.declared.Call.{Call}
use Rattle.plain_machine.specs.Machine.{writes, target, apply_of}
use Rattle.rivals.specs.Rivals.{Machine}
use Rattle.rivals.specs.Starred.{order, capped, group, taken}
use Rattle.rivals.proofs.Refuted.{altered, to_the_top, hasty}
use Rattle.cuts.specs.Cuts.{Cut, IsCut, levels_at, pulses_at, program_of, taken_at, AreRetries, last_answer, pulses_before, Repaired, RepairsCuts}
use Rattle.cuts.proofs.Again.{names_target, same_call}

-- one cut of a write is enough, and the same write again, which the plain machine accepts
fails : (run : Machine) (g : Group) (c : Call) (cut : Cut) → IsGroup g → names_target c.kind ≡ true → writes c.kind ≡ true → (apply_of g c).number ≡ 0
    → (run g c).number ≡ 0 → IsCut (program_of run g c) cut → ¬ (Repaired run g c (record { cut = cut; again = c } ∷ [])) → ¬ (RepairsCuts run)
unfolding AreRetries
fails run g c cut h s w plain e k fault meets = fault (meets g h c w e _ (k, same_call g c w plain s, tt))

-- the pushes of the cells of an order from some levels to others, from low to high
program_to : List ℕ → List ℕ → List ℕ → List Push
program_to [] old new = []
program_to (c ∷ cs) old new = program_to cs old new ++ push_of c (level old c) (level new c)

-- one that pushes to the top (SD 002), with its own push program: cut in the middle and made again, it raises less
pub climber : Machine
climber g c =
    let cells = flatten (target g c) in
    let new = to_the_top cells g.levels in
    let program = program_to cells g.levels new in
    record {
      number = 0;
      value = record { group = programmed true g new; symbol = 0; verdict = none; pulses = pulses_in program; count = length program; pushes = push_array program };
    }

-- from levels 2, 1, 0 it shows [1, 3, 2] by 4, 1, 3. Cut where cell 3 stands at 2, above cell 2, it goes to 3, 1, 2
abbrev call : Call
call = record { kind = Write; target = plain_target (order (1 ∷ 3 ∷ 2 ∷ [])) }

pub climber_refuted : ¬ (RepairsCuts climber)
unfolding climber flatten to_the_top program_to apply_of write_of pushed fits lasts tallied raised raise lift singles floor_over at_most last_answer taken_at take_over_of levels_at played is_given answer number_of is_row all_at_most push_of top level put cell_numbers is_order_of is_listing is_order each_once all_zero
climber_refuted =
    fails climber (group true (2 ∷ 1 ∷ 0 ∷ [])) call (record { done = 0; level = 2 }) (record { passes = refl; levels = refl; caps = refl; used = refl }) refl refl refl refl
    (lit≤ tt, (lit≤ tt, lit≤ tt))
    (λ r. let e : ◌≡◌ {A = ℕ} 3 4 = ap (λ (g : Group). level g.levels 1) r.same in omega arith)

-- one that says worn before it reckons the new levels, where cell 1 stands at its cap (rivals/Refuted): with cell 1 capped at 2 it writes [1, 2, 3] by
-- 2, 1, 0, and cut after its last push it says worn to the same write, which has nothing left to raise
abbrev falling_call : Call
falling_call = record { kind = Write; target = plain_target (order (1 ∷ 2 ∷ 3 ∷ [])) }

pub hasty_refuted : ¬ (RepairsCuts hasty)
unfolding hasty last_answer taken_at take_over_of levels_at played is_given answer number_of is_row all_at_most cell_numbers is_order_of is_listing is_order each_once all_zero apply_of write_of pushed pushes rank_pushes push_of pulses_in fits lasts tallied raised raise lift singles floor_over top level put at_most
hasty_refuted =
    fails hasty (capped false (0 ∷ 0 ∷ 0 ∷ []) (2 ∷ 4095 ∷ 4095 ∷ [])) falling_call (record { done = 2; level = 0 }) (record { passes = refl; levels = refl; caps = refl; used = refl }) refl refl
    refl refl (lit≤ tt, tt)
    (λ r. let e : ◌≡◌ {A = ℕ} 8 0 = r.accepted in omega arith)

-- one whose pulses are the sum of what its pushes reach, and not of their rises: it writes [1, 2, 3] from levels 0 for 3, and cut where cell 1 stands at 1,
-- which 2 pulses brought about, it counts 2 more for the last step of that cell
reaches : List Push → ℕ
reaches [] = 0
reaches (p ∷ ps) = p.reach + reaches ps

pub reacher : Machine
reacher g c = altered (λ h. h) (λ k. reaches (program_of apply_of g c)) (apply_of g c)

pub reacher_refuted : ¬ (RepairsCuts reacher)
unfolding reacher reaches last_answer pulses_before pulses_at taken_at take_over_of levels_at played is_given answer number_of is_row all_at_most cell_numbers is_order_of is_listing is_order each_once all_zero apply_of write_of pushed pushes rank_pushes push_of pulses_in fits lasts tallied raised raise lift singles floor_over top level put at_most
reacher_refuted =
    fails reacher (group false (0 ∷ 0 ∷ 0 ∷ [])) falling_call (record { done = 1; level = 1 }) (record { passes = refl; levels = refl; caps = refl; used = refl }) refl refl refl refl
    (lit≤ tt, (lit≤ tt, lit≤ tt))
    (λ r. let e : ◌≡◌ {A = ℕ} 4 3 = r.pulses in omega arith)

-- two that go wrong with the used pulses. One counts a push as one pulse, however far it rises: it writes [1, 2, 3] from levels 0 and has counted 1 of cell 1, and
-- cut where cell 1 stands at 1, which one pulse brought about, it counts 1 more
counted_once : List Push → List ℕ → List ℕ
counted_once [] us = us
counted_once (p ∷ ps) us = counted_once ps (put us p.cell.0 (level us p.cell.0 + 1))

pub cycler : Machine
cycler g c = altered (λ h. taken (counted_once (program_of apply_of g c) g.used) h) (λ k. k) (apply_of g c)

pub cycler_refuted : ¬ (RepairsCuts cycler)
unfolding cycler counted_once last_answer taken_at take_over_of levels_at played is_given answer number_of is_row all_at_most cell_numbers is_order_of is_listing is_order each_once all_zero apply_of write_of pushed pushes rank_pushes push_of pulses_in fits lasts tallied raised raise lift singles floor_over top level put at_most
cycler_refuted =
    fails cycler (group false (0 ∷ 0 ∷ 0 ∷ [])) falling_call (record { done = 1; level = 1 }) (record { passes = refl; levels = refl; caps = refl; used = refl }) refl refl refl refl
    (lit≤ tt, (lit≤ tt, lit≤ tt))
    (λ r. let e : ◌≡◌ {A = ℕ} 2 1 = ap (λ (g : Group). level g.used 1) r.same in omega arith)

-- one says spent before it reckons the rises, where cell 1 has reached the endurance: with an endurance of 2 it writes [1, 2, 3] by 2, 1, 0, and cut after its last
-- push it says spent to the same write, which has nothing left to raise
unfoldable pub weary : Machine
weary g c = cond (writes c.kind && leb g.endurance (level g.used 1)) (record { number = 19; value = quiet g }) (apply_of g c)

pub weary_refuted : ¬ (RepairsCuts weary)
unfolding weary last_answer taken_at take_over_of levels_at played is_given answer number_of is_row all_at_most cell_numbers is_order_of is_listing is_order each_once all_zero apply_of write_of pushed pushes rank_pushes push_of pulses_in fits lasts tallied raised raise lift singles floor_over top level put at_most
weary_refuted =
    fails weary (opened 3 2) falling_call (record { done = 2; level = 0 }) (record { passes = refl; levels = refl; caps = refl; used = refl }) refl refl refl refl (lit≤ tt, tt)
    (λ r. let e : ◌≡◌ {A = ℕ} 19 0 = r.accepted in omega arith)
