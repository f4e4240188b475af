-- Document 02, request (e): supply is lost in the middle of a push program, the group is taken over from its levels there and the caps it had, and the
-- same target is written; and so again, as often as supply is lost. By request (h) it is taken over with its used pulses there, those of the half push
-- included, and the endurance it had. No leak comes between. The push program is the one that the caller holds: the pushes that the machine's answer
-- carries.
-- The claim is about any machine that answers calls. That ours meets it is the theorem `cuts_repaired` (proofs/Repairs) about `apply_of`; wrong ones are
-- refuted (proofs/Refuted). Which levels and used pulses an uncut call comes to, and that it is not refused without a reason, are for demand 3 to say (rivals, specs
-- Rivals). That each retry before the last one would be accepted too, were it not cut, is the same claim of a shorter list.
--
--   Cut                    where supply is lost: how many pushes are complete, and the level at which the cell being pushed stands
--   Between ps v           ps are the pushes that are not complete: the first is going on, and its cell stands at v, anywhere from where that push starts
--                          to where it reaches, both included. Where there is none, v says nothing
--   IsCut ps cut           no more pushes are complete than the program ps has, and the cell being pushed stands between
--   half_push ps v          the push that is going on, as far as it came: it reaches v
--   pushes_at ps cut        the pushes up to the cut: those before it, which are complete, and the half push. Later ones are not begun
--   levels_at ps cut ls     the levels at the cut, of a program that began at the levels ls
--   pulses_at ps cut        the pulses before the cut: a half push counts its rise so far
--   used_at g ps cut        the pulses that each cell has ever taken, at the cut: those that it had, and its rise so far
--   taken_from g ps cut     the take-over after a cut of the program ps: of the levels and the used pulses at the cut, and the caps and the endurance that the
--                          group had
--   IsWriteOf n t w c      the call c is a write, a shared write or a store of the target t to any group of n cells, and leaves the mark w: it passes the
--                          earlier checks there, so that nothing but worn or spent can refuse it. A scrub is none: its target is what it reads
--   Retry                  supply is lost at a cut, and then this call is made on the group that is taken over
--   program_of g c          the push program that the answer to a call carries
--   taken_at g c cut        the take-over after a cut of this call's program
--   AreRetries g c rs      each cuts the program of the call before it, and its own call is a write of the same target that leaves the same mark
--   AllTaken g c rs        each take-over is accepted
--   last_answer g c rs      the answer to the last call, which is not cut
--   pulses_before g c rs    the pulses before each of the cuts, added up
--   Repaired g c rs        the call c, cut, and these retries: all ends as if c had not been cut
--   RepairsCuts            the whole claim: of every group, every write, shared write, store or scrub that is accepted, and every list of such retries
use Rattle.std.specs.Prelude.{ℕ, ◌+◌, ◌≤◌, ◌≡◌, Bool, true, List, [], ◌∷◌, ◌++◌, length, take, drop}
use Rattle.order.specs.Refusals.{number_of, Told}
use Rattle.group.specs.declared.Group.{Group}
use Rattle.group.specs.Levels.{tallied}
use Rattle.group.specs.Record.{IsGroup}
use Rattle.push_up.specs.declared.Push.{Push}
use Rattle.push_up.specs.PushUp.{pulses_in}
use Rattle.push_up.specs.PushProgram.{counted, played, IsPushProgram}
use Rattle.take_over.specs.TakeOver.{take_over_of}
use Rattle.engine.specs.Scrub.{Step}
use Rattle.plain_machine.specs.declared.Call.{Call}
use Rattle.plain_machine.specs.Machine.{writes, marks, target, earlier_checks}
use Rattle.rivals.specs.Rivals.{Machine}

-- ---- a cut of a push program

pub record Cut : Type 0 where
  pub done : ℕ
  pub level : ℕ

abbrev pub Between : List Push → ℕ → Type 0
Between [] v = Unit {0}
Between (p ∷ later) v = (p.start ≤ v) × (v ≤ p.reach)

abbrev pub IsCut : List Push → Cut → Type 0
IsCut ps cut = (cut.done ≤ length ps) × Between (drop cut.done ps) cut.level

abbrev pub half_push : List Push → ℕ → List Push
half_push [] v = []
half_push (p ∷ later) v = record { cell = p.cell; start = p.start; reach = v } ∷ []

abbrev pub pushes_at : List Push → Cut → List Push
pushes_at ps cut = take cut.done ps ++ half_push (drop cut.done ps) cut.level

unfoldable pub levels_at : List Push → Cut → List ℕ → List ℕ
levels_at ps cut ls = played (pushes_at ps cut) ls

unfoldable pub pulses_at : List Push → Cut → ℕ
pulses_at ps cut = pulses_in (pushes_at ps cut)

abbrev pub used_at : Group → List Push → Cut → List ℕ
used_at g ps cut = tallied g.used g.levels (levels_at ps cut g.levels)

abbrev pub taken_from : Group → List Push → Cut → Told Group
taken_from g ps cut =
    take_over_of g.n (take g.n (levels_at ps cut g.levels)) (take g.n g.caps) (take g.n (used_at g ps cut)) g.endurance

-- ---- the same target, written again

pub record IsWriteOf (n : ℕ) (t : List (List ℕ)) (w : Bool) (c : Call) : Type 0 where
  pub raises : writes c.kind ≡ true
  pub mark : marks c.kind ≡ w
  pub same : (g : Group) → g.n ≡ n → target g c ≡ t
  pub passes : (g : Group) → g.n ≡ n → IsGroup g → number_of (earlier_checks g c) ≡ 0

pub record Retry : Type 0 where
  pub cut : Cut
  pub again : Call

-- ---- any number of cuts

module _ (run : Machine) where
  abbrev pub program_of : Group → Call → List Push
  program_of g c = let s = (run g c).value in counted s.count s.pushes

  unfoldable pub taken_at : Group → Call → Cut → Told Group
  taken_at g c cut = taken_from g (program_of g c) cut

  unfoldable pub AreRetries : Group → Call → List Retry → Type 0
  AreRetries g c [] = Unit {0}
  AreRetries g c (r ∷ rs) =
      IsCut (program_of g c) r.cut × IsWriteOf g.n (target g c) (marks c.kind) r.again × AreRetries (taken_at g c r.cut).value r.again rs

  unfoldable pub AllTaken : Group → Call → List Retry → Type 0
  AllTaken g c [] = Unit {0}
  AllTaken g c (r ∷ rs) = let t = taken_at g c r.cut in (t.number ≡ 0) × AllTaken t.value r.again rs

  unfoldable pub last_answer : Group → Call → List Retry → Told Step
  last_answer g c [] = run g c
  last_answer g c (r ∷ rs) = last_answer (taken_at g c r.cut).value r.again rs

  unfoldable pub pulses_before : Group → Call → List Retry → ℕ
  pulses_before g c [] = 0
  pulses_before g c (r ∷ rs) = pulses_at (program_of g c) r.cut + pulses_before (taken_at g c r.cut).value r.again rs

  pub record Repaired (g : Group) (c : Call) (rs : List Retry) : Type 0 where
    -- what is cut is a push program to the levels of the uncut call
    pub program : IsPushProgram (program_of g c) g.levels (run g c).value.group.levels
    -- each time that supply was lost, the group can be taken over
    pub taken : AllTaken g c rs
    -- the last call is accepted
    pub accepted : (last_answer g c rs).number ≡ 0
    -- the group ends as after the uncut call: with its levels, its caps, its used pulses, its endurance and its mark
    pub same : (last_answer g c rs).value.group ≡ (run g c).value.group
    -- pulses before the cuts and after the last one together equal the uncut count
    pub pulses : pulses_before g c rs + (last_answer g c rs).value.pulses ≡ (run g c).value.pulses

  abbrev pub RepairsCuts : Type 0
  RepairsCuts = (g : Group) → IsGroup g → (c : Call) → writes c.kind ≡ true → (run g c).number ≡ 0 → (rs : List Retry) → AreRetries g c rs → Repaired g c rs
