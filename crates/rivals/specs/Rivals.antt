-- Document 01, "The rivals of demand 3", and demand 3: one claim about every list of calls on one group. By document 02, request (e), a list may also
-- begin from a group that was taken over, and rivals then start at its levels; by request (g) it may hold shared writes, and a rival must show the same
-- shared target; by request (h) a rival keeps its own used pulses from the same start, under the same endurance.
-- The claim is about any machine that answers calls. That ours meets it is the theorem `demand3_begun` (proofs/Demand3) about `apply_of`, which is
-- the whole answer of the public function `apply` by its contract. Of a machine's answers it speaks of the number, the pulses and the group: of
-- the group's levels, caps, used pulses and endurance beside the rivals', and of the whole record by the checks that apply to it at the call that comes next. None
-- of these is left open along a list (proofs/Determined). The symbol, the verdict and the pushes are fixed by the contracts alone.
-- A list of calls may hold writes and shared writes into a lent list, of which a call has the room: both `apply_of`'s answer to such a call and, by their
-- contracts, those of `push_list::write_into` and `push_list::write_shared_into` are made of `write_into_of` and `write_shared_into_of`, and are the same in what
-- the claim speaks of (`into_applied`, `shared_into_applied`, plain_machine, proofs/Machine). The lent list is no part of a rival.
--
--   Rival               a rival at one moment: levels, caps, the pulses that each of its cells has ever taken and the endurance, as a group has them, and
--                       the pulses that it has spent
--   standing g q        our group, with q pulses so far, as a rival stands
--   lowered r ls, capped r cs    the rival with other levels, or other caps
--   Raised t r s        at an accepted write, shared write, store or scrub of target t it comes from r to s: it raises any cells by any amounts and lowers
--                       none; then the target shows in its levels, no level is above its cap and no cell is past the endurance; each cell's used pulses grow by its
--                       rise, and the rival's pulses by the sum of these rises
--   Follows k t r s     what it does at an accepted call of kind k and target t
--   Moves number k t r s    and at any call: one answered with number 0 was accepted; at any other nothing changes
--   entrant g           at first it has the levels, caps, used pulses and endurance of the record that the list starts from, and has spent none
--   latest r ss         where a rival stands that was at r and came to these states since
--   plain_after          the plain machine's group after one call: it goes with the accepted ones
--   Begun g             the record g is what an accepted open returned, or an accepted take-over: a list of calls may begin with it
--   is_worn_or_spent k     the number k of a call that is refused as worn, 8, or as spent, 19
--   Machine             the claim is about it: it answers a call on a record
--   after, pulses_of     its group after the calls, each handed the record as the call before left it, and what its answers add up to
--   plain               the plain machine's group after the calls: it has had the same start and the same accepted calls
--   Course, IsRival     a rival and its states after each of the calls. It is fed the arguments and whether each call was accepted; the target
--                       of a scrub is the codeword that the plain machine finds when it reads there
--   own g q cs          the machine's own course from the group g, with q pulses so far: its levels, caps, used pulses and endurance after each call,
--                       and the sum of the rises of its levels
--   Raisable            some rival so far can be raised to show t within the caps and the endurance
--   Demand3 g cs        the parts of demand 3, of a machine that starts from the group g and has had the calls cs
--   MeetsDemand3        the whole of demand 3: of every list of calls, from a record with which a list may begin
use Rattle.std.specs.Prelude.{ℕ, zero, suc, ◌+◌, ◌≤◌, ◌≡◌, ◌↔◌, Bool, true, ◌||◌, List, [], ◌∷◌, eqb, replicate}
use Rattle.order.specs.Refusals.{number_of, if_done, Told}
use Rattle.group.specs.declared.Group.{Group}
use Rattle.group.specs.Levels.{put, AtMost, rises, tallied, leaked}
use Rattle.group.specs.Record.{all_at_most}
use Rattle.push_up.specs.PushUp.{Shows}
use Rattle.changes.specs.Changes.{open_of}
use Rattle.take_over.specs.TakeOver.{take_over_of}
use Rattle.plain_machine.specs.declared.Kind.{Kind}
use Rattle.plain_machine.specs.declared.Kind.TheVariants.{Write, WriteInto, WriteShared, WriteSharedInto, Store, Scrub, Leak, Wear, Erase, Read}
use Rattle.plain_machine.specs.declared.Call.{Call}
use Rattle.engine.specs.Scrub.{Step}
use Rattle.plain_machine.specs.Machine.{writes, target, checks, earlier_checks, apply_of}

pub record Rival : Type 0 where
  pub levels : List ℕ
  pub caps : List ℕ
  pub used : List ℕ
  pub endurance : ℕ
  pub pulses : ℕ

abbrev pub standing : Group → ℕ → Rival
standing g q = record { levels = g.levels; caps = g.caps; used = g.used; endurance = g.endurance; pulses = q }

abbrev pub lowered : Rival → List ℕ → Rival
lowered r ls = record { levels = ls; caps = r.caps; used = r.used; endurance = r.endurance; pulses = r.pulses }

abbrev pub capped : Rival → List ℕ → Rival
capped r cs = record { levels = r.levels; caps = cs; used = r.used; endurance = r.endurance; pulses = r.pulses }

pub record Raised (t : List (List ℕ)) (r s : Rival) : Type 0 where
  pub no_lower : AtMost r.levels s.levels
  pub shows : Shows 1 t s.levels
  pub within : AtMost s.levels s.caps
  pub same_caps : s.caps ≡ r.caps
  pub tallies : s.used ≡ tallied r.used r.levels s.levels
  pub lasting : all_at_most s.endurance s.used ≡ true
  pub same_endurance : s.endurance ≡ r.endurance
  pub pulses : s.pulses ≡ r.pulses + rises r.levels s.levels

unfoldable pub Follows : Kind → List (List ℕ) → Rival → Rival → Type 0
Follows Write t r s = Raised t r s
Follows (WriteInto room) t r s = Raised t r s
Follows WriteShared t r s = Raised t r s
Follows (WriteSharedInto room) t r s = Raised t r s
Follows (Store symbol) t r s = Raised t r s
Follows Scrub t r s = Raised t r s
Follows (Leak c d) t r s = s ≡ lowered r (leaked c.0 d r.levels)
Follows (Wear c cap) t r s = s ≡ capped r (put r.caps c.0 cap)
Follows Erase t r s = s ≡ lowered r (replicate 12 0)
Follows Read t r s = s ≡ r

unfoldable pub Moves : ℕ → Kind → List (List ℕ) → Rival → Rival → Type 0
Moves zero k t r s = Follows k t r s
Moves (suc number) k t r s = s ≡ r

unfoldable pub entrant : Group → Rival
entrant g = standing g 0

unfoldable pub latest : Rival → List Rival → Rival
latest r [] = r
latest r (s ∷ ss) = latest s ss

-- the plain machine's group p after a call that was answered with this number
unfoldable pub plain_after : ℕ → Group → Call → Group
plain_after number p c = if_done number (apply_of p c).value.group p

pub data Begun : Group → Type 0 where
  by_open : (n e : ℕ) → (open_of n e).number ≡ 0 → Begun (open_of n e).value
  by_take_over : (n : ℕ) (levels caps used : List ℕ) (e : ℕ) → (take_over_of n levels caps used e).number ≡ 0 → Begun (take_over_of n levels caps used e).value

abbrev pub is_worn_or_spent : ℕ → Bool
is_worn_or_spent k = eqb k 8 || eqb k 19

abbrev pub Machine : Type 0
Machine = Group → Call → Told Step

module _ (run : Machine) where
  unfoldable pub after : Group → List Call → Group
  after g [] = g
  after g (c ∷ cs) = after (run g c).value.group cs

  unfoldable pub pulses_of : Group → List Call → ℕ
  pulses_of g [] = 0
  pulses_of g (c ∷ cs) = (run g c).value.pulses + pulses_of (run g c).value.group cs

  -- g is the machine's group, p the plain machine's, r where the rival stands
  pub data Course : Group → Group → Rival → List Call → List Rival → Type 0 where
    rest : {g p : Group} {r : Rival} → Course g p r [] []
    next : {g p : Group} {r s : Rival} {c : Call} {cs : List Call} {ss : List Rival}
        → Moves (run g c).number c.kind (target p c) r s → Course (run g c).value.group (plain_after (run g c).number p c) s cs ss → Course g p r (c ∷ cs) (s ∷ ss)

  abbrev pub IsRival : Group → List Call → List Rival → Type 0
  IsRival g cs ss = Course g g (entrant g) cs ss

  -- the plain machine's group after the calls
  unfoldable pub plain : Group → Group → List Call → Group
  plain g p [] = p
  plain g p (c ∷ cs) = plain (run g c).value.group (plain_after (run g c).number p c) cs

  unfoldable pub own : Group → ℕ → List Call → List Rival
  own g q [] = []
  own g q (c ∷ cs) =
      let h = (run g c).value.group in
      let more = q + rises g.levels h.levels in
      standing h more ∷ own h more cs

  unfoldable pub Raisable : Group → List Call → List (List ℕ) → Type 0
  Raisable g cs t = (ss : List Rival) × IsRival g cs ss × (s : Rival) × Raised t (latest (entrant g) ss) s

  pub record Demand3 (g : Group) (cs : List Call) : Type 0 where
    -- number 0 is given exactly when nothing else in the refusal table applies, and else the number of the first check that does
    pub answered : (c : Call) → (run (after g cs) c).number ≡ number_of (checks (after g cs) c)
    -- the check that applies first to the record that the next call is handed, as the call before left it, is the one that applies first to the
    -- plain machine's
    pub handed : (c : Call) → number_of (checks (after g cs) c) ≡ number_of (checks (plain g g cs) c)
    -- no rival has any cell lower than ours
    pub lowest : (ss : List Rival) → IsRival g cs ss → AtMost (after g cs).levels (latest (entrant g) ss).levels
    -- and, beyond the words of the demand: no rival has a cell that has taken fewer pulses than ours
    pub least_used : (ss : List Rival) → IsRival g cs ss → AtMost (after g cs).used (latest (entrant g) ss).used
    -- every rival has spent at least as many pulses as our answers add up to
    pub cheapest : (ss : List Rival) → IsRival g cs ss → pulses_of g cs ≤ (latest (entrant g) ss).pulses
    -- our own course is one of the rivals
    pub ours : IsRival g cs (own g 0 cs)
    -- and its pulses are exactly what our answers add up to
    pub exact : (latest (entrant g) (own g 0 cs)).pulses ≡ pulses_of g cs
    -- a write, shared write, store or scrub that comes next and passes the earlier checks is refused as worn or as spent exactly when no rival so far can be
    -- raised to show its target within the caps and the endurance
    pub stuck_exactly : (c : Call) → writes c.kind ≡ true → number_of (earlier_checks (after g cs) c) ≡ 0
        → (is_worn_or_spent (run (after g cs) c).number ≡ true) ↔ (¬ (Raisable g cs (target (plain g g cs) c)))

  abbrev pub MeetsDemand3 : Type 0
  MeetsDemand3 = (g : Group) → Begun g → (cs : List Call) → Demand3 g cs
