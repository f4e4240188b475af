-- What demand 3 determines of a machine. After every list of calls from a group that was opened or taken over, one that meets it has the plain machine's
-- group, its answers have added up to the same pulses, and its answer to the next call has the plain machine's number, group and pulses. The symbol, the
-- verdict and the pushes are left to the contracts.
-- Assumes nothing.
use Prim.Native.Nat.{ℕ, ◌+◌, ◌≤◌}
use mathlib.Core.Path.{◌≡◌, refl, sym, ◌∙◌}
use mathlib.Core.Bool.{Bool, true, false}
use mathlib.Core.List.{List, [], ◌∷◌, ◌++◌}
use native.Mathlib.Omega.{arith}
use lib.Dec.{ltb}
use borrow.Author.Tests.{le-leb}
use Rattle.order.specs.declared.Refusal.TheVariants.{NoCell, Blank, Lost}
use Rattle.order.specs.Refusals.{number_of}
use Rattle.order.specs.Order.{no_order}
use Rattle.order.proofs.Refusals.{all_held, check_held, check_holds, check_fails, later_decide, all_hold}
use Rattle.group.specs.declared.Group.{Group}
use Rattle.group.specs.Record.{group_checks, IsGroup}
use Rattle.group.proofs.Levels.{at_most_antisym}
use Rattle.group.proofs.Checks.{checked_size, cell_true}
use Rattle.engine.specs.ReadStore.{place_read}
use Rattle.plain_machine.specs.declared.Kind.TheVariants.{Leak, Read}
use Rattle.sharing.specs.Shared.{plain_target}
use Rattle.plain_machine.specs.declared.Call.{Call}
use Rattle.plain_machine.specs.Machine.{target, checks, apply_of}
use Rattle.plain_machine.proofs.Machine.{apply_number}
use Rattle.rivals.specs.Rivals.{Rival, standing, entrant, latest, Moves, Machine, after, pulses_of, plain_after, Course, rest, next, plain, own, Demand3, Begun, MeetsDemand3}
use Rattle.rivals.proofs.Demand3.{plain_step, our_end, side, group_after_lem, demand3, begun_group}

-- ---- a record to which, at every call, the same check applies first as to a group has that group's n and mark

abbrev leaking : ℕ → Call
leaking k = record { kind = Leak (record { 0 = k }) 0; target = plain_target no_order }

abbrev reading : Call
reading = record { kind = Read; target = plain_target no_order }

leak_held : (g : Group) (k : ℕ) → number_of (checks g (leaking k)) ≡ 0 → (number_of (group_checks g) ≡ 0) × (k ≤ g.n)
leak_held g k e = search (arith, all_held, cell_true, check_held)

module _ (g : Group) (d : number_of (group_checks g) ≡ 0) where
  leak_holds : number_of (checks g (leaking g.n)) ≡ 0
  leak_holds =
      let size = checked_size g d in
      later_decide _ (group_checks g) d ∙ check_holds NoCell [] (rw (le-leb 1 g.n (omega (arith, size)), le-leb g.n g.n (omega arith))) ∙ all_hold

  blank_read : g.written ≡ false → number_of (checks g reading) ≡ 6
  blank_read w = later_decide _ (group_checks g) d ∙ check_fails Blank _ w

  marked_read : g.written ≡ true → number_of (checks g reading) ≡ 6 → ⊥
  marked_read w e = go (ltb (place_read g) g.n) refl
    where
      past : number_of (checks g reading) ≡ number_of ((ltb (place_read g) g.n, Lost) ∷ [])
      past = later_decide _ (group_checks g) d ∙ check_holds Blank _ w

      go : (b : Bool) → ltb (place_read g) g.n ≡ b → ⊥
      go true f = let z : ◌≡◌ {A = ℕ} 6 0 = sym e ∙ past ∙ check_holds Lost [] f ∙ all_hold in omega arith
      go false f = let z : ◌≡◌ {A = ℕ} 6 7 = sym e ∙ past ∙ check_fails Lost [] f in omega arith

module _ (g h : Group) (same : (c : Call) → number_of (checks g c) ≡ number_of (checks h c)) (d : number_of (group_checks h) ≡ 0) where
  n_low : (number_of (group_checks g) ≡ 0) × (h.n ≤ g.n)
  n_low = leak_held g h.n (same (leaking h.n) ∙ leak_holds h d)

  n_high : g.n ≤ h.n
  n_high = (leak_held h g.n (sym (same (leaking g.n)) ∙ leak_holds g n_low.0)).1

  checked_n : g.n ≡ h.n
  checked_n = omega (arith, n_low.1, n_high)

  checked_mark : g.written ≡ h.written
  checked_mark = go g.written refl h.written refl
    where
      go : (b : Bool) → g.written ≡ b → (c : Bool) → h.written ≡ c → b ≡ c
      go true v true w = refl
      go false v false w = refl
      go true v false w = absurd (marked_read g n_low.0 v (same reading ∙ blank_read h d w))
      go false v true w = absurd (marked_read h d w (sym (same reading) ∙ blank_read g n_low.0 v))

-- ---- a machine that answers with the plain machine's numbers has the plain machine's rivals

module _ (run : Machine) where
  -- from g on the machine answers with the numbers of the plain machine from p on
  record Numbered (g p : Group) : Type 0 where
    next_call : (cs : List Call) (c : Call) → (run (after run g cs) c).number ≡ number_of (checks (plain run g p cs) c)

  module _ {g p : Group} (a : Numbered g p) (c : Call) where
    same_here : (run g c).number ≡ (apply_of p c).number
    unfolding after plain
    same_here = a.next_call [] c ∙ sym (apply_number p c)

    plain_goes : plain_after (run g c).number p c ≡ (apply_of p c).value.group
    plain_goes = rw same_here (plain_step p c)

    numbered_next : Numbered (run g c).value.group (apply_of p c).value.group
    unfolding after plain
    numbered_next = record { next_call = λ cs d. rw plain_goes at (a.next_call (c ∷ cs) d) }

  plain_same : (g p : Group) → Numbered g p → (cs : List Call) → plain run g p cs ≡ after apply_of p cs
  unfolding plain after
  plain_same g p a [] = refl
  plain_same g p a (c ∷ cs) = rw (plain_goes a c) (plain_same (run g c).value.group (apply_of p c).value.group (numbered_next a c) cs)

  to_plain : (g p : Group) → Numbered g p → (cs : List Call) {r : Rival} {ss : List Rival} → Course run g p r cs ss → Course apply_of p p r cs ss
  to_plain g p a [] rest = rest
  to_plain g p a (c ∷ cs) (next {s = s} {ss = ss} m k) =
      let new = (apply_of p c).value.group in
      let later : Course apply_of new (plain_after (apply_of p c).number p c) s cs ss = rw (plain_step p c) (to_plain (run g c).value.group new (numbered_next a c) cs (rw (plain_goes a c) at k)) in
      next (rw (same_here a c) at m) later

  from_plain : (g p : Group) → Numbered g p → (cs : List Call) {r : Rival} {ss : List Rival} → Course apply_of p p r cs ss → Course run g p r cs ss
  from_plain g p a [] rest = rest
  from_plain g p a (c ∷ cs) (next {r = r} {s = s} {ss = ss} m k) =
      let new = (run g c).value.group in
      let later : Course run new (plain_after (run g c).number p c) s cs ss = rw (plain_goes a c) (from_plain new (apply_of p c).value.group (numbered_next a c) cs (rw (plain_step p c) at k)) in
      let move : Moves (run g c).number c.kind (target p c) r s = rw (same_here a c) m in
      next move later

  -- its own course ends at its group
  own_end : (g : Group) (q : ℕ) (cs : List Call)
      → let r = latest (standing g q) (own run g q cs) in
      (r.levels ≡ (after run g cs).levels) × (r.caps ≡ (after run g cs).caps) × (r.used ≡ (after run g cs).used) × (r.endurance ≡ (after run g cs).endurance)
  unfolding own latest after
  own_end g q [] = (refl, refl, refl, refl)
  own_end g q (c ∷ cs) = own_end (run g c).value.group _ cs

  -- ---- the theorem

  module _ (meets : MeetsDemand3 run) (start : Group) (b : Begun start) (cs : List Call) where
    group : IsGroup start
    group = begun_group b

    theirs : Demand3 run start cs
    theirs = meets start b cs

    ours : Demand3 apply_of start cs
    ours = demand3 start group cs

    numbered : Numbered start start
    numbered = record { next_call = λ ds c. (meets start b ds).answered c ∙ (meets start b ds).handed c }

    -- our course is one of its rivals, and its course one of ours
    our_rival : Course run start start (entrant start) cs (own apply_of start 0 cs)
    our_rival = from_plain start start numbered cs ours.ours

    their_rival : Course apply_of start start (entrant start) cs (own run start 0 cs)
    their_rival = to_plain start start numbered cs theirs.ours

    same_checks : (c : Call) → number_of (checks (after run start cs) c) ≡ number_of (checks (after apply_of start cs) c)
    same_checks c = rw (plain_same start start numbered cs) at (theirs.handed c)

    passes : number_of (group_checks (after apply_of start cs)) ≡ 0
    passes = (group_after_lem start cs group).passes

    same_levels : (after run start cs).levels ≡ (after apply_of start cs).levels
    unfolding entrant
    same_levels = search (arith, our_end, group, theirs, our_rival, own_end, ours, their_rival, at_most_antisym)

    same_caps : (after run start cs).caps ≡ (after apply_of start cs).caps
    unfolding entrant
    same_caps = search (arith, own_end, side, group, their_rival)

    same_used : (after run start cs).used ≡ (after apply_of start cs).used
    unfolding entrant
    same_used = search (arith, our_end, group, theirs, our_rival, own_end, ours, their_rival, at_most_antisym)

    same_endurance : (after run start cs).endurance ≡ (after apply_of start cs).endurance
    unfolding entrant
    same_endurance = search (arith, own_end, side, group, their_rival)

    pub same_group : after run start cs ≡ after apply_of start cs
    same_group =
        let size = checked_n (after run start cs) (after apply_of start cs) same_checks passes in
        let mark = checked_mark (after run start cs) (after apply_of start cs) same_checks passes in
        λ i. record { n = size i; levels = same_levels i; caps = same_caps i; used = same_used i; endurance = same_endurance i; written = mark i }

    pub same_pulses : pulses_of run start cs ≡ pulses_of apply_of start cs
    same_pulses = search (arith, theirs, ours, our_rival, their_rival)

    same_number : (c : Call) → (run (after run start cs) c).number ≡ (apply_of (after apply_of start cs) c).number
    same_number c = search (arith, theirs, same_checks, apply_number)

  -- ---- the answer to the next call

  after_next : (g : Group) (cs : List Call) (c : Call) → after run g (cs ++ c ∷ []) ≡ (run (after run g cs) c).value.group
  unfolding after
  after_next g [] c = refl
  after_next g (d ∷ cs) c = after_next (run g d).value.group cs c

  pulses_next : (g : Group) (cs : List Call) (c : Call) → pulses_of run g (cs ++ c ∷ []) ≡ pulses_of run g cs + (run (after run g cs) c).value.pulses
  unfolding after pulses_of
  pulses_next g [] c = omega arith
  pulses_next g (d ∷ cs) c = omega (arith, pulses_next (run g d).value.group cs c)

module _ (run : Machine) (meets : MeetsDemand3 run) (g : Group) (b : Begun g) (cs : List Call) (c : Call) where
  pub same_answer : let t = run (after run g cs) c in let u = apply_of (after apply_of g cs) c in
      (t.number ≡ u.number) × (t.value.group ≡ u.value.group) × (t.value.pulses ≡ u.value.pulses)
  same_answer =
      let all = same_pulses run meets g b (cs ++ c ∷ []) in (
        same_number run meets g b cs c,
        sym (after_next run g cs c) ∙ same_group run meets g b (cs ++ c ∷ []) ∙ after_next apply_of g cs c,
        omega (arith, all, same_pulses run meets g b cs, pulses_next run g cs c, pulses_next apply_of g cs c),
      )
