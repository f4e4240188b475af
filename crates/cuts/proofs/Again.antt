-- Which calls write the same target again: the same write or shared write, by value or into a lent list, and the same store; and, also where a scrub was cut, the
-- write of the order that is its target, or the store of the symbol that the scrub tells. The same scrub is none: in a group half written it may find another
-- codeword (`scrub_misled`, proofs/Bench). So every list of cuts is repaired by such calls; and a write or a shared write, cut once, in the request's own words.
-- Assumes nothing.
use Prim.Native.Nat.{ℕ, ◌+◌, ◌-◌}
use mathlib.Core.Path.{◌≡◌, refl, sym, ap, ◌∙◌}
use mathlib.Core.Bool.{Bool, true, false, false≢true}
use mathlib.Core.List.{List, [], ◌∷◌, ◌++◌, map, flatten}
use native.Mathlib.Omega.{arith}
use lib.Dec.{leb, ltb}
use lib.ListN.{length}
use borrow.Author.Tests.{lt-ltb}
use Rattle.order.specs.declared.Order.{Order}
use Rattle.order.specs.declared.Refusal.{Refusal}
use Rattle.order.specs.declared.Refusal.TheVariants.{ListShort, NoOrder, NoSymbol, RankSizes}
use Rattle.order.specs.Refusals.{number_of, Told}
use Rattle.order.specs.Order.{is_order_of, order_record}
use Rattle.order.proofs.Refusals.{check_holds, all_held, all_hold, later_decide}
use Rattle.order.proofs.Records.{recorded_list, recorded_order}
use Rattle.code.specs.Words.{K}
use Rattle.code.specs.Symbols.{word_of}
use Rattle.group.specs.declared.Group.{Group}
use Rattle.group.specs.Record.{group_checks, IsGroup}
use Rattle.group.proofs.Checks.{checked_size}
use Rattle.push_up.specs.declared.Push.{Push}
use Rattle.push_up.specs.PushUp.{singles}
use Rattle.push_up.specs.WriteAnswer.{Program, write_of}
use Rattle.push_up.specs.PushProgram.{counted}
use Rattle.push_up.proofs.Orders.{flatten_singles}
use Rattle.sharing.specs.declared.Ranked.{Ranked}
use Rattle.sharing.specs.Shared.{is_sizes, shared_target, write_shared_of, plain_target}
use Rattle.push_room.specs.Room.{write_into_of, write_shared_into_of}
use Rattle.push_list.specs.LentWrite.{list_after}
use Rattle.push_room.proofs.Answers.{into_answer, shared_into_answer}
use Rattle.push_list.proofs.Written.{list_counted}
use Rattle.engine.specs.ReadStore.{reading_of}
use Rattle.engine.proofs.Scrubs.{symbol_word, symbol_low}
use Rattle.plain_machine.specs.declared.Kind.{Kind}
use Rattle.plain_machine.specs.declared.Kind.TheVariants.{Write, WriteInto, WriteShared, WriteSharedInto, Store, Scrub, Leak, Wear, Erase, Read}
use Rattle.plain_machine.specs.declared.Call.{Call}
use Rattle.plain_machine.specs.Machine.{writes, marks, target_by, target, earlier_by, earlier_checks, apply_of}
use Rattle.plain_machine.proofs.Machine.{apply_number, apply_value, done_checks, checked_group, target_order}
use Rattle.cuts.specs.Cuts.{Cut, IsCut, pulses_at, taken_from, IsWriteOf, Retry, program_of, taken_at, AreRetries, AllTaken, last_answer, pulses_before, Repaired}
use Rattle.cuts.proofs.Repairs.{taken_group, cut_taken, taken_group_lem, again_accepted, cuts_repaired}

-- a call that names its target, which then does not depend on what is read: a write, a shared write or a store
abbrev pub names_target : Kind → Bool
names_target Write = true
names_target (WriteInto room) = true
names_target WriteShared = true
names_target (WriteSharedInto room) = true
names_target (Store s) = true
names_target Scrub = false
names_target (Leak c d) = false
names_target (Wear c cap) = false
names_target Erase = false
names_target Read = false

module _ (g h : Group) (d : number_of (group_checks h) ≡ 0) (n : h.n ≡ g.n) where
  -- past the checks of the record, what is checked depends on n alone
  checks_again : (f : ℕ → List (Bool × Refusal)) → number_of (group_checks g ++ f g.n) ≡ 0 → number_of (group_checks h ++ f h.n) ≡ 0
  checks_again f e = later_decide (f h.n) (group_checks h) d ∙ rw n (all_held (f g.n) (group_checks g) e).1

  passes_again : (a : Ranked) (k : Kind) → names_target k ≡ true → number_of (earlier_by g a k) ≡ 0 → number_of (earlier_by h a k) ≡ 0
  passes_again a Write w e = checks_again (λ m. (is_order_of m a.cells, NoOrder) ∷ []) e
  passes_again a (WriteInto room) w e = checks_again (λ m. (leb (m - 1) room, ListShort) ∷ (is_order_of m a.cells, NoOrder) ∷ []) e
  passes_again a WriteShared w e = checks_again (λ m. (is_sizes m a, RankSizes) ∷ (is_order_of m a.cells, NoOrder) ∷ []) e
  passes_again a (WriteSharedInto room) w e = checks_again (λ m. (leb (m - 1) room, ListShort) ∷ (is_sizes m a, RankSizes) ∷ (is_order_of m a.cells, NoOrder) ∷ []) e
  passes_again a (Store s) w e = checks_again (λ m. (ltb s (K m), NoSymbol) ∷ []) e
  passes_again a Scrub w e = absurd (false≢true w)
  passes_again a (Leak c d) w e = absurd (false≢true w)
  passes_again a (Wear c cap) w e = absurd (false≢true w)
  passes_again a Erase w e = absurd (false≢true w)
  passes_again a Read w e = absurd (false≢true w)

target_again : (g h : Group) (a : Ranked) (k : Kind) → names_target k ≡ true → h.n ≡ g.n → target_by h a k ≡ target_by g a k
target_again g h a Write w n = refl
target_again g h a (WriteInto room) w n = refl
target_again g h a WriteShared w n = ap (λ (m : ℕ). shared_target m a) n
target_again g h a (WriteSharedInto room) w n = ap (λ (m : ℕ). shared_target m a) n
target_again g h a (Store s) w n = ap (λ (m : ℕ). singles (word_of m s)) n
target_again g h a Scrub w n = absurd (false≢true w)
target_again g h a (Leak c d) w n = refl
target_again g h a (Wear c cap) w n = refl
target_again g h a Erase w n = refl
target_again g h a Read w n = refl

-- the write of the order that lists the cells of these ranks
abbrev pub target_write : List (List ℕ) → Call
target_write t = record { kind = Write; target = plain_target (order_record (flatten t)) }

module _ (g : Group) (c : Call) (w : writes c.kind ≡ true) (e : (apply_of g c).number ≡ 0) where
  earlier : number_of (earlier_checks g c) ≡ 0
  earlier = (done_checks g c w (sym (apply_number g c) ∙ e)).0

  -- an accepted one of these is a write of the same target to any group of as many cells
  pub same_call : names_target c.kind ≡ true → IsWriteOf g.n (target g c) (marks c.kind) c
  same_call s =
      record {
        raises = w;
        mark = refl;
        same = λ h n. target_again g h c.target c.kind s n;
        passes = λ h n k. passes_again g h k.passes n c.target c.kind s earlier;
      }

  -- so is, where the target is an order, the write of it
  pub target_write_lem : marks c.kind ≡ true → IsWriteOf g.n (target g c) true (target_write (target g c))
  target_write_lem m =
      let (xs, t, shown) = target_order g c.target c.kind m earlier in
      let size = checked_size g (checked_group g c.target c.kind w earlier) in
      let cells : flatten (target g c) ≡ xs = ap flatten shown ∙ flatten_singles xs in
      let is-order = rw (← cells) at (recorded_order g.n xs t size.0 size.1) in
      record {
        raises = refl;
        mark = refl;
        same = λ h n. rw cells (ap singles (recorded_list g.n xs t size.0 size.1)) ∙ sym shown;
        passes = λ h n k. later_decide _ (group_checks h) k.passes ∙ check_holds NoOrder [] (rw n is-order) ∙ all_hold;
      }

-- and, after a scrub, the store of the symbol that it tells
module _ (g : Group) (a : Ranked) where
  abbrev scrubbing : Call
  scrubbing = record { kind = Scrub; target = a }

  pub symbol_store : (e : (apply_of g scrubbing).number ≡ 0)
      → IsWriteOf g.n (target g scrubbing) true (record { kind = Store (apply_of g scrubbing).value.symbol; target = a })
  symbol_store e =
      let done = sym (apply_number g scrubbing) ∙ e in
      let read = (done_checks g scrubbing refl done).0 in
      let told : (apply_of g scrubbing).value.symbol ≡ (reading_of g).symbol = rw (apply_value g scrubbing, done) refl in
      rw told
      (record {
        raises = refl;
        mark = refl;
        same = λ h n. ap singles (ap (λ (m : ℕ). word_of m (reading_of g).symbol) n ∙ symbol_word g read);
        passes = λ h n k. later_decide _ (group_checks h) k.passes ∙ check_holds NoSymbol [] (rw n (lt-ltb _ _ (symbol_low g read))) ∙ all_hold;
      })

-- ---- a list of cuts, the same call made after each

-- each cuts the program of the call before it: first that of c, then those of d
unfoldable pub AreCuts : Group → Call → Call → List Cut → Type 0
AreCuts g c d [] = Unit {0}
AreCuts g c d (cut ∷ cuts) = IsCut (program_of apply_of g c) cut × AreCuts (taken_at apply_of g c cut).value d d cuts

abbrev pub retries : Call → List Cut → List Retry
retries d cuts = map (λ (cut : Cut). record { cut = cut; again = d }) cuts

are_retries : (g : Group) → IsGroup g → (c : Call) → writes c.kind ≡ true → (apply_of g c).number ≡ 0 → (d : Call) → IsWriteOf g.n (target g c) (marks c.kind) d
    → (cuts : List Cut) → AreCuts g c d cuts → AreRetries apply_of g c (retries d cuts)
unfolding AreCuts AreRetries
are_retries g h c w e d s [] a = tt
are_retries g h c w e d s (cut ∷ cuts) a =
    let new = taken_group g h c w e cut a.0 in
    let taken = cut_taken g h c w e cut a.0 in
    let accepted = again_accepted g h c w e cut a.0 d s in
    let again : IsWriteOf new.n (target new d) (marks d.kind) d = rw (s.same new refl, s.mark) s in
    let later = are_retries new (taken_group_lem g h c w e cut a.0) d s.raises accepted d again cuts (rw taken at a.1) in
    (a.0, s, rw taken later)

pub list_repaired : (g : Group) → IsGroup g → (c : Call) → writes c.kind ≡ true → (apply_of g c).number ≡ 0 → (d : Call) → IsWriteOf g.n (target g c) (marks c.kind) d
    → (cuts : List Cut) → AreCuts g c d cuts → Repaired apply_of g c (retries d cuts)
list_repaired g h c w e d s cuts a = search (arith, cuts_repaired, are_retries)

-- the push program of a write or a shared write into a lent list stands in that list
pub lent_program : (g : Group) (a : Ranked) (list : List Push)
    → let p = write_into_of g a.cells (length list) in
    counted p.value.count (list_after p list) ≡ program_of apply_of g (record { kind = WriteInto (length list); target = a })
unfolding apply_of
lent_program g a list = list_counted list (into_answer g (length list) a.cells)

pub shared_lent_program : (g : Group) (a : Ranked) (list : List Push)
    → let p = write_shared_into_of g a (length list) in
    counted p.value.count (list_after p list) ≡ program_of apply_of g (record { kind = WriteSharedInto (length list); target = a })
unfolding apply_of
shared_lent_program g a list = list_counted list (shared_into_answer g (length list) a)

-- ---- one cut, and the same call again

module _ (g : Group) (c : Call) (h : IsGroup g) (w : writes c.kind ≡ true) (s : names_target c.kind ≡ true) (e : (apply_of g c).number ≡ 0) (cut : Cut) where
  call_repaired : IsCut (program_of apply_of g c) cut
      → let taken = taken_at apply_of g c cut in
      let again = apply_of taken.value c in
      (taken.number ≡ 0)
      × (again.number ≡ 0)
      × (again.value.group ≡ (apply_of g c).value.group)
      × (pulses_at (program_of apply_of g c) cut + again.value.pulses ≡ (apply_of g c).value.pulses)
  unfolding AreCuts AllTaken last_answer pulses_before
  call_repaired k =
      let r = list_repaired g h c w e c (same_call g c w e s) (cut ∷ []) (k, tt) in
      (r.taken.0, r.accepted, r.same, omega (arith, r.pulses))

-- the requests' own sentences, of a write and of a shared write: the group taken over with its levels and used pulses at the cut, and the caps and the endurance it
-- had, and written the same target
abbrev pub program_in : Told Program → List Push
program_in t = counted t.value.count t.value.pushes

-- uncut is the answer without a cut, taken the take-over, and afterwards the answer to the same target again: the whole group is the same, so its levels are, and
-- its used pulses
pub record Mended (uncut : Told Program) (cut : Cut) (taken : Told Group) (afterwards : Told Program) : Type 0 where
  pub over : taken.number ≡ 0
  pub accepted : afterwards.number ≡ 0
  pub same : afterwards.value.group ≡ uncut.value.group
  pub pulses : pulses_at (program_in uncut) cut + afterwards.value.pulses ≡ uncut.value.pulses

module _ (g : Group) (h : IsGroup g) (cut : Cut) where
  pub write_repaired : (o : Order) → (write_of g o).number ≡ 0 → IsCut (program_in (write_of g o)) cut
      → let taken = taken_from g (program_in (write_of g o)) cut in Mended (write_of g o) cut taken (write_of taken.value o)
  unfolding apply_of taken_at
  write_repaired o e k =
      let r = call_repaired g (record { kind = Write; target = plain_target o }) h refl refl e cut k in
      record { over = r.0; accepted = r.1; same = r.2; pulses = r.3 }

  pub shared_repaired : (t : Ranked) → (write_shared_of g t).number ≡ 0 → IsCut (program_in (write_shared_of g t)) cut
      → let taken = taken_from g (program_in (write_shared_of g t)) cut in Mended (write_shared_of g t) cut taken (write_shared_of taken.value t)
  unfolding apply_of taken_at
  shared_repaired t e k =
      let r = call_repaired g (record { kind = WriteShared; target = t }) h refl refl e cut k in
      record { over = r.0; accepted = r.1; same = r.2; pulses = r.3 }
