-- What a write into a list of so many places may answer, over the mark that it leaves and the ranks of its target: that of an order and a shared one are such
-- answers. So a group stays a group; the pushes have room; and they are a program from the old levels to the new ones, of the pulses that the answer tells.
-- Assumes nothing.
use Prim.Native.Nat.{ℕ, zero, suc, ◌-◌, ◌≤◌, zero-le}
use mathlib.Core.Path.{◌≡◌, refl}
use mathlib.Core.Bool.{Bool}
use mathlib.Core.List.{List}
use native.Mathlib.Omega.{arith}
use lib.ListN.{length}
use Rattle.order.specs.declared.Order.{Order}
use Rattle.order.specs.declared.Refusal.{Refusal}
use Rattle.order.specs.Refusals.{number_of, if_done, Told, answer}
use Rattle.order.specs.Order.{listed}
use Rattle.order.proofs.Check.{order_parts}
use Rattle.order.proofs.Refusals.{check_held}
use Rattle.group.specs.declared.Group.{Group}
use Rattle.group.specs.Record.{IsGroup}
use Rattle.group.proofs.Checks.{checked_size}
use Rattle.push_up.specs.PushUp.{pulses_in}
use Rattle.push_up.specs.PushProgram.{counted, IsPushProgram}
use Rattle.push_up.specs.WriteAnswer.{Program, push_checks, pushed, unpushed}
use Rattle.push_up.proofs.Orders.{TargetOf, order_target}
use Rattle.push_up.proofs.Programs.{counted_pulses, counted_program, no_pushes}
use Rattle.push_up.proofs.Writes.{pushes_few, group_pushed}
use Rattle.sharing.specs.declared.Ranked.{Ranked}
use Rattle.sharing.proofs.Targets.{shared_target_lem}
use Rattle.push_room.specs.Room.{room_checks, write_into_of, write_shared_into_of}
use Rattle.push_room.proofs.Roomy.{room_held}

-- what is known past the checks: a size, room, a target of the group's cells, and new levels within their caps
pub record Passed (g : Group) (room : ℕ) (ranks : List (List ℕ)) : Type 0 where
  pub size : g.n ≤ 12
  pub enough : g.n - 1 ≤ room
  pub target : TargetOf g.n ranks
  pub caps : number_of (push_checks g ranks) ≡ 0

-- an accepted write carries the push-up to its target, a refused one the record given and no pushes
pub data AnswerInto (g : Group) (room : ℕ) : Told Program → Type 0 where
  done : (mark : Bool) (ranks : List (List ℕ)) → Passed g room ranks → AnswerInto g room (record { number = 0; value = pushed mark g ranks })
  refused : (k : ℕ) → AnswerInto g room (record { number = suc k; value = unpushed g })

module _ (g : Group) (room : ℕ) where
  -- ---- the two calls

  -- whatever a call checks after the room, if it tells that its target is one of the group's cells and that the new levels are within their caps
  module _ (mark : Bool) (ranks : List (List ℕ)) (later : List (Bool × Refusal))
      (told : number_of later ≡ 0 → TargetOf g.n ranks × (number_of (push_checks g ranks) ≡ 0)) where
    passed : number_of (room_checks g room later) ≡ 0 → Passed g room ranks
    passed e =
        let (checked, enough, held) = room_held g room later e in
        let (target, caps) = told held in
        record { size = (checked_size g checked).1; enough = enough; target = target; caps = caps }

    answer_by : (k : ℕ) → (k ≡ 0 → Passed g room ranks) → AnswerInto g room (record { number = k; value = if_done k (pushed mark g ranks) (unpushed g) })
    answer_by zero p = done mark ranks (p refl)
    answer_by (suc k) p = refused k

    answers : AnswerInto g room (answer (room_checks g room later) (pushed mark g ranks) (unpushed g))
    unfolding answer
    answers = answer_by (number_of (room_checks g room later)) passed

  pub into_answer : (o : Order) → AnswerInto g room (write_into_of g o room)
  unfolding write_into_of
  into_answer o =
      answers _ _ _
      (λ e.
      let (ordered, caps) = check_held _ _ _ e in
      (order_target g.n (listed o) (order_parts g.n o ordered).1.order, caps))

  pub shared_into_answer : (t : Ranked) → AnswerInto g room (write_shared_into_of g t room)
  unfolding write_shared_into_of
  shared_into_answer t =
      answers _ _ _
      (λ e.
      let (sized, rest) = check_held _ _ _ e in
      let (ordered, caps) = check_held _ _ _ rest in
      (shared_target_lem g.n t sized ordered, caps))

module _ {g : Group} {room : ℕ} where
  -- ---- what such an answer carries

  -- a group stays a group
  pub into_group : {t : Told Program} → AnswerInto g room t → IsGroup g → IsGroup t.value.group
  into_group (done mark ranks p) h = group_pushed mark g ranks h p.caps
  into_group (refused k) h = h

  -- the pushes have room, in the answer and in the list
  pub into_few : {t : Told Program} → AnswerInto g room t → (t.value.count ≤ 11) × (t.value.count ≤ room)
  into_few (done mark ranks p) =
      let few = pushes_few mark g ranks p.target in
      (omega (arith, few, p.size), omega (arith, few, p.enough))
  into_few (refused k) = (zero-le, zero-le)

  -- their pulses are the answer's, and they are a push program from the levels that the call found to those that it left
  pub into_pulses : {t : Told Program} → AnswerInto g room t → t.value.pulses ≡ pulses_in (counted t.value.count t.value.pushes)
  unfolding pulses_in
  into_pulses (done mark ranks p) = counted_pulses mark g ranks
  into_pulses (refused k) = refl

  pub into_program : {t : Told Program} → AnswerInto g room t → length g.levels ≡ 12
      → IsPushProgram (counted t.value.count t.value.pushes) g.levels t.value.group.levels
  into_program (done mark ranks p) twelve = counted_program mark g ranks p.target (omega (arith, twelve, p.size))
  into_program (refused k) twelve = no_pushes g.levels
