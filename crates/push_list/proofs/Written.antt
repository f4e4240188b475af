-- The lent list after a write into it, over any answer of such a write (push_room, proofs Answers), be its target an order or a shared one: with room
-- enough the list starts with the pushes of the write by value, which are a program from the old levels to the new ones.
-- Assumes nothing.
use Prim.Native.Nat.{ℕ, ◌-◌, ◌≤◌}
use mathlib.Core.Path.{◌≡◌, refl, ap, ◌∙◌}
use mathlib.Core.Bool.{Bool, true, false}
use mathlib.Core.List.{List, ◌++◌}
use lib.ListN.{length, drop}
use lib.Seq.{take_at}
use Rattle.order.specs.declared.Order.{Order}
use Rattle.order.specs.declared.Refusal.{Refusal}
use Rattle.order.specs.Refusals.{number_of, Told, answer}
use Rattle.order.specs.Order.{listed}
use Rattle.order.proofs.Refusals.{picked_zeros}
use Rattle.group.specs.declared.Group.{Group}
use Rattle.push_up.specs.declared.Push.{Push}
use Rattle.push_up.specs.PushUp.{singles, pushes, pulses_in}
use Rattle.push_up.specs.PushProgram.{counted, IsPushProgram}
use Rattle.push_up.specs.WriteAnswer.{Program, pushed, unpushed, write_of}
use Rattle.sharing.specs.declared.Ranked.{Ranked}
use Rattle.sharing.specs.Shared.{shared_target, write_shared_of}
use Rattle.push_room.specs.Room.{write_into_of, write_shared_into_of}
use Rattle.push_room.proofs.Roomy.{into_written, shared_into_written}
use Rattle.push_room.proofs.Answers.{AnswerInto, done, refused, into_answer, shared_into_answer, into_pulses, into_program}
use Rattle.push_list.specs.LentWrite.{filled, list_after}

abbrev pub filled_by : Told Program → List Push → List Push
filled_by t list = filled t.value.count t.value.pushes list

-- a refusal carries no pushes, so that the list is filled by whatever the answer carries
pub list_filled : {g : Group} {room : ℕ} (list : List Push) {t : Told Program} → AnswerInto g room t → list_after t list ≡ filled_by t list
unfolding list_after
list_filled list (done mark ranks p) = refl
list_filled list (refused k) = refl

-- and leaves the list as it was
pub refused_keeps : (t : Told Program) (list : List Push) → (t.number ≡ 0 → ⊥) → list_after t list ≡ list
unfolding list_after
refused_keeps t list f = picked_zeros t.number _ list f

-- ---- the pushes in the list

module _ {g : Group} {room : ℕ} (list : List Push) where
  -- as many as the answer counts are those of the answer by value
  pub list_counted : {t : Told Program} → AnswerInto g room t → counted t.value.count (list_after t list) ≡ counted t.value.count t.value.pushes
  unfolding list_after pushed
  list_counted (done mark ranks p) =
      let program = pushes 1 ranks g.levels in
      rw (take_at program _ (length program) refl, take_at program _ (length program) refl)
  list_counted (refused k) = refl

  -- their pulses are the answer's, and they are a push program from the levels that the call found to those that it left
  pub list_pulses : {t : Told Program} → AnswerInto g room t → t.value.pulses ≡ pulses_in (counted t.value.count (list_after t list))
  list_pulses a = rw (list_counted a) (into_pulses a)

  pub list_program : {t : Told Program} → AnswerInto g room t → length g.levels ≡ 12
      → IsPushProgram (counted t.value.count (list_after t list)) g.levels t.value.group.levels
  list_program a twelve = rw (list_counted a) (into_program a twelve)

-- ---- the two calls

module _ (g : Group) (list : List Push) where
  -- whatever it checks, an accepted call leaves its push program first
  accepted_first : (checks : List (Bool × Refusal)) (mark : Bool) (ranks : List (List ℕ)) → number_of checks ≡ 0
      → let program = pushes 1 ranks g.levels in list_after (answer checks (pushed mark g ranks) (unpushed g)) list ≡ program ++ drop (length program) list
  unfolding list_after answer pushed
  accepted_first checks mark ranks e = let program = pushes 1 ranks g.levels in rw (e, take_at program _ (length program) refl)

  pub program_first : (o : Order) → (write_into_of g o (length list)).number ≡ 0
      → let program = pushes 1 (singles (listed o)) g.levels in list_after (write_into_of g o (length list)) list ≡ program ++ drop (length program) list
  unfolding write_into_of answer
  program_first o e = accepted_first _ true (singles (listed o)) e

  pub shared_program_first : (t : Ranked) → (write_shared_into_of g t (length list)).number ≡ 0
      → let program = pushes 1 (shared_target g.n t) g.levels in list_after (write_shared_into_of g t (length list)) list ≡ program ++ drop (length program) list
  unfolding write_shared_into_of answer
  shared_program_first t e = accepted_first _ false (shared_target g.n t) e

-- with room enough the list is filled by the answer of the write by value
module _ (g : Group) (list : List Push) (l : g.n - 1 ≤ length list) where
  pub list_written : (o : Order) → list_after (write_into_of g o (length list)) list ≡ filled_by (write_of g o) list
  list_written o = list_filled list (into_answer g (length list) o) ∙ ap (λ (t : Told Program). filled_by t list) (into_written g (length list) o l)

  pub shared_list_written : (t : Ranked) → list_after (write_shared_into_of g t (length list)) list ≡ filled_by (write_shared_of g t) list
  shared_list_written t = list_filled list (shared_into_answer g (length list) t) ∙ ap (λ (u : Told Program). filled_by u list) (shared_into_written g (length list) t l)
