-- The check of the room: where it holds it decides nothing, so that the answer is that of the write by value; where it fails, and the record has passed, 10 is
-- the answer, whatever is checked later. So a write of an order into a list is the case of all sizes 1, mark aside.
-- Assumes nothing.
use Prim.Native.Nat.{ℕ, ◌-◌, ◌≤◌, ◌<◌}
use mathlib.Core.Path.{◌≡◌, refl, sym, ap, ◌∙◌}
use mathlib.Core.Logic.{◌≢◌}
use mathlib.Core.Bool.{Bool, true, false, false≢true}
use mathlib.Core.List.{List, [], ◌∷◌, ◌++◌}
use lib.Dec.{leb}
use borrow.Author.Tests.{leb-true, le-leb, lt-leb}
use Rattle.order.specs.declared.Order.{Order}
use Rattle.order.specs.declared.Refusal.{Refusal}
use Rattle.order.specs.declared.Refusal.TheVariants.{ListShort, NoOrder}
use Rattle.order.specs.Refusals.{refusal_number, number_of, answer}
use Rattle.order.specs.Order.{listed, is_order_of}
use Rattle.order.proofs.Refusals.{picked_zeros, all_held, check_held, check_fails, later_decide}
use Rattle.group.specs.declared.Group.{Group}
use Rattle.group.specs.Record.{group_checks}
use Rattle.push_up.specs.PushUp.{singles}
use Rattle.push_up.specs.WriteAnswer.{push_checks, pushed, unpushed, write_of}
use Rattle.sharing.specs.declared.Ranked.{Ranked}
use Rattle.sharing.specs.Shared.{ranked_checks, shared_target, write_shared_of, ones_target, unmarked}
use Rattle.sharing.proofs.Ones.{ones_write}
use Rattle.push_room.specs.Room.{room_checks, write_into_of, write_shared_into_of}

-- a check that holds decides nothing
held_between : (first later : List (Bool × Refusal)) (b : Bool) (r : Refusal) → b ≡ true → number_of (first ++ (b, r) ∷ later) ≡ number_of (first ++ later)
unfolding number_of
held_between [] later b r e = rw e
held_between ((true, s) ∷ first) later b r e = held_between first later b r e
held_between ((false, s) ∷ first) later b r e = refl

-- one that fails decides, whatever comes later
failed_same : (first later other : List (Bool × Refusal)) (r : Refusal) → number_of (first ++ (false, r) ∷ later) ≡ number_of (first ++ (false, r) ∷ other)
unfolding number_of
failed_same [] later other r = refl
failed_same ((true, s) ∷ first) later other r = failed_same first later other r
failed_same ((false, s) ∷ first) later other r = refl

failed_some : (first later : List (Bool × Refusal)) (r : Refusal) → number_of (first ++ (false, r) ∷ later) ≢ 0
failed_some first later r e = false≢true (check_held false r later (all_held ((false, r) ∷ later) first e).1).0

module _ (g : Group) (room : ℕ) where
  pub room_enough : (later : List (Bool × Refusal)) → g.n - 1 ≤ room → number_of (room_checks g room later) ≡ number_of (group_checks g ++ later)
  room_enough later l = held_between (group_checks g) later _ ListShort (le-leb (g.n - 1) room l)

  pub room_short : (later : List (Bool × Refusal)) → number_of (group_checks g) ≡ 0 → room < g.n - 1 → number_of (room_checks g room later) ≡ refusal_number ListShort
  room_short later d l = later_decide _ (group_checks g) d ∙ check_fails _ _ (lt-leb (g.n - 1) room l)

  -- past all checks the record and the later ones have passed too
  pub room_held : (later : List (Bool × Refusal)) → number_of (room_checks g room later) ≡ 0 → (number_of (group_checks g) ≡ 0) × (g.n - 1 ≤ room) × (number_of later ≡ 0)
  room_held later e =
      let (passed, rest) = all_held _ (group_checks g) e in
      let (enough, held) = check_held _ _ _ rest in
      (passed, leb-true _ _ enough, held)

  -- ---- a write

  module _ (o : Order) where
    pub into_written : g.n - 1 ≤ room → write_into_of g o room ≡ write_of g o
    unfolding write_into_of write_of answer
    into_written l = rw (room_enough _ l)

    pub into_short : number_of (group_checks g) ≡ 0 → room < g.n - 1 → write_into_of g o room ≡ record { number = 10; value = unpushed g }
    unfolding write_into_of answer
    into_short d l = rw (room_short _ d l)

  -- ---- a shared write

  module _ (t : Ranked) where
    pub shared_into_written : g.n - 1 ≤ room → write_shared_into_of g t room ≡ write_shared_of g t
    unfolding write_shared_into_of write_shared_of answer
    shared_into_written l = rw (room_enough _ l)

    pub shared_into_short : number_of (group_checks g) ≡ 0 → room < g.n - 1 → write_shared_into_of g t room ≡ record { number = 10; value = unpushed g }
    unfolding write_shared_into_of answer
    shared_into_short d l = rw (room_short _ d l)

  -- ---- all sizes 1: the write of the order into the list, mark aside, also where the list is short

  pub ones_into : (o : Order) → unmarked (write_shared_into_of g (ones_target g.n o) room) ≡ unmarked (write_into_of g o room)
  unfolding write_shared_into_of write_into_of answer
  ones_into o = by_room (leb (g.n - 1) room) refl
    where
      by_room : (b : Bool) → leb (g.n - 1) room ≡ b → unmarked (write_shared_into_of g (ones_target g.n o) room) ≡ unmarked (write_into_of g o room)
      by_room true e = let l = leb-true (g.n - 1) room e in ap unmarked (shared_into_written (ones_target g.n o) l) ∙ ones_write g o ∙ sym (ap unmarked (into_written o l))
      by_room false e =
          let shared : List (Bool × Refusal) = ranked_checks g.n (ones_target g.n o) ++ push_checks g (shared_target g.n (ones_target g.n o)) in
          let plain : List (Bool × Refusal) = (is_order_of g.n o, NoOrder) ∷ push_checks g (singles (listed o)) in
          let refused = failed_some (group_checks g) plain ListShort in
          rw (
            e,
            failed_same (group_checks g) shared plain ListShort,
            picked_zeros _ (pushed false g (shared_target g.n (ones_target g.n o))) (unpushed g) refused,
            picked_zeros _ (pushed true g (singles (listed o))) (unpushed g) refused,
          )
