-- Document 01, "Refusal table": the call that fills a lent list of pushes, by the room of the list, that is, how many places it has. Document 02, request
-- (g): a shared write into such a list.
--
--   room_checks g room later   the checks 1, 2, 10, and then the later ones
--   into_checks g o room       the checks of a write into a list of so many places: 1, 2, 10, 4, 8, 19
--   write_into_of g o room      what such a write answers, with its pushes by value: that of a write, but that 10 is checked too
--   shared_into_checks, write_shared_into_of    the same of a shared write: 1, 2, 10, 18, 4, 8, 19
use Rattle.std.specs.Prelude.{ℕ, ◌-◌, Bool, true, false, List, ◌∷◌, ◌++◌, leb}
use Rattle.order.specs.declared.Order.{Order}
use Rattle.order.specs.declared.Refusal.{Refusal}
use Rattle.order.specs.declared.Refusal.TheVariants.{ListShort, NoOrder}
use Rattle.order.specs.Refusals.{Told, answer}
use Rattle.order.specs.Order.{listed, is_order_of}
use Rattle.group.specs.declared.Group.{Group}
use Rattle.group.specs.Record.{group_checks}
use Rattle.push_up.specs.PushUp.{singles}
use Rattle.push_up.specs.WriteAnswer.{Program, push_checks, pushed, unpushed}
use Rattle.sharing.specs.declared.Ranked.{Ranked}
use Rattle.sharing.specs.Shared.{ranked_checks, shared_target}

abbrev pub room_checks : Group → ℕ → List (Bool × Refusal) → List (Bool × Refusal)
room_checks g room later = group_checks g ++ (leb (g.n - 1) room, ListShort) ∷ later

abbrev pub into_checks : Group → Order → ℕ → List (Bool × Refusal)
into_checks g o room = room_checks g room ((is_order_of g.n o, NoOrder) ∷ push_checks g (singles (listed o)))

unfoldable pub write_into_of : Group → Order → ℕ → Told Program
write_into_of g o room = answer (into_checks g o room) (pushed true g (singles (listed o))) (unpushed g)

abbrev pub shared_into_checks : Group → Ranked → ℕ → List (Bool × Refusal)
shared_into_checks g t room = room_checks g room (ranked_checks g.n t ++ push_checks g (shared_target g.n t))

unfoldable pub write_shared_into_of : Group → Ranked → ℕ → Told Program
write_shared_into_of g t room = answer (shared_into_checks g t room) (pushed false g (shared_target g.n t)) (unpushed g)
