-- Document 01, "The plain machine": the calls of demand 3 as one machine; by document 02, request (g), they are eight, with the shared write. A write and a
-- shared write have two forms. One into a lent list is answered by the room of the list, that is, how many places it has; its pushes come by value here too,
-- and `push_list` puts them into the list.
--
--   writes k            the calls that raise cells: write, shared write, store and scrub
--   marks k             whether the group is written after such a call: a shared write clears the mark. Of another call it says nothing
--   target g c          the target that such a call is to show, the cells of each rank: one cell a rank, but for a shared write. Another call has the empty
--                       target. The rank sizes beside a call are for a shared write alone
--   earlier_checks g c   the checks of a call that run before 8 and 19, in the order in which they run
--   checks g c          all of them: a call that raises cells is checked for 8 and then for 19 last
--   apply_of g c         the answer to `apply`: one call of the plain machine
--   target_by, earlier_by, checks_by, apply_by    the same by the target beside the call and its kind
--   after_program t s    the machine's answer to a write or a shared write, where s is 0, or to a store of the symbol s
--   after_change t       the machine's answer to leak, wear or erase
use Rattle.std.specs.Prelude.{ℕ, Bool, true, false, cond, List, [], ◌∷◌, ◌++◌, ltb}
use Rattle.std.proofs.Math.Option.{none}
use Rattle.order.specs.declared.Refusal.{Refusal}
use Rattle.order.specs.declared.Refusal.TheVariants.{NoOrder, NoSymbol}
use Rattle.order.specs.Refusals.{if_done, Told}
use Rattle.order.specs.Order.{listed, is_order_of}
use Rattle.code.specs.Words.{K}
use Rattle.code.specs.Symbols.{word_of}
use Rattle.group.specs.declared.Group.{Group}
use Rattle.group.specs.Record.{group_checks}
use Rattle.changes.specs.Changes.{cell_checks, wear_checks, leak_of, wear_of, erase_of}
use Rattle.push_up.specs.PushUp.{singles}
use Rattle.push_up.specs.WriteAnswer.{Program, push_checks, write_of}
use Rattle.sharing.specs.declared.Ranked.{Ranked}
use Rattle.sharing.specs.Shared.{shared_target, ranked_checks, write_shared_of}
use Rattle.push_room.specs.Room.{room_checks, write_into_of, write_shared_into_of}
use Rattle.engine.specs.ReadStore.{read_checks, read_of, store_of}
use Rattle.engine.specs.Scrub.{Step, quiet, programmed_step, after_read, word_found, scrub_of}
use Rattle.plain_machine.specs.declared.Kind.{Kind}
use Rattle.plain_machine.specs.declared.Kind.TheVariants.{Write, WriteInto, WriteShared, WriteSharedInto, Store, Scrub, Leak, Wear, Erase, Read}
use Rattle.plain_machine.specs.declared.Call.{Call}

-- ---- the eight calls

abbrev pub writes : Kind → Bool
writes Write = true
writes (WriteInto room) = true
writes WriteShared = true
writes (WriteSharedInto room) = true
writes (Store s) = true
writes Scrub = true
writes (Leak c d) = false
writes (Wear c cap) = false
writes Erase = false
writes Read = false

abbrev pub marks : Kind → Bool
marks Write = true
marks (WriteInto room) = true
marks WriteShared = false
marks (WriteSharedInto room) = false
marks (Store s) = true
marks Scrub = true
marks (Leak c d) = false
marks (Wear c cap) = false
marks Erase = false
marks Read = false

abbrev pub target_by : Group → Ranked → Kind → List (List ℕ)
target_by g t Write = singles (listed t.cells)
target_by g t (WriteInto room) = singles (listed t.cells)
target_by g t WriteShared = shared_target g.n t
target_by g t (WriteSharedInto room) = shared_target g.n t
target_by g t (Store s) = singles (word_of g.n s)
target_by g t Scrub = singles (word_found g)
target_by g t (Leak c d) = []
target_by g t (Wear c cap) = []
target_by g t Erase = []
target_by g t Read = []

abbrev pub target : Group → Call → List (List ℕ)
target g c = target_by g c.target c.kind

abbrev pub earlier_by : Group → Ranked → Kind → List (Bool × Refusal)
earlier_by g t Write = group_checks g ++ (is_order_of g.n t.cells, NoOrder) ∷ []
earlier_by g t (WriteInto room) = room_checks g room ((is_order_of g.n t.cells, NoOrder) ∷ [])
earlier_by g t WriteShared = group_checks g ++ ranked_checks g.n t
earlier_by g t (WriteSharedInto room) = room_checks g room (ranked_checks g.n t)
earlier_by g t (Store s) = group_checks g ++ (ltb s (K g.n), NoSymbol) ∷ []
earlier_by g t Scrub = read_checks g
earlier_by g t (Leak c d) = cell_checks g c
earlier_by g t (Wear c cap) = wear_checks g c cap
earlier_by g t Erase = group_checks g
earlier_by g t Read = read_checks g

abbrev pub earlier_checks : Group → Call → List (Bool × Refusal)
earlier_checks g c = earlier_by g c.target c.kind

abbrev pub checks_by : Group → Ranked → Kind → List (Bool × Refusal)
checks_by g t k = earlier_by g t k ++ cond (writes k) (push_checks g (target_by g t k)) []

abbrev pub checks : Group → Call → List (Bool × Refusal)
checks g c = checks_by g c.target c.kind

-- an accepted write carries symbol 0, an accepted store the symbol stored; a refused one 0
abbrev pub after_program : Told Program → ℕ → Told Step
after_program t s = record { number = t.number; value = programmed_step t.value (if_done t.number s 0) none }

abbrev pub after_change : Told Group → Told Step
after_change t = record { number = t.number; value = quiet t.value }

abbrev pub apply_by : Group → Ranked → Kind → Told Step
apply_by g t Write = after_program (write_of g t.cells) 0
apply_by g t (WriteInto room) = after_program (write_into_of g t.cells room) 0
apply_by g t WriteShared = after_program (write_shared_of g t) 0
apply_by g t (WriteSharedInto room) = after_program (write_shared_into_of g t room) 0
apply_by g t (Store s) = after_program (store_of g s) s
apply_by g t Scrub = scrub_of g
apply_by g t (Leak c d) = after_change (leak_of g c d)
apply_by g t (Wear c cap) = after_change (wear_of g c cap)
apply_by g t Erase = after_change (erase_of g)
apply_by g t Read = after_read g (read_of g)

unfoldable pub apply_of : Group → Call → Told Step
apply_of g c = apply_by g c.target c.kind
