-- A reading after an accepted write finds the order that was written.
-- Assumes nothing.
use Prim.Native.Nat.{ℕ}
use mathlib.Core.Bool.{true}
use mathlib.Core.List.{List}
use mathlib.Core.Path.{◌≡◌, sym, ap, ◌∙◌}
use native.Mathlib.Omega.{arith}
use lib.ListN.{length}
use Rattle.order.specs.declared.Order.{Order}
use Rattle.order.specs.declared.Refusal.TheVariants.{NoOrder}
use Rattle.order.specs.Cells.{is_order}
use Rattle.order.specs.Order.{listed, is_order_of, order_record}
use Rattle.order.proofs.Refusals.{sized_holds, told_done}
use Rattle.order.proofs.Check.{order_parts}
use Rattle.order.proofs.Records.{record_back}
use Rattle.group.specs.declared.Group.{Group}
use Rattle.group.specs.Record.{programmed, IsGroup}
use Rattle.group.proofs.Checks.{checked_size}
use Rattle.push_up.specs.PushUp.{singles}
use Rattle.push_up.specs.WriteAnswer.{raised, pushed, write_of}
use Rattle.push_up.proofs.Orders.{order_target}
use Rattle.push_up.proofs.Writes.{write_accepted, write_group, raised_shows}
use Rattle.sensing.specs.Sense.{sensed, sense_of}
use Rattle.sensing.proofs.Sensed.{sensed_back}

-- the order that the cells are raised to is the one that is sensed
pub raised_sensed : (g : Group) (xs : List ℕ) → IsGroup g → is_order g.n xs ≡ true → sensed g.n (raised g (singles xs)) ≡ xs
raised_sensed g xs h t = sensed_back g.n xs (raised g (singles xs)) t (raised_shows g (singles xs) h (order_target g.n xs t))

-- a reading after an accepted write finds the order that was written
pub write_sensed : (g : Group) (o : Order) → IsGroup g → length o.cells ≡ 12 → (write_of g o).number ≡ 0
    → sense_of (write_of g o).value.group ≡ record { number = 0; value = o }
unfolding sense_of pushed
write_sensed g o h w e =
    let t = write_accepted g o e in
    let after : IsGroup (programmed true g (raised g (singles (listed o)))) = rw t.3 at (write_group g o h) in
    let parts = (order_parts g.n o t.1).1 in
    let n = parts.long in
    let size = checked_size g h.passes in
    let back = raised_sensed g (listed o) h parts.order in
    let same : order_record (listed o) ≡ o = record_back o (sized_holds o.len (is_order_of o.len o) NoOrder (omega arith) (omega arith) (ap (λ (k : ℕ). is_order_of k o) n ∙ t.1)) w in
    rw t.3 (sym (told_done _ _ _ after.passes) ∙ ap (λ (x : Order). record { number = 0; value = x }) (ap order_record back ∙ same))
