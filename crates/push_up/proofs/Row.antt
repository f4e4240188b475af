-- The checks run in the order of the row.
-- Assumes nothing.
use Rattle.std.proofs.Common.{◌≡◌, true, refl}
use Rattle.order.specs.declared.Order.{Order}
use Rattle.order.specs.Refusals.{check_row, in_row}
use Rattle.group.specs.declared.Group.{Group}
use Rattle.push_up.specs.WriteAnswer.{write_checks}

pub write_in_row : (g : Group) (o : Order) → in_row (write_checks g o) check_row ≡ true
write_in_row g o = refl
