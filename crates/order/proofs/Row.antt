-- The checks of each call run in the order of the row.
-- Assumes nothing.
use mathlib.Core.Path.{◌≡◌, refl}
use mathlib.Core.Bool.{true}
use Rattle.order.specs.declared.Order.{Order}
use Rattle.order.specs.Refusals.{check_row, in_row}
use Rattle.order.specs.Order.{order_checks, pair_checks}

pub order_in_row : (o : Order) → in_row (order_checks o) check_row ≡ true
order_in_row o = refl

pub pair_in_row : (u v : Order) → in_row (pair_checks u v) check_row ≡ true
pair_in_row u v = refl
