-- The checks run in the order of the row.
-- Assumes nothing.
use mathlib.Core.Path.{◌≡◌, refl}
use mathlib.Core.Bool.{true}
use Rattle.order.specs.declared.Order.{Order}
use Rattle.order.specs.Refusals.{check_row, in_row}
use Rattle.decoder.specs.Nearest.{decode_checks}

pub decode_in_row : (o : Order) → in_row (decode_checks o) check_row ≡ true
decode_in_row o = refl
