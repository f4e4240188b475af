-- The checks run in the order of the row.
-- Assumes nothing.
use Prim.Native.Nat.{ℕ}
use mathlib.Core.Path.{◌≡◌, refl}
use mathlib.Core.Bool.{true}
use Rattle.order.specs.declared.Order.{Order}
use Rattle.order.specs.Refusals.{check_row, in_row}
use Rattle.group.specs.declared.Group.{Group}
use Rattle.sharing.specs.declared.Ranked.{Ranked}
use Rattle.push_room.specs.Room.{into_checks, shared_into_checks}

module _ (g : Group) (room : ℕ) where
  pub into_in_row : (o : Order) → in_row (into_checks g o room) check_row ≡ true
  into_in_row o = refl

  pub shared_into_in_row : (t : Ranked) → in_row (shared_into_checks g t room) check_row ≡ true
  shared_into_in_row t = refl
