-- What the answer of a call that makes or changes a group says in the refusal table's terms determines the answer, whatever group stands beside a refusal.
-- Assumes nothing.
use mathlib.Core.Path.{◌≡◌}
use Rattle.std.specs.Prelude.{Result}
use Rattle.order.specs.declared.Refusal.{Refusal}
use Rattle.order.specs.Refusals.{told}
use Rattle.order.proofs.Told.{told_lem}
use Rattle.group.specs.declared.Group.{Group}

pub told_changed_lem : (beside : Group) (a b : Result Group Refusal) → told beside a ≡ told beside b → a ≡ b
told_changed_lem = told_lem
