-- What an answer says in the refusal table's terms determines the answer, whatever run stands beside a refusal.
-- Assumes nothing.
use mathlib.Core.Path.{◌≡◌}
use Rattle.std.specs.Prelude.{Result}
use Rattle.order.specs.declared.Refusal.{Refusal}
use Rattle.order.specs.Refusals.{told}
use Rattle.order.proofs.Told.{told_lem}
use Rattle.cell_run.specs.declared.Run.{Run}

pub told_run_lem : (beside : Run) (a b : Result Run Refusal) → told beside a ≡ told beside b → a ≡ b
told_run_lem = told_lem
