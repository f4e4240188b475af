-- `cell_run::place_of` meets its contract: the checks of the run decide first.
use Rattle.std.proofs.Common.{◌≡◌, [], ◌∷◌, Err, rules}
use Rattle.order.specs.declared.Refusal.TheVariants.{NoCell}
use Rattle.order.specs.Cells.{is_cell}
use Rattle.order.proofs.Refusals.{outcome_first}
use Rattle.cell_run.specs.Run.{run_checks}
use Rattle.cell_run.proofs.place_of.Goals as goal

pub returns-in_err-check-clause-outcome : goal.returns-in_err-check-clause-outcome
returns-in_err-check-clause-outcome c =
    let refused : c.from_residual.result ≡ Err c.in_err-check.field-0.0 = search rules in
    rw refused (rw c.in_err-check.was at (outcome_first ((is_cell c.args.run.len c.args.cell.0, NoCell) ∷ []) (run_checks c.args.run) c.check.ensures c.in_err-check.was))
