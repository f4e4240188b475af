-- `changes::place_of` meets its contract: the checks of the record decide first.
use Rattle.std.proofs.Common.{◌≡◌, [], ◌∷◌, Err, rules}
use Rattle.order.specs.declared.Refusal.TheVariants.{NoCell}
use Rattle.order.specs.Cells.{is_cell}
use Rattle.order.proofs.Refusals.{outcome_first}
use Rattle.group.specs.Record.{group_checks}
use Rattle.changes.proofs.place_of.Goals as goal

pub returns-in_err-check-clause-outcome : goal.returns-in_err-check-clause-outcome
returns-in_err-check-clause-outcome c =
    let refused : c.from_residual.result ≡ Err c.in_err-check.field-0.0 = search rules in
    rw refused (rw c.in_err-check.was at (outcome_first ((is_cell c.args.g.n c.args.cell.0, NoCell) ∷ []) (group_checks c.args.g) c.check.ensures c.in_err-check.was))
