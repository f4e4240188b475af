-- `window::check_call` meets its contract: the checks of width and step decide first.
use Rattle.std.proofs.Common.{◌≡◌, ◌/◌, [], ◌∷◌, leb, Err, rules}
use Rattle.order.specs.declared.Refusal.TheVariants.{RoomShort}
use Rattle.order.proofs.Refusals.{outcome_first}
use Rattle.cell_run.specs.Run.{limit_checks}
use Rattle.window.proofs.check_call.Goals as goal

pub returns-in_err-check_windows : goal.returns-in_err-check_windows
returns-in_err-check_windows c =
    let refused : c.from_residual.result ≡ Err c.in_err-check_windows.field-0.0 = search rules in
    rw refused
    (rw c.in_err-check_windows.was at
    (outcome_first ((leb (c.args.n / c.args.step) c.args.numbers, RoomShort) ∷ (leb c.args.n c.args.scratch, RoomShort) ∷ [])
    (limit_checks c.args.n c.args.width c.args.step) c.check_windows.ensures c.in_err-check_windows.was))
