-- `engine::scrub` meets its contract.
use Rattle.std.proofs.lemmas.Result.{err_from_is_err_and}
use Rattle.engine.proofs.Scrubs.{scrub_found, scrub_worn}
use Rattle.engine.proofs.scrub.Goals as goal

pub returns-in_err-group : goal.returns-in_err-group
returns-in_err-group c =
    let p = err_from_is_err_and c.from_residual-in_err-group.result c.from_residual-in_err-group.ensures.1 in
    rw (p.1, p.2) (scrub_worn c.args.g c.in_ok-order.ensures c.in_ok-found.ensures c.in_err-group.field-0.0 c.in_err-group.ensures)

pub returns : goal.returns
returns c = scrub_found c.args.g c.in_ok-order.ensures c.in_ok-found.ensures c.in_ok-group.ensures
