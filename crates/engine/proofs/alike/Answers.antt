-- `engine::alike` meets its contract.
use borrow.Author.Tests.{eq-eqb, ne_eqb}
use Rattle.std.proofs.lemmas.Result.{err_from_is_err_and}
use Rattle.engine.proofs.Answers.{second_refused, both_read}
use Rattle.engine.proofs.alike.Goals as goal

pub returns-in_err-second : goal.returns-in_err-second
returns-in_err-second c =
    let p = err_from_is_err_and c.from_residual-in_err-second.result c.from_residual-in_err-second.ensures.1 in
    rw (p.1, p.2) (second_refused c.args.g c.args.h c.in_ok-first.ensures c.in_err-second.field-0.0 c.in_err-second.ensures)

pub returns-then-g-h : goal.returns-then-g-h
returns-then-g-h c = rw (eq-eqb _ _ c.if-g-h.true) at (both_read c.args.g c.args.h c.in_ok-first.ensures c.in_ok-second.ensures)

pub returns-else-g-h : goal.returns-else-g-h
returns-else-g-h c = rw (ne_eqb _ _ c.if-g-h.false) (rw (ne_eqb _ _ c.if-g-h.false) at (both_read c.args.g c.args.h c.in_ok-first.ensures c.in_ok-second.ensures))
