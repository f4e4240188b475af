-- `page::read_each` meets its contract. The loop's invariant: the first `i` groups are read, and their symbols are in place.
use native.Mathlib.Omega.{arith}
use mathlib.Core.Path.{◌≡◌}
use Rattle.std.specs.Prelude.{Result, Ok, Err}
use Rattle.std.proofs.lemmas.Grind.{common_steps}
use Rattle.std.proofs.lemmas.Result.{err_from_is_err_and}
use Rattle.order.specs.declared.Refusal.{Refusal}
use Rattle.order.proofs.Numbers.{length_mapped}
use Rattle.code.specs.declared.Decoded.{Decoded}
use Rattle.page.proofs.Pages.{page_most, read_start, read_more, read_refused_at, read_end}
use Rattle.page.proofs.read_each.Goals as goal

pub shared_ref_as_front-g-items : goal.shared_ref_as_front-g-items
shared_ref_as_front-g-items c = page_most c.args.page c.requires

pub loop-i-init : goal.loop-i-init
loop-i-init c = read_start (search length_mapped) c.requires

pub returns-in_err-decoded : goal.returns-in_err-decoded
returns-in_err-decoded c =
    let p = err_from_is_err_and c.from_residual.result c.from_residual.ensures.1 in
    let refused : ◌≡◌ {A = Result Decoded Refusal} c.read.result (Err c.in_err-decoded.field-0.0.refusal) = grind (arith, common_steps) in
    rw (p.1, p.2)
    (read_refused_at c.loop-i.invariant (omega arith) _ c.in_err-decoded.field-0.0.refusal (rw refused at c.read.ensures) c.in_err-decoded.field-0.0.group (grind (arith, common_steps)))

pub loop-i-preserved : goal.loop-i-preserved
loop-i-preserved c =
    let read : ◌≡◌ {A = Result Decoded Refusal} c.read.result (Ok c.in_ok-decoded.decoded) = grind (arith, common_steps) in
    read_more c.loop-i.invariant (omega arith) _ (rw read at c.read.ensures)

pub returns : goal.returns
returns c = read_end c.loop-i.invariant (omega arith)
