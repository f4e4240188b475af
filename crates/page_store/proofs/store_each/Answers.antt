-- `page_store::store_each` meets its contract. The loop's invariant: the first `i` groups are stored to in the copy, and none of them refused.
use native.Mathlib.Omega.{arith}
use borrow.Author.Rules.{rules}
use mathlib.Core.Path.{◌≡◌}
use lib.ListN.{length}
use Rattle.std.specs.Prelude.{Result, Ok, Err}
use Rattle.std.proofs.lemmas.Grind.{common_steps}
use Rattle.std.proofs.lemmas.Result.{err_from_is_err_and}
use Rattle.order.specs.declared.Refusal.{Refusal}
use Rattle.order.proofs.Numbers.{length_mapped}
use Rattle.push_up.specs.declared.Written.{Written}
use Rattle.page_store.proofs.Storing.{store_start, pulses_low, store_more, store_refused_at, store_end}
use Rattle.page_store.proofs.store_each.Goals as goal

pub loop-i-init : goal.loop-i-init
loop-i-init c = store_start (search length_mapped) c.requires

pub returns-in_err-written : goal.returns-in_err-written
returns-in_err-written c =
    let p = err_from_is_err_and c.from_residual.result c.from_residual.ensures.1 in
    let refused : ◌≡◌ {A = Result Written Refusal} c.store.result (Err c.in_err-written.field-0.0.refusal) = grind (arith, common_steps) in
    rw (p.1, p.2)
    (store_refused_at c.loop-i.invariant (omega arith) _ c.in_err-written.field-0.0.refusal (rw refused at c.store.ensures) c.in_err-written.field-0.0.group (grind (arith, common_steps)))

pub overflow_add-pulses : goal.overflow_add-pulses
overflow_add-pulses c =
    let twelve : length c.in_ok-written.written.group.levels ≡ 12 = search rules in
    let stored : ◌≡◌ {A = Result Written Refusal} c.store.result (Ok c.in_ok-written.written) = grind (arith, common_steps) in
    omega (arith, pulses_low c.loop-i.invariant (omega arith) _ (rw stored at c.store.ensures) twelve)

pub loop-i-preserved : goal.loop-i-preserved
loop-i-preserved c =
    let twelve : length c.in_ok-written.written.group.levels ≡ 12 = search rules in
    let stored : ◌≡◌ {A = Result Written Refusal} c.store.result (Ok c.in_ok-written.written) = grind (arith, common_steps) in
    store_more c.loop-i.invariant (omega arith) _ (rw stored at c.store.ensures) twelve _ (omega arith)

pub returns : goal.returns
returns c = store_end c.loop-i.invariant (omega arith)
