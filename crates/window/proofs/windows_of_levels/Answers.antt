-- `window::windows_of_levels` meets its contract: the checks of the run, and then those of the call.
use Rattle.std.proofs.Common.{◌≡◌, length, sym, ap, ◌∙◌, rules, Err}
use Rattle.order.specs.Refusals.{outcome_number, number_of, refusal_number}
use Rattle.order.proofs.Refusals.{accepted}
use Rattle.cell_run.specs.Run.{level_checks}
use Rattle.window.specs.Steps.{call_checks}
use Rattle.window.proofs.Answers.{run_refused, run_passed, numberable, call_refused, filled}
use Rattle.window.proofs.windows_of_levels.Goals as goal

pub returns-in_err-check_levels : goal.returns-in_err-check_levels
returns-in_err-check_levels c =
    let refused : c.from_residual.result ≡ Err c.in_err-check_levels.field-0.0 = search rules in
    let number : number_of (level_checks c.args.levels.now) ≡ refusal_number c.in_err-check_levels.field-0.0 = sym c.check_levels.ensures ∙ ap outcome_number c.in_err-check_levels.was in
    let t = run_refused (level_checks c.args.levels.now) c.args.levels.now c.args.width c.args.step c.args.numbers.now c.args.scratch.now c.in_err-check_levels.field-0.0 number in
    record { result_value = rw refused t.0; numbers_after = t.1.0; scratch_after = t.1.1 }

pub returns-in_err-check_call : goal.returns-in_err-check_call
returns-in_err-check_call c =
    let held : number_of (level_checks c.args.levels.now) ≡ 0 = accepted c.check_levels.ensures c.in_ok-check_levels.was in
    let refused : c.from_residual-in_err-check_call.result ≡ Err c.in_err-check_call.field-0.0 = search rules in
    let number : number_of (call_checks (length c.args.levels.now) c.args.width c.args.step (length c.args.numbers.now) (length c.args.scratch.now)) ≡ refusal_number c.in_err-check_call.field-0.0 = sym c.check_call.ensures ∙ ap outcome_number c.in_err-check_call.was in
    let t = run_passed (level_checks c.args.levels.now) c.args.levels.now c.args.width c.args.step c.args.numbers.now c.args.scratch.now held
    (call_refused c.args.levels.now c.args.width c.args.step c.args.numbers.now c.args.scratch.now c.in_err-check_call.field-0.0 number) in
    record { result_value = rw refused t.0; numbers_after = t.1.0; scratch_after = t.1.1 }

pub number_windows-requires : goal.number_windows-requires
number_windows-requires c =
    let passed : number_of (call_checks (length c.args.levels.now) c.args.width c.args.step (length c.args.numbers.now) (length c.args.scratch.now)) ≡ 0 = accepted c.check_call.ensures c.in_ok-check_call.was in
    numberable _ _ _ _ _ passed

pub nonzero_div-result : goal.nonzero_div-result
nonzero_div-result c =
    let passed : number_of (call_checks (length c.args.levels.now) c.args.width c.args.step (length c.args.numbers.now) (length c.args.scratch.now)) ≡ 0 = accepted c.check_call.ensures c.in_ok-check_call.was in
    (numberable c.args.levels.now c.args.width c.args.step c.args.numbers.now c.args.scratch.now passed).forward

pub returns : goal.returns
returns c =
    let held : number_of (level_checks c.args.levels.now) ≡ 0 = accepted c.check_levels.ensures c.in_ok-check_levels.was in
    let passed : number_of (call_checks (length c.args.levels.now) c.args.width c.args.step (length c.args.numbers.now) (length c.args.scratch.now)) ≡ 0 = accepted c.check_call.ensures c.in_ok-check_call.was in
    let t = run_passed (level_checks c.args.levels.now) c.args.levels.now c.args.width c.args.step c.args.numbers.now c.args.scratch.now held
    (filled c.args.levels.now c.args.width c.args.step c.args.numbers.now c.args.scratch.now passed c.number_windows.ensures.numbers_after c.number_windows.ensures.scratch_after) in
    record { result_value = t.0; numbers_after = t.1.0; scratch_after = t.1.1 }
