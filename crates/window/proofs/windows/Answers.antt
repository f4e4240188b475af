-- `window::windows` meets its contract: the checks of the record, and then those of its levels, which pass.
use Rattle.std.proofs.Common.{◌≡◌, length, sym, ap, ◌∙◌, rules, Err}
use Rattle.order.specs.Refusals.{outcome_number, number_of, refusal_number}
use Rattle.order.proofs.Refusals.{accepted}
use Rattle.cell_run.specs.Run.{run_checks, level_checks}
use Rattle.cell_run.proofs.Checks.{checked_length}
use Rattle.cell_run.proofs.Runs.{IsRun, levels_pass}
use Rattle.window.specs.Calls.{ring}
use Rattle.window.proofs.Answers.{run_refused, run_passed, run_passing}
use Rattle.window.proofs.windows.Goals as goal

pub returns-in_err-check : goal.returns-in_err-check
returns-in_err-check c =
    let refused : c.from_residual.result ≡ Err c.in_err-check.field-0.0 = search rules in
    let number : number_of (run_checks c.args.run) ≡ refusal_number c.in_err-check.field-0.0 = sym c.check.ensures ∙ ap outcome_number c.in_err-check.was in
    let t = run_refused (run_checks c.args.run) (ring c.args.run) c.args.width c.args.step c.args.numbers.now c.args.scratch.now c.in_err-check.field-0.0 number in
    record { result_value = rw refused t.0; numbers_after = t.1.0; scratch_after = t.1.1 }

pub shared_ref_as_front-windows_of_levels : goal.shared_ref_as_front-windows_of_levels
shared_ref_as_front-windows_of_levels c =
    let passed : number_of (run_checks c.args.run) ≡ 0 = accepted c.check.ensures c.in_ok-check.was in
    (checked_length c.args.run passed).1

pub returns : goal.returns
returns c =
    let passed : number_of (run_checks c.args.run) ≡ 0 = accepted c.check.ensures c.in_ok-check.was in
    let all : length c.args.run.levels ≡ 128 = search rules in
    let run : IsRun c.args.run = record { passes = passed; levels = all } in
    let w = c.windows_of_levels.ensures in
    let t = run_passed (run_checks c.args.run) (ring c.args.run) c.args.width c.args.step c.args.numbers.now c.args.scratch.now passed
    (run_passing (level_checks (ring c.args.run)) (ring c.args.run) c.args.width c.args.step c.args.numbers.now c.args.scratch.now (levels_pass c.args.run run) (w.result_value, (w.numbers_after, w.scratch_after))) in
    record { result_value = t.0; numbers_after = t.1.0; scratch_after = t.1.1 }
