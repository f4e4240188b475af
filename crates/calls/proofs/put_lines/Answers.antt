-- `calls::put_lines` meets its contract.
use borrow.Author.Rules.{rules}
use mir.Syntax.{w32}
use mir.Val.{Fits}
use mathlib.Core.Path.{◌≡◌, refl, ◌∙◌}
use Prim.Native.Nat.{◌+◌}
use Rattle.lines.specs.Line.{line_of, told_kept}
use Rattle.lines.proofs.InRoom.{Put}
use Rattle.records.specs.Records.{told_answered}
use Rattle.calls.proofs.Running.{running_starts, running_steps, lines_put, progress_made}
use Rattle.calls.proofs.put_lines.Goals as goal
use Rattle.calls.proofs.put_lines.Goals.{in-Ok, in-Err}

pub loop-i-init : goal.loop-i-init
loop-i-init c = running_starts c.requires

pub loop-i-preserved : goal.loop-i-preserved
loop-i-preserved c =
    let told = told_kept c.match-step.outcome.0 c.match-step.outcome.1 in
    let same : told ≡ told_answered c.loop-i.g c.step.result =
    elim c.match-step.branch [ in-Ok w ↦ rw (w.outcome-is, w.in-Ok.is) refl | in-Err w ↦ rw (w.outcome-is, w.in-Err.is, w.alone.ensures) refl ] in
    let line : Put 128 c.loop-i.end (line_of (c.loop-i.position + 1) c.record_at-r.result.kind told) c.loop-i.out c.put_line-end.new.out c.put_line-end.result =
    (c.put_line-end.ensures.value, (c.put_line-end.ensures.out_after, c.put_line-end.ensures.upper_bound)) in
    let pulses : Fits w32 c.match-step.outcome.1.pulses = search rules in
    running_steps told c.loop-i.invariant c.loop-i-test.true c.record_at-r.ensures (same ∙ c.step.ensures) pulses.fits line c.by_fields-g-in-loop-i.ensures
    (rw c.from-pulses.ensures refl)

pub returns-clause-puts : goal.returns-clause-puts
returns-clause-puts c = rw c.by_fields-g.ensures at (lines_put c.loop-i.invariant c.loop-i-test.false)

pub returns-clause-progress_value : goal.returns-clause-progress_value
returns-clause-progress_value c = rw c.by_fields-g.ensures at (progress_made c.loop-i.invariant c.loop-i-test.false)
