-- `calls::finish` meets its contract.
use mathlib.Core.Path.{sym, ◌∙◌}
use Prim.Native.Nat.{◌+◌, ◌%◌, ◌≤◌}
use native.Mathlib.Omega.{arith}
use lib.ListN.{length}
use Rattle.lines.specs.Line.{left_line, sum_line}
use Rattle.lines.proofs.Paste.{puts_join}
use Rattle.lines.proofs.InRoom.{put_line_lem}
use Rattle.calls.proofs.Running.{taken_parts}
use Rattle.calls.proofs.Printed.{end_refused, end_put}
use Rattle.calls.proofs.finish.Goals as goal

pub returns-then-not-takes : goal.returns-then-not-takes
returns-then-not-takes c =
    let kept = end_refused _ _ _ (sym c.takes.ensures ∙ c.if-not-takes.true) in
    record { value = kept.0; out_after = kept.1 }

pub returns : goal.returns
returns c =
    let taken = sym c.takes.ensures ∙ c.if-not-takes.false in
    let parts = taken_parts c.args.p.position c.args.p.pulses (length c.args.input.now) (length c.args.out.now) taken in
    let lines = c.put_lines-answered.ensures in
    let room : c.put_lines-answered.result.end + 64 ≤ length c.put_lines-answered.new.out = omega (arith, parts.2, lines.puts.kept, lines.end_bound) in
    let left = put_line_lem 26 c.put_lines-answered.result.end (left_line (length c.args.input.now % 8)) c.put_lines-answered.new.out (omega (arith, room)) (c.put_left-left.ensures.value, (c.put_left-left.ensures.out_after, c.put_left-left.ensures.upper_bound)) in
    let sum =
    put_line_lem 25 c.put_left-left.result (sum_line c.put_lines-answered.result.progress.pulses) c.put_left-left.new.out (omega (arith, room, left.kept, c.put_left-left.ensures.upper_bound))
    (c.put_sum.ensures.value, (c.put_sum.ensures.out_after, c.put_sum.ensures.upper_bound)) in
    let put = end_put _ _ _ taken c.put_lines-answered.result.progress lines.progress_value (puts_join (puts_join lines.puts left) sum) in
    record { value = put.0; out_after = put.1 }
