-- `calls::go_on` meets its contract.
use mathlib.Core.Path.{sym, ◌∙◌}
use Rattle.calls.proofs.Printed.{piece_refused, piece_put}
use Rattle.calls.proofs.go_on.Goals as goal

pub returns-then-not-goes_on : goal.returns-then-not-goes_on
returns-then-not-goes_on c =
    let kept = piece_refused _ _ _ (sym c.goes_on.ensures ∙ c.if-not-goes_on.true) in
    record { value = kept.0; out_after = kept.1 }

pub returns : goal.returns
returns c =
    let put = piece_put _ _ _ (sym c.goes_on.ensures ∙ c.if-not-goes_on.false) c.put_lines.result c.put_lines.ensures.puts c.put_lines.ensures.progress_value in
    record { value = put.0; out_after = put.1 }
