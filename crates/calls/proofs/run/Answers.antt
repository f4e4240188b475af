-- `calls::run` meets its contract.
use mathlib.Core.Path.{ap, ◌∙◌}
use Prim.Native.Nat.{ℕ}
use mathlib.Core.List.{List, ◌++◌}
use lib.ListN.{length, take, drop}
use Rattle.runs.specs.declared.Progress.{Progress}
use Rattle.runs.specs.Pieces.{end_printed}
use Rattle.calls.proofs.Printed.{whole_printed}
use Rattle.calls.proofs.run.Goals as goal

pub returns : goal.returns
returns c =
    let whole =
    ap (λ (p : Progress). end_printed p (take c.size_read.result c.args.input.now) c.args.out.now) c.begin.ensures
    ∙ whole_printed c.args.input.now c.size_read.result c.size_read.ensures c.args.out.now in
    record {
      value = c.finish.ensures.value ∙ ap length whole;
      out_after = c.finish.ensures.out_after ∙ ap (λ (t : List ℕ). t ++ drop c.finish.result c.args.out.now) whole;
    }
