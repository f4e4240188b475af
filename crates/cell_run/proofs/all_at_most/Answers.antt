-- `cell_run::all_at_most` meets its contract. The invariant: what is tested and what is left decide.
use mathlib.Core.Path.{sym, ◌∙◌}
use mathlib.Core.Bool.{and-true}
use native.Mathlib.Omega.{arith}
use lib.Dec.{leb}
use lib.ListN.{drop_of_length-le}
use Rattle.order.proofs.Bits.{zero_test}
use Rattle.group.specs.Record.{all_at_most}
use Rattle.group.proofs.LevelRows.{all_gathered}
use Rattle.cell_run.proofs.all_at_most.Goals as goal

pub loop-level-preserved : goal.loop-level-preserved
loop-level-preserved c =
    rw c.excess-over.ensures (all_gathered c.loop-level.level-index c.loop-level.over _ c.args.levels.now (omega arith) ∙ c.loop-level.invariant)

pub returns : goal.returns
unfolding all_at_most
returns c =
    let e = drop_of_length-le c.args.levels.now {i = c.loop-level.level-index} c.loop-level-test.false in
    zero_test c.loop-level.over ∙ sym (and-true (leb c.loop-level.over 0)) ∙ rw e at c.loop-level.invariant
