-- `window::number_windows` meets its contract, by the invariant of Numbering.
use Rattle.std.proofs.Common.{arith}
use Rattle.window.proofs.Numbering.{begin, next, numbers_done, scratch_done}
use Rattle.window.proofs.number_windows.Goals as goal

pub loop-k-init : goal.loop-k-init
loop-k-init c = begin c.requires

pub loop-k-preserved : goal.loop-k-preserved
loop-k-preserved c = next c.loop-k.invariant c.loop-k-test.true c.number_at.ensures.value c.number_at.ensures.kept_past

pub returns-clause-numbers_after : goal.returns-clause-numbers_after
returns-clause-numbers_after c = numbers_done c.loop-k.invariant (omega (arith, c.loop-k-test.false))

pub returns-clause-scratch_after : goal.returns-clause-scratch_after
returns-clause-scratch_after c = scratch_done c.loop-k.invariant c.put_levels.ensures
