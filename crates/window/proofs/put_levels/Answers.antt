-- `window::put_levels` meets its contract. The invariant: the levels met stand first in the list.
use mathlib.Core.Path.{◌∙◌}
use native.Mathlib.Omega.{arith}
use Rattle.window.proofs.Placing.{grown_none, grown_more, level_in, levels_whole}
use Rattle.window.proofs.put_levels.Goals as goal

pub loop-j-init : goal.loop-j-init
loop-j-init c = (omega arith, grown_none _ _)

pub loop-j-preserved : goal.loop-j-preserved
loop-j-preserved c =
    (omega arith, rw c.loop-j.invariant.1 (grown_more (level_in c.args.ring.now) c.loop-j.j c.args.out.now (omega (arith, c.requires))))

pub returns : goal.returns
returns c =
    c.loop-j.invariant.1 ∙ levels_whole c.args.ring.now c.args.out.now c.loop-j.j (omega (arith, c.loop-j.invariant.0, c.loop-j-test.false))
