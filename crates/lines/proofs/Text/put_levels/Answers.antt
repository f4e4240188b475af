-- `lines::Text::put_levels` meets its contract.
use borrow.Author.Rules.{rules}
use mathlib.Core.Path.{ap}
use lib.ListN.{get_or, take}
use mir.Syntax.{w16}
use mir.Val.{Fits}
use native.Mathlib.Omega.{arith}
use Rattle.lines.specs.Line.{after}
use Rattle.lines.proofs.Adds.{adds_as, adds_join}
use Rattle.lines.proofs.Decimal.{level_length}
use Rattle.lines.proofs.Commas.{joining_starts, joining_room, joining_steps, levels_few}
use Rattle.lines.proofs.Text.put_levels.Goals as goal

pub loop-level-init : goal.loop-level-init
loop-level-init c = joining_starts (rw c.min.ensures (levels_few c.args.levels c.args.n (search rules))) c.requires

pub put_number-requires : goal.put_number-requires
put_number-requires c =
    let level : Fits w16 (get_or (take c.min.result c.args.levels) c.loop-level.level-index 0) = search rules in
    omega (arith, joining_room c.loop-level.invariant c.loop-level-test.true, level_length _ c.from.ensures level.fits)

pub loop-level-preserved : goal.loop-level-preserved
loop-level-preserved c =
    let level : Fits w16 (get_or (take c.min.result c.args.levels) c.loop-level.level-index 0) = search rules in
    joining_steps c.loop-level.invariant c.loop-level-test.true
    (adds_as (ap (after c.loop-level.mark) c.from.ensures) (adds_join (omega (arith, level_length _ c.from.ensures level.fits)) c.put-in-loop-level.ensures c.put_number.ensures))
