-- `window::two_coordinates` meets its contract, by the invariant of Lower.
use native.Mathlib.Omega.{arith}
use Rattle.window.proofs.Lower.{counting_none, counted_fits, counting_more, counting_done}
use Rattle.window.proofs.two_coordinates.Goals as goal

pub loop-before-init : goal.loop-before-init
loop-before-init c = counting_none _ _ c.stands_after-next.ensures

pub overflow_add-here : goal.overflow_add-here
overflow_add-here c = omega (arith, (counted_fits c.loop-before.invariant _ _ c.stands_after-here.ensures).0, c.requires)

pub overflow_add-next : goal.overflow_add-next
overflow_add-next c = omega (arith, (counted_fits c.loop-before.invariant _ _ c.stands_after-next-in-loop-before.ensures).1, c.requires)

pub loop-before-preserved : goal.loop-before-preserved
loop-before-preserved c =
    counting_more c.loop-before.invariant (omega (arith, c.requires)) c.loop-before-test.true c.stands_after-here.ensures c.stands_after-next-in-loop-before.ensures

pub returns-clause-here_value : goal.returns-clause-here_value
returns-clause-here_value c = (counting_done c.loop-before.invariant c.loop-before-test.false c.requires.0).0

pub returns-clause-next_value : goal.returns-clause-next_value
returns-clause-next_value c = (counting_done c.loop-before.invariant c.loop-before-test.false c.requires.0).1
