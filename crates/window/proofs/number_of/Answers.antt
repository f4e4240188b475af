-- `window::number_of` meets its contract, by the invariant of Summing, two steps at a time.
use Rattle.std.proofs.Common.{arith}
use Rattle.window.proofs.Summing.{start, two_steps, end}
use Rattle.window.proofs.number_of.Goals as goal

pub loop-i-init : goal.loop-i-init
loop-i-init c = start _ c.requires

pub overflow_mul-number : goal.overflow_mul-number
overflow_mul-number c =
    let two = two_steps c.loop-i.invariant (omega arith) c.two_coordinates-two.ensures.next_value c.two_coordinates-two.ensures.here_value in
    omega (arith, two.half)

pub overflow_add-number-in-loop-i : goal.overflow_add-number-in-loop-i
overflow_add-number-in-loop-i c =
    let two = two_steps c.loop-i.invariant (omega arith) c.two_coordinates-two.ensures.next_value c.two_coordinates-two.ensures.here_value in
    omega (arith, two.half)

pub overflow_mul-number-in-loop-i : goal.overflow_mul-number-in-loop-i
overflow_mul-number-in-loop-i c =
    let two = two_steps c.loop-i.invariant (omega arith) c.two_coordinates-two.ensures.next_value c.two_coordinates-two.ensures.here_value in
    omega (arith, two.whole)

pub overflow_add-number-in-loop-i-3 : goal.overflow_add-number-in-loop-i-3
overflow_add-number-in-loop-i-3 c =
    let two = two_steps c.loop-i.invariant (omega arith) c.two_coordinates-two.ensures.next_value c.two_coordinates-two.ensures.here_value in
    omega (arith, two.whole)

pub loop-i-preserved : goal.loop-i-preserved
loop-i-preserved c = (two_steps c.loop-i.invariant (omega arith) c.two_coordinates-two.ensures.next_value c.two_coordinates-two.ensures.here_value).after

pub returns : goal.returns
returns c = end c.loop-i.invariant (omega arith)
