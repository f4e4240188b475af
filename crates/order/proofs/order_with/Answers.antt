-- `order::order_with` meets its contract. The loop's invariant: the first `i` numbers are in place.
use Rattle.order.proofs.Filling.{filled_all}
use Rattle.order.proofs.order_with.Goals as goal

pub returns : goal.returns
returns c = filled_all c.loop-i.invariant c.loop-i-test.false
