-- `insertion::order_by_insertion` meets its contract. The loop's invariant: the cells 1 to `i` are in place; that of the loop in it: the cells
-- from place `j` on have moved up by one.
use borrow.Author.Rules.{rules}
use native.Mathlib.Omega.{arith}
use Rattle.insertion.proofs.Insert.{moved_all}
use Rattle.insertion.proofs.Build.{built_one, built_room, coordinate_low, built_more, built_all}
use Rattle.insertion.proofs.order_by_insertion.Goals as goal

pub loop-i-init : goal.loop-i-init
loop-i-init c = built_one _ (search rules) c.requires.0 c.requires.1

pub overflow_sub-at : goal.overflow_sub-at
overflow_sub-at c = coordinate_low c.loop-i.invariant c.loop-i-test.true c.from.ensures

pub loop-j-init : goal.loop-j-init
loop-j-init c = built_room c.loop-i.invariant c.loop-i-test.true _ (omega arith)

pub loop-i-preserved : goal.loop-i-preserved
loop-i-preserved c =
    rw (moved_all c.loop-j.invariant _ c.loop-j-test.false) (built_more c.loop-i.invariant c.loop-i-test.true c.from.ensures)

pub returns : goal.returns
returns c = built_all c.loop-i.invariant c.loop-i-test.false
