-- `writing::raise_all` meets its contract. The loop's invariant: the cells from place `i` on are raised. A branch of it is a case of one cell more.
use borrow.Author.Rules.{rules}
use Prim.Native.Nat.{◌-◌}
use native.Mathlib.Omega.{arith}
use lib.ListN.{get_or}
use Rattle.order.specs.Order.{cell_numbers}
use Rattle.order.proofs.Numbers.{length_mapped, length_places, place_at}
use Rattle.order.proofs.Sweep.{Turn}
use Rattle.push_up.specs.declared.PushUp.{PushUp}
use Rattle.group.specs.Levels.{level, put}
use Rattle.writing.proofs.WriteLoop.{InBounds, Raised, raised_none, raised_bounds, raised_pushed, raised_kept}
use Rattle.writing.proofs.raise_all.Goals as goal
use Rattle.writing.proofs.raise_all.Goals.{After-number-at}

pub loop-i-init : goal.loop-i-init
loop-i-init c =
    rw c.zero_pushes-pushes.ensures
    (raised_none 1 _ _ _ (length_places _ (search length_mapped)) c.args.target.short c.args.target.lists (search rules) c.requires (omega arith))

-- the push-up so far, and the next cell up
abbrev sofar : After-number-at → PushUp
sofar c = record { levels = c.loop-i.levels; floor = c.loop-i.floor; pulses = c.loop-i.pulses; count = c.loop-i.count; pushes = c.loop-i.pushes }

turn : (c : After-number-at)
    → Turn (Raised 1 (cell_numbers c.args.target.order) c.args.target.order.len c.args.old (sofar c) c.loop-i.i) (cell_numbers c.args.target.order) c.loop-i.i (get_or c.args.target.order.cells (c.loop-i.i - 1) (record { 0 = 0 })).0
turn c = record { state = c.loop-i.invariant; more = c.loop-i-test.true; at = place_at _ _ }

bounds : (c : After-number-at) → InBounds 1 (sofar c) (record { 0 = c.number-at.result })
bounds c = rw c.number-at.ensures (raised_bounds (turn c))

pub overflow_sub-at : goal.overflow_sub-at
overflow_sub-at c = (bounds c).low

pub offset_bounds-levels-at : goal.offset_bounds-levels-at
offset_bounds-levels-at c = omega (arith, (bounds (goal.at.offset_bounds-levels-at c).After-number-at).high)

pub bounds-levels-at : goal.bounds-levels-at
bounds-levels-at c = let b = bounds (goal.at.bounds-levels-at c).After-number-at in omega (arith, b.low, b.high)

pub offset_bounds-pushes-count : goal.offset_bounds-pushes-count
offset_bounds-pushes-count c = omega (arith, (bounds (goal.at.offset_bounds-pushes-count c).After-number-at).count)

pub bounds-pushes-count : goal.bounds-pushes-count
bounds-pushes-count c = omega (arith, (bounds (goal.at.bounds-pushes-count c).After-number-at).count)

pub offset_bounds-levels-at-then-level-floor : goal.offset_bounds-levels-at-then-level-floor
offset_bounds-levels-at-then-level-floor c = omega (arith, (bounds (goal.at.offset_bounds-levels-at-then-level-floor c).After-number-at).high)

pub bounds-levels-at-then-level-floor : goal.bounds-levels-at-then-level-floor
bounds-levels-at-then-level-floor c =
    let b = bounds (goal.at.bounds-levels-at-then-level-floor c).After-number-at in
    omega (arith, b.low, b.high)

pub overflow_add-pulses : goal.overflow_add-pulses
overflow_add-pulses c =
    let b = bounds (goal.at.overflow_add-pulses c).After-number-at in
    omega (arith, b.floor, b.pulses, c.from-pulses.ensures)

pub overflow_add-floor : goal.overflow_add-floor
overflow_add-floor c = omega (arith, (bounds (goal.at.overflow_add-floor c).After-number-at).floor)

pub loop-i-preserved-then-level-floor : goal.loop-i-preserved-then-level-floor
unfolding level put
loop-i-preserved-then-level-floor c =
    rw (c.from-pulses.ensures, c.number-at.ensures)
    (raised_pushed (turn (goal.at.loop-i-preserved-then-level-floor c).After-number-at) (rw c.number-at.ensures at c.if-level-floor.true))

pub overflow_add-floor-else-level-floor : goal.overflow_add-floor-else-level-floor
unfolding level
overflow_add-floor-else-level-floor c = omega (arith, (bounds (goal.at.overflow_add-floor-else-level-floor c).After-number-at).level)

pub loop-i-preserved : goal.loop-i-preserved
unfolding level
loop-i-preserved c = rw c.number-at.ensures (raised_kept (turn (goal.at.loop-i-preserved c).After-number-at) (rw c.number-at.ensures at c.if-level-floor.false))
