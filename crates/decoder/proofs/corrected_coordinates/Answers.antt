-- `decoder::corrected_coordinates` meets its contract.
use native.Mathlib.Omega.{arith}
use Rattle.order.proofs.Records.{passed}
use Rattle.decoder.proofs.Neighbours.{Neighbours, cells_read, coordinate_small, stored_more, coordinate_some, stored_less}
use Rattle.decoder.proofs.corrected_coordinates.Goals as goal
use Rattle.decoder.proofs.corrected_coordinates.Goals.{After-number-below}

pair : (c : After-number-below) → Neighbours c.args.o c.args.k c.number-above.result c.number-below.result
pair c = record { place = c.requires.0; above = c.number-above.ensures; below = c.number-below.ensures }

pub bounds-o-k : goal.bounds-o-k
bounds-o-k c = omega (arith, c.requires.0.last, (passed c.args.o c.requires.0.passed).1)

pub bounds-o-k-2 : goal.bounds-o-k-2
bounds-o-k-2 c = omega (arith, c.requires.0.last, (passed c.args.o c.requires.0.passed).1)

-- the greater stands below
pub overflow_sub-next : goal.overflow_sub-next
overflow_sub-next c = omega (arith, (cells_read (pair (goal.at.overflow_sub-next c).After-number-below)).0)

pub bounds-next-below : goal.bounds-next-below
bounds-next-below c = omega (arith, (cells_read (pair (goal.at.bounds-next-below c).After-number-below)).1, (passed c.args.o c.requires.0.passed).1)

pub overflow_add-next : goal.overflow_add-next
overflow_add-next c = omega (arith, coordinate_small (pair (goal.at.overflow_add-next c).After-number-below) _ c.requires.1 c.if-above-below.true)

pub bounds-next-below-then-above-below : goal.bounds-next-below-then-above-below
bounds-next-below-then-above-below c = omega (arith, (cells_read (pair (goal.at.bounds-next-below-then-above-below c).After-number-below)).1, (passed c.args.o c.requires.0.passed).1)

-- the greater stands above
pub overflow_sub-next-else-above-below : goal.overflow_sub-next-else-above-below
overflow_sub-next-else-above-below c =
    let (_, q, apart) = cells_read (pair (goal.at.overflow_sub-next-else-above-below c).After-number-below) in omega arith

pub bounds-next-above : goal.bounds-next-above
bounds-next-above c = omega (arith, (cells_read (pair (goal.at.bounds-next-above c).After-number-below)).0, (passed c.args.o c.requires.0.passed).1)

pub overflow_sub-next-else-above-below-2 : goal.overflow_sub-next-else-above-below-2
overflow_sub-next-else-above-below-2 c = coordinate_some (pair (goal.at.overflow_sub-next-else-above-below-2 c).After-number-below) _ c.requires.1 c.if-above-below.false

pub bounds-next-above-else-above-below : goal.bounds-next-above-else-above-below
bounds-next-above-else-above-below c = omega (arith, (cells_read (pair (goal.at.bounds-next-above-else-above-below c).After-number-below)).0, (passed c.args.o c.requires.0.passed).1)

pub returns-then-above-below : goal.returns-then-above-below
returns-then-above-below c = stored_more (pair (goal.at.returns-then-above-below c).After-number-below) _ c.requires.1 c.if-above-below.true

pub returns-else-above-below : goal.returns-else-above-below
returns-else-above-below c = stored_less (pair (goal.at.returns-else-above-below c).After-number-below) _ c.requires.1 c.if-above-below.false
