-- `sharing::raise_ranks` meets its contract. The loop's invariant: the ranks from index `k` on, whose cells are listed from index `end` on, are raised.
use borrow.Author.Rules.{rules}
use Prim.Native.Nat.{◌-◌}
use mathlib.Core.Path.{◌≡◌, sym, ◌∙◌}
use mathlib.Core.Bool.{Bool}
use mathlib.Core.List.{List}
use native.Mathlib.Omega.{arith}
use lib.ListN.{length, get_or}
use lib.Seq.{get_or-take}
use Rattle.order.specs.Order.{listed}
use Rattle.sharing.specs.Shared.{sizes_of}
use Rattle.sharing.specs.Steps.{part, Flags}
use Rattle.sharing.proofs.Loops.{Base, base_of, sizes_length, raised_none, size_fits, end_small, next_floor, next_fits, raised_more, raised_all}
use Rattle.sharing.proofs.raise_ranks.Goals as goal
use Rattle.sharing.proofs.raise_ranks.Goals.{After-from}

pub loop-k-init : goal.loop-k-init
loop-k-init c =
    let base : Base c.args.cells.order.len (sizes_of c.args.target) (listed c.args.cells.order) c.args.old = base_of c.args.cells.order.len c.args.target (listed c.args.cells.order) c.args.old c.requires.0 (search rules) c.args.cells.lists c.args.cells.short (search rules) c.requires.1 in
    let counted : length (sizes_of c.args.target) ≡ c.args.target.count = sizes_length c.args.cells.order.len c.args.target (listed c.args.cells.order) c.args.old c.requires.0 (search rules) in
    rw c.zero_pushes.ensures (rw (counted) at (raised_none (base)))

-- the size of the next rank up
sized : (c : After-from) → get_or (sizes_of c.args.target) (c.loop-k.k - 1) 0 ≡ c.from.result
sized c =
    let counted : length (sizes_of c.args.target) ≡ c.args.target.count = sizes_length c.args.cells.order.len c.args.target (listed c.args.cells.order) c.args.old c.requires.0 (search rules) in
    get_or-take c.args.target.count c.args.target.sizes (c.loop-k.k - 1) 0 (omega (arith, c.loop-k-test.true, c.loop-k.invariant.left, counted)) ∙ sym c.from.ensures

-- the cells of that rank are marked
marked : (c : After-from) (on : List Bool) → Flags on (part (c.loop-k.end - c.from.result) c.loop-k.end (listed c.args.cells.order))
    → Flags on (part (c.loop-k.end - get_or (sizes_of c.args.target) (c.loop-k.k - 1) 0) c.loop-k.end (listed c.args.cells.order))
marked c on f = rw (sized c) f

pub overflow_sub-first : goal.overflow_sub-first
overflow_sub-first c = rw (← sized c) (size_fits c.loop-k.invariant c.loop-k-test.true)

pub on_rank-requires : goal.on_rank-requires
on_rank-requires c =
    (omega arith, end_small c.loop-k.invariant c.loop-k-test.true)

pub raise_rank-p-requires : goal.raise_rank-p-requires
raise_rank-p-requires c =
    let marks = marked (goal.at.raise_rank-p-requires c).After-from c.on_rank.result c.on_rank.ensures in
    (c.args.cells.short, c.requires.1, next_floor c.loop-k.invariant c.loop-k-test.true, next_fits c.loop-k.invariant c.loop-k-test.true c.on_rank.result marks)

pub loop-k-preserved : goal.loop-k-preserved
loop-k-preserved c =
    let at = (goal.at.loop-k-preserved c).After-from in
    rw (← sized at) (raised_more c.loop-k.invariant c.loop-k-test.true c.on_rank.result (marked at c.on_rank.result c.on_rank.ensures) c.raise_rank-p.ensures)

pub returns : goal.returns
returns c = raised_all c.loop-k.invariant c.loop-k-test.false
