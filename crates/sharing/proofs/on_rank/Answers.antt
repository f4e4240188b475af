-- `sharing::on_rank` meets its contract. The loop's invariant: the cells that are listed from place `i` on are marked.
use Prim.Native.Nat.{◌-◌, ◌<◌, ◌≤◌}
use mathlib.Core.Path.{◌≡◌, sym, ◌∙◌}
use mathlib.Core.Bool.{true}
use mathlib.Core.List.{◌∷◌}
use native.Mathlib.Omega.{arith}
use lib.ListN.{get_or, length-set}
use lib.Seq.{get_or-take}
use Rattle.order.specs.Order.{cell_numbers, listed}
use Rattle.order.proofs.Cells.{order_true, order_range}
use Rattle.order.proofs.Numbers.{place_at}
use Rattle.sharing.specs.Steps.{part}
use Rattle.sharing.proofs.Loops.{flags_more, part_down}
use Rattle.sharing.proofs.on_rank.Goals as goal
use Rattle.sharing.proofs.on_rank.Goals.{After-number}

-- the cell that is met is one of the group's, and heads the part of the list from its place on
met : (c : After-number)
    → (1 ≤ c.number.result) × (c.number.result ≤ 12) × (part (c.loop-i.i - 1) c.args.end (listed c.args.cells.order) ≡ c.number.result ∷ part c.loop-i.i c.args.end (listed c.args.cells.order))
met c =
    let xs = listed c.args.cells.order in
    let inside : c.loop-i.i - 1 < c.args.cells.order.len = omega (arith, c.loop-i-test.true, c.loop-i.invariant.1, c.requires.1) in
    let order = order_true c.args.cells.order.len xs c.args.cells.lists in
    let here : c.number.result ≡ get_or xs (c.loop-i.i - 1) 0
    = c.number.ensures ∙ place_at c.args.cells.order (c.loop-i.i - 1) ∙ sym (get_or-take c.args.cells.order.len (cell_numbers c.args.cells.order) (c.loop-i.i - 1) 0 inside) in
    let range = order_range c.args.cells.order.len xs order (c.loop-i.i - 1) inside in
    rw here (range.0, omega (arith, range, c.args.cells.short), part_down c.loop-i.i c.args.end xs (omega (arith, c.loop-i-test.true)) c.loop-i.invariant.1 (omega (arith, order.size, c.requires.1)))

pub overflow_sub-on : goal.overflow_sub-on
overflow_sub-on c = (met c).0

pub bounds-on-number : goal.bounds-on-number
bounds-on-number c = omega (arith, met (goal.at.bounds-on-number c).After-number)

pub loop-i-preserved : goal.loop-i-preserved
loop-i-preserved c =
    let m = met (goal.at.loop-i-preserved c).After-number in (
      omega (arith, c.loop-i-test.true),
      omega (arith, c.loop-i.invariant.1),
      rw m.2 (flags_more c.loop-i.on (part c.loop-i.i c.args.end (listed c.args.cells.order)) c.number.result m.0 (omega (arith, m, c.loop-i.invariant.3)) c.loop-i.invariant.2),
      length-set c.loop-i.on (c.number.result - 1) true ∙ c.loop-i.invariant.3,
    )
