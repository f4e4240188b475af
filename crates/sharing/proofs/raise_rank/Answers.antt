-- `sharing::raise_rank` meets its contract. The loop's invariant: of the cells up to `c` those that are marked are on the rank.
use borrow.Author.Rules.{rules}
use mathlib.Core.Path.{refl}
use native.Mathlib.Numerals.{add-one}
use native.Mathlib.Omega.{arith}
use Rattle.group.proofs.LevelRows.{all_at}
use Rattle.sharing.specs.Steps.{rank_up}
use Rattle.sharing.proofs.raise_rank.Goals as goal
use Rattle.sharing.proofs.raise_rank.Goals.{then-on-c, else-on-c}

pub loop-c-init : goal.loop-c-init
unfolding rank_up
loop-c-init c = (omega arith, refl)

pub raise_cell-up-requires : goal.raise_cell-up-requires
raise_cell-up-requires c =
    let room = c.requires.3 c.loop-c.c c.loop-c-test.true c.if-on-c.true in
    (omega arith, omega (arith, c.loop-c-test.true, c.requires.0), omega (arith, all_at 4095 c.args.old c.requires.1 c.loop-c.c), c.requires.2, rw c.loop-c.invariant.1 room.0, rw c.loop-c.invariant.1 room.1)

pub loop-c-preserved : goal.loop-c-preserved
unfolding rank_up
loop-c-preserved c =
    (search rules, elim c.if-on-c.branch [ then-on-c w ↦ rw (w.up-is, w.raise_cell-up.ensures, add-one c.loop-c.c, w.if-on-c.true, c.loop-c.invariant.1) | else-on-c w ↦ rw (w.up-is, add-one c.loop-c.c, w.if-on-c.false) c.loop-c.invariant.1 ])
