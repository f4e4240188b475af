-- `cost::displacements_by_rank` meets its contract. The loop's invariant: the cells before place `i` have their displacements, the others 0.
use mathlib.Core.Path.{ap₂, ◌∙◌}
use mir.Syntax.{w8}
use mir.ValLaws.{to_z-of_z}
use lib.IntN.{sub_ℕ}
use Rattle.ranks.proofs.RankNumbers.{rank_at_lem}
use Rattle.cost.proofs.Signs.{sub_fits}
use Rattle.cost.proofs.Loops.{low_at, changed_none, changed_more, changed_all}
use Rattle.cost.proofs.displacements_by_rank.Goals as goal

pub loop-i-init : goal.loop-i-init
loop-i-init c = changed_none _ _

pub displacement-requires : goal.displacement-requires
displacement-requires c = (low_at c.requires.0 _, low_at c.requires.1 _)

pub loop-i-preserved : goal.loop-i-preserved
loop-i-preserved c =
    changed_more _ _ c.loop-i.invariant c.loop-i-test.true
    (rw c.displacement.ensures (to_z-of_z w8 _ (sub_fits _ _ (low_at c.requires.1 _) (low_at c.requires.0 _)) ∙ ap₂ sub_ℕ (rank_at_lem _ _) (rank_at_lem _ _)))

pub returns : goal.returns
returns c = changed_all _ _ c.loop-i.invariant c.loop-i-test.false
