-- `cost::largest_growth` meets its contract. The loop's invariant: `most` is the largest rise of the cells before place `i`.
use native.Mathlib.Omega.{arith}
use Rattle.ranks.proofs.RankNumbers.{rank_at_lem}
use Rattle.cost.proofs.Loops.{grown_more}
use Rattle.cost.proofs.largest_growth.Goals as goal

pub loop-i-preserved : goal.loop-i-preserved
loop-i-preserved c = grown_more c.loop-i.invariant (omega arith) c.requires.2 (rank_at_lem _ _) (rank_at_lem _ _) (omega arith)
