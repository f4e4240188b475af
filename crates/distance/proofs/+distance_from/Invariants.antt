-- `distance::distance_from` meets its contract, by SD 003's theorem 1. The measure is n.
use Rattle.distance.proofs.+distance_from.Given as goal

abbrev pub decreases-distance_from : goal.decreases-distance_from
decreases-distance_from l = l.n
