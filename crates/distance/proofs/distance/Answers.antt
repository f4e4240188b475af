-- `distance::distance` meets its contract.
use Rattle.order.proofs.Refusals.{accepted}
use Rattle.distance.proofs.Pair.{pair_listed, pair_told}
use Rattle.distance.proofs.distance.Goals as goal

pub distance_from-requires : goal.distance_from-requires
distance_from-requires c = pair_listed _ _ (accepted c.check_pair.ensures c.in_ok-check_pair.was)

pub returns : goal.returns
returns c = pair_told _ _ (accepted c.check_pair.ensures c.in_ok-check_pair.was) c.distance_from.ensures
