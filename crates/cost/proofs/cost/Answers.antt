-- `cost::cost` meets its contract.
use Rattle.ranks.specs.Ranks.{ranks_of}
use Rattle.order.proofs.Refusals.{told_done}
use Rattle.cost.specs.Cost.{cost_of}
use Rattle.cost.proofs.Pairs.{pair_done, pair_low}
use Rattle.cost.proofs.ByRank.{cost_ranked}
use Rattle.cost.proofs.cost.Goals as goal

pub largest_growth-requires : goal.largest_growth-requires
largest_growth-requires c = pair_low _ _ _ c.ranks_of_pair.ensures c.in_ok-from.was

pub returns : goal.returns
unfolding cost_of ranks_of
returns c =
    let p = pair_done c.args.u c.args.v _ c.ranks_of_pair.ensures c.in_ok-from.was in
    rw (cost_ranked c.args.u c.args.v p.0 _ (rw (p.1, p.2) at c.largest_growth.ensures)) (told_done _ _ _ p.0)
