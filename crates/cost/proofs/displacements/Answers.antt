-- `cost::displacements` meets its contract.
use Rattle.order.proofs.Refusals.{told_done}
use Rattle.cost.specs.Cost.{displacements_of}
use Rattle.cost.proofs.Pairs.{pair_done, pair_low}
use Rattle.cost.proofs.ByRank.{displacements_ranked}
use Rattle.cost.proofs.displacements.Goals as goal

pub displacements_by_rank-requires : goal.displacements_by_rank-requires
displacements_by_rank-requires c =
    let p = pair_low _ _ _ c.ranks_of_pair.ensures c.in_ok-from.was in
    (p.1, p.2)

pub returns : goal.returns
unfolding displacements_of
returns c =
    let p = pair_done c.args.u c.args.v _ c.ranks_of_pair.ensures c.in_ok-from.was in
    rw (c.displacements_by_rank.ensures, p.1, p.2, displacements_ranked c.args.u c.args.v) (told_done _ _ _ p.0)
