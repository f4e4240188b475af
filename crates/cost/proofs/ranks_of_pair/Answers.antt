-- `cost::ranks_of_pair` meets its contract. Where the pair passes its checks each order passes its own, so neither is refused its ranks.
use Rattle.order.proofs.Refusals.{accepted, told_done}
use Rattle.order.proofs.Pairs.{passed_first, passed_second}
use Rattle.cost.specs.Steps.{ranks_of_pair}
use Rattle.cost.proofs.Pairs.{ranks_found, not_refused}
use Rattle.cost.proofs.ranks_of_pair.Goals as goal

pub returns-in_err-ranks_of : goal.returns-in_err-ranks_of
returns-in_err-ranks_of c =
    let done = accepted c.check_pair.ensures c.in_ok-check_pair.was in
    absurd (not_refused c.args.u _ c.ranks_of.ensures (passed_first c.args.u c.args.v done) _ c.in_err-ranks_of.was)

pub returns-in_err-ranks_of-2 : goal.returns-in_err-ranks_of-2
returns-in_err-ranks_of-2 c =
    let done = accepted c.check_pair.ensures c.in_ok-check_pair.was in
    absurd (not_refused c.args.v _ c.ranks_of-2.ensures (passed_second c.args.u c.args.v done) _ c.in_err-ranks_of-2.was)

pub returns : goal.returns
unfolding ranks_of_pair
returns c =
    let done = accepted c.check_pair.ensures c.in_ok-check_pair.was in
    rw (ranks_found c.args.u _ c.ranks_of.ensures (passed_first c.args.u c.args.v done) _ c.in_ok-ranks_of.was, ranks_found c.args.v _ c.ranks_of-2.ensures (passed_second c.args.u c.args.v done) _ c.in_ok-ranks_of-2.was)
    (told_done _ _ _ done)
