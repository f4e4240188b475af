-- `ranks::ranks_are_clear_past` meets its contract.
use Rattle.std.proofs.Common.{◌∙◌, nat_eq, rules, tests}
use Rattle.std.proofs.lemmas.List.{take_rest}
use Rattle.std.proofs.lemmas.Iterator.{YieldsList-from_slice}
use Rattle.std.proofs.lemmas.Iterator.Search.{all_from_yields_List}
use Rattle.order.specs.declared.Rank.{Rank}
use Rattle.ranks.proofs.RankNumbers.{clear_past}
use Rattle.ranks.proofs.ranks_are_clear_past.Goals as goal

pub returns : goal.returns
returns c =
    let past = c.iter.ensures.rest ∙ take_rest c.args.r.ranks c.args.size.cells in
    all_from_yields_List (λ (k : Rank). nat_eq k.0 0) _ _ c.all.result c.all.ensures.ran (YieldsList-from_slice _ past) (λ x b q k. search (rules, tests))
    ∙ clear_past c.args.r c.args.size.cells
