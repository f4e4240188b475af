-- `take_over::row_of` meets its contract.
use Rattle.std.proofs.Common.{◌≡◌, true, sym, ◌∙◌}
use Rattle.std.specs.List.{list_all}
use Rattle.std.specs.Ordering.{partial_le}
use Rattle.take_over.proofs.Rows.{row_passed}
use Rattle.take_over.proofs.row_of.Goals as goal

pub returns : goal.returns
returns g c =
    let low : list_all (λ x. partial_le g.T.PartialOrd.partial_cmp x c.args.most) c.args.values.now ≡ true = sym c.all_within.ensures ∙ c.if-not-all_within.false in
    rw c.copy_from_slice.ensures.after (row_passed c.args.zero _ c.args.size.cells c.args.values.now c.if-values-n.false low)
