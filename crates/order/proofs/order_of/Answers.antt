-- `order::order_of` meets its contract.
use mathlib.Core.Path.{◌≡◌, sym, ap, ◌∙◌}
use mathlib.Core.Bool.{true}
use lib.ListN.{length}
use Rattle.order.specs.declared.Refusal.TheVariants.{NoOrder}
use Rattle.order.specs.Refusals.{is_size}
use Rattle.order.specs.Cells.{is_order}
use Rattle.order.specs.Order.{order_of_cells, is_order_of}
use Rattle.order.proofs.Refusals.{check_fails, check_holds, all_hold, told_refused, told_done, size_true}
use Rattle.order.proofs.Records.{record_order}
use Rattle.order.proofs.order_of.Goals as goal

pub returns-then-not-is_order : goal.returns-then-not-is_order
unfolding order_of_cells
returns-then-not-is_order c =
    let sized : is_size (length c.args.cells.now) ≡ true = sym c.is_size.ensures ∙ c.if-not-is_size.false in
    let tested : c.is_order.result ≡ is_order (length c.args.cells.now) c.args.cells.now = c.is_order.ensures ∙ ap (is_order_of _) c.order_with-order.ensures ∙ record_order _ (size_true _ (sized)).1 (sized) in
    told_refused _ _ _ NoOrder (check_holds _ _ (sized) ∙ check_fails _ _ (sym (tested) ∙ c.if-not-is_order.true))

pub returns : goal.returns
unfolding order_of_cells
returns c =
    let sized : is_size (length c.args.cells.now) ≡ true = sym c.is_size.ensures ∙ c.if-not-is_size.false in
    let tested : c.is_order.result ≡ is_order (length c.args.cells.now) c.args.cells.now = c.is_order.ensures ∙ ap (is_order_of _) c.order_with-order.ensures ∙ record_order _ (size_true _ (sized)).1 (sized) in
    rw c.order_with-order.ensures
    (told_done _ _ _ (check_holds _ _ (sized) ∙ check_holds _ _ (sym (tested) ∙ c.if-not-is_order.false) ∙ all_hold))
