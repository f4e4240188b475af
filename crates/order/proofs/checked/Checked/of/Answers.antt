-- `order::Checked::of` keeps the type's promise.
use mathlib.Core.Path.{sym, ◌∙◌}
use Rattle.order.proofs.Parts.{order_long, order_short, order_lists}
use Rattle.order.proofs.checked.Checked.of.Goals as goal

pub invariant_of-result : goal.invariant_of-result
invariant_of-result c =
    let e = sym c.is_order.ensures ∙ c.if-not-is_order.false in
    record { long = order_long _ _ e; short = order_short _ _ e; lists = order_lists _ _ e }
