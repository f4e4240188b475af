-- What a record tells that is an order of n cells.
-- Assumes nothing.
use Prim.Native.Nat.{ℕ, ◌≤◌}
use native.Mathlib.Omega.{arith}
use mathlib.Core.Path.{◌≡◌, ap, ◌∙◌}
use mathlib.Core.Bool.{true}
use Rattle.order.specs.declared.Order.{Order}
use Rattle.order.specs.Cells.{is_order}
use Rattle.order.specs.Order.{listed, is_order_of}
use Rattle.order.proofs.Refusals.{size_true}
use Rattle.order.proofs.Check.{order_parts}

module _ (n : ℕ) (o : Order) (e : is_order_of n o ≡ true) where
  pub order_long : 3 ≤ o.len
  order_long = let p = order_parts n o e in omega (arith, p.1.long, size_true n p.0)

  pub order_short : o.len ≤ 12
  order_short = let p = order_parts n o e in omega (arith, p.1.long, size_true n p.0)

  pub order_lists : is_order o.len (listed o) ≡ true
  order_lists = let p = order_parts n o e in ap (λ (k : ℕ). is_order k (listed o)) p.1.long ∙ p.1.order
