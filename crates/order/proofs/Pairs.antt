-- What two orders that pass the checks of a pair tell.
-- Assumes nothing.
use Prim.Native.Nat.{ℕ, ◌≤◌}
use mathlib.Core.Path.{◌≡◌, ap, ◌∙◌}
use mathlib.Core.Bool.{true}
use mathlib.Core.List.{[], ◌∷◌}
use Rattle.order.specs.declared.Order.{Order}
use Rattle.order.specs.declared.Refusal.TheVariants.{Size, NoOrder}
use Rattle.order.specs.Refusals.{number_of, is_size}
use Rattle.order.specs.Cells.{is_order}
use Rattle.order.specs.Order.{listed, is_order_of, order_checks, pair_checks}
use Rattle.order.proofs.Check.{order_parts}
use Rattle.order.proofs.Refusals.{check_held, check_holds, all_hold, size_true}

module _ (u v : Order) (d : number_of (pair_checks u v) ≡ 0) where
  sized : (is_size u.len ≡ true) × (number_of ((is_order_of u.len u, NoOrder) ∷ (is_order_of u.len v, NoOrder) ∷ []) ≡ 0)
  sized = check_held (is_size u.len) Size _ d

  first : (is_order_of u.len u ≡ true) × (number_of ((is_order_of u.len v, NoOrder) ∷ []) ≡ 0)
  first = check_held (is_order_of u.len u) NoOrder _ sized.1

  second : is_order_of u.len v ≡ true
  second = (check_held (is_order_of u.len v) NoOrder [] first.1).0

  pub same_length : v.len ≡ u.len
  same_length = (order_parts u.len v second).1.long

  -- both have ranks
  pub passed_first : number_of (order_checks u) ≡ 0
  passed_first = check_holds _ _ sized.0 ∙ check_holds _ _ first.0 ∙ all_hold

  pub passed_second : number_of (order_checks v) ≡ 0
  passed_second =
      check_holds _ _ (ap is_size same_length ∙ sized.0)
      ∙ check_holds _ _ (ap (λ (n : ℕ). is_order_of n v) same_length ∙ second) ∙ all_hold

  pub pair_size : (3 ≤ u.len) × (u.len ≤ 12)
  pair_size = size_true u.len sized.0

  pub first_order : is_order u.len (listed u) ≡ true
  first_order = (order_parts u.len u first.0).1.order

  pub second_order : is_order u.len (listed v) ≡ true
  second_order = (order_parts u.len v second).1.order
