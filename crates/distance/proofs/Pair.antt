-- What two orders that pass the checks tell, and the answers to `distance`.
-- Assumes nothing.
use Prim.Native.Nat.{ℕ}
use mathlib.Core.Path.{◌≡◌, sym, ap, ◌∙◌}
use Rattle.order.specs.declared.Order.{Order}
use Rattle.order.specs.Refusals.{number_of}
use Rattle.order.specs.Cells.{is_order}
use Rattle.order.specs.Order.{listed, pair_checks}
use Rattle.order.proofs.Refusals.{told_done}
use Rattle.order.proofs.Pairs.{pair_size, same_length, first_order, second_order}
use Rattle.distance.specs.Distance.{opposed, distance_of}
use Rattle.distance.specs.Steps.{front, SameFront}
use Rattle.distance.proofs.Step.{orders_listed}

module _ (u v : Order) (d : number_of (pair_checks u v) ≡ 0) where
  pub pair_listed : SameFront u v u.len
  pair_listed =
      orders_listed u v u.len (pair_size u v d).1 (first_order u v d)
      (ap (λ (k : ℕ). is_order u.len (front k v)) (sym (same_length u v d)) ∙ second_order u v d)

  pub pair_told : {a : ℕ} → a ≡ opposed (front u.len u) (front u.len v) → record { number = 0; value = a } ≡ distance_of u v
  unfolding distance_of
  pair_told e =
      rw (e ∙ ap (λ (k : ℕ). opposed (listed u) (front k v)) (sym (same_length u v d)))
      (told_done (pair_checks u v) (opposed (listed u) (listed v)) 0 d)
