-- `order::is_order` meets its contract.
use native.Mathlib.Omega.{arith}
use mathlib.Core.Path.{◌≡◌, sym, ◌∙◌}
use mathlib.Core.Bool.{true, true≢false}
use borrow.Author.Tests.{eqb-true}
use Rattle.order.specs.Refusals.{is_size}
use Rattle.order.proofs.Refusals.{size_true}
use Rattle.order.proofs.Check.{other_length, not_size, sized_listing, by_padded, not_padded}
use Rattle.order.proofs.is_order.Goals.{then-o-n, else-o-n, then-is_size, else-is_size}
use Rattle.order.proofs.is_order.Goals as goal

pub returns-then-is_padded : goal.returns-then-is_padded
returns-then-is_padded c =
    elim c.if-is_size.branch [
      | then-is_size w ↦
          elim c.if-o-n.branch [
            | then-o-n v ↦
                c.lists_each_once.ensures
                ∙ by_padded _ _ _ v.if-o-n.true (sym w.is_padded.ensures ∙ sym w.value-is ∙ c.if-is_padded.true)
                ∙ sized_listing _ _ (sym v.is_size.ensures ∙ sym v.value-is ∙ w.if-is_size.true)
            | else-o-n v ↦ absurd (v.if-o-n.false (eqb-true _ _ (sym v.value-is ∙ w.if-is_size.true)))
          ]
      | else-is_size w ↦ absurd (true≢false (sym c.if-is_padded.true ∙ w.value-is ∙ w.if-is_size.false))
    ]

pub returns-else-is_padded : goal.returns-else-is_padded
returns-else-is_padded c =
    c.if-is_padded.false
    ∙ elim c.if-is_size.branch [
      | then-is_size w ↦
          elim c.if-o-n.branch [
            | then-o-n v ↦
                let sized : is_size c.args.n ≡ true = sym v.is_size.ensures ∙ sym v.value-is ∙ w.if-is_size.true in
                not_padded _ _ _ v.if-o-n.true (omega (arith, (size_true c.args.n sized).1)) (sym w.is_padded.ensures ∙ sym w.value-is ∙ c.if-is_padded.false)
                ∙ sized_listing _ _ sized
            | else-o-n v ↦ other_length _ _ v.if-o-n.false
          ]
      | else-is_size w ↦
          elim c.if-o-n.branch [
            | then-o-n v ↦ not_size _ _ (sym v.is_size.ensures ∙ sym v.value-is ∙ w.if-is_size.false)
            | else-o-n v ↦ other_length _ _ v.if-o-n.false
          ]
    ]
