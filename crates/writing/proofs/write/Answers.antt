-- `writing::write` meets its contract.
use mathlib.Core.Path.{◌≡◌, ap, ◌∙◌}
use mathlib.Core.List.{[], ◌∷◌, ◌++◌}
use Rattle.std.proofs.Common.{true, arith}
use Rattle.std.proofs.lemmas.Grind.{common_steps}
use Rattle.order.specs.declared.Order.{Order}
use Rattle.order.specs.declared.Refusal.TheVariants.{NoOrder}
use Rattle.order.specs.Refusals.{number_of}
use Rattle.order.specs.Order.{listed, is_order_of}
use Rattle.order.proofs.Refusals.{accepted, check_holds, all_hold, later_decide}
use Rattle.group.specs.Record.{group_checks}
use Rattle.group.proofs.LevelRows.{row_true}
use Rattle.group.proofs.Checks.{checked_levels}
use Rattle.push_up.specs.PushUp.{singles}
use Rattle.push_up.specs.Steps.{push_up_to}
use Rattle.push_up.specs.WriteAnswer.{write_of}
use Rattle.push_up.proofs.Writes.{refused_after, programmed_after}
use Rattle.writing.proofs.write.Goals as goal
use Rattle.writing.proofs.write.Goals.{After-raise_all-p}

pub raise_all-p-requires : goal.raise_all-p-requires
raise_all-p-requires c = row_true 4095 _ _ (checked_levels c.args.g (accepted c.check.ensures c.in_ok-check.was))

-- the checks before the push-up hold, and the push-up is that of the order handed in
module _ (c : After-raise_all-p) where
  passed : number_of (group_checks c.args.g) ≡ 0
  passed = accepted c.check.ensures c.in_ok-check.was

  held : number_of (group_checks c.args.g ++ (is_order_of c.args.g.n c.args.target, NoOrder) ∷ []) ≡ 0
  held = later_decide _ (group_checks c.args.g) passed ∙ check_holds _ _ c.in-Some.ensures.1 ∙ all_hold

  raised : c.raise_all-p.result ≡ push_up_to 1 (singles (listed c.args.target)) c.args.g.levels
  raised = c.raise_all-p.ensures ∙ ap (λ (o : Order). push_up_to 1 (singles (listed o)) c.args.g.levels) c.in-Some.ensures.0

pub returns-in_err-used : goal.returns-in_err-used
unfolding write_of
returns-in_err-used c =
    let at = (goal.at.returns-in_err-used c).After-raise_all-p in
    (grind (arith, common_steps)) ∙ refused_after c.args.g (passed at) (singles (listed c.args.target)) _ true (held at) (raised at) c.in_err-used.field-0.0 c.in_err-used.ensures

pub returns : goal.returns
unfolding write_of
returns c =
    let at = (goal.at.returns c).After-raise_all-p in
    rw c.programmed.ensures (programmed_after c.args.g (passed at) (singles (listed c.args.target)) _ true (held at) (raised at) _ c.in_ok-used.ensures)
