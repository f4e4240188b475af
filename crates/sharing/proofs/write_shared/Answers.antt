-- `sharing::write_shared` meets its contract.
use Prim.Native.Nat.{ℕ}
use mathlib.Core.Path.{◌≡◌, sym, ap, ◌∙◌}
use mathlib.Core.Bool.{true, false}
use mathlib.Core.List.{◌++◌}
use Rattle.std.proofs.Common.{arith}
use Rattle.std.proofs.lemmas.Grind.{common_steps}
use Rattle.order.specs.Refusals.{number_of}
use Rattle.order.specs.declared.Order.{Order}
use Rattle.order.specs.Order.{listed, is_order_of}
use Rattle.order.proofs.Check.{order_parts}
use Rattle.order.proofs.Refusals.{accepted, check_holds, all_hold, later_decide}
use Rattle.group.specs.Record.{group_checks}
use Rattle.push_up.specs.Steps.{push_up_to}
use Rattle.group.proofs.LevelRows.{row_true}
use Rattle.group.proofs.Checks.{checked_levels}
use Rattle.push_up.proofs.Writes.{refused_after, programmed_after}
use Rattle.sharing.specs.Shared.{sizes_of, is_sizes, ranks_of, shared_target, ranked_checks, write_shared_of}
use Rattle.sharing.proofs.write_shared.Goals as goal
use Rattle.sharing.proofs.write_shared.Goals.{After-raise_ranks-p}

-- the checked cells are as many as the group has
as_long : {n : ℕ} {o p : Order} → (p ≡ o) × (is_order_of n o ≡ true) → p.len ≡ n
as_long {n} {o} t = ap (λ (q : Order). q.len) t.0 ∙ (order_parts n o t.1).1.long

pub raise_ranks-p-requires : goal.raise_ranks-p-requires
raise_ranks-p-requires c =
    let sized : is_sizes c.args.g.n c.args.target ≡ true = sym c.are_sizes.ensures ∙ c.if-not-are_sizes.false in
    (ap (λ (n : ℕ). is_sizes n c.args.target) (as_long c.in-Some.ensures) ∙ sized, row_true 4095 _ _ (checked_levels c.args.g (accepted c.check.ensures c.in_ok-check.was)))

-- the checks before the push-up hold, and the push-up is that of the group's cells
module _ (c : After-raise_ranks-p) where
  passed : number_of (group_checks c.args.g) ≡ 0
  passed = accepted c.check.ensures c.in_ok-check.was

  ordered : is_order_of c.args.g.n c.args.target.cells ≡ true
  ordered = c.in-Some.ensures.1

  held : number_of (group_checks c.args.g ++ ranked_checks c.args.g.n c.args.target) ≡ 0
  held =
      later_decide _ (group_checks c.args.g) passed ∙ check_holds _ _ (sym c.are_sizes.ensures ∙ c.if-not-are_sizes.false)
      ∙ check_holds _ _ ordered ∙ all_hold

  raised : c.raise_ranks-p.result ≡ push_up_to 1 (shared_target c.args.g.n c.args.target) c.args.g.levels
  raised =
      c.raise_ranks-p.ensures
      ∙ ap (λ (o : Order). push_up_to 1 (ranks_of o.len (sizes_of c.args.target) (listed o)) c.args.g.levels) c.in-Some.ensures.0
      ∙ ap (λ (n : ℕ). push_up_to 1 (shared_target n c.args.target) c.args.g.levels) (order_parts c.args.g.n c.args.target.cells ordered).1.long

pub returns-in_err-used : goal.returns-in_err-used
unfolding write_shared_of
returns-in_err-used c =
    let at = (goal.at.returns-in_err-used c).After-raise_ranks-p in
    (grind (arith, common_steps)) ∙ refused_after c.args.g (passed at) (shared_target c.args.g.n c.args.target) _ false (held at) (raised at) c.in_err-used.field-0.0 c.in_err-used.ensures

pub returns : goal.returns
unfolding write_shared_of
returns c =
    let at = (goal.at.returns c).After-raise_ranks-p in
    rw c.programmed.ensures (programmed_after c.args.g (passed at) (shared_target c.args.g.n c.args.target) _ false (held at) (raised at) _ c.in_ok-used.ensures)
