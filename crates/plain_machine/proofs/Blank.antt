-- After an accepted shared write, by value or into a lent list, the group is blank: a read and a scrub are refused 6.
-- Assumes nothing.
use mathlib.Core.Path.{◌≡◌, ap, ◌∙◌}
use mathlib.Core.Bool.{true, false}
use Rattle.order.specs.declared.Refusal.TheVariants.{Blank}
use Rattle.order.specs.Refusals.{number_of, answer}
use Rattle.order.proofs.Refusals.{check_fails, later_decide}
use Rattle.group.specs.declared.Group.{Group}
use Rattle.group.specs.Record.{group_checks, IsGroup}
use Rattle.push_up.specs.WriteAnswer.{Program, pushed}
use Rattle.plain_machine.specs.declared.Call.{Call}
use Rattle.plain_machine.specs.Machine.{writes, marks, apply_of}
use Rattle.plain_machine.proofs.Machine.{apply_pushed, apply_group}
use Rattle.engine.specs.ReadStore.{read_of}
use Rattle.engine.specs.Scrub.{scrub_of}

module _ (g : Group) (c : Call) (h : IsGroup g) (w : writes c.kind ≡ true) (m : marks c.kind ≡ false) (e : (apply_of g c).number ≡ 0) where
  abbrev after : Group
  after = (apply_of g c).value.group

  passes : number_of (group_checks after) ≡ 0
  passes = (apply_group g c h).passes

  unmarked : after.written ≡ false
  unfolding pushed
  unmarked = ap (λ (p : Program). p.group.written) (apply_pushed g c w e) ∙ m

  pub shared_blank : ((read_of after).number ≡ 6) × ((scrub_of after).number ≡ 6)
  unfolding read_of scrub_of answer
  shared_blank = (later_decide _ (group_checks after) passes ∙ check_fails Blank _ unmarked, later_decide _ (group_checks after) passes ∙ check_fails Blank _ unmarked)
