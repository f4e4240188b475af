-- `push_list::put_into` meets its contract.
use mathlib.Core.Path.{refl, sym}
use native.Mathlib.Omega.{arith}
use Rattle.std.proofs.lemmas.Grind.{common_steps}
use Rattle.push_list.specs.LentWrite.{list_after}
use Rattle.order.proofs.Refusals.{refused_zeros}
use Rattle.push_list.proofs.put_into.Goals as goal

pub returns-in_err-group : goal.returns-in_err-group
unfolding list_after
returns-in_err-group c g = rw c.in_err-group.was (grind (arith, common_steps), sym (refused_zeros _ _ _))

pub returns : goal.returns
unfolding list_after
returns c g = rw (c.in_ok-group.was, c.copy_from_slice.ensures.after) (refl, refl)
