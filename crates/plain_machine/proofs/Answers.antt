-- What a refused write, shared write or store answers as a call of the machine: the group alone, and no symbol.
-- Assumes nothing.
use Prim.Native.Nat.{ℕ}
use mathlib.Core.Path.{◌≡◌, ap}
use Rattle.order.specs.declared.Refusal.{Refusal}
use Rattle.order.specs.Refusals.{refusal_number, Told}
use Rattle.order.proofs.Refusals.{refused_zeros}
use Rattle.group.specs.declared.Group.{Group}
use Rattle.push_up.specs.WriteAnswer.{Program, unpushed}
use Rattle.engine.specs.Scrub.{quiet}
use Rattle.plain_machine.specs.Machine.{after_program}

pub refused_program : (g : Group) (r : Refusal) (s : ℕ) {t : Told Program} → record { number = refusal_number r; value = unpushed g } ≡ t
    → record { number = refusal_number r; value = quiet g } ≡ after_program t s
refused_program g r s e = rw refused_zeros at (ap (λ (t : Told Program). after_program t s) e)
