-- What an answer says in the refusal table's terms determines the answer.
-- Assumes nothing.
use Rattle.std.proofs.Common.{◌≡◌, ap, sym}
use Rattle.std.specs.Prelude.{Result, Ok, Err}
use Rattle.order.specs.declared.Refusal.{Refusal}
use Rattle.order.specs.Refusals.{Told}
use Rattle.order.proofs.Refusals.{refusal_by_number, not-zero}
use Rattle.group.specs.declared.Group.{Group}
use Rattle.push_up.specs.declared.Written.{Written}
use Rattle.push_up.specs.WriteAnswer.{Program, told_written}

pub told_written_lem : (g : Group) (a b : Result Written Refusal) → told_written g a ≡ told_written g b → a ≡ b
told_written_lem g (Ok x) (Ok y) e =
    λ i. Ok (record {
      group = (ap (λ (t : Told Program). t.value.group) e) i;
      pulses = (ap (λ (t : Told Program). t.value.pulses) e) i;
      count = (ap (λ (t : Told Program). t.value.count) e) i;
      pushes = (ap (λ (t : Told Program). t.value.pushes) e) i;
    })
told_written_lem g (Ok x) (Err s) e = absurd (not-zero s (sym (ap (λ (t : Told Program). t.number) e)))
told_written_lem g (Err r) (Ok y) e = absurd (not-zero r (ap (λ (t : Told Program). t.number) e))
told_written_lem g (Err r) (Err s) e = ap Err (refusal_by_number r s (ap (λ (t : Told Program). t.number) e))
