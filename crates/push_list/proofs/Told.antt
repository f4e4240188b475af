-- What an answer says in the refusal table's terms determines the answer.
-- Assumes nothing.
use mathlib.Core.Path.{◌≡◌, ap, sym}
use Rattle.std.specs.Prelude.{Result, Ok, Err}
use Rattle.order.specs.declared.Refusal.{Refusal}
use Rattle.order.specs.Refusals.{Told}
use Rattle.order.proofs.Refusals.{refusal_by_number, not-zero}
use Rattle.group.specs.declared.Group.{Group}
use Rattle.push_list.specs.declared.WrittenInto.{WrittenInto}
use Rattle.push_list.specs.LentWrite.{Carried, told_into}

pub told_into_lem : (g : Group) (a b : Result WrittenInto Refusal) → told_into g a ≡ told_into g b → a ≡ b
told_into_lem g (Ok x) (Ok y) e =
    λ i. Ok (record {
      group = (ap (λ (t : Told Carried). t.value.group) e) i;
      pulses = (ap (λ (t : Told Carried). t.value.pulses) e) i;
      count = (ap (λ (t : Told Carried). t.value.count) e) i;
    })
told_into_lem g (Ok x) (Err s) e = absurd (not-zero s (sym (ap (λ (t : Told Carried). t.number) e)))
told_into_lem g (Err r) (Ok y) e = absurd (not-zero r (ap (λ (t : Told Carried). t.number) e))
told_into_lem g (Err r) (Err s) e = ap Err (refusal_by_number r s (ap (λ (t : Told Carried). t.number) e))
