-- What an answer says in the refusal table's terms determines the answer.
-- Assumes nothing.
use mathlib.Core.Path.{◌≡◌, sym, ap}
use Rattle.std.specs.Prelude.{Result, Ok, Err}
use Rattle.order.specs.declared.Refusal.{Refusal}
use Rattle.order.specs.Refusals.{Told}
use Rattle.order.proofs.Refusals.{refusal_by_number, not-zero}
use Rattle.group.specs.declared.Group.{Group}
use Rattle.records.specs.declared.Answered.{Answered}
use Rattle.records.specs.Records.{Answer, told_answered}

pub told_answered_lem : (g : Group) (a b : Result Answered Refusal) → told_answered g a ≡ told_answered g b → a ≡ b
told_answered_lem g (Ok a) (Ok b) e =
    λ i. Ok (record {
      group = (ap (λ (t : Told Answer). t.value.group) e) i;
      symbol = (ap (λ (t : Told Answer). t.value.symbol) e) i;
      pulses = (ap (λ (t : Told Answer). t.value.pulses) e) i;
    })
told_answered_lem g (Ok a) (Err s) e = absurd (not-zero s (sym (ap (λ (t : Told Answer). t.number) e)))
told_answered_lem g (Err r) (Ok b) e = absurd (not-zero r (ap (λ (t : Told Answer). t.number) e))
told_answered_lem g (Err r) (Err s) e = ap (λ (x : Refusal). Err x) (refusal_by_number r s (ap (λ (t : Told Answer). t.number) e))
