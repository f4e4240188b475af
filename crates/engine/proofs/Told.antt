-- What an answer says in the refusal table's terms determines the answer.
-- Assumes nothing.
use mathlib.Core.Path.{◌≡◌, refl, sym, ap, ◌∙◌}
use mathlib.Core.Bool.{Bool, false}
use mathlib.Core.Option.{Option, none, some}
use Rattle.std.specs.Prelude.{Option as Held, Some, None, Result, Ok, Err}
use Rattle.order.specs.declared.Refusal.{Refusal}
use Rattle.order.specs.Refusals.{Told}
use Rattle.order.proofs.Refusals.{refusal_by_number, not-zero}
use Rattle.order.proofs.Told.{told_lem}
use Rattle.code.specs.declared.Decoded.{Decoded}
use Rattle.code.specs.declared.Verdict.{Verdict}
use Rattle.code.proofs.Told.{told_decode_lem}
use Rattle.group.specs.declared.Group.{Group}
use Rattle.engine.specs.declared.Applied.{Applied}
use Rattle.engine.specs.ReadStore.{told_read, told_alike}
use Rattle.engine.specs.Scrub.{Step, judged, applied_step, told_applied}

pub told_read_lem : (a b : Result Decoded Refusal) → told_read a ≡ told_read b → a ≡ b
told_read_lem a b e = told_decode_lem a b e

pub told_alike_lem : (a b : Result Bool Refusal) → told_alike a ≡ told_alike b → a ≡ b
told_alike_lem a b e = told_lem false a b e

-- the answer that holds a verdict, or none
holding : Option Verdict → Held Verdict
holding none = None
holding (some v) = Some v

judged_by : (a : Held Verdict) → holding (judged a) ≡ a
unfolding holding
judged_by None = refl
judged_by (Some v) = refl

-- what an accepted answer carries determines it
step_applied : (a b : Applied) → applied_step a ≡ applied_step b → a ≡ b
step_applied a b e =
    let verdict = sym (judged_by a.verdict) ∙ ap (λ (s : Step). holding s.verdict) e ∙ judged_by b.verdict in
    λ i. record {
      group = (ap (λ (s : Step). s.group) e) i;
      symbol = (ap (λ (s : Step). s.symbol) e) i;
      verdict = verdict i;
      pulses = (ap (λ (s : Step). s.pulses) e) i;
      count = (ap (λ (s : Step). s.count) e) i;
      pushes = (ap (λ (s : Step). s.pushes) e) i;
    }

pub told_applied_lem : (g : Group) (a b : Result Applied Refusal) → told_applied g a ≡ told_applied g b → a ≡ b
told_applied_lem g (Ok a) (Ok b) e = ap (λ (x : Applied). Ok x) (step_applied a b (ap (λ (t : Told Step). t.value) e))
told_applied_lem g (Ok a) (Err s) e = absurd (not-zero s (sym (ap (λ (t : Told Step). t.number) e)))
told_applied_lem g (Err r) (Ok b) e = absurd (not-zero r (ap (λ (t : Told Step). t.number) e))
told_applied_lem g (Err r) (Err s) e = ap (λ (x : Refusal). Err x) (refusal_by_number r s (ap (λ (t : Told Step). t.number) e))
