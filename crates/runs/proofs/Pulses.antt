-- A stream's record has at most 49,140 pulses: twelve cells that rise from 0 to 4,095.
-- Assumes nothing.
use mathlib.Core.Path.{◌≡◌, refl, sym, subst}
use mathlib.Core.Logic.{inl, inr}
use mathlib.Core.Bool.{true}
use Prim.Native.Nat.{◌*◌, ◌≤◌}
use native.Mathlib.Omega.{arith}
use mathlib.Core.List.{List, [], ◌∷◌}
use lib.ListN.{length}
use Rattle.order.specs.Refusals.{Told}
use Rattle.group.specs.declared.Group.{Group}
use Rattle.group.specs.Record.{all_at_most}
use Rattle.group.proofs.LevelRows.{row_true, rises_most}
use Rattle.group.proofs.Checks.{checked_levels}
use Rattle.plain_machine.specs.Machine.{apply_of}
use Rattle.plain_machine.proofs.Machine.{apply_rises}
use Rattle.records.specs.declared.CallRecord.{CallRecord}
use Rattle.records.specs.declared.Request.{Request}
use Rattle.records.specs.declared.Request.TheVariants.{Open, Apply}
use Rattle.std.specs.Prelude.{Result, Ok, Err}
use Rattle.order.specs.declared.Refusal.{Refusal}
use Rattle.records.specs.Records.{Answer, request_of, call_of, step_by, step_of}
use Rattle.runs.specs.Text.{all_pulses}
use Rattle.runs.proofs.Course.{Begun, by_request, request_begun, step_begun}

begun_levels : (g : Group) → Begun g → (all_at_most 4095 g.levels ≡ true) × (length g.levels ≡ 12)
unfolding all_at_most
begun_levels g (inl e) = rw e (refl, refl)
begun_levels g (inr h) = (row_true 4095 g.n g.levels (checked_levels g h.passes), h.levels)

request_pulses : (g : Group) (q : Result Request Refusal) → Begun g → Begun (step_by g q).value.group → (step_by g q).value.pulses ≤ 49140
request_pulses g (Err refusal) b n = omega arith
request_pulses g (Ok (Open k)) b n = omega arith
request_pulses g (Ok (Apply kind)) b n =
    let new : Group = (apply_of g (call_of kind)).value.group in
    omega (arith, apply_rises g (call_of kind) (begun_levels g b).1, rises_most g.levels new.levels (begun_levels new n).0, (begun_levels g b).1)

step_pulses : (g : Group) (r : CallRecord) → Begun g → (step_of g r).value.pulses ≤ 49140
step_pulses g r b =
    subst (λ (t : Told Answer). t.value.pulses ≤ 49140) (sym (by_request g r (request_of r) refl)) (request_pulses g (request_of r) b (request_begun g r b))

pub pulses_most : (g : Group) (rs : List CallRecord) → Begun g → all_pulses g rs ≤ 49140 * length rs
unfolding all_pulses
pulses_most g [] b = omega arith
pulses_most g (r ∷ rs) b = omega (arith, step_pulses g r b, pulses_most (step_of g r).value.group rs (step_begun g r b))
