-- The records of a stream as calls of demand 3: from a group on, records that are no open are a list of calls of the machine. And the group
-- that a stream has is the all-zero record or one of 3 to 12 cells.
-- Assumes nothing.
use mathlib.Core.Path.{◌≡◌, refl, sym, ap, ◌∙◌, subst}
use mathlib.Core.Logic.{◌⊎◌, inl, inr}
use Prim.Native.Nat.{ℕ, zero, suc, ◌+◌}
use native.Mathlib.Nat.{zero-add}
use mathlib.Core.Bool.{Bool, true, false, false≢true, cond}
use mathlib.Core.List.{List, [], ◌∷◌}
use lib.ListN.{get_or}
use Rattle.order.specs.declared.Cell.{Cell}
use Rattle.order.specs.Refusals.{Told, if_done, answer, number_of}
use Rattle.group.specs.declared.Group.{Group}
use Rattle.group.specs.Record.{no_group, IsGroup}
use Rattle.changes.specs.Changes.{leak_of, wear_of, erase_of}
use Rattle.changes.proofs.Groups.{open_group}
use Rattle.plain_machine.specs.declared.Kind.{Kind}
use Rattle.plain_machine.specs.declared.Kind.TheVariants.{Store, Scrub, Leak, Wear, Erase, Read}
use Rattle.plain_machine.specs.declared.Call.{Call}
use Rattle.engine.specs.ReadStore.{store_of}
use Rattle.engine.specs.Scrub.{scrub_of}
use Rattle.plain_machine.specs.Machine.{apply_of}
use Rattle.plain_machine.proofs.Machine.{apply_group}
use Rattle.rivals.specs.Rivals.{after, pulses_of}
use Rattle.records.specs.declared.CallRecord.{CallRecord}
use Rattle.records.specs.declared.Request.{Request}
use Rattle.records.specs.declared.Request.TheVariants.{Open, Apply}
use Rattle.std.specs.Prelude.{Result, Ok, Err}
use Rattle.order.specs.declared.Refusal.{Refusal}
use Rattle.order.specs.declared.Refusal.TheVariants.{BadRecord}
use Rattle.records.specs.Records.{Answer, unused_zero, requests, request_of, call_of, opening, step_by, step_of}
use Rattle.runs.specs.Text.{all_pulses}
use Rattle.runs.specs.Pieces.{group_after}

abbrev pub is_open : Result Request Refusal → Bool
is_open (Err refusal) = false
is_open (Ok (Open n)) = true
is_open (Ok (Apply kind)) = false

-- no record is an open
abbrev pub NoOpen : List CallRecord → Type 0
NoOpen [] = Unit {0}
NoOpen (r ∷ rs) = (is_open (request_of r) ≡ false) × NoOpen rs

-- the calls that records ask for; a bad record asks for none
abbrev pub asked : Result Request Refusal → List Call → List Call
asked (Err refusal) cs = cs
asked (Ok (Open n)) cs = cs
asked (Ok (Apply kind)) cs = call_of kind ∷ cs

abbrev pub calls_of : List CallRecord → List Call
calls_of [] = []
calls_of (r ∷ rs) = asked (request_of r) (calls_of rs)

-- a record is the request that it makes
pub by_request : (g : Group) (r : CallRecord) (q : Result Request Refusal) → request_of r ≡ q → step_of g r ≡ step_by g q
unfolding step_of
by_request g r q e = ap (step_by g) e

group_asked : (g : Group) (cs : List Call) (q : Result Request Refusal) → is_open q ≡ false → after apply_of (step_by g q).value.group cs ≡ after apply_of g (asked q cs)
unfolding after
group_asked g cs (Err refusal) n = refl
group_asked g cs (Ok (Open k)) n = absurd (false≢true (sym n))
group_asked g cs (Ok (Apply kind)) n = refl

pulses_asked : (g : Group) (cs : List Call) (q : Result Request Refusal) → is_open q ≡ false
    → (step_by g q).value.pulses + pulses_of apply_of (step_by g q).value.group cs ≡ pulses_of apply_of g (asked q cs)
unfolding pulses_of
pulses_asked g cs (Err refusal) n = zero-add (pulses_of apply_of g cs)
pulses_asked g cs (Ok (Open k)) n = absurd (false≢true (sym n))
pulses_asked g cs (Ok (Apply kind)) n = refl

-- the group that records leave is the group after these calls
pub stream_group : (g : Group) (rs : List CallRecord) → NoOpen rs → group_after g rs ≡ after apply_of g (calls_of rs)
unfolding after
stream_group g [] h = refl
stream_group g (r ∷ rs) h =
    stream_group (step_of g r).value.group rs h.1
    ∙ ap (λ (t : Told Answer). after apply_of t.value.group (calls_of rs)) (by_request g r (request_of r) refl)
    ∙ group_asked g (calls_of rs) (request_of r) h.0

-- and their pulses are what the answers to these calls add up to
pub stream_pulses : (g : Group) (rs : List CallRecord) → NoOpen rs → all_pulses g rs ≡ pulses_of apply_of g (calls_of rs)
unfolding all_pulses pulses_of
stream_pulses g [] h = refl
stream_pulses g (r ∷ rs) h =
    ap (λ (k : ℕ). (step_of g r).value.pulses + k) (stream_pulses (step_of g r).value.group rs h.1)
    ∙ ap (λ (t : Told Answer). t.value.pulses + pulses_of apply_of t.value.group (calls_of rs)) (by_request g r (request_of r) refl)
    ∙ pulses_asked g (calls_of rs) (request_of r) h.0

-- ---- the all-zero record, or a group

abbrev pub Begun : Group → Type 0
Begun g = (g ≡ no_group) ⊎ IsGroup g

-- what a request leaves
abbrev Leaves : Group → Result Request Refusal → Type 0
Leaves g q = Begun (step_by g q).value.group

-- a call that leaves the all-zero record, as every call of a record does
apply_begun : (g : Group) (kind : Kind) → (apply_of no_group (call_of kind)).value.group ≡ no_group → Begun g → Leaves g (Ok (Apply kind))
apply_begun g kind z (inl e) = inl (ap (λ (h : Group). (apply_of h (call_of kind)).value.group) e ∙ z)
apply_begun g kind z (inr h) = inr (apply_group g (call_of kind) h)

open_begun : (g : Group) (n : ℕ) → Begun g → Leaves g (Ok (Open n))
open_begun g n b = opened (opening n).number refl
  where
    opened : (k : ℕ) → (opening n).number ≡ k → Begun (if_done k (opening n).value g)
    opened zero e = inr (open_group n 1000000 e)
    opened (suc k) e = b

-- what holds of each request holds of the one at a place, and of a bad record past them
abbrev Each : (Result Request Refusal → Type 0) → List (Result Request Refusal) → Type 0
Each P [] = Unit {0}
Each P (q ∷ qs) = P q × Each P qs

each_at : (P : Result Request Refusal → Type 0) (qs : List (Result Request Refusal)) (k : ℕ) {z : Result Request Refusal} → Each P qs → P z → P (get_or qs k z)
each_at P [] k h b = b
each_at P (q ∷ qs) zero h b = h.0
each_at P (q ∷ qs) (suc k) h b = each_at P qs k h.1 b

requests_begun : (g : Group) (c : Cell) (v : ℕ) → Begun g → Each (Leaves g) (requests c v)
unfolding apply_of store_of scrub_of leak_of wear_of erase_of answer number_of
requests_begun g c v b =
    let call : (kind : Kind) → (apply_of no_group (call_of kind)).value.group ≡ no_group → Leaves g (Ok (Apply kind)) = λ kind z. apply_begun g kind z b in
    (open_begun g v b, (call (Store v) refl, (call Scrub refl, (call (Leak c v) refl, (call (Wear c v) refl, (call Erase refl, (call Read refl, tt)))))))

pub request_begun : (g : Group) (r : CallRecord) → Begun g → Leaves g (request_of r)
unfolding request_of
request_begun g r b = by (unused_zero r)
  where
    by : (t : Bool) → Leaves g (cond t (get_or (requests r.cell r.value) r.kind (Err BadRecord)) (Err BadRecord))
    by true = each_at (Leaves g) (requests r.cell r.value) r.kind (requests_begun g r.cell r.value b) b
    by false = b

pub step_begun : (g : Group) (r : CallRecord) → Begun g → Begun (step_of g r).value.group
step_begun g r b = subst (λ (t : Told Answer). Begun t.value.group) (sym (by_request g r (request_of r) refl)) (request_begun g r b)

-- the group that a stream has is the all-zero record or a group: `-` stands for the all-zero record alone
pub stream_begun : (g : Group) (rs : List CallRecord) → Begun g → Begun (group_after g rs)
stream_begun g [] b = b
stream_begun g (r ∷ rs) b = stream_begun (step_of g r).value.group rs (step_begun g r b)
