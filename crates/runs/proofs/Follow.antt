-- Records one after another: their lines, the group that they leave, their pulses, and where a run then stands.
-- Assumes nothing.
use mathlib.Core.Path.{◌≡◌, refl, sym, ap, ◌∙◌}
use Prim.Native.Nat.{ℕ, suc, ◌+◌}
use native.Mathlib.Omega.{arith}
use native.Mathlib.Nat.{add-zero}
use mathlib.Core.List.{List, [], ◌∷◌, ◌++◌, append_assoc}
use lib.ListN.{length, length-append}
use Rattle.group.specs.declared.Group.{Group}
use Rattle.records.specs.declared.CallRecord.{CallRecord}
use Rattle.runs.specs.declared.Progress.{Progress}
use Rattle.records.specs.Records.{step_of}
use Rattle.lines.specs.Line.{line_of}
use Rattle.runs.specs.Text.{lines, all_pulses}
use Rattle.runs.specs.Pieces.{group_after, progress_after, lines_from}

pub group_append : (g : Group) (rs ss : List CallRecord) → group_after g (rs ++ ss) ≡ group_after (group_after g rs) ss
group_append g [] ss = refl
group_append g (r ∷ rs) ss = group_append (step_of g r).value.group rs ss

pulses_append : (g : Group) (rs ss : List CallRecord) → all_pulses g (rs ++ ss) ≡ all_pulses g rs + all_pulses (group_after g rs) ss
unfolding all_pulses
pulses_append g [] ss = omega arith
pulses_append g (r ∷ rs) ss = omega (arith, pulses_append (step_of g r).value.group rs ss)

lines_append : (k : ℕ) (g : Group) (rs ss : List CallRecord) → lines k g (rs ++ ss) ≡ lines k g rs ++ lines (k + length rs) (group_after g rs) ss
unfolding lines
lines_append k g [] ss = ap (λ (j : ℕ). lines j g ss) (sym (add-zero k))
lines_append k g (r ∷ rs) ss =
    let line = line_of k r.kind (step_of g r) in
    let next = (step_of g r).value.group in
    let e : suc k + length rs ≡ k + length (r ∷ rs) = omega arith in
    ap (λ (t : List ℕ). line ++ t) (lines_append (suc k) next rs ss)
    ∙ sym (append_assoc line (lines (suc k) next rs) (lines (suc k + length rs) (group_after next rs) ss))
    ∙ ap (λ (j : ℕ). line ++ lines (suc k) next rs ++ lines j (group_after next rs) ss) e

-- the lines of more records are those of the first, and of the others from where the run then stands
pub lines_follow : (p : Progress) (rs ss : List CallRecord) → lines_from p (rs ++ ss) ≡ lines_from p rs ++ lines_from (progress_after p rs) ss
lines_follow p rs ss =
    let e : suc p.position + length rs ≡ suc (p.position + length rs) = omega arith in
    lines_append (suc p.position) p.group rs ss
    ∙ ap (λ (j : ℕ). lines_from p rs ++ lines j (group_after p.group rs) ss) e

-- where a run stands after more records
pub progress_follows : (p : Progress) (rs ss : List CallRecord) → progress_after p (rs ++ ss) ≡ progress_after (progress_after p rs) ss
progress_follows p rs ss =
    let records : p.position + length (rs ++ ss) ≡ p.position + length rs + length ss = omega (arith, length-append rs ss) in
    let pulses : p.pulses + all_pulses p.group (rs ++ ss) ≡ p.pulses + all_pulses p.group rs + all_pulses (group_after p.group rs) ss =
    omega (arith, pulses_append p.group rs ss) in
    λ i. record { position = records i; group = (group_append p.group rs ss) i; pulses = pulses i }
