-- The push program of a minimal push-up is a program from the old levels to the new ones, for any gap and any ranks that list no cell twice; so is
-- the one that the answer to a write carries. By one relation, `Runs`; that no cell is pushed twice, by counts.
-- Assumes nothing.
use Rattle.std.proofs.Common.{◌≡◌, ℕ, ◌+◌, ◌-◌, ◌<◌, ◌≤◌, max, Bool, eqb, List, [], ◌∷◌, ◌++◌, length, sym, refl, ap, ◌∙◌, subst, ⊎_elim, zero-le, arith, take_at, le-leb}
use mathlib.Core.List.{map-append}
use native.Mathlib.Nat.{le-max_left}
use Rattle.order.specs.Cells.{tally, count, is_cell}
use Rattle.order.proofs.Cells.{tally-ne, tally-le, count_if_append, eq_cases}
use Rattle.group.specs.declared.Group.{Group}
use Rattle.group.specs.Levels.{level, put, AtMost, sum}
use Rattle.group.proofs.Levels.{put_same, at_most_length, sum_put, rises_up}
use Rattle.push_up.specs.declared.Push.{Push}
use Rattle.push_up.specs.PushUp.{floor_over, lift, raise, push_of, rank_pushes, pushes, pulses_in}
use Rattle.push_up.specs.WriteAnswer.{raised, pushed, unpushed}
use Rattle.push_up.proofs.Minimal.{Off, OffAll, Fresh, Apart, apart_wider, lift_above, lift_other, raise_above, raise_other}
use Rattle.push_up.proofs.Orders.{TargetOf}
use Rattle.push_up.proofs.Pushes.{push_cases}
use Rattle.push_up.specs.PushProgram.{counted, played, Starts, cells_pushed, IsPushProgram}

-- ---- a program runs

-- the pushes take the levels ls to ms, one by one: each starts where its cell, one of the list, then stands, and reaches a higher level
pub data Runs : List Push → List ℕ → List ℕ → Type 0 where
  rest : {ls : List ℕ} → Runs [] ls ls
  next : {p : Push} {ps : List Push} {ls ms : List ℕ} → p.cell.0 - 1 < length ls → p.start ≡ level ls p.cell.0 → p.start < p.reach
      → Runs ps (put ls p.cell.0 p.reach) ms → Runs (p ∷ ps) ls ms

pub runs_played : {ps : List Push} {ls ms : List ℕ} → Runs ps ls ms → played ps ls ≡ ms
unfolding played
runs_played rest = refl
runs_played (next i s l k) = runs_played k

runs_starts : {ps : List Push} {ls ms : List ℕ} → Runs ps ls ms → Starts ps ls
unfolding Starts
runs_starts rest = tt
runs_starts (next i s l k) = (s, l, runs_starts k)

runs_append : {ps qs : List Push} {ls ms ns : List ℕ} → Runs ps ls ms → Runs qs ms ns → Runs (ps ++ qs) ls ns
runs_append rest k = k
runs_append (next i s l j) k = next i s l (runs_append j k)

-- its pulses are what the levels grow by
pub runs_pulses : {ps : List Push} {ls ms : List ℕ} → Runs ps ls ms → pulses_in ps + sum ls ≡ sum ms
unfolding pulses_in
runs_pulses rest = omega arith
runs_pulses {ls = ls} (next {p = p} i s l k) = omega (arith, runs_pulses k, sum_put ls p.cell.0 p.reach i, s, l)

-- ---- the program of a push-up runs

push_runs : (c old v : ℕ) (ls : List ℕ) → c - 1 < length ls → level ls c ≡ old → old ≤ v → Runs (push_of c old v) ls (put ls c v)
push_runs c old v ls i e h =
    push_cases (λ ps. Runs ps ls (put ls c v)) c old v (λ l. next i (sym e) l rest)
    (λ l.
    let same : v ≡ level ls c = omega (arith, e) in
    rw (same, put_same ls c) rest)

module _ (rs : List (List ℕ)) (old new : List ℕ) (f : ℕ) (above : AtMost old new) (kept : (c : ℕ) → OffAll c rs → level new c ≡ level old c) where
  rank_runs : (r : List ℕ) → Fresh (length old) r rs → Runs (rank_pushes old f r) new (lift old f r new)
  unfolding rank_pushes lift
  rank_runs [] a = rest
  rank_runs (c ∷ cs) a =
      let mid = lift old f cs new in
      let inside : c - 1 < length mid = omega (arith, at_most_length (lift_above f cs above), a.0.0) in
      let stands : level mid c ≡ level old c = lift_other old f cs new c a.0.1.0 ∙ kept c a.0.1.1 in
      runs_append (rank_runs cs a.1) (push_runs c (level old c) (max (level old c) f) mid inside stands (le-max_left (level old c) f))

pub program_runs : (g : ℕ) (rs : List (List ℕ)) (ls : List ℕ) → Apart (length ls) rs → Runs (pushes g rs ls) ls (raise g rs ls)
unfolding pushes raise Apart
program_runs g [] ls a = rest
program_runs g (r ∷ rs) ls a =
    runs_append (program_runs g rs ls a.1)
    (rank_runs rs ls (raise g rs ls) (floor_over g rs (raise g rs ls)) (raise_above g rs ls) (raise_other g rs ls) r a.0)

-- ---- nothing is pushed more often than the ranks list it, and that is once at most, and cells alone

abbrev times_listed : ℕ → List (List ℕ) → ℕ
times_listed c [] = 0
times_listed c (r ∷ rs) = count c r + times_listed c rs

times_append : (c : ℕ) (ps qs : List Push) → count c (cells_pushed (ps ++ qs)) ≡ count c (cells_pushed ps) + count c (cells_pushed qs)
times_append c ps qs = rw (map-append (λ (p : Push). p.cell.0) ps qs) (count_if_append (eqb c) (cells_pushed ps) (cells_pushed qs))

push_times : (c d old v : ℕ) → count c (cells_pushed (push_of d old v)) ≤ tally (eqb c d)
push_times c d old v = push_cases (λ ps. count c (cells_pushed ps) ≤ tally (eqb c d)) d old v (λ l. omega arith) (λ l. omega arith)

rank_times : (c : ℕ) (old : List ℕ) (f : ℕ) (r : List ℕ) → count c (cells_pushed (rank_pushes old f r)) ≤ count c r
unfolding rank_pushes
rank_times c old f [] = omega arith
rank_times c old f (d ∷ ds) =
    let v = max (level old d) f in
    omega (arith, times_append c (rank_pushes old f ds) (push_of d (level old d) v), rank_times c old f ds, push_times c d (level old d) v)

program_times : (c g : ℕ) (rs : List (List ℕ)) (ls : List ℕ) → count c (cells_pushed (pushes g rs ls)) ≤ times_listed c rs
unfolding pushes
program_times c g [] ls = omega arith
program_times c g (r ∷ rs) ls =
    let f = floor_over g rs (raise g rs ls) in
    omega (arith, times_append c (pushes g rs ls) (rank_pushes ls f r), program_times c g rs ls, rank_times c ls f r)

off_none : (c : ℕ) (r : List ℕ) → Off c r → count c r ≡ 0
off_none c [] a = refl
off_none c (d ∷ ds) a = omega (arith, tally-ne d c (λ e. a.0 (ap (λ (x : ℕ). x - 1) e)), off_none c ds a.1)

off_all_none : (c : ℕ) (rs : List (List ℕ)) → OffAll c rs → times_listed c rs ≡ 0
off_all_none c [] a = refl
off_all_none c (r ∷ rs) a = omega (arith, off_none c r a.0, off_all_none c rs a.1)

cell_tally : (n c : ℕ) → (1 ≤ c) × (c ≤ n) → tally (is_cell n c) ≡ 1
cell_tally n c r = rw (le-leb 1 c r.0, le-leb c n r.1)

module _ (c n : ℕ) where
  fresh_once : (r : List ℕ) (rs : List (List ℕ)) → Fresh n r rs → times_listed c rs ≤ tally (is_cell n c) → times_listed c (r ∷ rs) ≤ tally (is_cell n c)
  fresh_once [] rs a l = omega arith
  fresh_once (d ∷ ds) rs a l =
      ⊎_elim
      (λ t.
      let here : ((1 ≤ c) × (c ≤ n)) × OffAll c (ds ∷ rs) = subst (λ (x : ℕ). ((1 ≤ x) × (x ≤ n)) × OffAll x (ds ∷ rs)) t.0 a.0 in
      omega (arith, off_all_none c (ds ∷ rs) here.1, tally-le (eqb c d), cell_tally n c here.0))
      (λ t. omega (arith, tally-ne d c t.0, fresh_once ds rs a.1 l)) (eq_cases d c)

  apart_once : (rs : List (List ℕ)) → Apart n rs → times_listed c rs ≤ tally (is_cell n c)
  unfolding Apart
  apart_once [] a = zero-le
  apart_once (r ∷ rs) a = fresh_once r rs a.0 (apart_once rs a.1)

-- ---- the laws

pub is_push_program : (g : ℕ) (rs : List (List ℕ)) (ls : List ℕ) → Apart (length ls) rs → IsPushProgram (pushes g rs ls) ls (raise g rs ls)
is_push_program g rs ls a =
    let runs = program_runs g rs ls a in
    record {
      gives = runs_played runs;
      starts = runs_starts runs;
      once = λ c. omega (arith, program_times c g rs ls, apart_once c (length ls) rs a);
      pulses = omega (arith, runs_pulses runs, rises_up (raise_above g rs ls));
    }

-- no pushes are a push program from any levels to the same
pub no_pushes : (ls : List ℕ) → IsPushProgram [] ls ls
unfolding pushes raise Apart
no_pushes ls = is_push_program 1 [] ls tt

-- the pulses of a refused write are those of its pushes: none
pub refused_pulses : (g : Group) → (unpushed g).pulses ≡ pulses_in (counted (unpushed g).count (unpushed g).pushes)
unfolding pulses_in
refused_pulses g = refl

-- ---- the pushes that the answer to a write carries

module _ (w : Bool) (g : Group) (t : List (List ℕ)) where
  pub counted_pushes : let p = pushed w g t in counted p.count p.pushes ≡ pushes 1 t g.levels
  unfolding pushed
  counted_pushes = take_at (pushes 1 t g.levels) _ (length (pushes 1 t g.levels)) refl

  pub counted_pulses : let p = pushed w g t in p.pulses ≡ pulses_in (counted p.count p.pushes)
  unfolding pushed
  counted_pulses = ap pulses_in (sym counted_pushes)

  pub counted_program : TargetOf g.n t → g.n ≤ length g.levels
      → let p = pushed w g t in IsPushProgram (counted p.count p.pushes) g.levels p.group.levels
  unfolding pushed raised
  counted_program a l = rw counted_pushes (is_push_program 1 t g.levels (apart_wider t l a.apart))
