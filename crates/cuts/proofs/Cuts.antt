-- A push program that is cut. The levels there are between the old and the new ones, so they are raised to the same; and what they have grown by are
-- the pulses before the cut, by which the used pulses have grown too. Over any gap and any ranks that list no cell twice.
-- Assumes nothing.
use Prim.Native.Nat.{ℕ, zero, suc, ◌+◌, ◌-◌, ◌≤◌, ◌<◌, zero-le}
use mathlib.Core.Path.{◌≡◌, refl, ap}
use mathlib.Core.List.{List, [], ◌∷◌, ◌++◌, append-nil}
use native.Mathlib.Nat.{le_refl}
use native.Mathlib.Omega.{arith}
use lib.ListN.{length, take, drop}
use lib.Seq.{take-length, drop-length}
use Rattle.group.specs.declared.Group.{Group}
use Rattle.group.specs.Levels.{level, put, AtMost, empty, more, sum, tallied}
use Rattle.group.proofs.Levels.{level_put, put_same, at_most_refl, at_most_trans, at_most_length, put_below, put_above, sum_put}
use Rattle.push_up.specs.declared.Push.{Push}
use Rattle.push_up.specs.PushUp.{raise, pushes, pulses_in}
use Rattle.push_up.specs.PushProgram.{played}
use Rattle.push_up.proofs.Minimal.{Apart, raise_between}
use Rattle.push_up.proofs.Programs.{Runs, rest, next, runs_played, runs_pulses, program_runs}
use Rattle.cuts.specs.Cuts.{Cut, Between, IsCut, half_push, pushes_at, levels_at, pulses_at, used_at}

-- ---- the pushes before a place, and those from it on

runs_front : {ps : List Push} {ls ms : List ℕ} (k : ℕ) → Runs ps ls ms → Runs (take k ps) ls (played (take k ps) ls)
unfolding played
runs_front zero r = rest
runs_front (suc k) rest = rest
runs_front {ls = ls} {ms = ms} (suc k) (next {p = p} {ps = ps} i s l r) = next i s l (runs_front {ps = ps} k r)

runs_back : {ps : List Push} {ls ms : List ℕ} (k : ℕ) → Runs ps ls ms → Runs (drop k ps) (played (take k ps) ls) ms
unfolding played
runs_back zero r = r
runs_back (suc k) rest = rest
runs_back {ls = ls} {ms = ms} (suc k) (next {p = p} {ps = ps} i s l r) = runs_back {ps = ps} k r

-- a program lowers no cell
runs_above : {ps : List Push} {ls ms : List ℕ} → Runs ps ls ms → AtMost ls ms
runs_above rest = at_most_refl _
runs_above {ls = ls} (next {p = p} i s l r) = at_most_trans (put_above p.cell.0 p.reach (at_most_refl ls) (omega (arith, s, l))) (runs_above r)

-- ---- one part of a program after the other

played_append : (ps qs : List Push) (ls : List ℕ) → played (ps ++ qs) ls ≡ played qs (played ps ls)
unfolding played
played_append [] qs ls = refl
played_append (p ∷ ps) qs ls = played_append ps qs (put ls p.cell.0 p.reach)

pulses_append : (ps qs : List Push) → pulses_in (ps ++ qs) ≡ pulses_in ps + pulses_in qs
unfolding pulses_in
pulses_append [] qs = omega arith
pulses_append (p ∷ ps) qs = omega (arith, pulses_append ps qs)

-- ---- the push that is going on

put_mono : (ls : List ℕ) (c v w : ℕ) → c - 1 < length ls → level ls c ≤ w → v ≤ w → AtMost (put ls c v) (put ls c w)
put_mono ls c v w i l h = put_below c v (put_above c w (at_most_refl ls) l) (rw (level_put ls c w i) h)

module _ (v : ℕ) where
  half_above : {ps : List Push} {ls ms : List ℕ} → Runs ps ls ms → Between ps v → AtMost ls (played (half_push ps v) ls)
  unfolding played
  half_above rest b = at_most_refl _
  half_above {ls = ls} (next {p = p} i s l r) b = grind (arith, put_above, at_most_refl)

  half_below : {ps : List Push} {ls ms : List ℕ} → Runs ps ls ms → Between ps v → AtMost (played (half_push ps v) ls) ms
  unfolding played
  half_below rest b = at_most_refl _
  half_below {ls = ls} (next {p = p} i s l r) b = at_most_trans (put_mono ls p.cell.0 v p.reach i (omega (arith, s, l)) (omega (arith, b.1))) (runs_above r)

  half_grown : {ps : List Push} {ls ms : List ℕ} → Runs ps ls ms → Between ps v → pulses_in (half_push ps v) + sum ls ≡ sum (played (half_push ps v) ls)
  unfolding played pulses_in
  half_grown rest b = omega arith
  half_grown {ls = ls} (next {p = p} i s l r) b = omega (arith, sum_put ls p.cell.0 v i, s, b.0)

-- ---- a cut of any program

module _ {ps : List Push} {ls ms : List ℕ} (r : Runs ps ls ms) (cut : Cut) (c : IsCut ps cut) where
  front : List Push
  front = take cut.done ps

  half : List Push
  half = half_push (drop cut.done ps) cut.level

  levels_split : levels_at ps cut ls ≡ played half (played front ls)
  unfolding levels_at front half
  levels_split = played_append front half ls

  pulses_split : pulses_at ps cut ≡ pulses_in front + pulses_in half
  unfolding pulses_at front half
  pulses_split = pulses_append front half

  pub cut_above : AtMost ls (levels_at ps cut ls)
  unfolding front half
  cut_above = rw levels_split (at_most_trans (runs_above (runs_front cut.done r)) (half_above cut.level (runs_back cut.done r) c.1))

  pub cut_below : AtMost (levels_at ps cut ls) ms
  unfolding front half
  cut_below = rw levels_split (half_below cut.level (runs_back cut.done r) c.1)

  pub cut_grown : pulses_at ps cut + sum ls ≡ sum (levels_at ps cut ls)
  unfolding front half
  cut_grown =
      let whole = runs_pulses (runs_front cut.done r) in
      rw levels_split (omega (arith, pulses_split, whole, half_grown cut.level (runs_back cut.done r) c.1))

-- ---- the used pulses at a cut

sum_tallied : {xs ys : List ℕ} (us : List ℕ) → length us ≡ length xs → AtMost xs ys → sum (tallied us xs ys) + sum xs ≡ sum us + sum ys
unfolding tallied sum
sum_tallied [] e empty = refl
sum_tallied [] e (more h p) = absurd (omega (arith, e))
sum_tallied (u ∷ us) e empty = absurd (omega (arith, e))
sum_tallied (u ∷ us) e (more h p) = omega (arith, h, sum_tallied us (omega (arith, e)) p)

pub cut_used : (g : Group) {ps : List Push} {ms : List ℕ} → Runs ps g.levels ms → (cut : Cut) → IsCut ps cut → length g.used ≡ length g.levels
    → sum (used_at g ps cut) ≡ sum g.used + pulses_at ps cut
cut_used g r cut c e = grind (arith, sum_tallied, cut_above, cut_grown)

-- ---- the ends are cuts: nothing pushed yet, and all pushed

-- where the first push starts
abbrev pub first_start : List Push → ℕ
first_start [] = 0
first_start (p ∷ ps) = p.start

abbrev pub first : List Push → Cut
first ps = record { done = 0; level = first_start ps }

abbrev pub last : List Push → ℕ → Cut
last ps v = record { done = length ps; level = v }

pub first_cut : {ps : List Push} {ls ms : List ℕ} → Runs ps ls ms → IsCut ps (first ps) × (levels_at ps (first ps) ls ≡ ls) × (pulses_at ps (first ps) ≡ 0)
unfolding levels_at pulses_at played pulses_in
first_cut rest = ((zero-le, tt), refl, refl)
first_cut {ls = ls} (next {p = p} i s l r) = grind (arith, put_same)

pub last_cut : {ps : List Push} {ls ms : List ℕ} (v : ℕ) → Runs ps ls ms
    → IsCut ps (last ps v) × (levels_at ps (last ps v) ls ≡ ms) × (pulses_at ps (last ps v) ≡ pulses_in ps)
unfolding levels_at pulses_at
last_cut {ps = ps} v r =
    let all : pushes_at ps (last ps v) ≡ ps = rw (drop-length ps, take-length ps) (append-nil ps) in
    ((le_refl (length ps), rw (drop-length ps) tt), rw all (runs_played r), ap pulses_in all)

-- ---- a cut of a push-up: the same target is raised to the same levels, for the pulses that are left

module _ (gap : ℕ) (rs : List (List ℕ)) (ls : List ℕ) (a : Apart (length ls) rs) (cut : Cut) (c : IsCut (pushes gap rs ls) cut) where
  there : List ℕ
  there = levels_at (pushes gap rs ls) cut ls

  pub cut_raised : raise gap rs (levels_at (pushes gap rs ls) cut ls) ≡ raise gap rs ls
  cut_raised = grind (arith, program_runs, raise_between, cut_above, cut_below)

  pub cut_pulses : pulses_at (pushes gap rs ls) cut + pulses_in (pushes gap rs (levels_at (pushes gap rs ls) cut ls)) ≡ pulses_in (pushes gap rs ls)
  unfolding there
  cut_pulses =
      let r = program_runs gap rs ls a in
      let again = program_runs gap rs there (rw (at_most_length (cut_above r cut c)) at a) in
      omega (arith, cut_grown r cut c, runs_pulses r, runs_pulses again, ap sum cut_raised)
