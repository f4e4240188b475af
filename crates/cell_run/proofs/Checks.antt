-- The checks of a run and of its windows' limits: what a call that passes them knows.
-- Assumes nothing.
use Prim.Native.Nat.{ℕ, ◌%◌, ◌≤◌}
use mathlib.Core.Path.{◌≡◌}
use mathlib.Core.Bool.{true, ◌&&◌}
use mathlib.Core.List.{[]}
use lib.Dec.{leb, eqb}
use borrow.Author.Tests.{leb-true}
use Rattle.order.specs.declared.Refusal.TheVariants.{RunLimit}
use Rattle.order.specs.Refusals.{number_of, is_size}
use Rattle.order.proofs.Cells.{both}
use Rattle.order.proofs.Refusals.{check_held, size_true}
use Rattle.group.specs.Record.{is_row}
use Rattle.cell_run.specs.declared.Run.{Run}
use Rattle.cell_run.specs.Run.{is_length, run_checks, is_width, is_step, limit_checks}

pub length-true : (n : ℕ) → is_length n ≡ true → (3 ≤ n) × (n ≤ 128)
length-true n e = let t = both (leb 3 n) (leb n 128) e in (leb-true 3 n t.0, leb-true n 128 t.1)

module _ (r : Run) (d : number_of (run_checks r) ≡ 0) where
  pub checked_length : (3 ≤ r.len) × (r.len ≤ 128)
  checked_length = length-true r.len (check_held (is_length r.len) RunLimit _ d).0

  pub checked_row : is_row 4095 r.len r.levels ≡ true
  checked_row = (check_held (is_row 4095 r.len r.levels) RunLimit [] (check_held (is_length r.len) RunLimit _ d).1).0

-- a width and a step that pass
pub record Limits (n width step : ℕ) : Type 0 where
  pub wide : 3 ≤ width
  pub narrow : width ≤ 12
  pub inside : width ≤ n
  pub forward : 1 ≤ step

pub limits_held : (n width step : ℕ) → number_of (limit_checks n width step) ≡ 0 → Limits n width step
limits_held n width step d =
    let w = check_held (is_width n width) RunLimit _ d in
    let s = check_held (is_step n width step) RunLimit [] w.1 in
    let t = both (is_size width) (leb width n) w.0 in
    let size = size_true width t.0 in
    let some = (both (leb 1 step) (leb step width) (both (leb 1 step && leb step width) (eqb (n % step) 0) s.0).0).0 in
    record { wide = size.0; narrow = size.1; inside = leb-true width n t.1; forward = leb-true 1 step some }
