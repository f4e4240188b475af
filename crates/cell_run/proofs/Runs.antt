-- A run stays a run: an accepted open makes one, and a raise, accepted or refused, keeps it one. Its levels make one too.
-- Assumes nothing.
use Prim.Native.Nat.{ℕ, zero, suc, ◌-◌, ◌≤◌, ◌<◌}
use mathlib.Core.Path.{◌≡◌, refl, ap, ◌∙◌}
use mathlib.Core.Bool.{true}
use mathlib.Core.List.{List, [], ◌∷◌}
use native.Mathlib.Omega.{arith}
use lib.Dec.{leb}
use lib.ListN.{length, set, take, drop, replicate, length-set}
use lib.Seq.{drop-set-lt, length-take-le}
use borrow.Author.Tests.{leb-true, le-leb}
use Rattle.order.specs.declared.Cell.{Cell}
use Rattle.order.specs.declared.Refusal.TheVariants.{NoCell, RunLimit, NoRaise}
use Rattle.order.specs.Refusals.{number_of}
use Rattle.order.specs.Cells.{is_cell}
use Rattle.order.proofs.Cells.{both}
use Rattle.order.proofs.Refusals.{check_held, check_holds, all_held, all_hold}
use Rattle.group.specs.Levels.{level, put}
use Rattle.group.specs.Record.{all_at_most, is_row}
use Rattle.group.proofs.Checks.{cell_true}
use Rattle.group.proofs.Groups.{told_value, told_accepted}
use Rattle.group.proofs.LevelRows.{zeros_row}
use Rattle.cell_run.specs.declared.Run.{Run}
use Rattle.cell_run.specs.Run.{is_length, run_checks, level_checks, opened_run, no_run, is_raise, cell_checks, raise_checks, raised_run, open_run_of, raise_cell_of}
use Rattle.cell_run.proofs.Checks.{checked_length, checked_row}
use Rattle.cell_run.proofs.Rows.{row_split}

-- a record that passes the checks, with its 128 levels
pub record IsRun (r : Run) : Type 0 where
  pub passes : number_of (run_checks r) ≡ 0
  pub levels : length r.levels ≡ 128

run_of : (n : ℕ) (ls : List ℕ) → is_length n ≡ true → is_row 4095 n ls ≡ true → length ls ≡ 128 → IsRun (record { len = n; levels = ls })
run_of n ls l r w = record { passes = check_holds _ _ l ∙ check_holds _ _ r ∙ all_hold; levels = w }

pub open_run : (n : ℕ) → (open_run_of n).number ≡ 0 → IsRun (open_run_of n).value
unfolding open_run_of
open_run n e =
    let t = told_accepted _ (opened_run n) no_run e in
    rw t.1 (run_of n (replicate 128 0) (check_held (is_length n) RunLimit [] t.0).0 (zeros_row 4095 n 128) refl)

all_set : (m : ℕ) (ls : List ℕ) (i v : ℕ) → v ≤ m → all_at_most m ls ≡ true → all_at_most m (set ls i v) ≡ true
unfolding all_at_most
all_set m [] i v l e = e
all_set m (x ∷ ls) zero v l e = rw (le-leb v m l) (both (leb x m) (all_at_most m ls) e).1
all_set m (x ∷ ls) (suc i) v l e = let t = both (leb x m) (all_at_most m ls) e in rw t.0 (all_set m ls i v l t.1)

row_set : (m n : ℕ) (ls : List ℕ) (i v : ℕ) → i < n → v ≤ m → is_row m n ls ≡ true → is_row m n (set ls i v) ≡ true
unfolding is_row
row_set m n ls i v h l e =
    let t = both (all_at_most m ls) (all_at_most 0 (drop n ls)) e in
    rw (all_set m ls i v l t.0, drop-set-lt n ls i v h) t.1

pub raise_run : (r : Run) (c : Cell) (v : ℕ) → IsRun r → IsRun (raise_cell_of r c v).value
unfolding raise_cell_of put
raise_run r c v h =
    told_value IsRun (raise_checks r c v) (raised_run r c v) r
    (λ e.
    let t = all_held _ (cell_checks r c) e in
    let cell = cell_true r.len c.0 (check_held (is_cell r.len c.0) NoCell [] (all_held _ (run_checks r) t.0).1).0 in
    let up = (check_held (is_raise (level r.levels c.0) v) NoRaise [] t.1).0 in
    let high = leb-true v 4095 (both (leb (level r.levels c.0) v) (leb v 4095) up).1 in
    run_of r.len (set r.levels (c.0 - 1) v) (check_held (is_length r.len) RunLimit _ h.passes).0
    (row_set 4095 r.len r.levels (c.0 - 1) v (omega (arith, cell)) high (checked_row r h.passes))
    (length-set r.levels (c.0 - 1) v ∙ h.levels)) h

-- its levels, handed in as a list, pass too
pub levels_pass : (r : Run) → IsRun r → number_of (level_checks (take r.len r.levels)) ≡ 0
levels_pass r h =
    let ls = take r.len r.levels in
    let size : length ls ≡ r.len = length-take-le r.len r.levels (omega (arith, checked_length r h.passes, h.levels)) in
    let long : is_length (length ls) ≡ true = ap is_length size ∙ (check_held (is_length r.len) RunLimit _ h.passes).0 in
    let row = row_split 4095 r.len r.levels ∙ checked_row r h.passes in
    check_holds _ _ long ∙ check_holds _ _ (both (all_at_most 4095 ls) (all_at_most 0 (drop r.len r.levels)) row).0 ∙ all_hold
