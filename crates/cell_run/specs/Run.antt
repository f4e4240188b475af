-- Document 02, request (a): a run of cells, the limits of its windows, and what the calls that open and raise it answer.
--
--   is_length n          a run has 3 to 128 cells
--   run_checks r         the checks of a record: 13 for its length, for a level above 4,095 and for a place past its length that is not 0.
--                       That it has 128 levels is in its type
--   level_checks ls      the checks of a run that is handed in as the list of its levels: 13 for its length and for a level above 4,095
--   is_width n w         a window of a run of n cells has 3 to 12 cells, not above n
--   is_step n w s        a step from window to window is from 1 up to the width, and divides n
--   limit_checks n w s   the checks of a width and a step: 13 for each
--   opened_run n         the record of n cells with every one of its levels 0
--   no_run               the all-zero record
--   told_run a           what the answer to an open says: its number, and the run, or the all-zero record
--   open_run_of n         the answer to an open: 13
--   cell_checks r c      the checks of a run and of one of its cells: 13, 3
--   is_raise old new     the new level is not lower than the old one, nor above 4,095
--   raise_checks r c v   the checks of a raise: 13, 3, 14
--   raised_run r c v     the run with cell c at level v
--   raise_cell_of r c v   the answer to a raise; a refused one returns the run given
use Rattle.std.specs.Prelude.{ℕ, ◌%◌, Bool, ◌&&◌, List, [], ◌∷◌, ◌++◌, leb, eqb, length, replicate, Result}
use Rattle.order.specs.declared.Cell.{Cell}
use Rattle.order.specs.declared.Refusal.{Refusal}
use Rattle.order.specs.declared.Refusal.TheVariants.{NoCell, RunLimit, NoRaise}
use Rattle.order.specs.Refusals.{Told, told, answer, is_size}
use Rattle.order.specs.Cells.{is_cell}
use Rattle.group.specs.Levels.{level, put}
use Rattle.group.specs.Record.{all_at_most, is_row}
use Rattle.cell_run.specs.declared.Run.{Run}

abbrev pub is_length : ℕ → Bool
is_length n = leb 3 n && leb n 128

abbrev pub run_checks : Run → List (Bool × Refusal)
run_checks r = (is_length r.len, RunLimit) ∷ (is_row 4095 r.len r.levels, RunLimit) ∷ []

abbrev pub level_checks : List ℕ → List (Bool × Refusal)
level_checks ls = (is_length (length ls), RunLimit) ∷ (all_at_most 4095 ls, RunLimit) ∷ []

abbrev pub is_width : ℕ → ℕ → Bool
is_width n w = is_size w && leb w n

abbrev pub is_step : ℕ → ℕ → ℕ → Bool
is_step n w s = leb 1 s && leb s w && eqb (n % s) 0

abbrev pub limit_checks : ℕ → ℕ → ℕ → List (Bool × Refusal)
limit_checks n w s = (is_width n w, RunLimit) ∷ (is_step n w s, RunLimit) ∷ []

abbrev pub opened_run : ℕ → Run
opened_run n = record { len = n; levels = replicate 128 0 }

abbrev pub no_run : Run
no_run = opened_run 0

abbrev pub told_run : Result Run Refusal → Told Run
told_run a = told no_run a

unfoldable pub open_run_of : ℕ → Told Run
open_run_of n = answer ((is_length n, RunLimit) ∷ []) (opened_run n) no_run

abbrev pub cell_checks : Run → Cell → List (Bool × Refusal)
cell_checks r c = run_checks r ++ (is_cell r.len c.0, NoCell) ∷ []

abbrev pub is_raise : ℕ → ℕ → Bool
is_raise old new = leb old new && leb new 4095

abbrev pub raise_checks : Run → Cell → ℕ → List (Bool × Refusal)
raise_checks r c v = cell_checks r c ++ (is_raise (level r.levels c.0) v, NoRaise) ∷ []

abbrev pub raised_run : Run → Cell → ℕ → Run
raised_run r c v = record { len = r.len; levels = put r.levels c.0 v }

unfoldable pub raise_cell_of : Run → Cell → ℕ → Told Run
raise_cell_of r c v = answer (raise_checks r c v) (raised_run r c v) r
