-- Document 01, "Calls outside the list": the text that `rmcalls` prints: its lines (crate `lines`), one after another.
--
--   lines k g rs        the lines of records from position k on, the first of which is handed the group g
--   all_pulses g rs      the pulses of records, added up, the first of which is handed the group g
--   text_of bs           all that is printed for the bytes of an input
--   taken bs            the bytes of an input that are read: 65,536 at most
--   room k              the length that a lent buffer must have for what is printed for k bytes of input
--   printed bs out      what is put at the start of a lent buffer: the text, or nothing where the buffer is too short
use Rattle.std.specs.Prelude.{ℕ, suc, ◌+◌, ◌*◌, ◌%◌, cond, List, [], ◌∷◌, ◌++◌, leb, length, take}
use Rattle.group.specs.declared.Group.{Group}
use Rattle.group.specs.Record.{no_group}
use Rattle.records.specs.declared.CallRecord.{CallRecord}
use Rattle.records.specs.Records.{records, step_of}
use Rattle.lines.specs.Line.{line_of, left_line, sum_line}

unfoldable pub lines : ℕ → Group → List CallRecord → List ℕ
lines position g [] = []
lines position g (r ∷ rs) = line_of position r.kind (step_of g r) ++ lines (suc position) (step_of g r).value.group rs

unfoldable pub all_pulses : Group → List CallRecord → ℕ
all_pulses g [] = 0
all_pulses g (r ∷ rs) = (step_of g r).value.pulses + all_pulses (step_of g r).value.group rs

-- ---- a run, which begins with the all-zero record

unfoldable pub text_of : List ℕ → List ℕ
text_of bs = lines 1 no_group (records bs) ++ left_line (length bs % 8) ++ sum_line (all_pulses no_group (records bs))

abbrev pub taken : List ℕ → List ℕ
taken bs = take 65536 bs

abbrev pub room : ℕ → ℕ
room k = 16 * k + 64

unfoldable pub printed : List ℕ → List ℕ → List ℕ
printed bs out = cond (leb (room (length (taken bs))) (length out)) (text_of (taken bs)) []
