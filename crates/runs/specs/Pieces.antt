-- Document 01, "Calls outside the list": a run made in pieces of its input.
--
--   group_after g rs        the group that records leave, the first of which is handed the group g
--   beginning              where a run stands before its first record: at position 0, with the all-zero record and no pulses
--   progress_after p rs     where a run that stood at p stands after some records
--   lines_from p rs         the lines of some records, in a run that stood at p
--   text_from p bs          what is printed for the last piece: its lines, its leftover bytes, and the pulses of all records
--   takes k q size space   a run that stands at position k with q pulses takes a piece of this size, and a buffer of this length has room for
--                          its text: with it the run has at most 65,536 bytes, and it has at most 4,294,967,295 pulses for each record
--   goes_on p bs out        whether a run that stands at p takes a piece, which must be of whole records, and a lent buffer
--   ends p bs out          whether it takes a last piece and a lent buffer
--   lines_printed p bs out  what is put at the start of a lent buffer for a piece: its lines, or nothing where it is not taken
--   piece_of p bs out       the answer for a piece: how long that is, and where the run then stands, which is p where it is not taken
--   end_printed p bs out    what is put at the start of a lent buffer for the last piece, or nothing where it is not taken
-- For the law of proofs/Pieces:
--   Lent                   a piece and the buffer that is lent for it
--   Whole ls               each piece is made of whole records, and its buffer has room for it
--   all_bytes ls bs         the bytes of pieces and of a last one, one after another
--   all_printed p ls l      what a run that stands at p prints for pieces and a last one
use Rattle.std.specs.Prelude.{ℕ, suc, ◌+◌, ◌*◌, ◌%◌, ◌≤◌, ◌≡◌, Bool, ◌&&◌, cond, List, [], ◌∷◌, ◌++◌, eqb, leb, length}
use Rattle.group.specs.declared.Group.{Group}
use Rattle.group.specs.Record.{no_group}
use Rattle.records.specs.declared.CallRecord.{CallRecord}
use Rattle.runs.specs.declared.Progress.{Progress}
use Rattle.runs.specs.declared.PieceAnswer.{PieceAnswer}
use Rattle.records.specs.Records.{records, step_of}
use Rattle.lines.specs.Line.{left_line, sum_line}
use Rattle.runs.specs.Text.{lines, all_pulses, room}

abbrev pub group_after : Group → List CallRecord → Group
group_after g [] = g
group_after g (r ∷ rs) = group_after (step_of g r).value.group rs

-- ---- where a run stands

abbrev pub beginning : Progress
beginning = record { position = 0; group = no_group; pulses = 0 }

abbrev pub progress_after : Progress → List CallRecord → Progress
progress_after p rs =
    record {
      position = p.position + length rs;
      group = group_after p.group rs;
      pulses = p.pulses + all_pulses p.group rs;
    }

-- ---- what is printed

abbrev pub lines_from : Progress → List CallRecord → List ℕ
lines_from p rs = lines (suc p.position) p.group rs

unfoldable pub text_from : Progress → List ℕ → List ℕ
text_from p bs = lines_from p (records bs) ++ left_line (length bs % 8) ++ sum_line (progress_after p (records bs)).pulses

-- ---- a piece and a lent buffer

abbrev pub takes : ℕ → ℕ → ℕ → ℕ → Bool
takes k q size space = leb (8 * k + size) 65536 && (leb q (4294967295 * k) && leb (room size) space)

abbrev pub ends : Progress → List ℕ → List ℕ → Bool
ends p bs out = takes p.position p.pulses (length bs) (length out)

abbrev pub goes_on : Progress → List ℕ → List ℕ → Bool
goes_on p bs out = eqb (length bs % 8) 0 && ends p bs out

unfoldable pub lines_printed : Progress → List ℕ → List ℕ → List ℕ
lines_printed p bs out = cond (goes_on p bs out) (lines_from p (records bs)) []

unfoldable pub piece_of : Progress → List ℕ → List ℕ → PieceAnswer
piece_of p bs out = record { end = length (lines_printed p bs out); progress = cond (goes_on p bs out) (progress_after p (records bs)) p }

unfoldable pub end_printed : Progress → List ℕ → List ℕ → List ℕ
end_printed p bs out = cond (ends p bs out) (text_from p bs) []

-- ---- a run in pieces

pub record Lent : Type 0 where
  pub bytes : List ℕ
  pub out : List ℕ

abbrev pub Whole : List Lent → Type 0
Whole [] = Unit {0}
Whole (l ∷ ls) = (length l.bytes % 8 ≡ 0) × (room (length l.bytes) ≤ length l.out) × Whole ls

abbrev pub all_bytes : List Lent → List ℕ → List ℕ
all_bytes [] bs = bs
all_bytes (l ∷ ls) bs = l.bytes ++ all_bytes ls bs

abbrev pub all_printed : Progress → List Lent → Lent → List ℕ
all_printed p [] last = end_printed p last.bytes last.out
all_printed p (l ∷ ls) last = lines_printed p l.bytes l.out ++ all_printed (piece_of p l.bytes l.out).progress ls last
