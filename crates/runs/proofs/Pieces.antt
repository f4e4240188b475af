-- A run in pieces prints what a run of the whole input prints, and none of its pieces is refused.
-- Assumes nothing.
use mathlib.Core.Path.{◌≡◌, refl, sym, ap, ◌∙◌}
use mathlib.Core.Logic.{inl}
use mathlib.Core.Bool.{true}
use Prim.Native.Nat.{ℕ, ◌+◌, ◌*◌, ◌/◌, ◌%◌, ◌≤◌}
use native.Mathlib.Omega.{arith}
use mathlib.Core.List.{List, [], ◌∷◌, ◌++◌, append_assoc}
use lib.ListN.{length, length-append}
use borrow.Author.Tests.{le-leb}
use native.Mathlib.Nat.{zero-add}
use Rattle.order.proofs.Tabulate.{length_tabulate}
use Rattle.group.specs.Record.{no_group}
use Rattle.records.specs.declared.CallRecord.{CallRecord}
use Rattle.records.specs.Records.{record_at, records}
use Rattle.records.proofs.Cut.{records_append}
use Rattle.runs.specs.declared.Progress.{Progress}
use Rattle.lines.specs.Line.{left_line, sum_line}
use Rattle.runs.specs.Text.{text_of, room, all_pulses, lines}
use Rattle.runs.specs.Pieces.{beginning, progress_after, lines_from, text_from, goes_on, ends, lines_printed, piece_of, end_printed, Lent, Whole, all_bytes, all_printed}
use Rattle.runs.proofs.Course.{Begun, stream_begun}
use Rattle.runs.proofs.Pulses.{pulses_most}
use Rattle.runs.proofs.Follow.{lines_follow, progress_follows}

-- a text may be cut at a whole record
pub text_cut : (p : Progress) (xs ys : List ℕ) → length xs % 8 ≡ 0
    → text_from p (xs ++ ys) ≡ lines_from p (records xs) ++ text_from (progress_after p (records xs)) ys
unfolding text_from
text_cut p xs ys e =
    let next = progress_after p (records xs) in
    let left = left_line (length ys % 8) in
    let sum = sum_line (progress_after next (records ys)).pulses in
    let bytes : length (xs ++ ys) % 8 ≡ length ys % 8 = omega (arith, e, length-append xs ys) in
    ap (λ (rs : List CallRecord). lines_from p rs ++ left_line (length (xs ++ ys) % 8) ++ sum_line (progress_after p rs).pulses) (records_append xs ys e)
    ∙ ap (λ (k : ℕ). lines_from p (records xs ++ records ys) ++ left_line k ++ sum_line (progress_after p (records xs ++ records ys)).pulses) bytes
    ∙ ap (λ (x : Progress). lines_from p (records xs ++ records ys) ++ left ++ sum_line x.pulses) (progress_follows p (records xs) (records ys))
    ∙ ap (λ (t : List ℕ). t ++ left ++ sum) (lines_follow p (records xs) (records ys))
    ∙ ap (λ (t : List ℕ). t ++ sum) (append_assoc (lines_from p (records xs)) (lines_from next (records ys)) left)
    ∙ append_assoc (lines_from p (records xs)) (lines_from next (records ys) ++ left) sum

-- ---- where a run that begins with the all-zero record can stand

pub record Stands (p : Progress) : Type 0 where
  pub begun : Begun p.group
  pub small : p.pulses ≤ 49140 * p.position

pub beginning_stands : Stands beginning
beginning_stands = record { begun = inl refl; small = omega arith }

pub after_stands : (p : Progress) (rs : List CallRecord) → Stands p → Stands (progress_after p rs)
after_stands p rs s =
    record {
      begun = stream_begun p.group rs s.begun;
      small = omega (arith, s.small, pulses_most p.group rs s.begun);
    }

-- no piece of its first 65,536 bytes is refused for where it stands
module _ (p : Progress) (bs out : List ℕ) (s : Stands p) (few : 8 * p.position + length bs ≤ 65536) (r : room (length bs) ≤ length out) where
  pub stands_ends : ends p bs out ≡ true
  stands_ends =
      let pulses : p.pulses ≤ 4294967295 * p.position = omega (arith, s.small) in
      rw (le-leb (8 * p.position + length bs) 65536 few, le-leb p.pulses (4294967295 * p.position) pulses, le-leb (room (length bs)) (length out) r) refl

  pub stands_goes_on : length bs % 8 ≡ 0 → goes_on p bs out ≡ true
  stands_goes_on e = rw (e, stands_ends) refl

-- ---- a run in pieces

pub records_length : (bs : List ℕ) → length (records bs) ≡ length bs / 8
unfolding records
records_length bs = length_tabulate (length bs / 8) (record_at bs)

pieces_from : (p : Progress) (ls : List Lent) (last : Lent) → Stands p → Whole ls → room (length last.bytes) ≤ length last.out
    → 8 * p.position + length (all_bytes ls last.bytes) ≤ 65536
    → all_printed p ls last ≡ text_from p (all_bytes ls last.bytes)
unfolding end_printed lines_printed piece_of
pieces_from p [] last s w r few = rw (stands_ends p last.bytes last.out s few r) refl
pieces_from p (l ∷ ls) last s w r few =
    let rs = records l.bytes in
    let others = all_bytes ls last.bytes in
    let size = length-append l.bytes others in
    let part : 8 * p.position + length l.bytes ≤ 65536 = omega (arith, few, size) in
    let more : 8 * (p.position + length rs) + length others ≤ 65536 = omega (arith, few, size, records_length l.bytes) in
    rw (stands_goes_on p l.bytes l.out s part w.1 w.0)
    (ap (λ (t : List ℕ). lines_from p rs ++ t) (pieces_from (progress_after p rs) ls last (after_stands p rs s) w.2 r more)
    ∙ sym (text_cut p l.bytes others w.0))

-- a run of one piece prints the text of an input
pub text_begun : (bs : List ℕ) → text_from beginning bs ≡ text_of bs
unfolding text_from text_of
text_begun bs =
    ap (λ (k : ℕ). lines 1 no_group (records bs) ++ left_line (length bs % 8) ++ sum_line k) (zero-add (all_pulses no_group (records bs)))

-- an input of at most 65,536 bytes, cut at whole records, each piece with a buffer that has room for it: its text is printed
pub pieces_print : (ls : List Lent) (last : Lent) → Whole ls → room (length last.bytes) ≤ length last.out
    → length (all_bytes ls last.bytes) ≤ 65536
    → all_printed beginning ls last ≡ text_of (all_bytes ls last.bytes)
pieces_print ls last w r few =
    pieces_from beginning ls last beginning_stands w r (omega (arith, few)) ∙ text_begun (all_bytes ls last.bytes)
