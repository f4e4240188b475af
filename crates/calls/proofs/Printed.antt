-- What a piece, the last piece and a whole input leave in a lent buffer, as `go_on`, `finish` and `run` put it.
-- Assumes nothing.
use mathlib.Core.Path.{◌≡◌, refl, sym, ap, ◌∙◌}
use Prim.Native.Nat.{ℕ, ◌+◌, ◌*◌, ◌%◌, ◌≤◌, ◌<◌, min}
use native.Mathlib.Omega.{arith}
use native.Mathlib.Nat.{zero-add}
use mathlib.Core.Bool.{Bool, true, false}
use mathlib.Core.List.{List, ◌++◌}
use lib.Dec.{leb}
use lib.ListN.{length, take, drop, length-take}
use lib.Seq.{take_all}
use borrow.Author.Tests.{leb-true, leb-false, le-leb}
use Rattle.records.specs.Records.{records}
use Rattle.runs.specs.declared.Progress.{Progress}
use Rattle.runs.specs.declared.PieceAnswer.{PieceAnswer}
use Rattle.lines.specs.Line.{left_line, sum_line}
use Rattle.runs.specs.Text.{taken, printed}
use Rattle.runs.specs.Pieces.{beginning, progress_after, lines_from, text_from, goes_on, ends, lines_printed, piece_of, end_printed}
use Rattle.runs.proofs.Pieces.{text_begun}
use Rattle.lines.specs.Line.{pasted}
use Rattle.lines.specs.Puts.{Puts}
use Rattle.lines.proofs.Paste.{puts_as}

-- a text put at the start of a buffer
first_put : {out last t u : List ℕ} {end : ℕ} → t ≡ u → Puts out last 0 end t → (end ≡ length u) × (last ≡ u ++ drop end out)
unfolding pasted
first_put {out} {last} {t} {u} {end} e w =
    let v : Puts out last 0 end u = puts_as e w in
    (v.ends ∙ zero-add (length u), v.put ∙ ap (λ (k : ℕ). u ++ drop k out) (sym v.ends))

module _ (p : Progress) (bs out : List ℕ) where
  -- a piece that is not taken leaves the buffer and the run as they were
  pub piece_refused : goes_on p bs out ≡ false → (record { end = 0; progress = p } ≡ piece_of p bs out) × (out ≡ lines_printed p bs out ++ out)
  unfolding piece_of lines_printed
  piece_refused e = rw e (refl, refl)

  pub end_refused : ends p bs out ≡ false → (0 ≡ length (end_printed p bs out)) × (out ≡ end_printed p bs out ++ out)
  unfolding end_printed
  end_refused e = rw e (refl, refl)

  module _ (e : goes_on p bs out ≡ true) where
    lines_printed_lem : lines_from p (records bs) ≡ lines_printed p bs out
    unfolding lines_printed
    lines_printed_lem = rw e refl

    piece_same : (r : PieceAnswer) → r.end ≡ length (lines_printed p bs out) → r.progress ≡ progress_after p (records bs) → r ≡ piece_of p bs out
    unfolding piece_of
    piece_same r l q = rw e (λ i. record { end = l i; progress = q i })

    pub piece_put : {last : List ℕ} (r : PieceAnswer) → Puts out last 0 r.end (lines_from p (records bs)) → r.progress ≡ progress_after p (records bs)
        → (r ≡ piece_of p bs out) × (last ≡ lines_printed p bs out ++ drop r.end out)
    piece_put {last} r w q =
        let t : (r.end ≡ length (lines_printed p bs out)) × (last ≡ lines_printed p bs out ++ drop r.end out) = first_put lines_printed_lem w in
        (piece_same r t.0 q, t.1)

  module _ (e : ends p bs out ≡ true) where
    text_printed : (q : Progress) → q ≡ progress_after p (records bs)
        → lines_from p (records bs) ++ left_line (length bs % 8) ++ sum_line q.pulses ≡ end_printed p bs out
    unfolding end_printed text_from
    text_printed q s = rw e (ap (λ (x : Progress). lines_from p (records bs) ++ left_line (length bs % 8) ++ sum_line x.pulses) s)

    pub end_put : {last : List ℕ} {end : ℕ} (q : Progress) → q ≡ progress_after p (records bs)
        → Puts out last 0 end (lines_from p (records bs) ++ left_line (length bs % 8) ++ sum_line q.pulses)
        → (end ≡ length (end_printed p bs out)) × (last ≡ end_printed p bs out ++ drop end out)
    end_put q s w = first_put (text_printed q s) w

-- ---- a whole input

module _ (bs : List ℕ) (size : ℕ) (e : size ≡ min 65536 (length bs)) where
  pub part_taken : take size bs ≡ taken bs
  part_taken = by (leb 65536 (length bs)) refl
    where
      by : (b : Bool) → leb 65536 (length bs) ≡ b → take size bs ≡ taken bs
      by true h =
          let l : 65536 ≤ length bs = leb-true _ _ h in
          let most : size ≡ 65536 = omega (arith, e) in
          ap (λ (k : ℕ). take k bs) most
      by false h =
          let l : length bs < 65536 = leb-false _ _ h in
          take_all size bs (omega (arith, e)) ∙ sym (take_all 65536 bs (omega arith))

  -- the bytes that are read are taken where the buffer has room for them
  pub whole_printed : (out : List ℕ) → end_printed beginning (take size bs) out ≡ printed bs out
  unfolding end_printed printed
  whole_printed out =
      let few : 8 * 0 + length (taken bs) ≤ 65536 = omega (arith, length-take 65536 bs) in
      rw (part_taken, le-leb (8 * 0 + length (taken bs)) 65536 few, text_begun (taken bs)) refl
