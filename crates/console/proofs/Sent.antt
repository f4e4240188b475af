-- The pieces that `pour` hands to its run: the run stands where the bytes of the earlier ones leave it, and takes each of them.
-- Assumes nothing.
use mathlib.Core.Path.{◌≡◌, refl, sym, ap, ◌∙◌, subst}
use mathlib.Core.Bool.{true}
use Prim.Native.Nat.{ℕ, ◌+◌, ◌*◌, ◌%◌, ◌≤◌, ◌<◌}
use native.Mathlib.Omega.{arith}
use mathlib.Core.List.{List, [], ◌++◌}
use lib.ListN.{length, drop, length-append}
use Rattle.records.specs.Records.{records}
use Rattle.records.proofs.Cut.{records_append}
use Rattle.runs.specs.declared.Progress.{Progress}
use Rattle.runs.specs.Text.{all_pulses}
use Rattle.runs.specs.declared.PieceAnswer.{PieceAnswer}
use Rattle.runs.specs.Pieces.{beginning, progress_after, lines_from, text_from, goes_on, ends, lines_printed, piece_of, end_printed}
use Rattle.runs.proofs.Follow.{progress_follows}
use Rattle.runs.proofs.Pieces.{Stands, beginning_stands, after_stands, stands_ends, stands_goes_on, records_length}

-- ---- a piece that is taken

-- a text that was put at the start of a buffer ends within it
ends_within : (t out : List ℕ) {last : List ℕ} {end : ℕ} → end ≡ length t → last ≡ t ++ drop end out → end ≤ length last
ends_within t out {last} {end} e h = omega (arith, e, ap length h ∙ length-append t (drop end out))

module _ (p : Progress) (bs out : List ℕ) {last : List ℕ} where
  pub piece_taken : (r : PieceAnswer) → goes_on p bs out ≡ true → (r ≡ piece_of p bs out) × (last ≡ lines_printed p bs out ++ drop r.end out)
      → (r.end ≡ length (lines_from p (records bs)))
      × ((r.progress ≡ progress_after p (records bs)) × ((last ≡ lines_from p (records bs) ++ drop r.end out) × (r.end ≤ length last)))
  unfolding piece_of lines_printed
  piece_taken r e h =
      let same = rw e at h.0 in
      let text = lines_from p (records bs) in
      let end : r.end ≡ length text = ap (λ (x : PieceAnswer). x.end) same in
      let put : last ≡ text ++ drop r.end out = rw e at h.1 in
      (end, (ap (λ (x : PieceAnswer). x.progress) same, (put, ends_within text out end put)))

  pub last_taken : {end : ℕ} → ends p bs out ≡ true → (end ≡ length (end_printed p bs out)) × (last ≡ end_printed p bs out ++ drop end out)
      → (end ≡ length (text_from p bs)) × ((last ≡ text_from p bs ++ drop end out) × (end ≤ length last))
  unfolding end_printed
  last_taken {end} e h =
      let size : end ≡ length (text_from p bs) = rw e at h.0 in
      let put : last ≡ text_from p bs ++ drop end out = rw e at h.1 in
      (size, (put, ends_within (text_from p bs) out size put))

-- ---- the pieces of `pour`

-- the loop: earlier pieces, of 4,096 bytes each, are run, and the piece that was read is in its buffer
pub record Sent (input text : List ℕ) (p : Progress) (size pieces : ℕ) : Type 0 where
  pub buffer : length input ≡ 4096
  pub space : length text ≡ 65600
  pub read : size ≤ 4096
  pub some : 1 ≤ pieces
  pub few : pieces ≤ 16
  pub earlier : List ℕ
  pub whole : length earlier + 4096 ≡ 4096 * pieces
  pub stands : p ≡ progress_after beginning (records earlier)

pub sent_starts : {input text : List ℕ} {size : ℕ} {p : Progress} → length input ≡ 4096 → length text ≡ 65600 → size ≤ 4096 → p ≡ beginning
    → Sent input text p size 1
unfolding records all_pulses
sent_starts l t s b =
    record {
      buffer = l;
      space = t;
      read = s;
      some = omega arith;
      few = omega arith;
      earlier = [];
      whole = refl;
      stands = b ∙ refl;
    }

module _ {input text : List ℕ} {p : Progress} {size pieces : ℕ} (sent : Sent input text p size pieces) where
  standing : Stands p
  standing = subst Stands (sym sent.stands) (after_stands beginning (records sent.earlier) beginning_stands)

  place : 8 * p.position + 4096 ≡ 4096 * pieces
  place =
      let at : p.position ≡ 0 + length (records sent.earlier) = ap (λ (q : Progress). q.position) sent.stands in
      omega (arith, at, records_length sent.earlier, sent.whole)

  -- a full piece is taken, and so is a last one of at most as many bytes
  pub sent_goes_on : (bs : List ℕ) → length bs ≡ 4096 → goes_on p bs text ≡ true
  sent_goes_on bs e =
      stands_goes_on p bs text standing (omega (arith, place, e, sent.few)) (omega (arith, e, sent.space)) (omega (arith, e))

  pub sent_ends : (bs : List ℕ) → length bs ≡ size → ends p bs text ≡ true
  sent_ends bs e =
      stands_ends p bs text standing (omega (arith, place, e, sent.read, sent.few)) (omega (arith, e, sent.read, sent.space))

  -- the next piece
  pub sent_steps : {next later : List ℕ} {q : Progress} {more : ℕ} (bs : List ℕ) → length bs ≡ 4096 → pieces < 16 → q ≡ progress_after p (records bs)
      → length next ≡ 4096 → length later ≡ 65600 → more ≤ 4096 → Sent next later q more (pieces + 1)
  sent_steps bs f l e n t m =
      let bytes : length sent.earlier % 8 ≡ 0 = omega (arith, sent.whole) in
      record {
        buffer = n;
        space = t;
        read = m;
        some = omega arith;
        few = omega arith;
        earlier = sent.earlier ++ bs;
        whole = omega (arith, sent.whole, f, length-append sent.earlier bs);
        stands =
            e ∙ ap (λ (x : Progress). progress_after x (records bs)) sent.stands ∙ sym (progress_follows beginning (records sent.earlier) (records bs))
            ∙ ap (progress_after beginning) (sym (records_append sent.earlier bs bytes));
      }
