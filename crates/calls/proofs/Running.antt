-- The records of a piece, one line for each, as `put_lines` goes through them.
-- Assumes nothing.
use mathlib.Core.Path.{◌≡◌, refl, sym, ap, ◌∙◌}
use mathlib.Core.Bool.{true}
use Prim.Native.Nat.{ℕ, suc, ◌+◌, ◌*◌, ◌/◌, ◌≤◌, ◌<◌}
use native.Mathlib.Omega.{arith}
use native.Mathlib.Nat.{add-zero}
use mathlib.Core.List.{List, [], ◌∷◌, ◌++◌, append_assoc, append-nil}
use lib.Dec.{leb}
use lib.ListN.{length, drop}
use lib.Seq.{drop-cons, drop-length}
use borrow.Author.Tests.{leb-true}
use Rattle.order.specs.Refusals.{Told}
use Rattle.group.specs.declared.Group.{Group}
use Rattle.order.proofs.Cells.{both}
use Rattle.order.proofs.Tabulate.{length_tabulate, get_d_tabulate}
use Rattle.records.specs.declared.CallRecord.{CallRecord}
use Rattle.runs.specs.declared.Progress.{Progress}
use Rattle.records.specs.Records.{record_at, records, Answer, step_of}
use Rattle.lines.specs.Line.{line_of}
use Rattle.runs.specs.Text.{lines, all_pulses, room}
use Rattle.runs.specs.Pieces.{progress_after, lines_from, takes}
use Rattle.lines.specs.Puts.{Puts}
use Rattle.lines.proofs.Paste.{puts_none, puts_join, puts_as}
use Rattle.lines.proofs.InRoom.{Put, put_line_lem}
use Rattle.runs.proofs.Follow.{lines_follow, progress_follows}

-- what it is that a run takes a piece
pub taken_parts : (k q size space : ℕ) → takes k q size space ≡ true → (8 * k + size ≤ 65536) × (q ≤ 4294967295 * k) × (room size ≤ space)
taken_parts k q size space e =
    let t = both (leb (8 * k + size) 65536) _ e in
    let u = both (leb q (4294967295 * k)) (leb (room size) space) t.1 in
    (leb-true _ _ t.0, leb-true _ _ u.0, leb-true _ _ u.1)

next_record : (bs : List ℕ) (i : ℕ) → i < length bs / 8 → drop i (records bs) ≡ record_at bs i ∷ drop (i + 1) (records bs)
unfolding records
next_record bs i h =
    let l : length (records bs) ≡ length bs / 8 = length_tabulate (length bs / 8) (record_at bs) in
    let next : suc i ≡ i + 1 = omega arith in
    drop-cons (records bs) i (record_at bs i) (omega arith)
    ∙ ap (λ (r : CallRecord). r ∷ drop (suc i) (records bs)) (get_d_tabulate (length bs / 8) (record_at bs) i (record_at bs i) h)
    ∙ ap (λ (k : ℕ). record_at bs i ∷ drop k (records bs)) next

none_left : (bs : List ℕ) → drop (length bs / 8) (records bs) ≡ []
unfolding records
none_left bs =
    ap (λ (k : ℕ). drop k (records bs)) (sym (length_tabulate (length bs / 8) (record_at bs))) ∙ drop-length (records bs)

-- one record more
module _ (q : Progress) (r : CallRecord) (t : Told Answer) (s : t ≡ step_of q.group r) where
  pub after_one : progress_after q (r ∷ []) ≡ record { position = q.position + 1; group = t.value.group; pulses = q.pulses + t.value.pulses }
  unfolding all_pulses
  after_one =
      let pulses : q.pulses + ((step_of q.group r).value.pulses + 0) ≡ q.pulses + t.value.pulses =
      ap (λ (u : Told Answer). q.pulses + (u.value.pulses + 0)) (sym s) ∙ ap (λ (k : ℕ). q.pulses + k) (add-zero t.value.pulses) in
      λ i. record { position = q.position + 1; group = (ap (λ (u : Told Answer). u.value.group) (sym s)) i; pulses = pulses i }

  pub line_one : lines_from q (r ∷ []) ≡ line_of (q.position + 1) r.kind t
  unfolding lines
  line_one =
      let next : suc q.position ≡ q.position + 1 = omega arith in
      append-nil _ ∙ ap (λ (u : Told Answer). line_of (suc q.position) r.kind u) (sym s)
      ∙ ap (λ (k : ℕ). line_of k r.kind t) next

-- the loop: i records of the piece are done, and the run stands at q; what was put and the lines to come are all the lines, and the run goes
-- from q where it goes from p
pub record Running (p : Progress) (bs : List ℕ) (count : ℕ) (empty now : List ℕ) (q : Progress) (end i : ℕ) : Type 0 where
  pub whole : count ≡ length bs / 8
  pub reached : i ≤ count
  pub few : p.position + count ≤ 8192
  pub room : 128 * count ≤ length empty
  pub within : end ≤ 128 * i
  pub place : q.position ≡ p.position + i
  pub small : q.pulses ≤ 4294967295 * q.position
  pub said : List ℕ
  pub puts : Puts empty now 0 end said
  pub rest : said ++ lines_from q (drop i (records bs)) ≡ lines_from p (records bs)
  pub goes : progress_after q (drop i (records bs)) ≡ progress_after p (records bs)

pub running_starts : {p : Progress} {bs empty : List ℕ} → takes p.position p.pulses (length bs) (length empty) ≡ true
    → Running p bs (length bs / 8) empty empty p 0 0
running_starts {p} {bs} {empty} e =
    let t = taken_parts p.position p.pulses (length bs) (length empty) e in
    record {
      whole = refl;
      reached = omega arith;
      few = omega (arith, t.0);
      room = omega (arith, t.2);
      within = omega arith;
      place = sym (add-zero p.position);
      small = t.1;
      said = [];
      puts = puts_none empty 0 (omega arith);
      rest = refl;
      goes = refl;
    }

pub running_steps : {p q : Progress} {bs empty now later : List ℕ} {count end next i pulses : ℕ} {r : CallRecord} {g : Group} (t : Told Answer)
    → Running p bs count empty now q end i → i < count → r ≡ record_at bs i → t ≡ step_of q.group r → t.value.pulses < 4294967296
    → Put 128 end (line_of (q.position + 1) r.kind t) now later next
    → g ≡ t.value.group → pulses ≡ q.pulses + t.value.pulses
    → Running p bs count empty later (record { position = q.position + 1; group = g; pulses = pulses }) next (i + 1)
running_steps {p} {q} {bs} {empty} {now} {later} {count} {end} {next} {i} {r = r} t run h e s b w group pulses =
    let rs = drop (i + 1) (records bs) in
    let after : Progress = record { position = q.position + 1; group = t.value.group; pulses = q.pulses + t.value.pulses } in
    let line = line_of (q.position + 1) r.kind t in
    let here : drop i (records bs) ≡ r ∷ rs = next_record bs i (omega (arith, run.whole)) ∙ ap (λ (x : CallRecord). x ∷ rs) (sym e) in
    let one : progress_after q (r ∷ []) ≡ after = after_one q r t s in
    let text : lines_from q (drop i (records bs)) ≡ line ++ lines_from after rs =
    ap (lines_from q) here ∙ lines_follow q (r ∷ []) rs ∙ ap (λ (u : List ℕ). u ++ lines_from (progress_after q (r ∷ [])) rs) (line_one q r t s)
    ∙ ap (λ (x : Progress). line ++ lines_from x rs) one in
    rw (group, pulses)
    (record {
      whole = run.whole;
      reached = omega arith;
      few = run.few;
      room = run.room;
      within = omega (arith, run.within, w.1.1);
      place = omega (arith, run.place);
      small = omega (arith, run.small);
      said = run.said ++ line;
      puts = puts_join run.puts (put_line_lem 128 end line now (omega (arith, h, run.within, run.room, run.puts.kept)) w);
      rest = append_assoc run.said line (lines_from after rs) ∙ ap (λ (u : List ℕ). run.said ++ u) (sym text) ∙ run.rest;
      goes =
          ap (λ (x : Progress). progress_after x rs) (sym one) ∙ sym (progress_follows q (r ∷ []) rs) ∙ ap (progress_after q) (sym here) ∙ run.goes;
    })

-- where all records are done
module _ {p q : Progress} {bs empty now : List ℕ} {count end i : ℕ} (run : Running p bs count empty now q end i) (h : count ≤ i) where
  nothing_left : drop i (records bs) ≡ []
  nothing_left = let e : i ≡ length bs / 8 = omega (arith, run.reached, run.whole) in ap (λ (k : ℕ). drop k (records bs)) e ∙ none_left bs

  pub lines_put : Puts empty now 0 end (lines_from p (records bs))
  unfolding lines
  lines_put =
      puts_as (sym (append-nil run.said) ∙ ap (λ (rs : List CallRecord). run.said ++ lines_from q rs) (sym nothing_left) ∙ run.rest) run.puts

  after_none : (x : Progress) → x ≡ progress_after x []
  unfolding all_pulses
  after_none x =
      let records : x.position ≡ x.position + 0 = sym (add-zero x.position) in
      let pulses : x.pulses ≡ x.pulses + 0 = sym (add-zero x.pulses) in
      λ j. record { position = records j; group = x.group; pulses = pulses j }

  pub progress_made : q ≡ progress_after p (records bs)
  progress_made = after_none q ∙ ap (progress_after q) (sym nothing_left) ∙ run.goes
