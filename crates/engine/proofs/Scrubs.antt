-- A scrub: what it answers, case by case, and what it leaves.
--
--   scrub_refused   the refusal of a read is that of a scrub
--   scrub_written   otherwise the answer is that of the write of the codeword found, with the symbol and the verdict of the read
--   scrub_stored    which is the store of the symbol read
--   scrub_by_mark, scrub_lost, scrub_found, scrub_worn   the same by the order that is decoded, the answer of `corrected` to it, and that of the write
--   scrub_reads   after an accepted scrub a read answers the symbol that was read before it, clean
--   scrub_tells   an accepted scrub tells the symbol and the verdict of a read before it
--   scrub_group   a group stays a group under scrub
--   store_scrubs  a group that was stored to can be scrubbed
--   scrub_kept    a refused scrub, worn, spent or other, gives the group back, with symbol 0, no verdict and no pulses
-- Assumes nothing.
use Prim.Native.Nat.{ℕ, zero, suc, ◌<◌}
use native.Mathlib.Omega.{arith}
use mathlib.Core.Path.{◌≡◌, refl, sym, ap, ◌∙◌}
use mathlib.Core.Bool.{true}
use mathlib.Core.List.{[]}
use mathlib.Core.Option.{Option, some}
use lib.Dec.{ltb}
use borrow.Author.Tests.{ltb-true}
use Rattle.order.specs.declared.Order.{Order}
use Rattle.order.specs.declared.Refusal.{Refusal}
use Rattle.order.specs.declared.Refusal.TheVariants.{Blank, Lost}
use Rattle.order.specs.Refusals.{refusal_number, number_of, if_done, Told, answer}
use Rattle.order.specs.Cells.{is_order}
use Rattle.order.specs.Order.{order_record, no_order}
use Rattle.order.proofs.Refusals.{later_decide, all_held, check_held, refused_first, refused_zeros, told_refused}
use Rattle.decoder.specs.Decoding.{is_codeword}
use Rattle.decoder.proofs.Decoding.{exchange_order, corrected}
use Rattle.code.specs.declared.Verdict.{Verdict}
use Rattle.code.specs.declared.Verdict.TheVariants.{Clean}
use Rattle.code.specs.Words.{K, symbol_of}
use Rattle.code.specs.Symbols.{word_of, Reading, WordRead, reading_at, corrected_of}
use Rattle.code.proofs.Laws.{number_below}
use Rattle.code.proofs.Codewords.{codeword_word, number_of_codeword}
use Rattle.code.proofs.Reading.{reading_told, decode_part, corrected_word}
use Rattle.group.specs.declared.Group.{Group}
use Rattle.group.specs.Record.{group_checks, IsGroup}
use Rattle.push_up.specs.PushUp.{singles}
use Rattle.push_up.specs.WriteAnswer.{Program, pushed, unpushed, write_of}
use Rattle.group.proofs.Checks.{checked_size}
use Rattle.push_up.proofs.Orders.{order_target}
use Rattle.push_up.proofs.Writes.{push_group, push_again}
use Rattle.sensing.proofs.Sensed.{sensed_order_lem}
use Rattle.engine.specs.ReadStore.{sensed_order, place_read, marked_order, read_checks, reading_of, read_of, store_of}
use Rattle.engine.specs.Scrub.{Step, quiet, programmed_step, word_found, scrub_checks, scrub_of}
use Rattle.engine.proofs.Answers.{mark_held, marked_done, read_number, read_done, sensed_recorded, read_by_mark, read_by_order, write_listed, word_order, store_written}
use Rattle.engine.proofs.Holds.{store_accepted, store_holds, store_reads}

-- ---- the codeword found, and the symbol that stands for it

module _ (g : Group) (d : number_of (read_checks g) ≡ 0) where
  checks_passed : number_of (group_checks g) ≡ 0
  checks_passed = (all_held _ (group_checks g) d).0

  pos : 0 < g.n
  pos = omega (arith, (checked_size g checks_passed).0)

  place_found : place_read g < g.n
  place_found =
      let marked = check_held g.written Blank _ (all_held _ (group_checks g) d).1 in
      ltb-true (place_read g) g.n (check_held (ltb (place_read g) g.n) Lost [] marked.1).0

  found_order : is_order g.n (word_found g) ≡ true
  found_order = exchange_order g.n (sensed_order g) (sensed_order_lem g.n g.levels) (place_read g)

  found_codeword : is_codeword g.n (word_found g) ≡ true
  found_codeword = corrected g.n (sensed_order g) (sensed_order_lem g.n g.levels) place_found

  pub symbol_word : word_of g.n (reading_of g).symbol ≡ word_found g
  unfolding reading_at symbol_of word_of
  symbol_word = number_of_codeword g.n pos (word_found g) found_order found_codeword

  pub symbol_low : (reading_of g).symbol < K g.n
  unfolding reading_at symbol_of
  symbol_low = number_below g.n pos _ (codeword_word g.n pos (word_found g) found_order found_codeword)

  -- to write it is refused where the scrub is, as worn or as spent alone
  write_found : write_of g (order_record (word_found g)) ≡ answer (scrub_checks g) (pushed true g (singles (word_found g))) (unpushed g)
  write_found = write_listed g checks_passed (word_found g) found_order (scrub_checks g) (later_decide _ (read_checks g) d)

  -- and to store the symbol is to write it
  store_found : store_of g (reading_of g).symbol ≡ write_of g (order_record (word_found g))
  store_found = rw symbol_word at (sym (store_written g (reading_of g).symbol checks_passed symbol_low))

-- ---- the answer to a scrub

-- by that of a write
abbrev pub scrubbed : Group → Told Program → ℕ → Option Verdict → Told Step
scrubbed g t s v = record { number = t.number; value = if_done t.number (programmed_step t.value s v) (quiet g) }

module _ (g : Group) where
  pub scrub_refused : (r : Refusal) → (read_of g).number ≡ refusal_number r → record { number = refusal_number r; value = quiet g } ≡ scrub_of g
  unfolding scrub_of
  scrub_refused r e = told_refused _ _ _ r (refused_first _ (read_checks g) r (sym (read_number g) ∙ e))

  module _ (d : number_of (read_checks g) ≡ 0) where
    pub scrub_written : scrubbed g (write_of g (order_record (word_found g))) (reading_of g).symbol (reading_of g).verdict ≡ scrub_of g
    unfolding scrub_of answer
    scrub_written = rw (write_found g d) (go (number_of (scrub_checks g)))
      where
        go : (k : ℕ)
            → scrubbed g (record { number = k; value = if_done k (pushed true g (singles (word_found g))) (unpushed g) }) (reading_of g).symbol (reading_of g).verdict
            ≡ record { number = k; value = if_done k (programmed_step (pushed true g (singles (word_found g))) (reading_of g).symbol (reading_of g).verdict) (quiet g) }
        go zero = refl
        go (suc k) = refl

    pub scrub_stored : scrubbed g (store_of g (reading_of g).symbol) (reading_of g).symbol (reading_of g).verdict ≡ scrub_of g
    scrub_stored = rw (store_found g d) scrub_written

-- by the order that is decoded, and by what `corrected` answers to it
module _ (g : Group) where
  pub scrub_by_mark : (r : Refusal) → record { number = refusal_number r; value = no_order } ≡ marked_order g → record { number = refusal_number r; value = quiet g } ≡ scrub_of g
  scrub_by_mark r e = scrub_refused g r (sym (ap (λ (t : Told Reading). t.number) (read_by_mark g r e)))

  module _ {o : Order} (e : record { number = 0; value = o } ≡ marked_order g) where
    read_corrected : reading_told (corrected_of o) ≡ read_of g
    read_corrected = decode_part o ∙ read_by_order g e

    pub scrub_lost : (r : Refusal) → (corrected_of o).number ≡ refusal_number r → record { number = refusal_number r; value = quiet g } ≡ scrub_of g
    scrub_lost r f = scrub_refused g r (sym (ap (λ (t : Told Reading). t.number) read_corrected) ∙ f)

    module _ {s : ℕ} {v : Verdict} {w : Order} (f : record { number = 0; value = record { reading = record { symbol = s; verdict = some v }; word = w } } ≡ corrected_of o) where
      answered : read_of g ≡ record { number = 0; value = record { symbol = s; verdict = some v } }
      answered = sym (ap reading_told f ∙ read_corrected)

      accepted_read : number_of (read_checks g) ≡ 0
      accepted_read = sym (read_number g) ∙ ap (λ (t : Told Reading). t.number) answered

      reading : reading_of g ≡ record { symbol = s; verdict = some v }
      reading = ap (λ (t : Told Reading). t.value) (sym (read_done g accepted_read) ∙ answered)

      word : w ≡ order_record (word_found g)
      word =
          let (m, same) = marked_done g e in
          let (len, list) = sensed_recorded g (mark_held g m).0 in
          ap (λ (t : Told WordRead). t.value.word) f ∙ corrected_word o (sym (ap (λ (t : Told WordRead). t.number) f)) ∙ rw (same, list, len)

      pub scrub_found : {t : Told Program} → t ≡ write_of g w → scrubbed g t s (some v) ≡ scrub_of g
      scrub_found q = rw (q, word) (rw reading at (scrub_written g accepted_read))

      pub scrub_worn : (r : Refusal) → record { number = refusal_number r; value = unpushed g } ≡ write_of g w → record { number = refusal_number r; value = quiet g } ≡ scrub_of g
      scrub_worn r q = rw refused_zeros at (scrub_found q)

-- ---- what it leaves

module _ (g : Group) where
  -- one that is accepted is the store of the symbol read
  scrub_store : (scrub_of g).number ≡ 0
      → (number_of (read_checks g) ≡ 0)
      × ((store_of g (reading_of g).symbol).number ≡ 0)
      × ((scrub_of g).value ≡ programmed_step (store_of g (reading_of g).symbol).value (reading_of g).symbol (reading_of g).verdict)
  unfolding scrub_of answer
  scrub_store e =
      let d = (all_held _ (read_checks g) e).0 in
      let same = scrub_stored g d in
      let k : (store_of g (reading_of g).symbol).number ≡ 0 = ap (λ (t : Told Step). t.number) same ∙ e in
      (d, k, sym (rw k at (ap (λ (t : Told Step). t.value) same)))

  pub scrub_kept : {k : ℕ} → (scrub_of g).number ≡ suc k → (scrub_of g).value ≡ quiet g
  unfolding scrub_of answer
  scrub_kept e = rw e

  pub scrub_reads : IsGroup g → (scrub_of g).number ≡ 0
      → read_of (scrub_of g).value.group ≡ record { number = 0; value = record { symbol = (read_of g).value.symbol; verdict = some Clean } }
  scrub_reads h e =
      let (d, k, same) = scrub_store e in
      rw (same, read_done g d) (store_reads g (reading_of g).symbol h k)

  -- it tells the symbol and the verdict of the read
  pub scrub_tells : (scrub_of g).number ≡ 0 → read_of g ≡ record { number = 0; value = record { symbol = (scrub_of g).value.symbol; verdict = (scrub_of g).value.verdict } }
  scrub_tells e = let (d, _, same) = scrub_store e in rw same (read_done g d)

  -- a group stays a group
  pub scrub_group : IsGroup g → IsGroup (scrub_of g).value.group
  unfolding scrub_of
  scrub_group h =
      push_group (λ (s : Step). s.group) true g (singles (word_found g)) (read_checks g) (programmed_step (pushed true g (singles (word_found g))) (reading_of g).symbol (reading_of g).verdict) (quiet g) h refl
      refl

-- a group that was stored to can be scrubbed: no cell has to rise
pub store_scrubs : (g : Group) (s : ℕ) → IsGroup g → (store_of g s).number ≡ 0 → (scrub_of (store_of g s).value.group).number ≡ 0
unfolding scrub_of answer
store_scrubs g s h e =
    let after = (store_of g s).value.group in
    let (d, below, f, left) = store_accepted g s e in
    let (_, n, _, _) = store_holds g s h e in
    let reads = store_reads g s h e in
    let done : number_of (read_checks after) ≡ 0 = sym (read_number after) ∙ ap (λ (t : Told Reading). t.number) reads in
    let symbol : (reading_of after).symbol ≡ s = ap (λ (t : Told Reading). t.value.symbol) (sym (read_done after done) ∙ reads) in
    let found : word_found after ≡ word_of g.n s = sym (symbol_word after done) ∙ rw (symbol, n) in
    later_decide _ (read_checks after) done ∙ rw (found, left) (push_again true g (singles (word_of g.n s)) h (order_target g.n (word_of g.n s) (word_order g s d below)) f)
