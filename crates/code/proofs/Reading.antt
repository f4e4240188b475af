-- What `corrected` answers by the codeword found, and `decode`, which is a part of it.
-- Assumes nothing.
use Prim.Native.Nat.{ℕ, zero, suc, ◌+◌, ◌-◌, ◌≤◌, ◌<◌}
use native.Mathlib.Omega.{arith}
use mathlib.Core.Path.{◌≡◌, refl, ◌∙◌}
use mathlib.Core.Bool.{true}
use mathlib.Core.Option.{some}
use Rattle.std.specs.Prelude.{Ok, Err}
use Rattle.order.specs.declared.Order.{Order}
use Rattle.order.specs.declared.Refusal.{Refusal}
use Rattle.order.specs.declared.Refusal.TheVariants.{Lost}
use Rattle.order.specs.Refusals.{refusal_number, number_of, if_done, Told, answer, is_size}
use Rattle.order.specs.Order.{listed, order_checks, order_record, no_order}
use Rattle.order.proofs.Refusals.{told_done, told_refused, size_in}
use Rattle.order.proofs.Records.{passed, passed_listed}
use Rattle.coordinates.specs.declared.Coordinates.{Coordinates}
use Rattle.coordinates.specs.Coordinates.{coordinates_to}
use Rattle.coordinates.specs.Conversion.{coordinates_of}
use Rattle.distance.specs.Distance.{exchange}
use Rattle.decoder.specs.declared.Found.{Found}
use Rattle.decoder.specs.Decoding.{is_codeword, correction}
use Rattle.decoder.specs.Nearest.{decode_checks, exchanged_order, told_nearest, nearest_of}
use Rattle.decoder.proofs.Stores.{same_length, same_list_lem, exchanged_passes}
use Rattle.decoder.proofs.NearestWord.{lost_number, found_number, word_near, decoded_order, near_codeword, nearest_passed, nearest_not, nearest_word, nearest_place, nearest_coordinates}
use Rattle.code.specs.declared.Verdict.{Verdict}
use Rattle.code.specs.declared.Verdict.TheVariants.{Clean, PutRight}
use Rattle.code.specs.Words.{word_number, symbol_of}
use Rattle.code.specs.Symbols.{Reading, WordRead, no_reading, verdict_at, reading_at, decode_of, corrected_of}
use Rattle.code.specs.Steps.{is_word}
use Rattle.code.proofs.Scanning.{cut, cut_coordinates, cells_of}
use Rattle.code.proofs.Codewords.{codeword_word}

-- ---- the coordinates of a codeword

module _ (o : Order) (d : number_of (order_checks o) ≡ 0) (x : Coordinates) (e : x ≡ coordinates_of o) where
  low : 1 ≤ o.len
  low = omega (arith, (passed o d).0)

  cells : x.len + 1 ≡ o.len
  cells = rw e (cells_of o low (passed o d).1)

  same_cut : cut x ≡ coordinates_to (o.len - 1) (listed o)
  same_cut = rw e (cut_coordinates o low (passed o d).1)

  -- they have a number, which is its own
  coordinates_word : is_codeword o.len (listed o) ≡ true → (is_size (x.len + 1) ≡ true) × (is_word (x.len + 1) (cut x) ≡ true)
  coordinates_word c =
      rw (cells, same_cut)
      (size_in o.len (passed o d).0 (passed o d).1, codeword_word o.len low (listed o) (passed_listed o d) c)

  coordinates_number : word_number (x.len + 1) (cut x) ≡ symbol_of o.len (listed o)
  unfolding symbol_of
  coordinates_number = rw (cells, same_cut)

-- ---- the verdict

pub clean_at : (k : ℕ) → k ≡ 0 → Clean ≡ verdict_at k
clean_at k e = rw e

pub put_right_at : (k : ℕ) → 0 < k → PutRight (record { 0 = k }) ≡ verdict_at k
put_right_at zero l = absurd (omega arith)
put_right_at (suc k) l = refl

-- ---- the answer, by that of the decoder

pub corrected_refused : (o : Order) (r : Refusal) → told_nearest (Err r) ≡ nearest_of o
    → record { number = refusal_number r; value = record { reading = no_reading; word = no_order } } ≡ corrected_of o
unfolding corrected_of
corrected_refused o r e = told_refused _ _ _ r (nearest_not o r e)

module _ (o : Order) (a : Found) (e : told_nearest (Ok a) ≡ nearest_of o) where
  abbrev k : ℕ
  k = correction o.len (listed o)

  passes : number_of (decode_checks o) ≡ 0
  passes = nearest_passed o a e

  near_passes : number_of (order_checks (word_near o)) ≡ 0
  near_passes = exchanged_passes o (decoded_order o passes) k

  -- the codeword has a number
  pub found_word : (is_size (a.coordinates.len + 1) ≡ true) × (is_word (a.coordinates.len + 1) (cut a.coordinates) ≡ true)
  found_word = coordinates_word (word_near o) near_passes a.coordinates (nearest_coordinates o a e) (near_codeword o passes)

  found_symbol : word_number (a.coordinates.len + 1) (cut a.coordinates) ≡ symbol_of o.len (exchange k (listed o))
  found_symbol =
      coordinates_number (word_near o) near_passes a.coordinates (nearest_coordinates o a e)
      ∙ rw (same_list_lem o (decoded_order o passes) k, same_length o (decoded_order o passes) k)

  pub corrected_found : {s : ℕ} {v : Verdict} → s ≡ word_number (a.coordinates.len + 1) (cut a.coordinates) → v ≡ verdict_at a.place
      → record { number = 0; value = record { reading = record { symbol = s; verdict = some v }; word = a.word } } ≡ corrected_of o
  unfolding corrected_of reading_at exchanged_order
  corrected_found p q = rw (p, q, found_symbol, nearest_place o a e, nearest_word o a e) (told_done _ _ _ passes)

-- the codeword found
pub corrected_word : (o : Order) → (corrected_of o).number ≡ 0 → (corrected_of o).value.word ≡ order_record (exchange (correction o.len (listed o)) (listed o))
unfolding corrected_of answer
corrected_word o e = rw e

-- ---- the reading alone

abbrev pub reading_told : Told WordRead → Told Reading
reading_told t = record { number = t.number; value = t.value.reading }

pub decode_part : (o : Order) → reading_told (corrected_of o) ≡ decode_of o
unfolding corrected_of decode_of answer
decode_part o = go (number_of (decode_checks o)) _ _
  where
    go : (k : ℕ) (r : Reading) (w : Order)
        → ◌≡◌ {A = Told Reading} (reading_told (record { number = k; value = if_done k (record { reading = r; word = w }) (record { reading = no_reading; word = no_order }) }))
        (record { number = k; value = if_done k r no_reading })
    go zero r w = refl
    go (suc k) r w = refl

module _ (o : Order) (d : number_of (order_checks o) ≡ 0) where
  pub decode_lost : o.len ≤ correction o.len (listed o) → record { number = refusal_number Lost; value = no_reading } ≡ decode_of o
  unfolding decode_of
  decode_lost l = told_refused _ _ _ Lost (lost_number o d l)

  pub decode_found : (k : ℕ) → correction o.len (listed o) ≡ k → k < o.len → (s : ℕ) → s ≡ symbol_of o.len (exchange k (listed o))
      → record { number = 0; value = record { symbol = s; verdict = some (verdict_at k) } } ≡ decode_of o
  unfolding decode_of reading_at
  decode_found k e l s number =
      let h : correction o.len (listed o) < o.len = omega arith in
      rw (number, ← e) (told_done _ _ _ (found_number o d h))
