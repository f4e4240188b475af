-- What the calls of the one-error code answer.
--
--   told_words                  what an answer says: its number, and K(n), or 0
--   word_of n symbol            the codeword of a number, as an order
--   Reading                    a symbol and a verdict; `no_reading` beside a refusal: symbol 0, no verdict
--   read d                      the reading that is found
--   told_decode                 what an answer says: its number, and the reading, or none
--   verdict_at k                clean for place 0, else put right at place k
--   reading_at n u k            what u reads as where the exchange at place k is put right
--   WordRead                   a reading, and the codeword found, as an order; the zeros beside a refusal
--   told_corrected              what an answer says: its number, the reading and the codeword, or zeros
--   codeword_checks             the checks of a symbol: 1, 5
--   words_of, codeword_of        the answers to `words` and `codeword`
--   decode_of                   the answer to `decode`
--   corrected_of                the answer to `corrected`: what `decode` answers, and the codeword found
use Rattle.std.specs.Prelude.{Bool, List, [], ◌∷◌, ℕ, zero, suc, Result, Ok, Err, ltb}
use Rattle.std.proofs.Math.Option.{Option, none, some}
use Rattle.order.specs.declared.Order.{Order}
use Rattle.order.specs.declared.Refusal.{Refusal}
use Rattle.order.specs.declared.Refusal.TheVariants.{Size, NoSymbol}
use Rattle.order.specs.Refusals.{refusal_number, Told, told, answer, is_size}
use Rattle.order.specs.Order.{listed, order_record, no_order}
use Rattle.coordinates.specs.Coordinates.{order_from}
use Rattle.coordinates.specs.Conversion.{coordinate_at}
use Rattle.distance.specs.Distance.{exchange}
use Rattle.decoder.specs.Decoding.{correction}
use Rattle.decoder.specs.Nearest.{decode_checks}
use Rattle.code.specs.declared.Verdict.{Verdict}
use Rattle.code.specs.declared.Verdict.TheVariants.{Clean, PutRight}
use Rattle.code.specs.declared.Decoded.{Decoded}
use Rattle.code.specs.declared.DecodedWord.{DecodedWord}
use Rattle.code.specs.Words.{K, word_at, symbol_of}

-- ---- the number of codewords

abbrev pub told_words : Result ℕ Refusal → Told ℕ
told_words a = told 0 a

unfoldable pub words_of : ℕ → Told ℕ
words_of n = answer ((is_size n, Size) ∷ []) (K n) 0

-- ---- the codeword of a symbol, as an order

unfoldable pub word_of : ℕ → ℕ → List ℕ
word_of n symbol = order_from (coordinate_at (word_at n symbol)) n

abbrev pub codeword_checks : ℕ → ℕ → List (Bool × Refusal)
codeword_checks n symbol = (is_size n, Size) ∷ (ltb symbol (K n), NoSymbol) ∷ []

unfoldable pub codeword_of : ℕ → ℕ → Told Order
codeword_of n symbol = answer (codeword_checks n symbol) (order_record (word_of n symbol)) no_order

-- ---- decoding

pub record Reading : Type 0 where
  pub symbol : ℕ
  pub verdict : Option Verdict

abbrev pub no_reading : Reading
no_reading = record { symbol = 0; verdict = none }

abbrev pub verdict_at : ℕ → Verdict
verdict_at zero = Clean
verdict_at (suc k) = PutRight (record { 0 = suc k })

unfoldable pub reading_at : ℕ → List ℕ → ℕ → Reading
reading_at n u k = record { symbol = symbol_of n (exchange k u); verdict = some (verdict_at k) }

abbrev pub read : Decoded → Reading
read d = record { symbol = d.symbol; verdict = some d.verdict }

abbrev pub told_decode : Result Decoded Refusal → Told Reading
told_decode (Ok d) = record { number = 0; value = read d }
told_decode (Err refusal) = record { number = refusal_number refusal; value = no_reading }

unfoldable pub decode_of : Order → Told Reading
decode_of o = answer (decode_checks o) (reading_at o.len (listed o) (correction o.len (listed o))) no_reading

-- ---- the codeword found

pub record WordRead : Type 0 where
  pub reading : Reading
  pub word : Order

abbrev pub told_corrected : Result DecodedWord Refusal → Told WordRead
told_corrected (Ok d) = record { number = 0; value = record { reading = read d.decoded; word = d.word } }
told_corrected (Err refusal) = record { number = refusal_number refusal; value = record { reading = no_reading; word = no_order } }

unfoldable pub corrected_of : Order → Told WordRead
corrected_of o =
    let k = correction o.len (listed o) in
    answer (decode_checks o) (record { reading = reading_at o.len (listed o) k; word = order_record (exchange k (listed o)) })
    (record { reading = no_reading; word = no_order })
