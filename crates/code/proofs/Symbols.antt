-- The codeword of a symbol reads as that symbol: clean, or put right at place k where the cells of ranks k and k + 1 were exchanged.
-- Assumes nothing.
use Prim.Native.Nat.{ℕ, ◌≤◌, ◌<◌}
use native.Mathlib.Omega.{arith}
use mathlib.Core.Path.{◌≡◌, sym}
use mathlib.Core.List.{List}
use mathlib.Core.Option.{some}
use Rattle.order.specs.Order.{order_record}
use Rattle.coordinates.specs.Coordinates.{order_from}
use Rattle.coordinates.specs.Conversion.{coordinate_at}
use Rattle.distance.specs.Distance.{exchange}
use Rattle.code.specs.Words.{K, word_at, symbol_of}
use Rattle.code.specs.Symbols.{verdict_at, decode_of}
use Rattle.code.proofs.Codewords.{symbol_order, symbol_codeword, symbol_back}
use Rattle.order.proofs.Records.{recorded_length, recorded_list, recorded_passes}
use Rattle.decoder.proofs.Decoding.{exchange_order, reads_exchange}
use Rattle.code.proofs.Reading.{decode_found}

module _ (n s : ℕ) (low : 3 ≤ n) (high : n ≤ 12) (h : s < K n) where
  abbrev word : List ℕ
  word = order_from (coordinate_at (word_at n s)) n

  -- place 0 exchanges nothing
  pub symbol_reads : (k : ℕ) → k < n → decode_of (order_record (exchange k word)) ≡ record { number = 0; value = record { symbol = s; verdict = some (verdict_at k) } }
  unfolding symbol_of
  symbol_reads k l =
      let pos : 0 < n = omega arith in
      let order = symbol_order n pos s h in
      let t = exchange_order n word order k in
      let len = recorded_length n (exchange k word) t in
      let list = recorded_list n (exchange k word) t low high in
      let (place, back) = reads_exchange n word order (symbol_codeword n pos s h) k l in
      sym (decode_found _ (recorded_passes n (exchange k word) t low high) k (rw (list, len) place) (omega arith) s (rw (list, len, back) (sym (symbol_back n pos s h))))
