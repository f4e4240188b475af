-- What an answer says in the refusal table's terms determines the answer.
-- Assumes nothing.
use Prim.Native.Nat.{ℕ}
use mathlib.Core.Path.{◌≡◌, sym, ap}
use mathlib.Core.Option.{Option, some}
use Rattle.std.specs.Prelude.{Result, Ok, Err}
use Rattle.order.specs.declared.Refusal.{Refusal}
use Rattle.order.specs.Refusals.{Told}
use Rattle.order.proofs.Refusals.{refusal_by_number, not-zero}
use Rattle.order.proofs.Told.{told_lem}
use Rattle.code.specs.declared.Verdict.{Verdict}
use Rattle.code.specs.declared.Decoded.{Decoded}
use Rattle.code.specs.declared.DecodedWord.{DecodedWord}
use Rattle.code.specs.Symbols.{Reading, WordRead, read, told_words, told_decode, told_corrected}

pub told_words_lem : (a b : Result ℕ Refusal) → told_words a ≡ told_words b → a ≡ b
told_words_lem a b e = told_lem 0 a b e

read_lem : (d f : Decoded) → read d ≡ read f → d ≡ f
read_lem d f e =
    let symbol : d.symbol ≡ f.symbol = ap (λ (r : Reading). r.symbol) e in
    let some_verdict : ◌≡◌ {A = Option Verdict} (some d.verdict) (some f.verdict) = ap (λ (r : Reading). r.verdict) e in
    let verdict : d.verdict ≡ f.verdict = cc in
    λ i. record { symbol = symbol i; verdict = verdict i }

pub told_decode_lem : (a b : Result Decoded Refusal) → told_decode a ≡ told_decode b → a ≡ b
told_decode_lem (Err a) (Err b) e = ap Err (refusal_by_number a b (ap (λ (t : Told Reading). t.number) e))
told_decode_lem (Err a) (Ok d) e = absurd (not-zero a (ap (λ (t : Told Reading). t.number) e))
told_decode_lem (Ok d) (Err b) e = absurd (not-zero b (sym (ap (λ (t : Told Reading). t.number) e)))
told_decode_lem (Ok d) (Ok f) e = ap Ok (read_lem d f (ap (λ (t : Told Reading). t.value) e))

pub told_corrected_lem : (a b : Result DecodedWord Refusal) → told_corrected a ≡ told_corrected b → a ≡ b
told_corrected_lem (Err a) (Err b) e = ap Err (refusal_by_number a b (ap (λ (t : Told WordRead). t.number) e))
told_corrected_lem (Err a) (Ok d) e = absurd (not-zero a (ap (λ (t : Told WordRead). t.number) e))
told_corrected_lem (Ok d) (Err b) e = absurd (not-zero b (sym (ap (λ (t : Told WordRead). t.number) e)))
told_corrected_lem (Ok d) (Ok f) e =
    let decoded : d.decoded ≡ f.decoded = read_lem d.decoded f.decoded (ap (λ (t : Told WordRead). t.value.reading) e) in
    let word : d.word ≡ f.word = ap (λ (t : Told WordRead). t.value.word) e in
    λ i. Ok (record { decoded = decoded i; word = word i })
