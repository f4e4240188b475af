-- What the answer of `decode` says of an order that passes its checks, by the distance of codewords.
--
--   decode_finds     the symbol of a codeword within distance 1 is answered, with the verdict of the correction's place
--   decode_found_by  and whatever is answered is the symbol of such a codeword
--   decode_clean_by  the verdict is clean exactly where the order is a codeword itself
--   decode_lost_by   7 is answered exactly where there is none
-- Assumes nothing.
use Prim.Native.Nat.{ℕ, zero, suc, ◌≤◌, ◌<◌}
use native.Mathlib.Omega.{arith}
use mathlib.Core.Path.{◌≡◌, refl, sym, ap, ◌∙◌}
use mathlib.Core.Logic.{⊎_elim, ◌↔◌}
use mathlib.Core.Bool.{true}
use mathlib.Core.List.{List}
use mathlib.Core.Option.{Option, none, some}
use Rattle.order.specs.declared.Order.{Order}
use Rattle.order.specs.Refusals.{number_of, Told}
use Rattle.order.specs.Order.{listed, order_checks}
use Rattle.order.proofs.Records.{passed, passed_listed}
use Rattle.distance.specs.Distance.{exchange}
use Rattle.decoder.specs.Decoding.{is_codeword, correction, Nearby}
use Rattle.code.specs.declared.Verdict.{Verdict}
use Rattle.code.specs.declared.Verdict.TheVariants.{Clean}
use Rattle.code.specs.Words.{symbol_of}
use Rattle.code.specs.Symbols.{Reading, verdict_at, decode_of}
use Rattle.order.proofs.Cells.{lt_cases}
use Rattle.decoder.proofs.Decoding.{reads, reads_clean}
use Rattle.code.proofs.Reading.{decode_lost, decode_found}

module _ (o : Order) (d : number_of (order_checks o) ≡ 0) where
  abbrev n : ℕ
  n = o.len

  abbrev u : List ℕ
  u = listed o

  some_cells : 1 ≤ n
  some_cells = omega (arith, (passed o d).0)

  -- the answer, where the order is not lost
  answered : correction n u < n → record { number = 0; value = record { symbol = symbol_of n (exchange (correction n u) u); verdict = some (verdict_at (correction n u)) } } ≡ decode_of o
  answered l = decode_found o d (correction n u) refl l (symbol_of n (exchange (correction n u) u)) refl

  pub decode_finds : (c : List ℕ) → Nearby n u c → decode_of o ≡ record { number = 0; value = record { symbol = symbol_of n c; verdict = some (verdict_at (correction n u)) } }
  decode_finds c p =
      let (l, e) = (reads n u (passed_listed o d) some_cells c).1 p in
      rw e (sym (answered l))

  -- the codeword that the exchange at the correction gives
  found : correction n u < n → Nearby n u (exchange (correction n u) u)
  found l = (reads n u (passed_listed o d) some_cells (exchange (correction n u) u)).0 (l, refl)

  pub decode_found_by : (decode_of o).number ≡ 0 → (c : List ℕ) × Nearby n u c × ((decode_of o).value.symbol ≡ symbol_of n c)
  decode_found_by z =
      ⊎_elim (λ t. (exchange (correction n u) u, found t.0, sym (ap (λ (t : Told Reading). t.value.symbol) (answered t.0))))
      (λ t. absurd (omega (arith, ap (λ (t : Told Reading). t.number) (decode_lost o d t.0))))
      (lt_cases (correction n u) n)

  clean_place : (k : ℕ) → ◌≡◌ {A = Option Verdict} (some (verdict_at k)) (some Clean) → k ≡ 0
  clean_place zero e = refl
  clean_place (suc k) e = absurd (let z : ◌≡◌ {A = ℕ} 0 1 = cc in omega arith)

  pub decode_clean_by : ((decode_of o).value.verdict ≡ some Clean) ↔ (is_codeword n u ≡ true)
  decode_clean_by = (
    λ e.
        ⊎_elim (λ t. (reads_clean n u (passed_listed o d) some_cells).0 (clean_place (correction n u) (ap (λ (t : Told Reading). t.value.verdict) (answered t.0) ∙ e)))
        (λ t.
        let no : ◌≡◌ {A = Option Verdict} none (some Clean) = ap (λ (t : Told Reading). t.value.verdict) (decode_lost o d t.0) ∙ e in
        absurd (let z : ◌≡◌ {A = ℕ} 0 1 = cc in omega arith))
        (lt_cases (correction n u) n),
    λ c.
        let z = (reads_clean n u (passed_listed o d) some_cells).1 c in
        let v : some (verdict_at (correction n u)) ≡ (decode_of o).value.verdict = ap (λ (t : Told Reading). t.value.verdict) (answered (omega (arith, some_cells))) in
        sym v ∙ rw z,
  )

  pub decode_lost_by : ((decode_of o).number ≡ 7) ↔ ((c : List ℕ) → Nearby n u c → ⊥)
  decode_lost_by = (
    λ e c p. omega (arith, ap (λ (t : Told Reading). t.number) (decode_finds c p)),
    λ no.
        ⊎_elim (λ t. absurd (no _ (found t.0))) (λ t. sym (ap (λ (t : Told Reading). t.number) (decode_lost o d t.0))) (lt_cases (correction n u) n),
  )
