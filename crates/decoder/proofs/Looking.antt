-- The search for the exchange that makes an order a codeword: no place below k does.
-- Assumes nothing.
use Prim.Native.Nat.{ℕ, ◌+◌, ◌-◌, ◌≤◌, ◌<◌}
use native.Mathlib.Nat.{mod-lt, eq-or-lt_of_le}
use native.Mathlib.Omega.{arith}
use mathlib.Core.Path.{◌≡◌, refl, sym, ap, ◌∙◌}
use mathlib.Core.Bool.{true, false}
use mathlib.Core.Logic.{⊎_elim}
use lib.ListN.{length}
use borrow.Author.Tests.{ne_eqb, lt-ltb, le-ltb}
use lib.Dec.{ltb}
use Rattle.std.specs.Prelude.{Some, None, Result, Ok, Err}
use Rattle.std.specs.Option.{ok_or}
use Rattle.order.specs.declared.Refusal.{Refusal}
use Rattle.order.specs.declared.Refusal.TheVariants.{Lost}
use Rattle.order.specs.Refusals.{told}
use Rattle.order.proofs.Refusals.{refusal_by_number, not-zero}
use Rattle.order.proofs.Cells.{lt_cases}
use Rattle.order.specs.declared.Order.{Order}
use Rattle.order.specs.Order.{listed}
use Rattle.order.proofs.Records.{passed}
use Rattle.coordinates.specs.Coordinates.{coordinates_to, weight}
use Rattle.distance.specs.Distance.{exchange}
use Rattle.decoder.specs.Decoding.{modulus, is_codeword, correction}
use Rattle.decoder.specs.Steps.{syndrome_of, Misread, below_only, corrects_by}
use Rattle.decoder.proofs.First.{first_is}
use Rattle.decoder.proofs.ZeroSyndrome.{code_syndrome}
use Rattle.decoder.proofs.Neighbours.{Neighbours, exchange_tested}

pub record Looking (o : Order) (s k : ℕ) : Type 0 where
  pub misread : Misread o s
  pub whole : length o.cells ≡ 12
  pub first : 1 ≤ k
  pub last : k ≤ o.len
  pub before : (j : ℕ) → j < k → is_codeword o.len (exchange j (listed o)) ≡ false

pub looking_none : (o : Order) (s : ℕ) → Misread o s → length o.cells ≡ 12 → Looking o s 1
looking_none o s m w = record {
  misread = m;
  whole = w;
  first = omega arith;
  last = omega (arith, (passed o m.passed).0);
  before = λ j l.
      let e : j ≡ 0 = omega arith in
      let d : syndrome_of o.len (listed o) ≡ s = sym m.syndrome in
      rw e (code_syndrome o.len (listed o) ∙ ne_eqb (syndrome_of o.len (listed o)) 0 (omega (arith, m.wrong)));
}

-- a turn at place k, with the cells a and b of ranks k and k + 1
module _ {o : Order} {s k a b : ℕ} (t : Looking o s k) (p : Neighbours o k a b) where
  -- what the test of the syndrome says
  tested : corrects_by o.len s a b ≡ is_codeword o.len (exchange k (listed o))
  tested = rw t.misread.syndrome (sym (exchange_tested p))

  pub looking_found : corrects_by o.len s a b ≡ true → Some k ≡ below_only o.len (correction o.len (listed o))
  unfolding correction
  looking_found e =
      let f : correction o.len (listed o) ≡ k = first_is (record { within = t.last; before = t.before; passes = λ h. sym tested ∙ e }) in
      rw (f, lt-ltb k o.len p.place.last) refl

  pub looking_more : corrects_by o.len s a b ≡ false → Looking o s (k + 1)
  looking_more e = record {
    misread = t.misread;
    whole = t.whole;
    first = omega arith;
    last = omega (arith, p.place.last);
    before = λ j h. ⊎_elim (λ (q : j ≡ k). ap (λ (i : ℕ). is_codeword o.len (exchange i (listed o))) q ∙ sym tested ∙ e) (λ q. t.before j q) (eq-or-lt_of_le (omega arith));
  }

module _ {o : Order} {s k : ℕ} (t : Looking o s k) where
  -- the syndrome is below the divisor
  pub looking_low : s < modulus o.len
  unfolding syndrome_of
  looking_low = rw t.misread.syndrome (mod-lt (weight 1 (coordinates_to (o.len - 1) (listed o))) (omega (arith, t.first, t.last)))

  pub looking_all : o.len ≤ k → None ≡ below_only o.len (correction o.len (listed o))
  unfolding correction
  looking_all h =
      let f : correction o.len (listed o) ≡ o.len = first_is (record { within = omega arith; before = λ j l. t.before j (omega arith); passes = λ l. absurd (omega arith) }) in
      rw (f, le-ltb o.len o.len (omega arith)) refl

-- ---- the place, with lost where there is none

module _ (n p : ℕ) where
  pub place_some : {k : ℕ} → Ok k ≡ ok_or (below_only n p) Lost → (p ≡ k) × (k < n)
  place_some {k} e =
      ⊎_elim
      (λ (t : (p < n) × (ltb p n ≡ true)). let q : k ≡ p = ap (λ (a : Result ℕ Refusal). (told 0 a).value) (rw t.1 at e) in (sym q, rw q t.0))
      (λ (t : (n ≤ p) × (ltb p n ≡ false)). let q : 0 ≡ 7 = ap (λ (a : Result ℕ Refusal). (told 0 a).number) (rw t.1 at e) in absurd (omega arith))
      (lt_cases p n)

  pub place_none : {r : Refusal} → Err r ≡ ok_or (below_only n p) Lost → (r ≡ Lost) × (n ≤ p)
  place_none {r} e =
      ⊎_elim
      (λ (t : (p < n) × (ltb p n ≡ true)). absurd (not-zero r (ap (λ (a : Result ℕ Refusal). (told 0 a).number) (rw t.1 at e))))
      (λ (t : (n ≤ p) × (ltb p n ≡ false)). (refusal_by_number r Lost (ap (λ (a : Result ℕ Refusal). (told 0 a).number) (rw t.1 at e)), t.0))
      (lt_cases p n)
