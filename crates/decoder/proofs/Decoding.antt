-- What an order reads as: the one codeword within distance 1, and nothing where there is none.
--
--   place_unique      at most one place from 0 to n - 1 makes u a codeword
--   nearby_unique     at most one codeword is within distance 1 of u
--   reads             the exchange at the correction, where it is below n, gives the codeword within distance 1, and only that one
--   reads_lost        the correction is n exactly where there is no such codeword
--   reads_clean       the correction is 0 exactly where u is a codeword
--   reads_put_right   otherwise, if not n, it is the one place at which an exchange makes u a codeword, which is at distance 1
--   reads_exchange    a codeword with its neighbours at place k exchanged reads as that codeword, put right at k
-- Assumes nothing.
use Prim.Native.Nat.{ℕ, zero, suc, ◌≤◌, ◌<◌}
use native.Mathlib.Nat.{eq-or-lt_of_le, eq-zero-or-pos}
use native.Mathlib.Omega.{arith}
use mathlib.Core.Path.{◌≡◌, refl, sym, ap, subst, ◌∙◌}
use mathlib.Core.Logic.{⊎_elim, ◌↔◌}
use mathlib.Core.Bool.{Bool, true, false, true≢false}
use mathlib.Core.List.{List, [], ◌∷◌}
use lib.ListN.{get_or}
use borrow.Author.Tests.{eqb-true}
use Rattle.order.specs.Cells.{place_of, is_order}
use Rattle.order.proofs.Places.{own_place}
use Rattle.order.proofs.Cells.{IsOrder, order_true, true_order}
use Rattle.distance.specs.Distance.{opposed, exchange}
use Rattle.distance.proofs.Counts.{order_distinct, order_same}
use Rattle.distance.proofs.Exchange.{place_of_lem, exchange_cases, exchanged_order_lem}
use Rattle.distance.proofs.Opposed.{least, within_one}
use Rattle.distance.proofs.Apart.{exchange_twice}
use Rattle.distance.proofs.Theorems.{distance_one}
use Rattle.decoder.specs.Decoding.{is_codeword, correction, Nearby}
use Rattle.decoder.specs.Steps.{syndrome_of}
use Rattle.decoder.proofs.First.{First, first_below_lem, first_is}
use Rattle.decoder.proofs.Weight.{place_cells, correcting}
use Rattle.decoder.proofs.ZeroSyndrome.{code_syndrome}

-- an exchange at place k, of 1 to n - 1, makes u a codeword, at distance 1, and at no other place from 0 to n - 1 does one
pub record OneExchange (n : ℕ) (u : List ℕ) (k : ℕ) : Type 0 where
  pub first : 1 ≤ k
  pub last : k < n
  pub code : is_codeword n (exchange k u) ≡ true
  pub near : opposed u (exchange k u) ≡ 1
  pub only : (j : ℕ) → j < n → is_codeword n (exchange j u) ≡ true → j ≡ k

-- ---- one place at most

module _ (n : ℕ) (u : List ℕ) (o : IsOrder n u) where
  -- a cell stands at one place
  one_place : (j k : ℕ) → j < n → k < n → get_or u j 0 ≡ get_or u k 0 → j ≡ k
  one_place j k g h e = omega (arith, own_place n u o j g, own_place n u o k h, ap (place_of u) e)

  -- an exchange makes no codeword of a codeword
  codeword_apart : (k : ℕ) → suc k < n → is_codeword n u ≡ true → is_codeword n (exchange (suc k) u) ≡ true → ⊥
  codeword_apart k h c d =
      let (p, q, _) = place_cells n u o k h in
      let z : syndrome_of n u ≡ 0 = eqb-true (syndrome_of n u) 0 (sym (code_syndrome n u) ∙ c) in
      ⊎_elim (λ t. omega arith) (λ t. omega arith) (correcting n u o k h d)

  -- two exchanges that make codewords are at the same place
  one_exchange : (j k : ℕ) → suc j < n → suc k < n → is_codeword n (exchange (suc j) u) ≡ true → is_codeword n (exchange (suc k) u) ≡ true → suc j ≡ suc k
  one_exchange j k g h c d =
      let (p, q, _) = place_cells n u o j g in
      let (r, s, _) = place_cells n u o k h in
      ⊎_elim
      (λ t. ⊎_elim (λ w. one_place (suc j) (suc k) g h (omega arith)) (λ w. absurd (omega arith)) (correcting n u o k h d))
      (λ t. ⊎_elim (λ w. absurd (omega arith)) (λ w. ap suc (one_place j k (omega arith) (omega arith) (omega arith))) (correcting n u o k h d))
      (correcting n u o j g c)

module _ (n : ℕ) (u : List ℕ) (t : is_order n u ≡ true) where
  o : IsOrder n u
  o = order_true n u t

  pub exchange_order : (k : ℕ) → is_order n (exchange k u) ≡ true
  exchange_order k =
      true_order n (exchange k u)
      (⊎_elim (λ (x, y, s). exchanged_order_lem s o) (λ e. subst (λ (v : List ℕ). IsOrder n v) (sym e) o) (exchange_cases k u))

  pub place_unique : (j k : ℕ) → j < n → k < n → is_codeword n (exchange j u) ≡ true → is_codeword n (exchange k u) ≡ true → j ≡ k
  place_unique zero zero g h c d = refl
  place_unique zero (suc k) g h c d = absurd (codeword_apart n u o k h c d)
  place_unique (suc j) zero g h c d = absurd (codeword_apart n u o j g d c)
  place_unique (suc j) (suc k) g h c d = one_exchange n u o j k g h c d

  -- ---- the correction

  corrects : ℕ → Bool
  corrects k = is_codeword n (exchange k u)

  first : First n corrects (correction n u)
  unfolding correction corrects
  first = first_below_lem n corrects

  pub correction_is : (k : ℕ) → k < n → is_codeword n (exchange k u) ≡ true → correction n u ≡ k
  unfolding correction corrects
  correction_is k h c = first_is (record { within = omega arith; before = λ j l. go (corrects j) refl (λ d. omega (arith, place_unique j k (omega arith) h d c)) l; passes = λ l. c })
    where
      go : {j : ℕ} (b : Bool) → corrects j ≡ b → (corrects j ≡ true → j ≡ k) → j < k → corrects j ≡ false
      go true e f l = absurd (omega (arith, f e))
      go false e f l = e

  pub corrected : correction n u < n → is_codeword n (exchange (correction n u) u) ≡ true
  unfolding corrects
  corrected = first.passes

  place_nearby : (k : ℕ) → is_codeword n (exchange k u) ≡ true → Nearby n u (exchange k u)
  place_nearby k c = record { order = exchange_order k; code = c; near = least (order_distinct o) (k ∷ []) }

  module _ (pos : 1 ≤ n) where
    -- an exchange at a place below n leads to any codeword within distance 1
    nearby_place : (c : List ℕ) → Nearby n u c → (k : ℕ) × (k < n) × (c ≡ exchange k u)
    nearby_place c p =
        ⊎_elim (λ e. (0, pos, sym e)) (λ (x, y, s). let (k, l, _, _, e) = place_of_lem s in (suc k, omega (arith, o.size), e))
        (within_one (order_same o (order_true n c p.order)) (order_distinct o) p.near)

    nearby_correction : (c : List ℕ) → Nearby n u c → (correction n u < n) × (c ≡ exchange (correction n u) u)
    nearby_correction c p =
        let (k, l, e) = nearby_place c p in
        let q = correction_is k l (ap (is_codeword n) (sym e) ∙ p.code) in
        (omega arith, rw q e)

    pub nearby_unique : (c d : List ℕ) → Nearby n u c → Nearby n u d → c ≡ d
    nearby_unique c d p q = (nearby_correction c p).1 ∙ sym (nearby_correction d q).1

    pub reads : (c : List ℕ) → ((correction n u < n) × (c ≡ exchange (correction n u) u)) ↔ Nearby n u c
    reads c = (λ (l, e). subst (Nearby n u) (sym e) (place_nearby (correction n u) (corrected l)), nearby_correction c)

    pub reads_lost : (correction n u ≡ n) ↔ ((c : List ℕ) → Nearby n u c → ⊥)
    reads_lost = (
      λ e c p. omega (arith, (nearby_correction c p).0),
      λ none. ⊎_elim (λ e. e) (λ l. absurd (none _ (place_nearby (correction n u) (corrected l)))) (eq-or-lt_of_le first.within),
    )

    pub reads_clean : (correction n u ≡ 0) ↔ (is_codeword n u ≡ true)
    reads_clean = (λ e. rw e at (corrected (omega arith)), correction_is 0 pos)

  pub reads_put_right : is_codeword n u ≡ false → correction n u < n → OneExchange n u (correction n u)
  reads_put_right c l =
      let k = correction n u in
      let d = corrected l in
      let g : 1 ≤ k = ⊎_elim (λ (e : k ≡ 0). absurd (true≢false (sym (rw e at d) ∙ c))) (λ p. p) (eq-zero-or-pos k) in
      record {
        first = g;
        last = l;
        code = d;
        near = (distance_one n u t (exchange k u) (exchange_order k)).1 (k, g, l, refl);
        only = λ j h q. place_unique j k h l q d;
      }

-- ---- one exchange in a codeword

module _ (n : ℕ) (c : List ℕ) (t : is_order n c ≡ true) (code : is_codeword n c ≡ true) (k : ℕ) (h : k < n) where
  pub reads_exchange : (correction n (exchange k c) ≡ k) × (exchange k (exchange k c) ≡ c)
  reads_exchange =
      let back = exchange_twice k c in
      (correction_is n (exchange k c) (exchange_order n c t k) k h (rw back code), back)
