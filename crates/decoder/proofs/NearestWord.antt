-- What `nearest` answers, case by case, and what it says of the codeword found.
-- Assumes nothing.
use Prim.Native.Nat.{ℕ, ◌%◌, ◌≤◌, ◌<◌}
use native.Mathlib.Nat.{eq-zero-or-pos}
use native.Mathlib.Omega.{arith}
use mathlib.Core.Path.{◌≡◌, sym, ap, ◌∙◌}
use mathlib.Core.Logic.{⊎_elim}
use mathlib.Core.Bool.{Bool, true}
use mathlib.Core.List.{List, [], ◌∷◌}
use lib.Dec.{ltb}
use lib.ListN.{length}
use borrow.Author.Tests.{lt-ltb, le-ltb, ltb-true, eq-eqb, eqb-true}
use Rattle.std.specs.Prelude.{Ok, Err}
use Rattle.std.specs.Option.{ok_or}
use Rattle.order.specs.declared.Order.{Order}
use Rattle.order.specs.declared.Refusal.{Refusal}
use Rattle.order.specs.declared.Refusal.TheVariants.{Lost}
use Rattle.order.specs.Refusals.{refusal_number, number_of, Told, answer}
use Rattle.order.specs.Order.{listed, order_checks}
use Rattle.order.proofs.Refusals.{later_decide, refused_first, all_held, check_holds, check_fails, check_held, all_hold, told_done, told_refused}
use Rattle.order.proofs.Records.{passed, passed_listed, record_back}
use Rattle.coordinates.specs.declared.Coordinates.{Coordinates}
use Rattle.coordinates.specs.Conversion.{coordinates_of}
use Rattle.coordinates.specs.declared.Sweep.{Sweep}
use Rattle.coordinates.specs.Sweep.{told_sweep, sweep_of_order}
use Rattle.decoder.specs.declared.Found.{Found}
use Rattle.decoder.specs.Decoding.{modulus, is_codeword, correction}
use Rattle.decoder.specs.Nearest.{decode_checks, exchanged_order, nothing_found, found_at, told_nearest, nearest_of}
use Rattle.decoder.specs.Steps.{syndrome_of, Misread, Exchangeable, below_only}
use Rattle.decoder.proofs.ZeroSyndrome.{code_syndrome, sweep_passed, same_syndrome}
use Rattle.decoder.proofs.Looking.{place_some}
use Rattle.decoder.proofs.Decoding.{corrected, reads_clean}
use Rattle.decoder.proofs.Stores.{same_length, same_list_lem}

-- ---- the checks, and lost

module _ (o : Order) where
  abbrev n : ℕ
  n = o.len

  abbrev u : List ℕ
  u = listed o

  abbrev lost : List (Bool × Refusal)
  lost = (ltb (correction n u) n, Lost) ∷ []

  pub nearest_refused : (r : Refusal) → number_of (order_checks o) ≡ refusal_number r → record { number = refusal_number r; value = nothing_found } ≡ nearest_of o
  unfolding nearest_of
  nearest_refused r e = told_refused _ _ _ r (refused_first lost (order_checks o) r e)

  module _ (d : number_of (order_checks o) ≡ 0) where
    pub lost_number : n ≤ correction n u → number_of (decode_checks o) ≡ refusal_number Lost
    lost_number l = later_decide lost (order_checks o) d ∙ check_fails _ _ (le-ltb _ _ l)

    pub found_number : correction n u < n → number_of (decode_checks o) ≡ 0
    found_number l = later_decide lost (order_checks o) d ∙ check_holds _ _ (lt-ltb _ _ l) ∙ all_hold

    pub nearest_lost : n ≤ correction n u → record { number = refusal_number Lost; value = nothing_found } ≡ nearest_of o
    unfolding nearest_of
    nearest_lost l = told_refused _ _ _ Lost (lost_number l)

    nearest_found : (k : ℕ) → correction n u ≡ k → k < n → record { number = 0; value = found_at o k } ≡ nearest_of o
    unfolding nearest_of
    nearest_found k e l = let h : correction n u < n = omega arith in rw (← e) (told_done _ _ _ (found_number h))

    pub nearest_clean : length o.cells ≡ 12 → correction n u ≡ 0 → {k : ℕ} → k ≡ 0 → {x : Coordinates} → x ≡ coordinates_of o
        → record { number = 0; value = record { word = o; place = k; coordinates = x } } ≡ nearest_of o
    unfolding found_at exchanged_order
    nearest_clean w e none same = rw (none, same) (rw (record_back o d w) at (nearest_found 0 e (omega (arith, (passed o d).0))))

    pub nearest_put_right : (k : ℕ) → correction n u ≡ k → k < n → (w : Order) → w ≡ exchanged_order o k → (x : Coordinates) → x ≡ coordinates_of (exchanged_order o k)
        → record { number = 0; value = record { word = w; place = k; coordinates = x } } ≡ nearest_of o
    unfolding found_at
    nearest_put_right k e l w found x same = rw (found, same) (nearest_found k e l)

-- ---- the syndrome

module _ (o : Order) (d : number_of (order_checks o) ≡ 0) where
  -- where it is 0 the order reads as itself
  pub read_clean : syndrome_of o.len (listed o) ≡ 0 → correction o.len (listed o) ≡ 0
  read_clean z =
      let c : is_codeword o.len (listed o) ≡ true = code_syndrome o.len (listed o) ∙ eq-eqb (syndrome_of o.len (listed o)) 0 z in
      (reads_clean o.len (listed o) (passed_listed o d) (omega (arith, (passed o d).0))).1 c

-- where it is not, and the order is not lost, it reads as another
pub read_place : {o : Order} {s k : ℕ} → Misread o s → k ≡ correction o.len (listed o) → k < o.len → Exchangeable o k
read_place {o} {s} {k} m e l =
    record { passed = m.passed; first = ⊎_elim (λ z. absurd (wrong (sym e ∙ z))) (λ p. p) (eq-zero-or-pos k); last = l }
  where
    wrong : correction o.len (listed o) ≡ 0 → ⊥
    wrong z =
        let c = (reads_clean o.len (listed o) (passed_listed o m.passed) (omega (arith, (passed o m.passed).0))).0 z in
        omega (arith, m.syndrome, m.wrong, eqb-true (syndrome_of o.len (listed o)) 0 (sym (code_syndrome o.len (listed o)) ∙ c))

-- ---- what `nearest` knows of a sweep of all places, and of the syndrome z that it gives

module _ (o : Order) (s : Sweep) (e : told_sweep (Ok s) ≡ sweep_of_order o o.len) {z : ℕ} (y : z ≡ s.sum % modulus o.len) where
  is_syndrome : z ≡ syndrome_of o.len (listed o)
  is_syndrome = y ∙ same_syndrome o o.len s e (omega arith)

  pub swept_clean : z ≡ 0 → correction o.len (listed o) ≡ 0
  swept_clean h = read_clean o (sweep_passed o o.len s e) (omega (arith, is_syndrome))

  pub swept_misread : 0 < z → Misread o z
  swept_misread h = record { passed = sweep_passed o o.len s e; syndrome = is_syndrome; wrong = h }

  pub swept_place : 0 < z → {k : ℕ} → Ok k ≡ ok_or (below_only o.len (correction o.len (listed o))) Lost → Exchangeable o k
  swept_place h f = let (c, l) = place_some _ _ f in read_place (swept_misread h) (sym c) l

-- ---- an order that is decoded

-- the codeword that the order reads as, in its record
abbrev pub word_near : Order → Order
word_near o = exchanged_order o (correction o.len (listed o))

module _ (o : Order) (d : number_of (decode_checks o) ≡ 0) where
  pub decoded_order : number_of (order_checks o) ≡ 0
  decoded_order = (all_held _ (order_checks o) d).0

  place_found : correction o.len (listed o) < o.len
  place_found = ltb-true _ _ (check_held _ Lost [] (all_held _ (order_checks o) d).1).0

  pub near_codeword : is_codeword (word_near o).len (listed (word_near o)) ≡ true
  near_codeword =
      let k = correction o.len (listed o) in
      rw (same_list_lem o decoded_order k, same_length o decoded_order k) (corrected o.len (listed o) (passed_listed o decoded_order) place_found)

-- ---- the answer, taken apart

module _ (o : Order) (a : Found) (e : told_nearest (Ok a) ≡ nearest_of o) where
  pub nearest_passed : number_of (decode_checks o) ≡ 0
  unfolding nearest_of answer
  nearest_passed = sym (ap (λ (t : Told Found). t.number) e)

  found : a ≡ found_at o (correction o.len (listed o))
  unfolding nearest_of
  found = ap (λ (t : Told Found). t.value) (e ∙ sym (told_done _ _ _ nearest_passed))

  pub nearest_word : a.word ≡ word_near o
  unfolding found_at
  nearest_word = ap (λ (f : Found). f.word) found

  pub nearest_place : a.place ≡ correction o.len (listed o)
  unfolding found_at
  nearest_place = ap (λ (f : Found). f.place) found

  pub nearest_coordinates : a.coordinates ≡ coordinates_of (word_near o)
  unfolding found_at
  nearest_coordinates = ap (λ (f : Found). f.coordinates) found

pub nearest_not : (o : Order) (r : Refusal) → told_nearest (Err r) ≡ nearest_of o → number_of (decode_checks o) ≡ refusal_number r
unfolding nearest_of answer
nearest_not o r e = sym (ap (λ (t : Told Found). t.number) e)
