-- Bytes cut at a whole record: the records of both parts are those of the whole.
-- Assumes nothing.
use mathlib.Core.Path.{◌≡◌, refl, sym, ap, ◌∙◌}
use Prim.Native.Nat.{ℕ, zero, suc, ◌+◌, ◌*◌, ◌/◌, ◌%◌, ◌≤◌, ◌<◌}
use native.Mathlib.Omega.{arith}
use native.Mathlib.Nat.{add-zero, zero-add}
use mathlib.Core.List.{List, ◌∷◌, ◌++◌}
use lib.ListN.{length, get_or, length-append, get_or-append}
use lib.Seq.{get_or-append-add}
use Rattle.order.specs.Cells.{tabulate}
use Rattle.order.proofs.Tabulate.{tabulate_ext}
use Rattle.records.specs.declared.CallRecord.{CallRecord}
use Rattle.records.specs.Records.{low_first, record_at, records}

tabulate_append : {A : Type 0} (m n : ℕ) (f : ℕ → A) → tabulate (m + n) f ≡ tabulate m f ++ tabulate n (λ (k : ℕ). f (m + k))
tabulate_append zero n f = ap (λ (j : ℕ). tabulate j f) (zero-add n) ∙ tabulate_ext n f (λ (k : ℕ). f (0 + k)) (λ k h. ap f (sym (zero-add k)))
tabulate_append (suc m) n f =
    let count : suc m + n ≡ suc (m + n) = omega arith in
    let place : (k : ℕ) → suc (m + k) ≡ suc m + k = λ k. omega arith in
    ap (λ (j : ℕ). tabulate j f) count
    ∙ ap (λ (xs : List _). f 0 ∷ xs) (tabulate_append m n (λ (k : ℕ). f (suc k)))
    ∙ ap (λ (xs : List _). f 0 ∷ (tabulate m (λ (k : ℕ). f (suc k)) ++ xs))
    (tabulate_ext n (λ (k : ℕ). f (suc (m + k))) (λ (k : ℕ). f (suc m + k)) (λ k h. ap f (place k)))

-- equal bytes have equal numbers
low_same : (k at place : ℕ) (bs cs : List ℕ) → ((j : ℕ) → j < k → get_or bs (at + j) 0 ≡ get_or cs (place + j) 0) → low_first k at bs ≡ low_first k place cs
low_same zero at place bs cs h = refl
low_same (suc k) at place bs cs h =
    let next : (m j : ℕ) → m + 1 + j ≡ m + suc j = λ m j. omega arith in
    let here : get_or bs at 0 ≡ get_or cs place 0 =
    ap (λ (m : ℕ). get_or bs m 0) (sym (add-zero at)) ∙ h 0 (omega arith) ∙ ap (λ (m : ℕ). get_or cs m 0) (add-zero place) in
    let later : low_first k (at + 1) bs ≡ low_first k (place + 1) cs =
    low_same k (at + 1) (place + 1) bs cs
    (λ j l.
    ap (λ (m : ℕ). get_or bs m 0) (next at j) ∙ h (suc j) (omega (arith, l)) ∙ ap (λ (m : ℕ). get_or cs m 0) (sym (next place j))) in
    omega (arith, here, later)

-- and are equal records
module _ (i j : ℕ) (bs cs : List ℕ) (h : (k : ℕ) → k < 8 → get_or bs (8 * i + k) 0 ≡ get_or cs (8 * j + k) 0) where
  field_same : (k at : ℕ) → at + k ≤ 8 → low_first k (8 * i + at) bs ≡ low_first k (8 * j + at) cs
  field_same k at f =
      let inside : (m n : ℕ) → 8 * m + at + n ≡ 8 * m + (at + n) = λ m n. omega arith in
      low_same k (8 * i + at) (8 * j + at) bs cs
      (λ n l.
      ap (λ (m : ℕ). get_or bs m 0) (inside i n) ∙ h (at + n) (omega (arith, l, f)) ∙ ap (λ (m : ℕ). get_or cs m 0) (sym (inside j n)))

  record_same : record_at bs i ≡ record_at cs j
  unfolding record_at
  record_same =
      let kind : get_or bs (8 * i) 0 ≡ get_or cs (8 * j) 0 =
      ap (λ (m : ℕ). get_or bs m 0) (sym (add-zero (8 * i))) ∙ h 0 (omega arith) ∙ ap (λ (m : ℕ). get_or cs m 0) (add-zero (8 * j)) in
      let cell = h 1 (omega arith) in
      let reserved = field_same 2 2 (omega arith) in
      let value = field_same 4 4 (omega arith) in
      λ m. record { kind = kind m; cell = record { 0 = cell m }; reserved = reserved m; value = value m }

pub records_append : (xs ys : List ℕ) → length xs % 8 ≡ 0 → records (xs ++ ys) ≡ records xs ++ records ys
unfolding records
records_append xs ys e =
    let m = length xs / 8 in
    let n = length ys / 8 in
    let whole : length xs ≡ 8 * m = omega (arith, e) in
    let count : length (xs ++ ys) / 8 ≡ m + n = omega (arith, e, length-append xs ys) in
    let first : tabulate m (record_at (xs ++ ys)) ≡ tabulate m (record_at xs) =
    tabulate_ext m (record_at (xs ++ ys)) (record_at xs)
    (λ i l. record_same i i (xs ++ ys) xs (λ k b. get_or-append xs ys 0 (8 * i + k) (omega (arith, l, b, whole)))) in
    let place : (i k : ℕ) → 8 * (m + i) + k ≡ length xs + (8 * i + k) = λ i k. omega (arith, whole) in
    let last : tabulate n (λ (i : ℕ). record_at (xs ++ ys) (m + i)) ≡ tabulate n (record_at ys) =
    tabulate_ext n (λ (i : ℕ). record_at (xs ++ ys) (m + i)) (record_at ys)
    (λ i l.
    record_same (m + i) i (xs ++ ys) ys (λ k b. ap (λ (j : ℕ). get_or (xs ++ ys) j 0) (place i k) ∙ get_or-append-add xs ys (8 * i + k) 0)) in
    ap (λ (k : ℕ). tabulate k (record_at (xs ++ ys))) count
    ∙ tabulate_append m n (record_at (xs ++ ys))
    ∙ ap (λ (rs : List CallRecord). rs ++ tabulate n (λ (i : ℕ). record_at (xs ++ ys) (m + i))) first
    ∙ ap (λ (rs : List CallRecord). tabulate m (record_at xs) ++ rs) last
