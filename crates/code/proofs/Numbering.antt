-- The numbering of the words: their count, the word of a number and the number of a word, each by the first coordinate.
-- Assumes nothing.
use mathlib.Core.Path.{◌≡◌, refl, sym, ap, ◌∙◌, subst, fun_ext}
use mathlib.Core.Bool.{Bool, true}
use mathlib.Core.List.{List, [], ◌∷◌, map}
use Prim.Native.Nat.{ℕ, zero, suc, ◌+◌, ◌*◌, ◌%◌, ◌≤◌, ◌<◌}
use native.Mathlib.Nat.{mod-lt, zero-mod, not-suc-le-zero, le_refl}
use native.Mathlib.Omega.{arith}
use lib.Dec.{T, leb, eqb→eq}
use lib.ListN.{length, get_or, length-map}
use borrow.Author.Tests.{ne_eqb, leb-true, le-leb}
use Rattle.order.proofs.Cells.{both}
use Rattle.coordinates.specs.Coordinates.{weight, limit, in_range}
use Rattle.coordinates.proofs.Range.{limit_low}
use Rattle.decoder.specs.Decoding.{leaves}
use Rattle.code.specs.Words.{joined, select, vectors_from, same, index_of}
use Rattle.code.specs.Tails.{sum_below, owed, nothing, tails_from}
use Rattle.code.proofs.Residue.{shift}
use Rattle.code.proofs.Lists.{after, select_joined, select_map, length_joined, getD_joined, get_d_map, index_joined, within_sum, sum_term}

-- the choices of k coordinates from coordinate i on whose weighted sum leaves r
unfoldable pub words_from : ℕ → ℕ → ℕ → ℕ → List (List ℕ)
words_from m k i r = select (leaves m i r) (vectors_from k i)

-- how many of the choices of k + 1 coordinates from coordinate i on that leave r have coordinate i below v
unfoldable pub below : ℕ → ℕ → ℕ → ℕ → ℕ → ℕ
below m k i r v = sum_below (λ u. tails_from m k (suc i) (owed m i r u)) v

module _ (m : ℕ) (pos : 0 < m) where
  pub owed_lt : (i r v : ℕ) → owed m i r v < m
  unfolding owed
  owed_lt i r v = mod-lt _ pos

  -- the words that begin with coordinate i = u
  abbrev part : ℕ → ℕ → ℕ → ℕ → List (List ℕ)
  part k i r u = map (after u) (words_from m k (suc i) (owed m i r u))

  words_suc : (k i r : ℕ) → r < m → words_from m (suc k) i r ≡ joined (part k i r) (suc i)
  unfolding words_from vectors_from leaves weight owed
  words_suc k i r h =
      select_joined (leaves m i r) _ (suc i)
      ∙ ap (λ (f : ℕ → List (List ℕ)). joined f (suc i))
      (fun_ext λ v.
      select_map (leaves m i r) (after v) (vectors_from k (suc i))
      ∙ ap (λ (p : List ℕ → Bool). map (after v) (select p (vectors_from k (suc i)))) (fun_ext λ x. shift m (i * v) (weight (suc i) x) r h))

  -- no coordinate is left: one word where r is 0, else none
  last_word : (i : ℕ) → words_from m zero i 0 ≡ [] ∷ []
  unfolding words_from vectors_from select leaves weight
  last_word i = rw zero-mod

  no_word : (i r : ℕ) → words_from m zero i (suc r) ≡ []
  unfolding words_from vectors_from select leaves weight
  no_word i r = rw (zero-mod, ne_eqb 0 (suc r) (λ e. omega arith))

  pub number_zero : (i r : ℕ) → index_of [] (words_from m zero i r) ≡ 0
  unfolding index_of same
  number_zero i zero = rw last_word
  number_zero i (suc r) = rw no_word

  abbrev Counted : ℕ → Type 0
  Counted k = (i r : ℕ) → r < m → length (words_from m k i r) ≡ tails_from m k i r

  length_parts : (k : ℕ) → Counted k → (i r v : ℕ) → length (joined (part k i r) v) ≡ below m k i r v
  unfolding below
  length_parts k counted i r v =
      length_joined (part k i r) v
      ∙ ap (λ (c : ℕ → ℕ). sum_below c v)
      (fun_ext λ u. length-map (words_from m k (suc i) (owed m i r u)) (after u) ∙ counted (suc i) (owed m i r u) (owed_lt i r u))

  -- the words that leave r are as many as the recurrence says
  pub count : (k : ℕ) → Counted k
  unfolding tails_from nothing below
  count zero i zero h = ap length (last_word i)
  count zero i (suc r) h = ap length (no_word i r)
  count (suc k) i r h = ap length (words_suc k i r h) ∙ length_parts k (count k) i r (suc i)

  module _ (k i r v : ℕ) (h : r < m) (hv : v ≤ i) where
    -- the words from which coordinate i = v goes on
    abbrev next : List (List ℕ)
    next = words_from m k (suc i) (owed m i r v)

    -- the word of a number
    pub word_suc : (s : ℕ) → s < tails_from m k (suc i) (owed m i r v) → get_or (words_from m (suc k) i r) (below m k i r v + s) [] ≡ v ∷ get_or next s []
    word_suc s hs =
        let hs' : s < length next = rw (count k (suc i) (owed m i r v) (owed_lt i r v)) hs in
        rw (words_suc k i r h, ← length_parts k (count k) i r v)
        (getD_joined (part k i r) (suc i) v s [] (omega arith) (rw length-map hs') ∙ get_d_map (after v) next s [] [] hs')

    -- the number of a word
    pub number_suc : (x : List ℕ) → index_of x next < tails_from m k (suc i) (owed m i r v) → index_of (v ∷ x) (words_from m (suc k) i r) ≡ below m k i r v + index_of x next
    number_suc x hx =
        rw (words_suc k i r h, ← length_parts k (count k) i r v)
        (index_joined (λ u. words_from m k (suc i) (owed m i r u)) v x (suc i) (omega arith) (rw (count k (suc i) (owed m i r v) (owed_lt i r v)) hx))

    -- it is one of those that leave r
    pub below_next : below m k i r v + tails_from m k (suc i) (owed m i r v) ≤ tails_from m (suc k) i r
    unfolding below tails_from
    below_next = sum_term (λ u. tails_from m k (suc i) (owed m i r u)) (suc i) v (omega arith)

  -- a number below the count goes to one first coordinate, and to a number below the count of what follows
  pub pick : (k i r s : ℕ) → s < tails_from m (suc k) i r → (v : ℕ) × (v < suc i) × (t : ℕ) × (t < tails_from m k (suc i) (owed m i r v)) × (s ≡ below m k i r v + t)
  unfolding below tails_from
  pick k i r s h = within_sum (λ u. tails_from m k (suc i) (owed m i r u)) (suc i) s h

  nothing_lt : (r s : ℕ) → s < nothing r → (r ≡ 0) × (s ≡ 0)
  unfolding nothing
  nothing_lt zero s h = (refl, omega arith)
  nothing_lt (suc r) s h = absurd (not-suc-le-zero h)

  -- of a word, the coordinates after the first are a word that leaves what is owed
  pub tail_word :
      (top i r v : ℕ) (x : List ℕ) → r < m → in_range top i (v ∷ x) ≡ true → T (leaves m i r (v ∷ x))
      → (v ≤ i) × (in_range top (suc i) x ≡ true) × T (leaves m (suc i) (owed m i r v) x)
  unfolding in_range leaves weight owed
  tail_word top i r v x h range sum =
      let (first, later) = both (leb v (limit top i)) (in_range top (suc i) x) range in
      (omega (arith, leb-true v (limit top i) first, limit_low top i), later, subst T (shift m (i * v) (weight (suc i) x) r h) sum)

  -- a word is found among the words
  pub found : (top : ℕ) (x : List ℕ) (i r : ℕ) → r < m → in_range top i x ≡ true → T (leaves m i r x) → index_of x (words_from m (length x) i r) < tails_from m (length x) i r
  unfolding leaves weight index_of same tails_from nothing
  found top [] i r h range sum = rw (sym (eqb→eq (0 % m) r sum), zero-mod, last_word) (le_refl 1)
  found top (v ∷ x) i r h range sum =
      let (hv, range', sum') = tail_word top i r v x h range sum in
      let later = found top x (suc i) (owed m i r v) (owed_lt i r v) range' sum' in
      omega (arith, number_suc (length x) i r v h hv x later, below_next (length x) i r v h hv)

  -- the number of the word of a number
  pub number_word : (k i r s : ℕ) → r < m → s < tails_from m k i r → index_of (get_or (words_from m k i r) s []) (words_from m k i r) ≡ s
  unfolding tails_from index_of same
  number_word zero i r s h hs =
      let (e, z) = nothing_lt r s hs in
      rw (e, z, last_word)
  number_word (suc k) i r s h hs =
      let (v, lv, t, lt, e) = pick k i r s hs in
      let hv : v ≤ i = omega arith in
      let ih : index_of (get_or (next k i r v h hv) t []) (next k i r v h hv) ≡ t = number_word k (suc i) (owed m i r v) t (owed_lt i r v) lt in
      rw (e, word_suc k i r v h hv t lt)
      (number_suc k i r v h hv (get_or (next k i r v h hv) t []) (rw ih lt) ∙ ap (λ (j : ℕ). below m k i r v + j) ih)

  -- what stands at a number is a word
  pub word_right : (top k i r s : ℕ) → i + k ≤ suc top → r < m → s < tails_from m k i r
      → (length (get_or (words_from m k i r) s []) ≡ k) × (in_range top i (get_or (words_from m k i r) s []) ≡ true) × T (leaves m i r (get_or (words_from m k i r) s []))
  unfolding tails_from in_range leaves weight owed
  word_right top zero i r s g h hs =
      let (e, z) = nothing_lt r s hs in
      rw (e, z, last_word, zero-mod) (refl, refl, tt)
  word_right top (suc k) i r s g h hs =
      let (v, lv, t, lt, e) = pick k i r s hs in
      let hv : v ≤ i = omega arith in
      let (len, range, sum) = word_right top k (suc i) (owed m i r v) t (omega arith) (owed_lt i r v) lt in
      rw (e, word_suc k i r v h hv t lt)
      (ap suc len, rw (le-leb i top (omega arith), le-leb v i hv) range, subst T (sym (shift m (i * v) (weight (suc i) (get_or (next k i r v h hv) t [])) r h)) sum)
