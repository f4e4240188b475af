-- The numbering as the specifications name it: numbers and words undo each other, K(n) and each count of the table are numbers of choices, and there
-- is a codeword.
-- Assumes nothing.
use mathlib.Core.Path.{◌≡◌, refl, sym, ◌∙◌, subst}
use mathlib.Core.Bool.{true, ◌&&◌}
use mathlib.Core.List.{List, []}
use Prim.Native.Nat.{ℕ, zero, suc, ◌+◌, ◌-◌, ◌*◌, ◌≤◌, ◌<◌}
use native.Mathlib.Nat.{zero-mod}
use native.Mathlib.Omega.{arith}
use lib.Dec.{T, eqb}
use lib.ListN.{length, get_or, replicate, length-replicate}
use borrow.Author.Tests.{eqb-true, eq-eqb, le-leb}
use Rattle.order.proofs.Cells.{both}
use Rattle.coordinates.specs.Coordinates.{weight, limit, in_range}
use Rattle.decoder.specs.Decoding.{modulus, leaves}
use Rattle.code.specs.Words.{select, vectors_from, vectors, words, K, word_at, word_number}
use Rattle.code.specs.Tails.{tails, Entry, Block}
use Rattle.code.specs.Steps.{is_word}
use Rattle.code.proofs.Tests.{is_true}
use Rattle.code.proofs.Lists.{get_d_index}
use Rattle.code.proofs.Numbering.{words_from, count, found, number_word, word_right}

-- what it takes to be a word
pub record Word (n : ℕ) (x : List ℕ) : Type 0 where
  pub size : length x ≡ n - 1
  pub range : in_range (n - 1) 1 x ≡ true
  pub sum : T (leaves (modulus n) 1 0 x)

pub word_of_lem : (n : ℕ) (x : List ℕ) → is_word n x ≡ true → Word n x
unfolding is_word
word_of_lem n x w =
    let sized = eqb (length x) (n - 1) in
    let a = both (sized && in_range (n - 1) 1 x) (leaves (modulus n) 1 0 x) w in
    let b = both sized (in_range (n - 1) 1 x) a.0 in
    record { size = eqb-true (length x) (n - 1) b.0; range = b.1; sum = subst T (sym a.1) tt }

pub of_word : (n : ℕ) (x : List ℕ) → Word n x → is_word n x ≡ true
unfolding is_word
of_word n x w = rw (eq-eqb (length x) (n - 1) w.size, w.range, is_true (leaves (modulus n) 1 0 x) w.sum)

-- a count of the table is the number of choices of the coordinates from i on that leave r
pub entry_counts :
    {n : ℕ} {counts : List ℕ} → Block n counts → (i r : ℕ) → Entry n i r
    → get_or counts ((i - 1) * modulus n + r) 0 ≡ length (select (leaves (modulus n) i r) (vectors_from (n - i) i))
unfolding tails words_from
entry_counts {n} b i r e = b.at i r e ∙ sym (count (modulus n) (omega arith) (n - i) i r e.residue)

zeros_in_range : (m i k : ℕ) → in_range m i (replicate k 0) ≡ true
unfolding in_range
zeros_in_range m i zero = refl
zeros_in_range m i (suc k) = rw (le-leb 0 (limit m i) (omega arith)) (zeros_in_range m (suc i) k)

weight_zeros : (i k : ℕ) → weight i (replicate k 0) ≡ 0
unfolding weight
weight_zeros i zero = refl
weight_zeros i (suc k) = omega (arith, weight_zeros (suc i) k)

module _ (n : ℕ) (pos : 0 < n) where
  -- K(n) is the count at start 1 and residue 0
  pub K-entry : tails n 1 0 ≡ K n
  unfolding K tails words words_from vectors
  K-entry = sym (count (modulus n) (omega arith) (n - 1) 1 0 (omega arith))

  -- and so it is the first count of a block
  pub first_count : {counts : List ℕ} → 3 ≤ n → n ≤ 12 → Block n counts → get_or counts 0 0 ≡ K n
  first_count l h b =
      let start : (1 - 1) * modulus n + 0 ≡ 0 = omega arith in
      rw start at (b.at 1 0 (record { low = l; high = h; first = omega arith; last = omega arith; residue = omega arith })) ∙ K-entry

  pub number_of_word : (s : ℕ) → s < K n → word_number n (word_at n s) ≡ s
  unfolding word_number word_at tails words words_from vectors
  number_of_word s h = number_word (modulus n) (omega arith) (n - 1) 1 0 s (omega arith) (rw (← K-entry) at h)

  pub word_is_word : (s : ℕ) → s < K n → is_word n (word_at n s) ≡ true
  unfolding word_at tails words words_from vectors
  word_is_word s h =
      let (size, range, sum) = word_right (modulus n) (omega arith) (n - 1) (n - 1) 1 0 s (omega arith) (omega arith) (rw (← K-entry) at h) in
      of_word n (word_at n s) (record { size = size; range = range; sum = sum })

  pub number_below : (x : List ℕ) → is_word n x ≡ true → word_number n x < K n
  unfolding word_number tails words words_from vectors
  number_below x w =
      let t = word_of_lem n x w in
      rw (← K-entry, ← t.size) (found (modulus n) (omega arith) (n - 1) x 1 0 (omega arith) t.range t.sum)

  pub word_of_number : (x : List ℕ) → is_word n x ≡ true → word_at n (word_number n x) ≡ x
  unfolding word_number word_at K
  word_of_number x w = get_d_index x (words n) [] (number_below x w)

  -- there is a codeword: its coordinates are all 0
  pub some_symbol : 0 < K n
  unfolding leaves
  some_symbol =
      let x : List ℕ = replicate (n - 1) 0 in
      let w : Word n x = record { size = length-replicate (n - 1) 0; range = zeros_in_range (n - 1) 1 (n - 1); sum = rw (weight_zeros 1 (n - 1), zero-mod (modulus n)) tt } in
      omega (arith, number_below x (of_word n x w))
