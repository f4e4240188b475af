-- Codewords as orders: the word of a number is the coordinates of an order, that order is a codeword, and a codeword's coordinates are a word.
-- Assumes nothing.
use Prim.Native.Nat.{ℕ, zero, suc, ◌+◌, ◌-◌, ◌≤◌, ◌<◌}
use native.Mathlib.Omega.{arith}
use mathlib.Core.Path.{◌≡◌, refl, sym, ap, ◌∙◌, subst}
use mathlib.Core.Bool.{true}
use mathlib.Core.Logic.{⊎_elim}
use mathlib.Core.List.{List, [], ◌∷◌, ◌++◌}
use lib.Dec.{T, ltb}
use lib.ListN.{length, get_or, replicate, get_or-eq_default}
use lib.Seq.{ext_get_or}
use borrow.Author.Tests.{lt-ltb}
use Rattle.order.specs.Cells.{is_order}
use Rattle.order.specs.Refusals as refusals
use Rattle.order.specs.Order.{order_record}
use Rattle.order.proofs.Cells.{lt_cases}
use Rattle.order.proofs.Tabulate.{length_tabulate, get_d_tabulate}
use Rattle.order.proofs.Refusals.{told_done, sized_holds}
use Rattle.coordinates.specs.Coordinates.{coordinate_of, coordinates_to, order_from, in_range}
use Rattle.coordinates.specs.Conversion.{coordinate_at, order_by_coordinates, coordinate_checks, order_of_coordinates}
use Rattle.coordinates.proofs.Range.{limit_low, range_at, all_in_range}
use Rattle.coordinates.proofs.RoundTrip.{order_ext, coordinate_back, coordinates_low, coordinates_in_range, order_of_coordinates_lem, order_of_any}
use Rattle.decoder.specs.Decoding.{modulus, leaves, is_codeword}
use Rattle.code.specs.Words.{K, word_at, word_number}
use Rattle.code.specs.Symbols.{word_of, codeword_of}
use Rattle.code.specs.Steps.{held, is_word}
use Rattle.code.proofs.Tests.{is_true}
use Rattle.code.proofs.Laws.{word_of_lem, of_word, word_is_word, number_of_word, word_of_number}

-- ---- a list of coordinates in its record

-- the places past the last are 0
held_at : (x : List ℕ) (k j : ℕ) → get_or (x ++ replicate j 0) k 0 ≡ get_or x k 0
held_at [] k zero = refl
held_at [] zero (suc j) = refl
held_at [] (suc k) (suc j) = held_at [] k j
held_at (v ∷ x) zero j = refl
held_at (v ∷ x) (suc k) j = held_at x k j

module _ (x : List ℕ) (t : in_range (length x) 1 x ≡ true) where
  held_in_range : in_range (length x) 1 (held x).values ≡ true
  held_in_range =
      all_in_range (length x) 1 (held x).values
      (λ k l. rw (held_at x k (11 - length x))
      (⊎_elim
      (λ c. range_at (length x) 1 k x t c.0)
      (λ c. omega (arith, get_or-eq_default x 0 {n = k} c.0))
      (lt_cases k (length x))))

  -- the record of a word passes the checks of coordinates
  held_passes : 3 ≤ length x + 1 → length x + 1 ≤ 12 → refusals.number_of (coordinate_checks (held x)) ≡ 0
  held_passes low high = sized_holds (length x + 1) _ _ low high held_in_range

-- and its order is that of the word
held_order : (x : List ℕ) → order_by_coordinates (held x) ≡ order_record (order_from (coordinate_at x) (length x + 1))
unfolding order_by_coordinates
held_order x = ap order_record (order_ext (length x + 1) _ _ same)
  where
    same : (i : ℕ) → i < length x + 1 → coordinate_at (held x).values i ≡ coordinate_at x i
    same zero l = refl
    same (suc k) l = held_at x k (11 - length x)

-- ---- the order of a word

module _ (n : ℕ) (pos : 0 < n) (x : List ℕ) (w : is_word n x ≡ true) where
  abbrev u : List ℕ
  u = order_from (coordinate_at x) n

  low : (i : ℕ) → i < n → coordinate_at x i ≤ i
  low zero l = omega arith
  low (suc k) l = let t = word_of_lem n x w in omega (arith, range_at (n - 1) 1 k x t.range (omega arith), limit_low (n - 1) (1 + k))

  -- it has the word for its coordinates
  pub word_coordinates : coordinates_to (n - 1) u ≡ x
  unfolding coordinates_to
  word_coordinates =
      let size = length_tabulate (n - 1) (λ k. coordinate_of u (suc k)) in
      ext_get_or 0 (coordinates_to (n - 1) u) x (size ∙ sym (word_of_lem n x w).size)
      (λ k l.
      get_d_tabulate (n - 1) (λ k. coordinate_of u (suc k)) k 0 (omega arith)
      ∙ coordinate_back (coordinate_at x) n low (suc k) (omega arith))

  -- and is a codeword
  pub word_codeword : is_codeword n u ≡ true
  unfolding is_codeword
  word_codeword = rw word_coordinates (is_true (leaves (modulus n) 1 0 x) (word_of_lem n x w).sum)

-- ---- the codeword of a number

module _ (n : ℕ) (pos : 0 < n) (s : ℕ) (h : s < K n) where
  pub symbol_order : is_order n (order_from (coordinate_at (word_at n s)) n) ≡ true
  symbol_order = order_of_any (coordinate_at (word_at n s)) n

  pub symbol_coordinates : coordinates_to (n - 1) (order_from (coordinate_at (word_at n s)) n) ≡ word_at n s
  symbol_coordinates = word_coordinates n pos (word_at n s) (word_is_word n pos s h)

  pub symbol_codeword : is_codeword n (order_from (coordinate_at (word_at n s)) n) ≡ true
  symbol_codeword = word_codeword n pos (word_at n s) (word_is_word n pos s h)

  -- its number is that number
  pub symbol_back : word_number n (coordinates_to (n - 1) (order_from (coordinate_at (word_at n s)) n)) ≡ s
  symbol_back = rw symbol_coordinates (number_of_word n pos s h)

-- ---- the coordinates of an order

module _ (n : ℕ) (pos : 0 < n) (u : List ℕ) (o : is_order n u ≡ true) where
  -- those of a codeword are a word
  pub codeword_word : is_codeword n u ≡ true → is_word n (coordinates_to (n - 1) u) ≡ true
  unfolding is_codeword coordinates_to
  codeword_word c =
      of_word n (coordinates_to (n - 1) u) (record {
        size = length_tabulate (n - 1) (λ k. coordinate_of u (suc k));
        range = coordinates_in_range n u o (n - 1);
        sum = subst T (sym c) tt;
      })

  coordinate_held : (i : ℕ) → i < n → coordinate_at (coordinates_to (n - 1) u) i ≡ coordinate_of u i
  unfolding coordinates_to
  coordinate_held zero l = omega (arith, coordinates_low n u o 0 (omega arith))
  coordinate_held (suc k) l = get_d_tabulate (n - 1) (λ k. coordinate_of u (suc k)) k 0 (omega arith)

  -- a codeword is the codeword of its number
  pub number_of_codeword : is_codeword n u ≡ true → order_from (coordinate_at (word_at n (word_number n (coordinates_to (n - 1) u)))) n ≡ u
  number_of_codeword c =
      rw (word_of_number n pos (coordinates_to (n - 1) u) (codeword_word c))
      (order_ext n _ _ coordinate_held ∙ order_of_coordinates_lem n u o)

-- ---- the order of the record of a number's word

pub codeword_answer : (n s : ℕ) → 3 ≤ n → n ≤ 12 → s < K n → order_of_coordinates (held (word_at n s)) ≡ codeword_of n s
unfolding order_of_coordinates codeword_of word_of
codeword_answer n s low high h =
    let t = word_of_lem n (word_at n s) (word_is_word n (omega arith) s h) in
    let cells : length (word_at n s) + 1 ≡ n = omega arith in
    let same = rw cells at (held_order (word_at n s)) in
    sym (told_done _ _ _ (held_passes (word_at n s) (rw t.size t.range) (omega arith) (omega arith)))
    ∙ rw same (told_done _ _ _ (sized_holds n (ltb s (K n)) _ low high (lt-ltb s (K n) h)))
