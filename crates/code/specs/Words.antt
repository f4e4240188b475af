-- Document 01, "The one-error code" (SD 003, construction 8, code C1): the codewords as lists of coordinates, and their numbering.
-- Nothing here speaks of the table of counts.
--
--   joined f j          the lists f 0, f 1, .., f (j - 1), one after the other
--   select test xs      the elements that pass the test, in their order
--   same x y            the two lists of numbers are equal
--   index_of x ys        the place, from 0, at which a list first stands among others; their number where it does not
--   vectors_from k i     all choices of k coordinates, the first of them coordinate i, in dictionary order: coordinate i runs from 0 to i
--   vectors n           the coordinates 1 to n - 1 of n cells, in dictionary order, coordinate 1 first
--   words n             the codewords: the weighted sum is divisible by 2n - 1
--   K n                 the number of codewords
--   word_at n s          the codeword of number s: codewords are numbered from 0 by their place
--   word_number n x      the number of a codeword; K n of a list that is none
--   symbol_of n u        the number of a codeword that is given as an order; K n of an order that is none
--   Earlier x y         x stands before y in a dictionary: it has less at the first place where they differ. For the law of the numbering
use Rattle.std.specs.Prelude.{Bool, true, false, cond, ◌&&◌, List, [], ◌∷◌, ◌++◌, map, ℕ, zero, suc, ◌-◌, ◌<◌, eqb, length, get_or}
use Rattle.coordinates.specs.Coordinates.{coordinates_to}
use Rattle.decoder.specs.Decoding.{modulus, leaves}

module _ {ℓ} {A : Type ℓ} where
  unfoldable pub joined : (ℕ → List A) → ℕ → List A
  joined f zero = []
  joined f (suc j) = joined f j ++ f j

  unfoldable pub select : (A → Bool) → List A → List A
  select test [] = []
  select test (x ∷ xs) = cond (test x) (x ∷ select test xs) (select test xs)

unfoldable pub same : List ℕ → List ℕ → Bool
same [] [] = true
same [] (b ∷ y) = false
same (a ∷ x) [] = false
same (a ∷ x) (b ∷ y) = eqb a b && same x y

unfoldable pub index_of : List ℕ → List (List ℕ) → ℕ
index_of x [] = 0
index_of x (y ∷ ys) = cond (same x y) 0 (suc (index_of x ys))

unfoldable pub vectors_from : ℕ → ℕ → List (List ℕ)
vectors_from zero i = [] ∷ []
vectors_from (suc k) i = joined (λ v. map (λ x. v ∷ x) (vectors_from k (suc i))) (suc i)

unfoldable pub vectors : ℕ → List (List ℕ)
vectors n = vectors_from (n - 1) 1

unfoldable pub words : ℕ → List (List ℕ)
words n = select (leaves (modulus n) 1 0) (vectors n)

unfoldable pub K : ℕ → ℕ
K n = length (words n)

unfoldable pub word_at : ℕ → ℕ → List ℕ
word_at n s = get_or (words n) s []

unfoldable pub word_number : ℕ → List ℕ → ℕ
word_number n x = index_of x (words n)

unfoldable pub symbol_of : ℕ → List ℕ → ℕ
symbol_of n u = word_number n (coordinates_to (n - 1) u)

pub data Earlier : List ℕ → List ℕ → Type 0 where
  here : {a b : ℕ} {x y : List ℕ} → a < b → Earlier (a ∷ x) (b ∷ y)
  later : {a : ℕ} {x y : List ℕ} → Earlier x y → Earlier (a ∷ x) (a ∷ y)
