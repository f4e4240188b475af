-- Document 01, "Cells, ranks, levels": orders as lists of cell numbers, from highest level to lowest.
--
--   tally b            1 where a test holds, else 0
--   count_if test xs    how many elements of the list pass the test
--   count c xs         how often c stands in the list
--   below c xs         how many of the listed cells are below c in number
--   each_once n xs      each of the cells 1 to n stands once
--   is_order n xs       an order of the cells 1 to n: its length is n, and no cell is missing or doubled. The same of ranks
--   all_zero xs         each element is 0
--   is_listing n len xs in an array xs, used up to the length len: len is n, the used part is an order of 1 to n, the rest is 0
--   tabulate n f       f 0, f 1, .., f (n - 1)
--   place_from p xs c   the place of c in a list whose first place is p, and 0 where it is not there
--   place_of xs c       the place of c in the list, from 1, and 0 where it is not there: in an order the rank of cell c,
--                      in a list of ranks by cell the cell of rank c
--   is_cell n c         c is one of the cells 1 to n
use Rattle.std.specs.Prelude.{ℕ, zero, suc, ◌+◌, Bool, true, false, ◌&&◌, cond, List, [], ◌∷◌, length, take, drop, eqb, leb, ltb}

abbrev pub tally : Bool → ℕ
tally true = 1
tally false = 0

abbrev pub count_if : (ℕ → Bool) → List ℕ → ℕ
count_if test [] = 0
count_if test (x ∷ xs) = tally (test x) + count_if test xs

abbrev pub count : ℕ → List ℕ → ℕ
count c xs = count_if (eqb c) xs

abbrev pub below : ℕ → List ℕ → ℕ
below c xs = count_if (λ x. ltb x c) xs

unfoldable pub each_once : ℕ → List ℕ → Bool
each_once zero xs = true
each_once (suc n) xs = eqb (count (suc n) xs) 1 && each_once n xs

unfoldable pub is_order : ℕ → List ℕ → Bool
is_order n xs = eqb (length xs) n && each_once n xs

unfoldable pub all_zero : List ℕ → Bool
all_zero [] = true
all_zero (x ∷ xs) = eqb x 0 && all_zero xs

unfoldable pub is_listing : ℕ → ℕ → List ℕ → Bool
is_listing n len xs = eqb len n && (is_order n (take len xs) && all_zero (drop len xs))

abbrev pub tabulate : {A : Type 0} → ℕ → (ℕ → A) → List A
tabulate zero f = []
tabulate (suc n) f = f 0 ∷ tabulate n (λ k. f (suc k))

unfoldable pub place_from : ℕ → List ℕ → ℕ → ℕ
place_from p [] c = 0
place_from p (x ∷ xs) c = cond (eqb c x) p (place_from (suc p) xs c)

unfoldable pub place_of : List ℕ → ℕ → ℕ
place_of xs c = place_from 1 xs c

abbrev pub is_cell : ℕ → ℕ → Bool
is_cell n c = leb 1 c && leb c n
