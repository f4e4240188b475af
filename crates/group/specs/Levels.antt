-- Lists of levels, caps or used pulses, read and changed by cell number.
--
--   level ls c       the level, the cap or the used pulses of cell c
--   put ls c v       the list with that of cell c set to v
--   AtMost xs ys     no number of the first list is above its partner in the second; the lists are equally long. For the laws, and for demand 3
--   at_most xs ys     the test of it
--   sum xs           the sum of the numbers of a list
--   rises xs ys      the sum of the rises from the first levels to the second
--   tallied us xs ys   the used pulses us, with each cell's own rise from the first levels to the second added
--   leaked c d ls    the level of cell c falls by d, but not below 0
use Rattle.std.specs.Prelude.{ℕ, ◌+◌, ◌-◌, ◌≤◌, Bool, true, false, ◌&&◌, List, [], ◌∷◌, nat_le, slice_index, slice_set}

unfoldable pub level : List ℕ → ℕ → ℕ
level ls c = slice_index ls (c - 1)

unfoldable pub put : List ℕ → ℕ → ℕ → List ℕ
put ls c v = slice_set ls (c - 1) v

pub data AtMost : List ℕ → List ℕ → Type 0 where
  empty : AtMost [] []
  more : {x y : ℕ} {xs ys : List ℕ} → x ≤ y → AtMost xs ys → AtMost (x ∷ xs) (y ∷ ys)

unfoldable pub at_most : List ℕ → List ℕ → Bool
at_most [] [] = true
at_most [] (y ∷ ys) = false
at_most (x ∷ xs) [] = false
at_most (x ∷ xs) (y ∷ ys) = nat_le x y && at_most xs ys

unfoldable pub sum : List ℕ → ℕ
sum [] = 0
sum (x ∷ xs) = x + sum xs

unfoldable pub rises : List ℕ → List ℕ → ℕ
rises [] ys = 0
rises (x ∷ xs) [] = 0
rises (x ∷ xs) (y ∷ ys) = (y - x) + rises xs ys

unfoldable pub tallied : List ℕ → List ℕ → List ℕ → List ℕ
tallied [] xs ys = []
tallied (u ∷ us) [] ys = u ∷ us
tallied (u ∷ us) (x ∷ xs) [] = u ∷ us
tallied (u ∷ us) (x ∷ xs) (y ∷ ys) = (u + (y - x)) ∷ tallied us xs ys

-- a difference of numbers from 0 does not go below 0
unfoldable pub leaked : ℕ → ℕ → List ℕ → List ℕ
leaked c d ls = put ls c (level ls c - d)
