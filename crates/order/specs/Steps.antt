-- What a private contract says of a record's twelve numbers. No public contract rests on this.
--
--   is_padded n xs      the first n numbers are at most 15, and those past them are 0
use Rattle.std.specs.Prelude.{ℕ, zero, suc, Bool, true, ◌&&◌, List, [], ◌∷◌, leb}
use Rattle.order.specs.Cells.{all_zero}

unfoldable pub is_padded : ℕ → List ℕ → Bool
is_padded zero xs = all_zero xs
is_padded (suc n) [] = true
is_padded (suc n) (x ∷ xs) = leb x 15 && is_padded n xs
