-- Windows compared cell by cell.
--
--   SameComparisons ls ms   of two cells of a window, the one that is lower by the levels ls is lower by the levels ms too
use Rattle.std.specs.Prelude.{ℕ, ◌<◌, List, length, get_or}

abbrev pub SameComparisons : List ℕ → List ℕ → Type 0
SameComparisons ls ms = (i j : ℕ) → i < length ls → j < length ls → get_or ls i 0 < get_or ls j 0 → get_or ms i 0 < get_or ms j 0
