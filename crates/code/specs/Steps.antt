-- Cited by the contracts of private functions and by laws: no promise of a public function rests on these definitions.
--
--   held x            the record of a list of coordinates; later places are 0
--   is_word n x        the list is a codeword's list of coordinates, each in its range
--   Choosing n i r    coordinate i of n cells is chosen, where all from it on must leave r
--   Chosen            coordinate i is the one that the word of a number has; what is left of the number, and the residue, are those of the later coordinates
use Rattle.std.specs.Prelude.{◌≡◌, Bool, ◌&&◌, List, ◌++◌, ℕ, ◌+◌, ◌-◌, ◌≤◌, ◌<◌, eqb, length, replicate}
use Rattle.coordinates.specs.declared.Coordinates.{Coordinates}
use Rattle.coordinates.specs.Coordinates.{in_range}
use Rattle.decoder.specs.Decoding.{modulus, leaves}
use Rattle.code.specs.declared.Choice.{Choice}
use Rattle.code.specs.Tails.{owed, having, before}

abbrev pub held : List ℕ → Coordinates
held x = record { len = length x; values = x ++ replicate (11 - length x) 0 }

unfoldable pub is_word : ℕ → List ℕ → Bool
is_word n x = eqb (length x) (n - 1) && in_range (n - 1) 1 x && leaves (modulus n) 1 0 x

pub record Choosing (n i r : ℕ) : Type 0 where
  pub low : 3 ≤ n
  pub high : n ≤ 12
  pub first : 1 ≤ i
  pub last : i < n
  pub residue : r < modulus n

pub record Chosen (n i r s : ℕ) (c : Choice) : Type 0 where
  pub range : c.value ≤ i
  pub split : s ≡ before n i r c.value + c.number
  pub left : c.number < having n i r c.value
  pub residue : c.residue ≡ owed (modulus n) i r c.value
