-- A ring that is turned.
--
--   turned k xs    the list from its element k + 1 on, and then its first k elements: a ring that is read from another start
use Rattle.std.specs.Prelude.{ℕ, List, ◌++◌, take, drop}

unfoldable pub turned : ℕ → List ℕ → List ℕ
turned k xs = drop k xs ++ take k xs
