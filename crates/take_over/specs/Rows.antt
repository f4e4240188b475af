-- The row that a list of values makes, whatever the type of its numbers.
--
--   row_if_given z p n xs   the values xs in the first places of twelve, and z after them, where there are n of them and each passes p; else nothing
use Rattle.std.specs.Prelude.{ℕ, ◌-◌, Bool, cond, ◌&&◌, List, ◌++◌, eqb, length, replicate, Option, Some, None}
use Rattle.std.specs.List.{list_all}

abbrev pub row_if_given : {A : Type 0} → A → (A → Bool) → ℕ → List A → Option (List A)
row_if_given z p n xs = cond (eqb (length xs) n && list_all p xs) (Some (xs ++ replicate (12 - length xs) z)) None
