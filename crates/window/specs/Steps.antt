-- What private contracts say, ask and promise. No public contract rests on this.
--
--   stands_after   1 where a cell does not stand above a later cell of its window, by the rule of reading, and so stands after it; else 0
--   call_checks    the checks of width, step and both lists by the numbers of the ring's cells and of the lists' places
--   Numberable    what numbering the windows needs of a ring, a width, a step, the list of numbers and the scratch
--   KeptPast      a list that holds what it held from a place on, and is as long
use Rattle.std.specs.Prelude.{ℕ, ◌/◌, ◌≤◌, ◌≡◌, Bool, not, List, [], ◌∷◌, ◌++◌, leb, length, drop}
use Rattle.order.specs.declared.Refusal.{Refusal}
use Rattle.order.specs.declared.Refusal.TheVariants.{RoomShort}
use Rattle.order.specs.Cells.{tally}
use Rattle.sensing.specs.Sense.{stands_above}
use Rattle.cell_run.specs.Run.{limit_checks}

unfoldable pub stands_after : ℕ → ℕ → ℕ
stands_after level later = tally (not (stands_above level later))

abbrev pub call_checks : ℕ → ℕ → ℕ → ℕ → ℕ → List (Bool × Refusal)
call_checks n width step numbers scratch = limit_checks n width step ++ (leb (n / step) numbers, RoomShort) ∷ (leb n scratch, RoomShort) ∷ []

pub record Numberable (ring : List ℕ) (width step : ℕ) (numbers scratch : List ℕ) : Type 0 where
  pub first : 1 ≤ length ring
  pub wide : width ≤ 12
  pub inside : width ≤ length ring
  pub forward : 1 ≤ step
  pub count : length ring / step ≤ length numbers
  pub room : length ring ≤ length scratch

pub record KeptPast (width : ℕ) (old new : List ℕ) : Type 0 where
  pub later : drop width new ≡ drop width old
  pub long : length new ≡ length old
