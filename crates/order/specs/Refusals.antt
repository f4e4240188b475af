-- Document 01, "Refusal table", with the numbers of document 02 from 13 on: the numbers, which one is given, and what an answer says in these terms.
--
--   refusal_number r     the number of a refusal
--   outcome_number a     the number of an answer of the code: 0 where it is done, else that of its refusal
--   number_of checks     the number that is given: that of the first check that does not hold, 0 where all hold
--   if_done k a z        a where the number k is 0, else z
--   Told A              an answer in the table's terms: its number, and the value of type A beside it
--   told z a            an answer of the code in the table's terms: 0 and its result, or the number of its refusal and the zeros z
--   answer checks a z   0 and the result a where all checks hold, else the number and the zeros z
--   is_size n            n is from 3 to 12
--   check_row            the order in which checks run: document 01's row, with 16 before 1, 21, 17 and 20 after it, 13 before 3, 18 directly before 4, 14 after 3,
--                       19 after 8, and 15 last
--   in_row checks row    checks are listed in the order of the row
--
-- A check is a pair: whether it holds, and the refusal that applies where it does not. Checks are listed in the order in which they run.
use Rattle.std.specs.Prelude.{ℕ, zero, suc, Bool, true, false, cond, ◌&&◌, List, [], ◌∷◌, Result, Ok, Err, leb, eqb}
use Rattle.order.specs.declared.Refusal.{Refusal}
use Rattle.order.specs.declared.Refusal.TheVariants.{Size, NoGroup, NoCell, NoOrder, NoSymbol, Blank, Lost, Worn, CapUp, ListShort, Coordinate, BadRecord, RunLimit, NoRaise, RoomShort, NoPage, Measurement, RankSizes, Spent, Endurance, Seed}

abbrev pub refusal_number : Refusal → ℕ
refusal_number Size = 1
refusal_number NoGroup = 2
refusal_number NoCell = 3
refusal_number NoOrder = 4
refusal_number NoSymbol = 5
refusal_number Blank = 6
refusal_number Lost = 7
refusal_number Worn = 8
refusal_number CapUp = 9
refusal_number ListShort = 10
refusal_number Coordinate = 11
refusal_number BadRecord = 12
refusal_number RunLimit = 13
refusal_number NoRaise = 14
refusal_number RoomShort = 15
refusal_number NoPage = 16
refusal_number Measurement = 17
refusal_number RankSizes = 18
refusal_number Spent = 19
refusal_number Endurance = 20
refusal_number Seed = 21

abbrev pub outcome_number : {A : Type 0} → Result A Refusal → ℕ
outcome_number (Ok done) = 0
outcome_number (Err refusal) = refusal_number refusal

unfoldable pub number_of : List (Bool × Refusal) → ℕ
number_of [] = 0
number_of (check ∷ later) = cond check.0 (number_of later) (refusal_number check.1)

abbrev pub if_done : {A : Type 0} → ℕ → A → A → A
if_done zero result zeros = result
if_done (suc k) result zeros = zeros

pub record Told (A : Type 0) : Type 0 where
  pub number : ℕ
  pub value : A

abbrev pub told : {A : Type 0} → A → Result A Refusal → Told A
told zeros (Ok result) = record { number = 0; value = result }
told zeros (Err refusal) = record { number = refusal_number refusal; value = zeros }

unfoldable pub answer : {A : Type 0} → List (Bool × Refusal) → A → A → Told A
answer checks result zeros = record { number = number_of checks; value = if_done (number_of checks) result zeros }

abbrev pub is_size : ℕ → Bool
is_size n = leb 3 n && leb n 12

abbrev pub check_row : List ℕ
check_row = 12 ∷ 16 ∷ 13 ∷ 1 ∷ 21 ∷ 17 ∷ 20 ∷ 2 ∷ 10 ∷ 3 ∷ 18 ∷ 4 ∷ 5 ∷ 11 ∷ 9 ∷ 14 ∷ 6 ∷ 7 ∷ 8 ∷ 19 ∷ 15 ∷ []

abbrev pub in_row : List (Bool × Refusal) → List ℕ → Bool
in_row [] row = true
in_row (check ∷ later) [] = false
in_row (check ∷ later) (k ∷ row) = cond (eqb (refusal_number check.1) k) (in_row later (k ∷ row)) (in_row (check ∷ later) row)
