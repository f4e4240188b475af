-- Document 01, "Calls outside the list": the lines that `rmcalls` prints, as bytes of ASCII, and a line put into a lent buffer.
--
--   spelled k n         the digits of n, where it has at most k of them
--   decimal n           n in base ten, without leading zeros
--   after mark n        a mark, and n after it
--   after_commas xs      each number with a comma before it
--   level_text xs        levels joined by commas; `-` where there is no cell, as in the all-zero record
--   numbers_of           position, kind, refusal, symbol and pulses, with single blanks between them
--   line_of k kind a     a record's line: these numbers, and the levels of cells 1 to n after the call
--   told_kept o a        an outcome and what is kept beside it, as an answer to a record says them: the number, and the group, the symbol and the pulses
--   left_line k          `left` and the count of leftover bytes, if any
--   sum_line p           `sum` and all pulses
--   pasted at t xs      xs with the text t from place at on
--   in_room k at t xs    the text t where the buffer xs has room for k bytes from place at on, and else no text
use Rattle.std.specs.Prelude.{ℕ, zero, suc, ◌+◌, ◌/◌, ◌%◌, cond, List, [], ◌∷◌, ◌++◌, leb, ltb, length, take, drop, ⊤, Result}
use Rattle.order.specs.declared.Refusal.{Refusal}
use Rattle.order.specs.Refusals.{Told, outcome_number}
use Rattle.group.specs.declared.Group.{Group}
use Rattle.records.specs.declared.Answered.{Answered}
use Rattle.records.specs.Records.{Answer}

-- ---- numbers

unfoldable pub spelled : ℕ → ℕ → List ℕ
spelled zero n = []
spelled (suc k) n = cond (ltb n 10) ((48 + n) ∷ []) (spelled k (n / 10) ++ (48 + n % 10) ∷ [])

unfoldable pub decimal : ℕ → List ℕ
decimal n = spelled (suc n) n

-- ---- lines: 48 is the digit 0, 32 a blank, 44 a comma, 45 `-`, 10 a line feed

abbrev pub after : ℕ → ℕ → List ℕ
after mark n = mark ∷ decimal n

abbrev pub after_commas : List ℕ → List ℕ
after_commas [] = []
after_commas (x ∷ xs) = after 44 x ++ after_commas xs

abbrev pub level_text : List ℕ → List ℕ
level_text [] = 45 ∷ []
level_text (x ∷ xs) = decimal x ++ after_commas xs

unfoldable pub numbers_of : ℕ → ℕ → ℕ → ℕ → ℕ → List ℕ
numbers_of position kind refusal symbol pulses = decimal position ++ after 32 kind ++ after 32 refusal ++ after 32 symbol ++ after 32 pulses

unfoldable pub line_of : ℕ → ℕ → Told Answer → List ℕ
line_of position kind a =
    let g : Group = a.value.group in
    numbers_of position kind a.number a.value.symbol a.value.pulses ++ 32 ∷ level_text (take g.n g.levels) ++ 10 ∷ []

abbrev pub told_kept : Result ⊤ Refusal → Answered → Told Answer
told_kept o a = record { number = outcome_number o; value = record { group = a.group; symbol = a.symbol; pulses = a.pulses } }

-- "left "
unfoldable pub left_line : ℕ → List ℕ
left_line zero = []
left_line (suc k) = 108 ∷ 101 ∷ 102 ∷ 116 ∷ after 32 (suc k) ++ 10 ∷ []

-- "sum "
unfoldable pub sum_line : ℕ → List ℕ
sum_line pulses = 115 ∷ 117 ∷ 109 ∷ after 32 pulses ++ 10 ∷ []

-- ---- a lent buffer

unfoldable pub pasted : ℕ → List ℕ → List ℕ → List ℕ
pasted at t xs = take at xs ++ t ++ drop (at + length t) xs

abbrev pub in_room : ℕ → ℕ → List ℕ → List ℕ → List ℕ
in_room k at t xs = cond (leb (at + k) (length xs)) t []
