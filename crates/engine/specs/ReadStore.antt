-- Document 01, "The plain machine" and "Calls outside the list": what read, store and alike answer.
--
--   sensed_order g         the order that a reading finds
--   place_read g           the place at which it is put right: 0 where it is a codeword, n where it is lost
--   marked_checks g        the checks of a read before it decodes: 1, 2, 6
--   marked_order g         the order that is decoded: that which is sensed, of a group that is written
--   read_checks g          the checks of a read: 1, 2, 6, 7
--   store_checks g s       the checks of a store: 1, 2, 5, 8, 19
--   reading_of g           what an accepted read answers: the symbol and the verdict
--   told_read, told_alike   what an answer says: its number, and the reading, or yes or no; beside a refusal no reading, and no
--   read_of, store_of, alike_of    the answers to the calls
use Rattle.std.specs.Prelude.{ℕ, Bool, true, false, ◌&&◌, List, [], ◌∷◌, ◌++◌, Result, eqb, ltb}
use Rattle.order.specs.declared.Order.{Order}
use Rattle.order.specs.declared.Refusal.{Refusal}
use Rattle.order.specs.declared.Refusal.TheVariants.{NoSymbol, Blank, Lost}
use Rattle.order.specs.Refusals.{Told, told, answer}
use Rattle.order.specs.Order.{order_record, no_order}
use Rattle.decoder.specs.Decoding.{correction}
use Rattle.code.specs.declared.Decoded.{Decoded}
use Rattle.code.specs.Words.{K}
use Rattle.code.specs.Symbols.{word_of, Reading, no_reading, reading_at, told_decode}
use Rattle.group.specs.declared.Group.{Group}
use Rattle.group.specs.Record.{group_checks}
use Rattle.sensing.specs.Sense.{sensed}
use Rattle.push_up.specs.PushUp.{singles}
use Rattle.push_up.specs.WriteAnswer.{Program, push_checks, pushed, unpushed}

-- ---- read

abbrev pub sensed_order : Group → List ℕ
sensed_order g = sensed g.n g.levels

abbrev pub place_read : Group → ℕ
place_read g = correction g.n (sensed_order g)

abbrev pub marked_checks : Group → List (Bool × Refusal)
marked_checks g = group_checks g ++ (g.written, Blank) ∷ []

unfoldable pub marked_order : Group → Told Order
marked_order g = answer (marked_checks g) (order_record (sensed_order g)) no_order

abbrev pub read_checks : Group → List (Bool × Refusal)
read_checks g = marked_checks g ++ (ltb (place_read g) g.n, Lost) ∷ []

abbrev pub reading_of : Group → Reading
reading_of g = reading_at g.n (sensed_order g) (place_read g)

abbrev pub told_read : Result Decoded Refusal → Told Reading
told_read a = told_decode a

unfoldable pub read_of : Group → Told Reading
read_of g = answer (read_checks g) (reading_of g) no_reading

-- ---- store

abbrev pub store_checks : Group → ℕ → List (Bool × Refusal)
store_checks g s = group_checks g ++ (ltb s (K g.n), NoSymbol) ∷ push_checks g (singles (word_of g.n s))

unfoldable pub store_of : Group → ℕ → Told Program
store_of g s = answer (store_checks g s) (pushed true g (singles (word_of g.n s))) (unpushed g)

-- ---- alike

abbrev pub told_alike : Result Bool Refusal → Told Bool
told_alike a = told false a

unfoldable pub alike_of : Group → Group → Told Bool
alike_of g h = answer (read_checks g ++ read_checks h) (eqb g.n h.n && eqb (reading_of g).symbol (reading_of h).symbol) false
