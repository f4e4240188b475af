-- Document 02, request (e): a group is taken over from measured levels and caps; request (h): and from the pulses that each cell has ever taken, its used pulses,
-- and the endurance.
--
--   is_given m n xs          the list has n values, one for each cell, and none is above m
--   in_places xs             the values in the first places of twelve, and zeros after them
--   take_over_checks n ls cs us e   the checks of a take-over from levels ls, caps cs, used pulses us and the endurance e: 1, 17, 20. A cap may be below the
--                           level of its cell
--   taken_over n ls cs us e  the record of n cells with these levels, caps, used pulses and endurance, written
--   take_over_of n ls cs us e    the answer to `take_over`; a refused one returns the all-zero record
use Rattle.std.specs.Prelude.{ℕ, ◌-◌, Bool, true, ◌&&◌, List, [], ◌∷◌, ◌++◌, eqb, length, replicate}
use Rattle.order.specs.declared.Refusal.{Refusal}
use Rattle.order.specs.declared.Refusal.TheVariants.{Size, Measurement, Endurance}
use Rattle.order.specs.Refusals.{Told, answer, is_size}
use Rattle.group.specs.declared.Group.{Group}
use Rattle.group.specs.Record.{all_at_most, is_endurance, no_group}

unfoldable pub is_given : ℕ → ℕ → List ℕ → Bool
is_given m n xs = eqb (length xs) n && all_at_most m xs

abbrev pub in_places : List ℕ → List ℕ
in_places xs = xs ++ replicate (12 - length xs) 0

abbrev pub take_over_checks : ℕ → List ℕ → List ℕ → List ℕ → ℕ → List (Bool × Refusal)
take_over_checks n ls cs us e =
    (is_size n, Size) ∷ (is_given 4095 n ls && is_given 4095 n cs, Measurement) ∷ (is_endurance e && is_given e n us, Endurance) ∷ []

abbrev pub taken_over : ℕ → List ℕ → List ℕ → List ℕ → ℕ → Group
taken_over n ls cs us e =
    record { n = n; levels = in_places ls; caps = in_places cs; used = in_places us; endurance = e; written = true }

unfoldable pub take_over_of : ℕ → List ℕ → List ℕ → List ℕ → ℕ → Told Group
take_over_of n ls cs us e = answer (take_over_checks n ls cs us e) (taken_over n ls cs us e) no_group
