-- Document 01, "Cells, ranks, levels": the group record and its rules; document 02, request (h): the pulses that each cell has ever taken, its used pulses, or
-- tally, and one endurance for all cells. That there are twelve levels, twelve caps and twelve numbers of used pulses is in its type in the code; here, where rows are
-- lists, `IsGroup` says it.
--
--   all_at_most m xs      no number is above m
--   is_row m n xs        whole numbers 0 to m, and 0 in the places beyond n
--   has_rows g           levels and caps are such rows, up to 4,095; a cap may be below the level of its cell
--   is_endurance e       an endurance is from 1 to 1,000,000
--   has_tallies g        the endurance is in its range, and the used pulses are such a row, up to the endurance
--   group_checks g       the checks of a record: 1, 2
--   IsGroup g           the record is a group: it passes the checks, and has twelve levels, twelve caps and twelve numbers of used pulses
--   fresh n cs e        a record of n cells with these caps and this endurance: levels 0, no used pulses, not written
--   opened n e          levels 0, caps 4,095, no used pulses, the endurance e, not written
--   no_group             the all-zero record
--   changed g ls cs us w   the record with these levels, caps, used pulses and mark, and all else as it was
--   with_levels g ls, with_caps g cs, with_used g us, with_mark w g    the record with other levels, other caps, other used pulses, or the mark w
--   programmed w g ls   the record raised to these levels, with each cell's rise added to its used pulses, and the mark w
--   erased g            all levels 0, mark cleared; caps, used pulses and endurance kept
use Rattle.std.specs.Prelude.{◌≡◌, ℕ, ◌-◌, Bool, true, false, ◌&&◌, List, [], ◌∷◌, ◌++◌, length, drop, replicate, nat_le}
use Rattle.order.specs.declared.Refusal.{Refusal}
use Rattle.order.specs.declared.Refusal.TheVariants.{Size, NoGroup}
use Rattle.order.specs.Refusals.{number_of, is_size}
use Rattle.group.specs.declared.Group.{Group}
use Rattle.group.specs.Levels.{tallied}

unfoldable pub all_at_most : ℕ → List ℕ → Bool
all_at_most m [] = true
all_at_most m (x ∷ xs) = nat_le x m && all_at_most m xs

unfoldable pub is_row : ℕ → ℕ → List ℕ → Bool
is_row m n xs = all_at_most m xs && all_at_most 0 (drop n xs)

abbrev pub has_rows : Group → Bool
has_rows g = is_row 4095 g.n g.levels && is_row 4095 g.n g.caps

abbrev pub is_endurance : ℕ → Bool
is_endurance e = nat_le 1 e && nat_le e 1000000

abbrev pub has_tallies : Group → Bool
has_tallies g = is_endurance g.endurance && is_row g.endurance g.n g.used

abbrev pub group_checks : Group → List (Bool × Refusal)
group_checks g = (is_size g.n, Size) ∷ (has_rows g && has_tallies g, NoGroup) ∷ []

pub record IsGroup (g : Group) : Type 0 where
  pub passes : number_of (group_checks g) ≡ 0
  pub levels : length g.levels ≡ 12
  pub caps : length g.caps ≡ 12
  pub used : length g.used ≡ 12

abbrev pub fresh : ℕ → List ℕ → ℕ → Group
fresh n cs e = record { n = n; levels = replicate 12 0; caps = cs; used = replicate 12 0; endurance = e; written = false }

abbrev pub opened : ℕ → ℕ → Group
opened n e = fresh n (replicate n 4095 ++ replicate (12 - n) 0) e

abbrev pub no_group : Group
no_group = fresh 0 (replicate 12 0) 0

abbrev pub changed : Group → List ℕ → List ℕ → List ℕ → Bool → Group
changed g ls cs us w = record { n = g.n; levels = ls; caps = cs; used = us; endurance = g.endurance; written = w }

abbrev pub with_levels : Group → List ℕ → Group
with_levels g ls = changed g ls g.caps g.used g.written

abbrev pub with_caps : Group → List ℕ → Group
with_caps g cs = changed g g.levels cs g.used g.written

abbrev pub with_used : Group → List ℕ → Group
with_used g us = changed g g.levels g.caps us g.written

abbrev pub with_mark : Bool → Group → Group
with_mark w g = changed g g.levels g.caps g.used w

abbrev pub programmed : Bool → Group → List ℕ → Group
programmed w g ls = changed g ls g.caps (tallied g.used g.levels ls) w

abbrev pub erased : Group → Group
erased g = changed g (replicate 12 0) g.caps g.used false
