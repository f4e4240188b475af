-- Document 01, "The plain machine": what open, leak, wear and erase answer; document 02, request (h): a group is opened with an endurance.
--
--   open_checks n e      the checks of an open: 1, 20
--   cell_checks, wear_checks    the checks of these calls: 1, 2, 3; and then 9
--   open_of, leak_of, wear_of, erase_of    the answers to the calls
use Rattle.std.specs.Prelude.{ℕ, Bool, List, [], ◌∷◌, ◌++◌, leb}
use Rattle.order.specs.declared.Cell.{Cell}
use Rattle.order.specs.declared.Refusal.{Refusal}
use Rattle.order.specs.declared.Refusal.TheVariants.{Size, NoCell, CapUp, Endurance}
use Rattle.order.specs.Refusals.{Told, answer, is_size}
use Rattle.order.specs.Cells.{is_cell}
use Rattle.group.specs.declared.Group.{Group}
use Rattle.group.specs.Levels.{level, put, leaked}
use Rattle.group.specs.Record.{is_endurance, group_checks, opened, no_group, with_levels, with_caps, erased}

abbrev pub open_checks : ℕ → ℕ → List (Bool × Refusal)
open_checks n e = (is_size n, Size) ∷ (is_endurance e, Endurance) ∷ []

unfoldable pub open_of : ℕ → ℕ → Told Group
open_of n e = answer (open_checks n e) (opened n e) no_group

abbrev pub cell_checks : Group → Cell → List (Bool × Refusal)
cell_checks g c = group_checks g ++ (is_cell g.n c.0, NoCell) ∷ []

unfoldable pub leak_of : Group → Cell → ℕ → Told Group
leak_of g c d = answer (cell_checks g c) (with_levels g (leaked c.0 d g.levels)) g

abbrev pub wear_checks : Group → Cell → ℕ → List (Bool × Refusal)
wear_checks g c cap = cell_checks g c ++ (leb cap (level g.caps c.0), CapUp) ∷ []

unfoldable pub wear_of : Group → Cell → ℕ → Told Group
wear_of g c cap = answer (wear_checks g c cap) (with_caps g (put g.caps c.0 cap)) g

unfoldable pub erase_of : Group → Told Group
erase_of g = answer (group_checks g) (erased g) g
