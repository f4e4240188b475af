-- Document 01, "The plain machine": what a write answers, and what a shared write and a store carry too; document 02, request (b): its pulses; request
-- (h): the endurance.
--
--   Program             what the answer carries: the group, the pulses, how many pushes, and the pushes with zeros after them
--   program_of a         what an accepted write carries
--   told_written g a     what the answer to a write of g says: its number, and what it carries
--   no_push              what stands in a place after the pushes: zeros
--   push_array ps        eleven places: the pushes, and zeros after them
--   raised g t          the levels of the minimal push-up to a target
--   fits g t            no new level, raised or kept, is above its cell's cap
--   endures e us old new    no cell is past the endurance e when its rise is added to its used pulses us: reaching it is allowed
--   lasts g t           no cell, raised or kept, comes past the endurance
--   pushed w g t        what an accepted write of a target carries that leaves the mark w: its pulses are those of its push program
--   unpushed g          what a refused write carries: the record given, no pulses, no pushes
--   push_checks g t      the last checks of a call that raises cells to show a target: 8, 19
--   write_checks g o     the checks of a write: 1, 2, 4, 8, 19
--   write_of g o         the answer to `write`: its target is an order, and the group is then written
--   tallies_of e us old new    the used pulses with these rises added, if e is an endurance that lasts for them
--   used_after_checks g ls   the same last checks, of any record and any new levels: the record may have another endurance than a group has
--   used_after_of g ls   the answer of them: the used pulses with the rises to the new levels added
--   programmed_of w g p us   what a call carries that makes this push-up, with the used pulses us and the mark w
use Rattle.std.specs.Prelude.{ℕ, ◌-◌, Bool, true, cond, ◌&&◌, List, [], ◌∷◌, ◌++◌, length, replicate, Option, Some, None, Result, Ok, Err}
use Rattle.order.specs.declared.Order.{Order}
use Rattle.order.specs.declared.Refusal.{Refusal}
use Rattle.order.specs.declared.Refusal.TheVariants.{NoOrder, Worn, Spent}
use Rattle.order.specs.Refusals.{refusal_number, Told, answer}
use Rattle.order.specs.Order.{listed, is_order_of}
use Rattle.group.specs.declared.Group.{Group}
use Rattle.group.specs.Levels.{at_most, tallied}
use Rattle.group.specs.Record.{all_at_most, is_endurance, group_checks, changed, programmed}
use Rattle.push_up.specs.declared.Push.{Push}
use Rattle.push_up.specs.declared.Written.{Written}
use Rattle.push_up.specs.declared.PushUp.{PushUp}
use Rattle.push_up.specs.PushUp.{singles, raise, pushes, pulses_in}

-- ---- write

pub record Program : Type 0 where
  pub group : Group
  pub pulses : ℕ
  pub count : ℕ
  pub pushes : List Push

abbrev pub no_push : Push
no_push = record { cell = record { 0 = 0 }; start = 0; reach = 0 }

abbrev pub push_array : List Push → List Push
push_array ps = ps ++ replicate (11 - length ps) no_push

unfoldable pub raised : Group → List (List ℕ) → List ℕ
raised g t = raise 1 t g.levels

unfoldable pub fits : Group → List (List ℕ) → Bool
fits g t = at_most (raised g t) g.caps

abbrev pub endures : ℕ → List ℕ → List ℕ → List ℕ → Bool
endures e us old new = all_at_most e (tallied us old new)

unfoldable pub lasts : Group → List (List ℕ) → Bool
lasts g t = endures g.endurance g.used g.levels (raised g t)

unfoldable pub pushed : Bool → Group → List (List ℕ) → Program
pushed w g t =
    let program : List Push = pushes 1 t g.levels in
    record {
      group = programmed w g (raised g t);
      pulses = pulses_in program;
      count = length program;
      pushes = push_array program;
    }

abbrev pub unpushed : Group → Program
unpushed g = record { group = g; pulses = 0; count = 0; pushes = push_array [] }

abbrev pub program_of : Written → Program
program_of a = record { group = a.group; pulses = a.pulses; count = a.count; pushes = a.pushes }

abbrev pub told_written : Group → Result Written Refusal → Told Program
told_written g (Ok written) = record { number = 0; value = program_of written }
told_written g (Err refusal) = record { number = refusal_number refusal; value = unpushed g }

abbrev pub push_checks : Group → List (List ℕ) → List (Bool × Refusal)
push_checks g t = (fits g t, Worn) ∷ (lasts g t, Spent) ∷ []

abbrev pub write_checks : Group → Order → List (Bool × Refusal)
write_checks g o = group_checks g ++ (is_order_of g.n o, NoOrder) ∷ push_checks g (singles (listed o))

unfoldable pub write_of : Group → Order → Told Program
write_of g o = answer (write_checks g o) (pushed true g (singles (listed o))) (unpushed g)

-- ---- the endurance

unfoldable pub tallies_of : ℕ → List ℕ → List ℕ → List ℕ → Option (List ℕ)
tallies_of e us old new = cond (is_endurance e && endures e us old new) (Some (tallied us old new)) None

-- ---- any push-up

abbrev pub used_after_checks : Group → List ℕ → List (Bool × Refusal)
used_after_checks g ls =
    (at_most ls g.caps, Worn) ∷ (is_endurance g.endurance && endures g.endurance g.used g.levels ls, Spent) ∷ []

unfoldable pub used_after_of : Group → List ℕ → Told (List ℕ)
used_after_of g ls = answer (used_after_checks g ls) (tallied g.used g.levels ls) (replicate 12 0)

abbrev pub programmed_of : Bool → Group → PushUp → List ℕ → Written
programmed_of w g p us = record { group = changed g p.levels g.caps us w; pulses = p.pulses; count = p.count; pushes = p.pushes }
