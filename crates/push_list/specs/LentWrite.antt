-- Document 01, "Refusal table": the call that fills a lent list of pushes. What it answers with its pushes by value is `push_room`'s (specs Room).
--
--   Carried                 what the answer beside a lent list carries: the group, the pulses, how many pushes
--   carried_of t             so much of what a write answers; the pushes are in the list
--   told_into g a            what the answer beside a lent list says to a write of g: its number, and what it carries; where it is refused, g as it was
--   filled k ps list        the first k of the pushes, then the later places of the list as they were
--   list_after t list        the lent list after a call that answers t: the pushes first and the later places untouched; a refusal leaves it as it was
use Rattle.std.specs.Prelude.{ℕ, List, ◌++◌, take, drop, Result, Ok, Err}
use Rattle.order.specs.declared.Refusal.{Refusal}
use Rattle.order.specs.Refusals.{refusal_number, if_done, Told}
use Rattle.group.specs.declared.Group.{Group}
use Rattle.push_up.specs.declared.Push.{Push}
use Rattle.push_up.specs.WriteAnswer.{Program}
use Rattle.push_list.specs.declared.WrittenInto.{WrittenInto}

-- ---- the answer

pub record Carried : Type 0 where
  pub group : Group
  pub pulses : ℕ
  pub count : ℕ

abbrev pub carried_of : Told Program → Told Carried
carried_of t = record { number = t.number; value = record { group = t.value.group; pulses = t.value.pulses; count = t.value.count } }

abbrev pub told_into : Group → Result WrittenInto Refusal → Told Carried
told_into g (Ok a) = record { number = 0; value = record { group = a.group; pulses = a.pulses; count = a.count } }
told_into g (Err refusal) = record { number = refusal_number refusal; value = record { group = g; pulses = 0; count = 0 } }

-- ---- the list

abbrev pub filled : ℕ → List Push → List Push → List Push
filled k ps list = take k ps ++ drop k list

unfoldable pub list_after : Told Program → List Push → List Push
list_after t list = if_done t.number (filled t.value.count t.value.pushes list) list
