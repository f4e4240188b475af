-- Document 01, "Calls outside the list": call records of 8 bytes, and the step that each one is.
--
--   low_first k at bs    the number in k bytes from place at (from 0), low byte first
--   record_at bs i       record i of the bytes, from 0: kind, cell, two zero bytes, value
--   records bs          the whole records; bytes that fill none are left over
--   uses_cell k          the kinds that have a cell: 3 leak, 4 wear
--   uses_value k         the kinds that have a value: 0 open, 1 store, 3 leak, 4 wear
--   unused_zero r        the two zero bytes, and the fields that the kind does not use, are 0
--   requests c v        what a record of each kind asks for: 0 open, 1 store, 2 scrub, 3 leak, 4 wear, 5 erase, 6 read
--   request_of r         what a record asks for; a bad one, which has an unknown kind, or a field that should be 0 and is not, is refused 12
--   Answer              what the program keeps of an answer: the group after the call, the symbol (0 but for store, scrub and read), the pulses
--   group_alone g        the group and nothing else
--   told_answered g a    what an answer to a record says, where the group is g: its number, and what is kept; a refused one keeps g and nothing else
--   call_of kind         the call of the machine that a record asks for: none is a write, so the order beside it is the all-zero one
--   after_apply t        what is kept of an answer of the machine
--   after_open g t       what is kept of the answer to an open: a refused one keeps the group it had
--   opening n           the answer to the open that a record asks for: its group has the endurance 1,000,000
--   step_by g q          the answer to a record that asks for q, or is refused
--   step_of g r          the answer to a record, where the group is g
use Rattle.std.specs.Prelude.{ℕ, zero, suc, ◌+◌, ◌*◌, ◌/◌, Bool, cond, ◌&&◌, ◌||◌, List, [], ◌∷◌, Result, Ok, Err, eqb, leb, length, get_or}
use Rattle.order.specs.declared.Cell.{Cell}
use Rattle.order.specs.declared.Refusal.{Refusal}
use Rattle.order.specs.declared.Refusal.TheVariants.{BadRecord}
use Rattle.order.specs.Refusals.{refusal_number, if_done, Told}
use Rattle.order.specs.Order.{no_order}
use Rattle.order.specs.Cells.{tabulate}
use Rattle.group.specs.declared.Group.{Group}
use Rattle.changes.specs.Changes.{open_of}
use Rattle.engine.specs.Scrub.{Step}
use Rattle.plain_machine.specs.declared.Kind.{Kind}
use Rattle.plain_machine.specs.declared.Kind.TheVariants.{Store, Scrub, Leak, Wear, Erase, Read}
use Rattle.sharing.specs.Shared.{plain_target}
use Rattle.plain_machine.specs.declared.Call.{Call}
use Rattle.plain_machine.specs.Machine.{apply_of}
use Rattle.records.specs.declared.CallRecord.{CallRecord}
use Rattle.records.specs.declared.Request.{Request}
use Rattle.records.specs.declared.Request.TheVariants.{Open, Apply}
use Rattle.records.specs.declared.Answered.{Answered}

-- ---- records

abbrev pub low_first : ℕ → ℕ → List ℕ → ℕ
low_first zero at bs = 0
low_first (suc k) at bs = get_or bs at 0 + 256 * low_first k (at + 1) bs

unfoldable pub record_at : List ℕ → ℕ → CallRecord
record_at bs i =
    record {
      kind = get_or bs (8 * i) 0;
      cell = record { 0 = get_or bs (8 * i + 1) 0 };
      reserved = low_first 2 (8 * i + 2) bs;
      value = low_first 4 (8 * i + 4) bs;
    }

unfoldable pub records : List ℕ → List CallRecord
records bs = tabulate (length bs / 8) (record_at bs)

abbrev pub uses_cell : ℕ → Bool
uses_cell k = eqb k 3 || eqb k 4

abbrev pub uses_value : ℕ → Bool
uses_value k = leb k 1 || uses_cell k

unfoldable pub unused_zero : CallRecord → Bool
unused_zero r = eqb r.reserved 0 && ((uses_cell r.kind || eqb r.cell.0 0) && (uses_value r.kind || eqb r.value 0))

abbrev pub requests : Cell → ℕ → List (Result Request Refusal)
requests cell value =
    Ok (Open value) ∷ Ok (Apply (Store value)) ∷ Ok (Apply Scrub) ∷ Ok (Apply (Leak cell value)) ∷ Ok (Apply (Wear cell value)) ∷ Ok (Apply Erase) ∷ Ok (Apply Read) ∷ []

unfoldable pub request_of : CallRecord → Result Request Refusal
request_of r = cond (unused_zero r) (get_or (requests r.cell r.value) r.kind (Err BadRecord)) (Err BadRecord)

-- ---- the step

pub record Answer : Type 0 where
  pub group : Group
  pub symbol : ℕ
  pub pulses : ℕ

abbrev pub group_alone : Group → Answer
group_alone g = record { group = g; symbol = 0; pulses = 0 }

abbrev pub told_answered : Group → Result Answered Refusal → Told Answer
told_answered g (Ok kept) = record { number = 0; value = record { group = kept.group; symbol = kept.symbol; pulses = kept.pulses } }
told_answered g (Err refusal) = record { number = refusal_number refusal; value = group_alone g }

abbrev pub call_of : Kind → Call
call_of kind = record { kind = kind; target = plain_target no_order }

abbrev pub after_apply : Told Step → Told Answer
after_apply t =
    record {
      number = t.number;
      value = record { group = t.value.group; symbol = t.value.symbol; pulses = t.value.pulses };
    }

abbrev pub after_open : Group → Told Group → Told Answer
after_open g t = record { number = t.number; value = group_alone (if_done t.number t.value g) }

abbrev pub opening : ℕ → Told Group
opening n = open_of n 1000000

abbrev pub step_by : Group → Result Request Refusal → Told Answer
step_by g (Err refusal) = record { number = refusal_number refusal; value = group_alone g }
step_by g (Ok (Open n)) = after_open g (opening n)
step_by g (Ok (Apply kind)) = after_apply (apply_of g (call_of kind))

unfoldable pub step_of : Group → CallRecord → Told Answer
step_of g r = step_by g (request_of r)
