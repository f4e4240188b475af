-- Document 01, "The plain machine": scrub, and what the answer of a call of the machine carries.
--
--   Step                what an answer carries: the group after the call, the symbol, the verdict if there is one, the pulses and the pushes
--   judged v            the verdict that an answer holds, if any
--   applied_step a       what an accepted answer carries
--   quiet g             an answer with the group and nothing else: symbol 0, no verdict, no pulses, no pushes
--   told_applied g a     what an answer to a call on g says: its number, and what it carries; a refused one has the group as it was and nothing else
--   programmed_step      what an answer to a call that raises cells carries
--   after_read g t       the answer to a read of g that says t: the group stays as it is
--   word_found g         the codeword that a reading finds (where the order is lost, the order as it was read; nothing is written then)
--   scrub_checks g       the checks of a scrub: 1, 2, 6, 7, 8, 19
--   scrub_of g           the answer to `scrub`: read, then write the codeword found
use Rattle.std.specs.Prelude.{ℕ, Bool, true, List, [], ◌++◌, Option as Held, Some, None, Result, Ok, Err}
use Rattle.std.proofs.Math.Option.{Option, none, some}
use Rattle.order.specs.declared.Refusal.{Refusal}
use Rattle.order.specs.Refusals.{refusal_number, Told, answer}
use Rattle.distance.specs.Distance.{exchange}
use Rattle.code.specs.declared.Verdict.{Verdict}
use Rattle.code.specs.Symbols.{Reading}
use Rattle.group.specs.declared.Group.{Group}
use Rattle.push_up.specs.declared.Push.{Push}
use Rattle.push_up.specs.PushUp.{singles}
use Rattle.push_up.specs.WriteAnswer.{Program, push_array, push_checks, pushed}
use Rattle.engine.specs.declared.Applied.{Applied}
use Rattle.engine.specs.ReadStore.{sensed_order, place_read, read_checks, reading_of}

-- ---- answers

pub record Step : Type 0 where
  pub group : Group
  pub symbol : ℕ
  pub verdict : Option Verdict
  pub pulses : ℕ
  pub count : ℕ
  pub pushes : List Push

abbrev pub judged : Held Verdict → Option Verdict
judged None = none
judged (Some v) = some v

abbrev pub applied_step : Applied → Step
applied_step a =
    record {
      group = a.group;
      symbol = a.symbol;
      verdict = judged a.verdict;
      pulses = a.pulses;
      count = a.count;
      pushes = a.pushes;
    }

abbrev pub quiet : Group → Step
quiet g = record { group = g; symbol = 0; verdict = none; pulses = 0; count = 0; pushes = push_array [] }

abbrev pub told_applied : Group → Result Applied Refusal → Told Step
told_applied g (Ok done) = record { number = 0; value = applied_step done }
told_applied g (Err refusal) = record { number = refusal_number refusal; value = quiet g }

abbrev pub programmed_step : Program → ℕ → Option Verdict → Step
programmed_step p s v = record { group = p.group; symbol = s; verdict = v; pulses = p.pulses; count = p.count; pushes = p.pushes }

-- ---- scrub

abbrev pub word_found : Group → List ℕ
word_found g = exchange (place_read g) (sensed_order g)

abbrev pub scrub_checks : Group → List (Bool × Refusal)
scrub_checks g = read_checks g ++ push_checks g (singles (word_found g))

unfoldable pub scrub_of : Group → Told Step
scrub_of g = answer (scrub_checks g) (programmed_step (pushed true g (singles (word_found g))) (reading_of g).symbol (reading_of g).verdict) (quiet g)

-- ---- a read, as an answer of the machine

abbrev pub after_read : Group → Told Reading → Told Step
after_read g t =
    record {
      number = t.number;
      value = record { group = g; symbol = t.value.symbol; verdict = t.value.verdict; pulses = 0; count = 0; pushes = push_array [] };
    }
