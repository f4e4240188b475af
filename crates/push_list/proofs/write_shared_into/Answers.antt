-- `push_list::write_shared_into` meets its contract: the pushes have room.
use mathlib.Core.Path.{ap, sym, ◌∙◌}
use lib.ListN.{length}
use Rattle.order.specs.Refusals.{Told}
use Rattle.push_up.specs.WriteAnswer.{Program, told_written}
use Rattle.push_room.proofs.Answers.{into_few, shared_into_answer}
use Rattle.push_list.proofs.write_shared_into.Goals as goal

pub put_into-requires : goal.put_into-requires
put_into-requires c w e =
    rw (ap (λ (t : Told Program). t.value.count) (ap (told_written c.args.g) (sym e) ∙ c.write_shared_with_room-answer.ensures)) (into_few (shared_into_answer c.args.g (length c.args.list.now) c.args.target))
