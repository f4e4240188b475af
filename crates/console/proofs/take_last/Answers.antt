-- `console::take_last` meets its contract.
use Rattle.console.proofs.Sent.{last_taken}
use Rattle.console.proofs.take_last.Goals as goal

pub returns-clause-value : goal.returns-clause-value
returns-clause-value c = (last_taken c.args.p c.args.input.now c.args.text.now c.requires (c.finish.ensures.value, c.finish.ensures.out_after)).0

pub returns-clause-text_after : goal.returns-clause-text_after
returns-clause-text_after c = (last_taken c.args.p c.args.input.now c.args.text.now c.requires (c.finish.ensures.value, c.finish.ensures.out_after)).1.0
