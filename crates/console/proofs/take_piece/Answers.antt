-- `console::take_piece` meets its contract.
use Rattle.console.proofs.Sent.{piece_taken}
use Rattle.console.proofs.take_piece.Goals as goal

pub returns-clause-end_value : goal.returns-clause-end_value
returns-clause-end_value c = (piece_taken c.args.p c.args.input.now c.args.text.now c.go_on.result c.requires (c.go_on.ensures.value, c.go_on.ensures.out_after)).0

pub returns-clause-progress_value : goal.returns-clause-progress_value
returns-clause-progress_value c = (piece_taken c.args.p c.args.input.now c.args.text.now c.go_on.result c.requires (c.go_on.ensures.value, c.go_on.ensures.out_after)).1.0

pub returns-clause-text_after : goal.returns-clause-text_after
returns-clause-text_after c = (piece_taken c.args.p c.args.input.now c.args.text.now c.go_on.result c.requires (c.go_on.ensures.value, c.go_on.ensures.out_after)).1.1.0

pub returns-clause-end_in_bounds : goal.returns-clause-end_in_bounds
returns-clause-end_in_bounds c = (piece_taken c.args.p c.args.input.now c.args.text.now c.go_on.result c.requires (c.go_on.ensures.value, c.go_on.ensures.out_after)).1.1.1
