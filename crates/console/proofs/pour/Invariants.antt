-- `console::pour` meets its contract: the run takes each piece, and each text ends within its buffer.
use Rattle.console.proofs.Sent.{Sent}
use Rattle.console.proofs.pour.Given as goal

abbrev pub invariant-loop-pieces : goal.invariant-loop-pieces
invariant-loop-pieces g l = Sent l.input l.text l.p l.size l.pieces
