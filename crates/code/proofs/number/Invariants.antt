-- `code::number` meets its contract, by the invariant of Summing.
use Rattle.code.proofs.Summing.{Summing}
use Rattle.code.proofs.number.Given as goal

abbrev pub invariant-loop-i : goal.invariant-loop-i
invariant-loop-i l = Summing l.x l.sum l.r l.i
