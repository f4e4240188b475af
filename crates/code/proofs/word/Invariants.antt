-- `code::word` meets its contract, by the invariant of Filling.
use Rattle.code.proofs.Filling.{Filling}
use Rattle.code.proofs.word.Given as goal

abbrev pub invariant-loop-i : goal.invariant-loop-i
invariant-loop-i l = Filling l.n l.symbol l.values l.number l.r l.i
