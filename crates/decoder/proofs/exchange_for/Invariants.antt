-- `decoder::exchange_for` meets its contract, by the invariant of Looking.
use Rattle.decoder.proofs.Looking.{Looking}
use Rattle.decoder.proofs.exchange_for.Given as goal

abbrev pub invariant-loop-k : goal.invariant-loop-k
invariant-loop-k l = Looking l.o l.s l.k
