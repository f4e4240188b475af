-- `window::number_windows` meets its contract, by the invariant of Numbering.
use Rattle.window.proofs.Numbering.{Numbering}
use Rattle.window.proofs.number_windows.Given as goal

abbrev pub invariant-loop-k : goal.invariant-loop-k
invariant-loop-k l = Numbering l.ring l.width l.step l.initial.numbers l.initial.scratch l.numbers l.scratch l.k
