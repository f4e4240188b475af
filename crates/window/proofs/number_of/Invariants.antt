-- `window::number_of` meets its contract, by the invariant of Summing, two steps at a time.
use Rattle.window.proofs.Summing.{Summing}
use Rattle.window.proofs.number_of.Given as goal

abbrev pub invariant-loop-i : goal.invariant-loop-i
invariant-loop-i l = Summing l.window l.number l.i

abbrev pub decreases-loop-i : goal.decreases-loop-i
decreases-loop-i l = l.i
