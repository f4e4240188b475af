-- `window::two_coordinates` meets its contract, by the invariant of Lower.
use Rattle.window.proofs.Lower.{Counting}
use Rattle.window.proofs.two_coordinates.Given as goal

abbrev pub invariant-loop-before : goal.invariant-loop-before
invariant-loop-before l = Counting l.window l.i l.before-index l.here l.next
