-- `window::put_window` meets its contract, by the invariant of Placing.
use Prim.Native.Nat.{◌≤◌}
use Rattle.window.proofs.Placing.{Placing}
use Rattle.window.proofs.put_window.Given as goal

abbrev pub invariant-loop-j : goal.invariant-loop-j
invariant-loop-j l = Placing l.ring l.start l.initial.out l.out l.at l.j × (l.j ≤ l.width)
