-- `console::read_full` meets its contract: what is read stands within the buffer.
use Prim.Native.Nat.{◌-◌, ◌≤◌}
use Rattle.std.proofs.Common.{length}
use Rattle.console.proofs.read_full.Given as goal

abbrev pub invariant-loop-done : goal.invariant-loop-done
invariant-loop-done g l = l.done ≤ length l.buf

abbrev pub decreases-loop-done : goal.decreases-loop-done
decreases-loop-done g l = length l.buf - l.done
