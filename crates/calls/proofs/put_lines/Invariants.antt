-- `calls::put_lines` meets its contract.
use Prim.Native.Nat.{◌/◌}
use lib.ListN.{length}
use Rattle.calls.proofs.Running.{Running}
use Rattle.calls.proofs.put_lines.Given as goal

abbrev pub invariant-loop-i : goal.invariant-loop-i
invariant-loop-i l =
    Running (record { position = l.initial.position; group = l.initial.g; pulses = l.initial.pulses }) l.input (length l.input / 8) l.initial.out l.out (record { position = l.position; group = l.g; pulses = l.pulses }) l.end l.i
