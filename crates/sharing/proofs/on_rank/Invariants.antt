-- `sharing::on_rank` meets its contract. The loop's invariant: the cells that are listed from place `i` on are marked.
use Prim.Native.Nat.{◌≤◌}
use mathlib.Core.Path.{◌≡◌}
use lib.ListN.{length}
use Rattle.order.specs.Order.{listed}
use Rattle.sharing.specs.Steps.{part, Flags}
use Rattle.sharing.proofs.on_rank.Given as goal

abbrev pub invariant-loop-i : goal.invariant-loop-i
invariant-loop-i l = (l.first ≤ l.i) × (l.i ≤ l.end) × Flags l.on (part l.i l.end (listed l.cells.order)) × (length l.on ≡ 12)
