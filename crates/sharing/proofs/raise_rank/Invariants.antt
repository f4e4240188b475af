-- `sharing::raise_rank` meets its contract. The loop's invariant: of the cells up to `c` those that are marked are on the rank.
use Prim.Native.Nat.{◌≤◌}
use mathlib.Core.Path.{◌≡◌}
use Rattle.sharing.specs.Steps.{rank_up}
use Rattle.sharing.proofs.raise_rank.Given as goal

abbrev pub invariant-loop-c : goal.invariant-loop-c
invariant-loop-c l =
    (l.c ≤ l.n) × (l.up ≡ rank_up l.c l.on l.old (record { levels = l.initial.up.levels; floor = l.floor; pulses = l.initial.up.pulses; count = l.initial.up.count; pushes = l.initial.up.pushes }))
