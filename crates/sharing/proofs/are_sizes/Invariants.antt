-- `sharing::are_sizes` meets its contract. The loop's invariant: the places that are left decide.
use Prim.Native.Nat.{◌*◌, ◌-◌, ◌≤◌}
use mathlib.Core.Path.{◌≡◌}
use lib.ListN.{drop}
use Rattle.sharing.specs.Shared.{is_sizes}
use Rattle.sharing.proofs.Loops.{sizes_left}
use Rattle.sharing.proofs.are_sizes.Given as goal

abbrev pub invariant-loop-i : goal.invariant-loop-i
invariant-loop-i l =
    (l.i ≤ 12) × (l.total ≤ 255 * l.i) × (sizes_left (l.fn.target.count - l.i) l.total l.n (drop l.i l.fn.target.sizes) ≡ is_sizes l.n l.fn.target)
