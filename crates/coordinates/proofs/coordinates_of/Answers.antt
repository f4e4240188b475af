-- `coordinates::coordinates_of` meets its contract: its answer is a part of that of the sweep of all places.
use Rattle.std.proofs.Common.{rules}
use mathlib.Core.Path.{ap, ◌∙◌}
use Rattle.coordinates.proofs.Sweeping.{coordinates_part, coordinates_part_lem}
use Rattle.coordinates.proofs.coordinates_of.Goals as goal

pub returns : goal.returns
returns c =
    ap coordinates_part (rw c.in_ok-sweep_of.was at c.sweep_of.ensures) ∙ coordinates_part_lem c.args.o

pub returns-in_err-sweep_of : goal.returns-in_err-sweep_of
returns-in_err-sweep_of c =
    let refused = ap coordinates_part (rw c.in_err-sweep_of.was at c.sweep_of.ensures) ∙ coordinates_part_lem c.args.o in
    grind (refused, rules)
