-- `cell_run::all_at_most` meets its contract. The invariant: what is tested and what is left decide.
use mathlib.Core.Path.{◌≡◌}
use mathlib.Core.Bool.{◌&&◌}
use lib.Dec.{leb}
use lib.ListN.{drop}
use Rattle.group.specs.Record.{all_at_most}
use Rattle.cell_run.proofs.all_at_most.Given as goal

abbrev pub invariant-loop-level : goal.invariant-loop-level
invariant-loop-level l = (leb l.over 0 && all_at_most l.highest (drop l.level-index l.levels)) ≡ all_at_most l.highest l.levels
