-- `push_up::is_within` meets its contract. The invariant: what is tested and what is left decide.
use Rattle.std.proofs.Common.{◌≡◌, ◌&&◌, leb, drop}
use Rattle.group.specs.Levels.{at_most}
use Rattle.push_up.proofs.is_within.Given as goal

abbrev pub invariant-loop-at : goal.invariant-loop-at
invariant-loop-at l = (leb l.over 0 && at_most (drop l.at l.levels) (drop l.at l.caps)) ≡ at_most l.levels l.caps
