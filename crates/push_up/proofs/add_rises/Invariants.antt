-- `push_up::add_rises` meets its contract. The invariant: the rises passed are added.
use Rattle.std.proofs.Common.{◌≡◌, true}
use Rattle.group.specs.Record.{is_endurance}
use Rattle.push_up.proofs.Rises.{Adding}
use Rattle.push_up.proofs.add_rises.Given as goal

-- where the endurance is in its range
abbrev pub invariant-loop-i : goal.invariant-loop-i
invariant-loop-i l = is_endurance l.endurance ≡ true → Adding l.endurance l.used l.old l.new l.sums l.over l.i
