-- `lines::Text::put_levels` meets its contract.
use Rattle.lines.proofs.Commas.{Joining}
use Rattle.lines.proofs.Text.put_levels.Given as goal

abbrev pub invariant-loop-level : goal.invariant-loop-level
invariant-loop-level l = Joining l.initial.self l.level-items l.self l.mark l.level-index
