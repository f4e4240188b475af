-- `page::read_each` meets its contract. The loop's invariant: the first `i` groups are read, and their symbols are in place.
use Rattle.page.proofs.Pages.{ReadTo}
use Rattle.page.proofs.read_each.Given as goal

abbrev pub invariant-loop-i : goal.invariant-loop-i
invariant-loop-i l = ReadTo l.fn.page l.symbols l.i-counter
