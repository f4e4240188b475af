-- `lines::Text::put_number` and `lines::put_long` meet their contracts. The measure is the number, twice: the method comes before the function.
use Prim.Native.Nat.{◌+◌, ◌*◌}
use Rattle.lines.proofs.+number.Given as goal

abbrev pub decreases-Text::put_number : goal.decreases-Text::put_number
decreases-Text::put_number l = 2 * l.n + 1

abbrev pub decreases-put_long : goal.decreases-put_long
decreases-put_long l = 2 * l.n
