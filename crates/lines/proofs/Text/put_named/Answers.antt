-- `lines::Text::put_named` meets its contract.
use Prim.Native.Nat.{◌+◌, ◌^◌}
use native.Mathlib.Omega.{arith}
use lib.ListN.{length}
use Rattle.lines.proofs.Adds.{adds_in, adds_join}
use Rattle.lines.proofs.Decimal.{short}
use Rattle.lines.proofs.Text.put_named.Goals as goal

pub put_number-requires : goal.put_number-requires
put_number-requires c = omega (arith, short 19 (2 ^ 64) c.ranges.n.fits tt)

pub put-requires-2 : goal.put-requires-2
put-requires-2 c = omega (arith, short 19 (2 ^ 64) c.ranges.n.fits tt)

pub returns : goal.returns
returns c =
    adds_join (omega arith) (adds_join {m = length c.args.word.now + 20} (omega arith) c.put.ensures (adds_in (short 19 (2 ^ 64) c.ranges.n.fits tt) c.put_number.ensures)) c.put-2.ensures
