-- `code::number` meets its contract, by the invariant of Summing.
use mathlib.Core.Path.{◌≡◌}
use native.Mathlib.Omega.{arith}
use borrow.Author.Rules.{rules}
use Rattle.decoder.specs.Decoding.{modulus}
use Rattle.code.specs.Tails.{owed, before}
use Rattle.code.proofs.Scanning.{at}
use Rattle.code.proofs.Summing.{cells, start, step, end, choosing, sum_fits}
use Rattle.code.proofs.number.Goals as goal

pub loop-i-init : goal.loop-i-init
loop-i-init c = start _ (search rules) c.requires.0 c.requires.1

pub pass-passed-requires-clause-v_le_i : goal.pass-passed-requires-clause-v_le_i
pass-passed-requires-clause-v_le_i c =
    let (place, range) = choosing _ _ _ _ c.loop-i.invariant (omega arith) in
    omega arith

pub overflow_add-sum : goal.overflow_add-sum
overflow_add-sum c =
    let passed : (c.pass-passed.result.count ≡ before (cells c.args.x) c.loop-i.i c.loop-i.r (at c.args.x c.loop-i.i)) × (c.pass-passed.result.residue ≡ owed (modulus (cells c.args.x)) c.loop-i.i c.loop-i.r (at c.args.x c.loop-i.i)) = rw (c.new-counts.ensures, c.from-v.ensures) at c.pass-passed.ensures in
    omega (arith, sum_fits _ _ _ _ c.loop-i.invariant (omega arith), passed)

pub loop-i-preserved : goal.loop-i-preserved
loop-i-preserved c =
    let passed : (c.pass-passed.result.count ≡ before (cells c.args.x) c.loop-i.i c.loop-i.r (at c.args.x c.loop-i.i)) × (c.pass-passed.result.residue ≡ owed (modulus (cells c.args.x)) c.loop-i.i c.loop-i.r (at c.args.x c.loop-i.i)) = rw (c.new-counts.ensures, c.from-v.ensures) at c.pass-passed.ensures in
    step _ _ _ _ c.loop-i.invariant (omega arith) _ _ passed.0 passed.1

pub returns : goal.returns
returns c = end _ _ _ _ c.loop-i.invariant (omega arith)
