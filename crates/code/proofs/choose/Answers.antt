-- `code::choose` meets its contract. The invariant: the number is what is left, and those with coordinate i below v.
use mathlib.Core.Path.{◌≡◌}
use native.Mathlib.Omega.{arith}
use Rattle.code.specs.Tails.{having}
use Rattle.code.proofs.Steps.{none, more, counted, before_zero, before_more, before_all}
use Rattle.code.proofs.choose.Goals as goal

pub loop-v-init : goal.loop-v-init
loop-v-init c = (omega arith, omega (arith, before_zero c.args.counts.n c.args.i c.args.r), none c.requires.choosing)

pub loop-v-preserved : goal.loop-v-preserved
loop-v-preserved c =
    let count : c.tail-count.result ≡ having c.args.counts.n c.args.i c.args.r c.loop-v.v = counted _ c.loop-v.invariant.2 c.tail-count.ensures in (
      omega arith,
      omega (arith, count, before_more c.args.counts.n c.args.i c.args.r c.loop-v.v),
      more c.requires.choosing _ c.loop-v.invariant.2 c.residue_after-s.ensures,
    )

pub returns : goal.returns
returns c =
    let last : c.loop-v.v ≡ c.args.i = omega (arith, c.loop-v-test.false, c.loop-v.invariant.0) in
    let split = rw last at c.loop-v.invariant.1 in
    let owing = rw last at c.loop-v.invariant.2 in
    record {
      range = omega arith;
      split = omega (arith, split);
      left = omega (arith, split, c.requires.number_bound, before_all c.args.counts.n c.args.i c.args.r (omega arith), before_more c.args.counts.n c.args.i c.args.r c.args.i);
      residue = owing.right;
    }
