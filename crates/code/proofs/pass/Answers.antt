-- `code::pass` meets its contract. The invariant: the count is that of the words with coordinate i below u.
use mathlib.Core.Path.{◌≡◌, sym}
use native.Mathlib.Omega.{arith}
use Rattle.code.specs.Tails.{having}
use Rattle.code.proofs.Rule.{tails_fit}
use Rattle.code.proofs.Steps.{none, more, counted, before_zero, before_more, before_next}
use Rattle.code.proofs.pass.Goals as goal

pub loop-u-init : goal.loop-u-init
loop-u-init c = (omega arith, sym (before_zero _ _ _), none c.requires.choosing)

pub overflow_add-count : goal.overflow_add-count
overflow_add-count c =
    let read : c.tail-count.result ≡ having c.args.counts.n c.args.i c.args.r c.loop-u.u = counted _ c.loop-u.invariant.2 c.tail-count.ensures in
    omega (
      arith,
      read,
      before_next c.args.counts.n c.args.i c.args.r (omega arith) c.loop-u.u (omega arith),
      tails_fit c.args.counts.n c.args.i c.args.r (omega arith) (omega arith),
    )

pub loop-u-preserved : goal.loop-u-preserved
loop-u-preserved c =
    let read : c.tail-count.result ≡ having c.args.counts.n c.args.i c.args.r c.loop-u.u = counted _ c.loop-u.invariant.2 c.tail-count.ensures in (
      omega arith,
      omega (arith, read, before_more c.args.counts.n c.args.i c.args.r c.loop-u.u),
      more c.requires.choosing _ c.loop-u.invariant.2 c.residue_after-s.ensures,
    )
