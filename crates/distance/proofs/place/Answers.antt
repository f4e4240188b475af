-- `distance::place` meets its contract. The loop's invariant: the cells passed are not c.
use Prim.Native.Nat.{◌<◌}
use native.Mathlib.Omega.{arith}
use mathlib.Core.Path.{sym, ◌∙◌}
use Rattle.std.proofs.lemmas.Bool.{eqb-true, eqb-false}
use Rattle.order.proofs.Numbers.{length_mapped, length_places}
use Rattle.distance.proofs.Search.{front_long, front_at, passed_none, passed_here, passed_more, passed_all}
use Rattle.distance.proofs.place.Goals as goal

pub loop-i-init : goal.loop-i-init
loop-i-init c = passed_none _ _ _ (omega (arith, length_places c.args.o (search length_mapped)))

pub returns-then-eq : goal.returns-then-eq
returns-then-eq c =
    let l : c.loop-i.i < c.args.n = omega (arith, c.loop-i-test.true, front_long c.args.o c.args.n c.loop-i.invariant.fits) in
    passed_here c.loop-i.invariant l (front_at c.args.o c.args.n c.loop-i.invariant.fits _ l) (eqb-true _ _ (sym c.eq.ensures ∙ c.if-eq.true))

pub loop-i-preserved : goal.loop-i-preserved
loop-i-preserved c =
    let l : c.loop-i.i < c.args.n = omega (arith, c.loop-i-test.true, front_long c.args.o c.args.n c.loop-i.invariant.fits) in
    passed_more c.loop-i.invariant l (front_at c.args.o c.args.n c.loop-i.invariant.fits _ l) (eqb-false _ _ (sym c.eq.ensures ∙ c.if-eq.false))

pub returns : goal.returns
returns c = passed_all c.loop-i.invariant (omega (arith, c.loop-i-test.false, front_long c.args.o c.args.n c.loop-i.invariant.fits))
