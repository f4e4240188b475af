-- `sharing::are_sizes` meets its contract. The loop's invariant: the places that are left decide.
use borrow.Author.Rules.{rules}
use borrow.Author.Tests.{lt-leb, le-leb}
use Prim.Native.Nat.{◌-◌}
use mathlib.Core.Path.{◌≡◌, sym, ◌∙◌}
use native.Mathlib.Nat.{zero-add}
use native.Mathlib.Omega.{arith}
use lib.ListN.{length, get_or}
use Rattle.std.proofs.Common.{Fits, w8}
use Rattle.sharing.specs.Shared.{is_sizes}
use Rattle.sharing.proofs.Loops.{left_next, left_stop, left_end}
use Rattle.sharing.proofs.are_sizes.Goals as goal

pub returns-then-target-gt12 : goal.returns-then-target-gt12
unfolding is_sizes
returns-then-target-gt12 c = rw (lt-leb c.args.target.count 12 c.if-target-gt12.true)

pub loop-i-init : goal.loop-i-init
unfolding is_sizes
loop-i-init c =
    let all : c.args.target.count - 0 ≡ c.args.target.count = omega arith in
    (omega arith, omega arith, rw (le-leb c.args.target.count 12 (omega (arith, c.if-target-gt12.false)), all, zero-add))

pub returns-then-not-is_place : goal.returns-then-not-is_place
returns-then-not-is_place c =
    let twelve : length c.args.target.sizes ≡ 12 = search rules in
    sym (left_stop c.args.target.count c.loop-i.total c.args.n c.loop-i.i c.args.target.sizes (omega (arith, twelve, c.loop-i-test.true)) (sym c.is_place.ensures ∙ c.if-not-is_place.true)) ∙ c.loop-i.invariant.2

pub loop-i-preserved : goal.loop-i-preserved
loop-i-preserved c =
    let twelve : length c.args.target.sizes ≡ 12 = search rules in
    let byte : Fits w8 (get_or c.args.target.sizes c.loop-i.i 0) = search rules in (
      search rules,
      omega (arith, byte.fits, c.from-total.ensures, c.loop-i.invariant.1),
      rw c.from-total.ensures (left_next c.args.target.count c.loop-i.total c.args.n c.loop-i.i c.args.target.sizes (omega (arith, twelve, c.loop-i-test.true)) (sym c.is_place.ensures ∙ c.if-not-is_place.false)) ∙ c.loop-i.invariant.2,
    )

pub returns : goal.returns
returns c =
    let twelve : length c.args.target.sizes ≡ 12 = search rules in
    sym (left_end (c.args.target.count - c.loop-i.i) c.loop-i.total c.args.n c.loop-i.i c.args.target.sizes (omega (arith, twelve, c.loop-i-test.false))) ∙ c.loop-i.invariant.2
