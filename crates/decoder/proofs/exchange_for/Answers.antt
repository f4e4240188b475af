-- `decoder::exchange_for` meets its contract, by the invariant of Looking.
use native.Mathlib.Omega.{arith}
use mathlib.Core.Path.{sym, ◌∙◌}
use Rattle.order.proofs.Numbers.{length_mapped}
use Rattle.order.proofs.Records.{passed}
use Rattle.decoder.proofs.Looking.{looking_none, looking_low, looking_found, looking_more, looking_all}
use Rattle.decoder.proofs.Neighbours.{Neighbours, cells_read}
use Rattle.decoder.proofs.exchange_for.Goals as goal
use Rattle.decoder.proofs.exchange_for.Goals.{After-number-below}

-- the two cells that are read
pair : (c : After-number-below) → Neighbours c.args.o c.loop-k.k c.number-above.result c.number-below.result
pair c = record {
  place = record { passed = c.loop-k.invariant.misread.passed; first = c.loop-k.invariant.first; last = c.loop-k-test.true };
  above = c.number-above.ensures;
  below = c.number-below.ensures;
}

pub loop-k-init : goal.loop-k-init
loop-k-init c = looking_none _ _ c.requires (search length_mapped)

pub bounds-o-k : goal.bounds-o-k
bounds-o-k c = omega (arith, c.loop-k-test.true, (passed c.args.o c.requires.passed).1)

pub bounds-o-k-in-loop-k : goal.bounds-o-k-in-loop-k
bounds-o-k-in-loop-k c = omega (arith, c.loop-k-test.true, (passed c.args.o c.requires.passed).1)

pub corrects-requires : goal.corrects-requires
corrects-requires c =
    let ((p, q), (r, s), _) = cells_read (pair c) in
    (omega arith, (passed c.args.o c.requires.passed).1, looking_low c.loop-k.invariant, p, q, r, s)

pub returns-then-corrects : goal.returns-then-corrects
returns-then-corrects c = looking_found c.loop-k.invariant (pair (goal.at.returns-then-corrects c).After-number-below) (sym c.corrects.ensures ∙ c.if-corrects.true)

pub loop-k-preserved : goal.loop-k-preserved
loop-k-preserved c = looking_more c.loop-k.invariant (pair (goal.at.loop-k-preserved c).After-number-below) (sym c.corrects.ensures ∙ c.if-corrects.false)

pub returns : goal.returns
returns c = looking_all c.loop-k.invariant c.loop-k-test.false
