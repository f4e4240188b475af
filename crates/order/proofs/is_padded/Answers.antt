-- `order::is_padded` meets its contract. The loop's invariant: `over` is 0 where the numbers up to place `i` are padded.
use borrow.Author.Rules.{rules}
use mathlib.Core.Path.{refl}
use Rattle.order.proofs.Numbers.{length_mapped, length_places, place_at}
use Rattle.order.proofs.Spare.{padded_none, padded_more, padded_end}
use Rattle.order.proofs.is_padded.Goals as goal

pub loop-i-init : goal.loop-i-init
loop-i-init c = padded_none _ _ (length_places _ (search length_mapped)) c.requires

pub loop-i-preserved : goal.loop-i-preserved
loop-i-preserved c =
    rw c.bits_among-over.ensures (padded_more c.loop-i.invariant c.loop-i-test.true (place_at _ _) (search rules) refl)

pub returns : goal.returns
returns c = padded_end c.loop-i.invariant c.loop-i-test.false
