-- `push_up::is_within` meets its contract. The invariant: what is tested and what is left decide.
use Rattle.std.proofs.Common.{◌≡◌, leb, length, sym, ◌∙◌, arith, drop_of_length-le, rules}
use mathlib.Core.Bool.{and-true}
use Rattle.order.proofs.Bits.{zero_test}
use Rattle.group.specs.Levels.{at_most}
use Rattle.group.proofs.LevelRows.{at_most_gathered}
use Rattle.push_up.proofs.is_within.Goals as goal

pub loop-at-preserved : goal.loop-at-preserved
loop-at-preserved c =
    let twelve : (length c.args.levels ≡ 12) × (length c.args.caps ≡ 12) = (search rules, search rules) in
    let long = twelve in
    rw c.excess-over.ensures (at_most_gathered c.loop-at.at c.loop-at.over c.args.levels c.args.caps (omega (arith, long)) (omega (arith, long)) ∙ c.loop-at.invariant)

pub returns : goal.returns
unfolding at_most
returns c =
    let twelve : (length c.args.levels ≡ 12) × (length c.args.caps ≡ 12) = (search rules, search rules) in
    let levels = drop_of_length-le c.args.levels {i = c.loop-at.at} (omega (arith, twelve)) in
    let caps = drop_of_length-le c.args.caps {i = c.loop-at.at} (omega (arith, twelve)) in
    zero_test c.loop-at.over ∙ sym (and-true (leb c.loop-at.over 0)) ∙ rw (levels, caps) at c.loop-at.invariant
