-- `decoder::nearest` meets its contract.
use Rattle.std.proofs.Common.{rules}
use native.Mathlib.Omega.{arith}
use mathlib.Core.Path.{◌≡◌, refl, sym, ap, ◌∙◌}
use Rattle.std.specs.Prelude.{Ok, Err}
use Rattle.std.specs.Option.{ok_or}
use Rattle.order.specs.declared.Refusal.TheVariants.{Lost}
use Rattle.order.specs.Order.{listed}
use Rattle.order.proofs.Numbers.{length_mapped}
use Rattle.order.proofs.Records.{passed}
use Rattle.decoder.specs.Decoding.{correction}
use Rattle.decoder.specs.Steps.{Exchangeable, below_only}
use Rattle.decoder.proofs.Looking.{place_some, place_none}
use Rattle.decoder.proofs.ZeroSyndrome.{sweep_refused, sweep_passed, same_coordinates, passed_size}
use Rattle.decoder.proofs.NearestWord.{nearest_refused, nearest_lost, nearest_clean, nearest_put_right, swept_clean, swept_misread, swept_place}
use Rattle.decoder.proofs.nearest.Goals as goal
use Rattle.decoder.proofs.nearest.Goals.{In_ok-sweep, In_ok-k}

-- the place of the exchange that is found
found : (c : In_ok-k) → Ok c.in_ok-k.k ≡ ok_or (below_only c.args.o.len (correction c.args.o.len (listed c.args.o))) Lost
found c = sym c.in_ok-k.was ∙ c.ok_or.ensures.value ∙ ap (λ x. ok_or x Lost) c.exchange_for.ensures

at_place : (c : In_ok-k) → Exchangeable c.args.o c.in_ok-k.k
at_place c = swept_place _ _ c.in_ok-sweep.ensures c.syndrome-s.ensures (omega (arith, c.if-s-eq0.false)) (found c)

pub returns-in_err-sweep : goal.returns-in_err-sweep
returns-in_err-sweep c =
    let o = c.args.o in
    let refused = nearest_refused o c.in_err-sweep.field-0.0 (sweep_refused o o.len c.in_err-sweep.field-0.0 c.in_err-sweep.ensures) in
    grind (refused, rules)

pub syndrome-s-requires : goal.syndrome-s-requires
syndrome-s-requires c = passed_size _ (sweep_passed _ _ _ c.in_ok-sweep.ensures)

-- the syndrome is 0
pub returns-then-s-eq0 : goal.returns-then-s-eq0
returns-then-s-eq0 c =
    let clean = swept_clean _ _ c.in_ok-sweep.ensures c.syndrome-s.ensures c.if-s-eq0.true in
    nearest_clean _ (sweep_passed _ _ _ c.in_ok-sweep.ensures) (search length_mapped) clean refl (same_coordinates _ _ _ c.in_ok-sweep.ensures (omega arith))

-- it is not
pub exchange_for-requires : goal.exchange_for-requires
exchange_for-requires c = swept_misread _ _ c.in_ok-sweep.ensures c.syndrome-s.ensures (omega (arith, c.if-s-eq0.false))

pub returns-in_err-k : goal.returns-in_err-k
returns-in_err-k c =
    let o = c.args.o in
    let e : Err c.in_err-k.field-0.0 ≡ ok_or (below_only o.len (correction o.len (listed o))) Lost = sym c.in_err-k.was ∙ c.ok_or.ensures.value ∙ ap (λ x. ok_or x Lost) c.exchange_for.ensures in
    let (refusal, far) = place_none o.len (correction o.len (listed o)) e in
    let lost = nearest_lost o (sweep_passed _ _ _ c.in_ok-sweep.ensures) far in
    grind (refusal, lost, rules)

pub overflow_cast-place : goal.overflow_cast-place
overflow_cast-place c = let e = at_place c in omega (arith, e.last, (passed c.args.o e.passed).1)

pub exchanged-word-requires : goal.exchanged-word-requires
exchanged-word-requires c = at_place c

pub corrected_coordinates-requires : goal.corrected_coordinates-requires
corrected_coordinates-requires c =
    (at_place (goal.at.corrected_coordinates-requires c).In_ok-k, same_coordinates _ _ _ c.in_ok-sweep.ensures (omega arith))

pub returns : goal.returns
returns c =
    let (place, low) = place_some _ _ (found (goal.at.returns c).In_ok-k) in
    nearest_put_right _ (sweep_passed _ _ _ c.in_ok-sweep.ensures) _ place low _ c.exchanged-word.ensures _ c.corrected_coordinates.ensures
