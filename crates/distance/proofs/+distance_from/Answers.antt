-- `distance::distance_from` meets its contract, by SD 003's theorem 1. The measure is n.
use borrow.Author.Rules.{rules}
use Prim.Native.Nat.{ℕ}
use native.Mathlib.Omega.{arith}
use mathlib.Core.Path.{ap, ◌∙◌}
use Rattle.order.specs.Cells.{place_of}
use Rattle.order.proofs.Numbers.{length_mapped, length_places, place_at}
use Rattle.distance.proofs.Step.{Step, place_first, place_last, next_listed, next_distance, next_small}
use Rattle.distance.proofs.+distance_from.Goals as goal
use Rattle.distance.proofs.+distance_from.Goals.{After-place-p}

-- the step that is taken
step : {t : ℕ} (c : After-place-p t) → Step c.args.u c.args.v c.args.n c.place-p.result
step c =
    record {
      both = c.requires;
      more = c.if-n-eq0.false;
      full_u = length_places _ (search length_mapped);
      full_v = length_places _ (search length_mapped);
      found = c.place-p.ensures ∙ ap (place_of _) (place_at _ _);
    }

pub overflow_sub-behind : goal.overflow_sub-behind
overflow_sub-behind t c = place_last (step (goal.at.overflow_sub-behind t c).After-place-p)

pub drop_at-requires : goal.drop_at-requires
drop_at-requires t c =
    let s = step (goal.at.drop_at-requires t c).After-place-p in
    let low = place_first s in
    let high = place_last s in
    search rules

pub distance_from-requires : goal.distance_from-requires
distance_from-requires t c = (omega arith, next_listed (step (goal.at.distance_from-requires t c).After-place-p) _ c.drop_at.ensures)

pub overflow_add-result : goal.overflow_add-result
overflow_add-result t c = omega (arith, c.distance_from.ensures, next_small (step (goal.at.overflow_add-result t c).After-place-p) _ c.drop_at.ensures)

pub returns : goal.returns
returns t c = omega (arith, c.distance_from.ensures, next_distance (step (goal.at.returns t c).After-place-p) _ c.drop_at.ensures)
