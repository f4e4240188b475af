-- What an answer says in the refusal table's terms determines the answer.
-- Assumes nothing.
use mathlib.Core.Path.{◌≡◌, refl, ap, sym}
use mathlib.Core.List.{List, [], ◌∷◌}
use lib.ListN.{get_or}
use Rattle.std.specs.Prelude.{⊤, Result, Ok, Err}
use Rattle.order.specs.declared.Order.{Order}
use Rattle.order.specs.Order.{no_order, told_order}
use Rattle.order.specs.declared.Refusal.{Refusal}
use Rattle.order.specs.declared.Refusal.TheVariants.{Size, NoGroup, NoCell, NoOrder, NoSymbol, Blank, Lost, Worn, CapUp, ListShort, Coordinate, BadRecord, RunLimit, NoRaise, RoomShort, NoPage, Measurement, RankSizes, Spent, Endurance, Seed}
use Rattle.order.specs.Refusals.{Told, told, outcome_number}
use Rattle.order.proofs.Refusals.{refusal_by_number, not-zero}

pub told_lem : {A : Type 0} (z : A) (a b : Result A Refusal) → told z a ≡ told z b → a ≡ b
told_lem z (Ok x) (Ok y) e = ap (λ (t : Told _). Ok t.value) e
told_lem z (Ok x) (Err s) e = absurd (not-zero s (sym (ap (λ (t : Told _). t.number) e)))
told_lem z (Err r) (Ok y) e = absurd (not-zero r (ap (λ (t : Told _). t.number) e))
told_lem z (Err r) (Err s) e = ap Err (refusal_by_number r s (ap (λ (t : Told _). t.number) e))

-- the outcomes in the order of their numbers: done, and the refusals. Each outcome stands at its number, so that no two have the same
outcomes : List (Result ⊤ Refusal)
outcomes = Ok _ ∷ Err Size ∷ Err NoGroup ∷ Err NoCell ∷ Err NoOrder ∷ Err NoSymbol ∷ Err Blank ∷ Err Lost ∷ Err Worn ∷ Err CapUp ∷ Err ListShort ∷ Err Coordinate ∷ Err BadRecord ∷ Err RunLimit ∷ Err NoRaise ∷ Err RoomShort ∷ Err NoPage ∷ Err Measurement ∷ Err RankSizes ∷ Err Spent ∷ Err Endurance ∷ Err Seed ∷ []

outcome_at : (o : Result ⊤ Refusal) → get_or outcomes (outcome_number o) (Ok _) ≡ o
unfolding outcomes
outcome_at (Ok x) = refl
outcome_at (Err Size) = refl
outcome_at (Err NoGroup) = refl
outcome_at (Err NoCell) = refl
outcome_at (Err NoOrder) = refl
outcome_at (Err NoSymbol) = refl
outcome_at (Err Blank) = refl
outcome_at (Err Lost) = refl
outcome_at (Err Worn) = refl
outcome_at (Err CapUp) = refl
outcome_at (Err ListShort) = refl
outcome_at (Err Coordinate) = refl
outcome_at (Err BadRecord) = refl
outcome_at (Err RunLimit) = refl
outcome_at (Err NoRaise) = refl
outcome_at (Err RoomShort) = refl
outcome_at (Err NoPage) = refl
outcome_at (Err Measurement) = refl
outcome_at (Err RankSizes) = refl
outcome_at (Err Spent) = refl
outcome_at (Err Endurance) = refl
outcome_at (Err Seed) = refl

-- the number of an answer with no result determines it: no two outcomes have the same number
pub outcome_by_number : (a b : Result ⊤ Refusal) → outcome_number a ≡ outcome_number b → a ≡ b
outcome_by_number (Ok x) (Ok y) e = refl
outcome_by_number (Ok x) (Err s) e = absurd (not-zero s (sym e))
outcome_by_number (Err r) (Ok y) e = absurd (not-zero r e)
outcome_by_number (Err r) (Err s) e = ap Err (refusal_by_number r s e)

pub told_order_lem : (a b : Result Order Refusal) → told_order a ≡ told_order b → a ≡ b
told_order_lem = told_lem no_order
