-- The refusal table: what a number tells, and how an answer follows from its checks.
-- Assumes nothing.
use Prim.Native.Nat.{ℕ, zero, suc, ◌≤◌, ◌<◌}
use native.Mathlib.Omega.{arith}
use mathlib.Core.Path.{◌≡◌, refl, sym, ap, ◌∙◌}
use mathlib.Core.Bool.{Bool, true, false, and-false}
use mathlib.Core.List.{List, [], ◌∷◌, ◌++◌}
use lib.Dec.{leb}
use lib.ListN.{get_or}
use borrow.Author.Tests.{leb-true, le-leb, lt-leb}
use Rattle.order.specs.declared.Refusal.{Refusal}
use Rattle.order.specs.declared.Refusal.TheVariants.{Size, NoGroup, NoCell, NoOrder, NoSymbol, Blank, Lost, Worn, CapUp, ListShort, Coordinate, BadRecord, RunLimit, NoRaise, RoomShort, NoPage, Measurement, RankSizes, Spent, Endurance, Seed}
use Rattle.std.specs.Prelude.{Result, Ok, Err}
use Rattle.order.specs.Refusals.{refusal_number, outcome_number, number_of, if_done, answer, is_size}
use Rattle.order.proofs.Cells.{both}

-- ---- the number determines the refusal

refusals : List Refusal
refusals = Size ∷ Size ∷ NoGroup ∷ NoCell ∷ NoOrder ∷ NoSymbol ∷ Blank ∷ Lost ∷ Worn ∷ CapUp ∷ ListShort ∷ Coordinate ∷ BadRecord ∷ RunLimit ∷ NoRaise ∷ RoomShort ∷ NoPage ∷ Measurement ∷ RankSizes ∷ Spent ∷ Endurance ∷ Seed ∷ []

refusal_at : (r : Refusal) → get_or refusals (refusal_number r) Size ≡ r
unfolding refusals
refusal_at Size = refl
refusal_at NoGroup = refl
refusal_at NoCell = refl
refusal_at NoOrder = refl
refusal_at NoSymbol = refl
refusal_at Blank = refl
refusal_at Lost = refl
refusal_at Worn = refl
refusal_at CapUp = refl
refusal_at ListShort = refl
refusal_at Coordinate = refl
refusal_at BadRecord = refl
refusal_at RunLimit = refl
refusal_at NoRaise = refl
refusal_at RoomShort = refl
refusal_at NoPage = refl
refusal_at Measurement = refl
refusal_at RankSizes = refl
refusal_at Spent = refl
refusal_at Endurance = refl
refusal_at Seed = refl

pub refusal_by_number : (r s : Refusal) → refusal_number r ≡ refusal_number s → r ≡ s
refusal_by_number r s e = sym (refusal_at r) ∙ ap (λ (k : ℕ). get_or refusals k Size) e ∙ refusal_at s

-- no refusal has the number 0
pub not-zero : (r : Refusal) → refusal_number r ≡ 0 → ⊥
not-zero Size e = omega arith
not-zero NoGroup e = omega arith
not-zero NoCell e = omega arith
not-zero NoOrder e = omega arith
not-zero NoSymbol e = omega arith
not-zero Blank e = omega arith
not-zero Lost e = omega arith
not-zero Worn e = omega arith
not-zero CapUp e = omega arith
not-zero ListShort e = omega arith
not-zero Coordinate e = omega arith
not-zero BadRecord e = omega arith
not-zero RunLimit e = omega arith
not-zero NoRaise e = omega arith
not-zero RoomShort e = omega arith
not-zero NoPage e = omega arith
not-zero Measurement e = omega arith
not-zero RankSizes e = omega arith
not-zero Spent e = omega arith
not-zero Endurance e = omega arith
not-zero Seed e = omega arith

-- a number that is not 0 picks the zeros
pub picked_zeros : {A : Type 0} (k : ℕ) (result zeros : A) → (k ≡ 0 → ⊥) → if_done k result zeros ≡ zeros
picked_zeros zero result zeros r = absurd (r refl)
picked_zeros (suc k) result zeros r = refl

pub refused_zeros : {A : Type 0} (r : Refusal) (result zeros : A) → if_done (refusal_number r) result zeros ≡ zeros
refused_zeros r result zeros = picked_zeros (refusal_number r) result zeros (not-zero r)

-- ---- checks

-- the first check decides where it does not hold, the later ones where it does, and none refuses
module _ (r : Refusal) (later : List (Bool × Refusal)) {b : Bool} where
  pub check_fails : b ≡ false → number_of ((b, r) ∷ later) ≡ refusal_number r
  unfolding number_of
  check_fails e = rw e

  pub check_holds : b ≡ true → number_of ((b, r) ∷ later) ≡ number_of later
  unfolding number_of
  check_holds e = rw e

pub all_hold : number_of [] ≡ 0
unfolding number_of
all_hold = refl

-- a check of a call that is done held, and so did the later ones
pub check_held : (b : Bool) (r : Refusal) (later : List (Bool × Refusal)) → number_of ((b, r) ∷ later) ≡ 0 → (b ≡ true) × (number_of later ≡ 0)
unfolding number_of
check_held true r later e = (refl, e)
check_held false r later e = absurd (not-zero r e)

-- of checks that come first and checks that come later, the first decide where one of them refuses, the later where none does
module _ (later : List (Bool × Refusal)) where
  pub later_decide : (first : List (Bool × Refusal)) → number_of first ≡ 0 → number_of (first ++ later) ≡ number_of later
  unfolding number_of
  later_decide [] e = refl
  later_decide ((true, r) ∷ first) e = later_decide first e
  later_decide ((false, r) ∷ first) e = absurd (not-zero r e)

  pub first_decide : (first : List (Bool × Refusal)) → (number_of first ≡ 0 → ⊥) → number_of (first ++ later) ≡ number_of first
  unfolding number_of
  first_decide [] f = absurd (f refl)
  first_decide ((true, r) ∷ first) f = first_decide first f
  first_decide ((false, r) ∷ first) f = refl

  pub refused_first : (first : List (Bool × Refusal)) (r : Refusal) → number_of first ≡ refusal_number r → number_of (first ++ later) ≡ refusal_number r
  refused_first first r e = first_decide first (λ z. not-zero r (sym e ∙ z)) ∙ e

  pub all_held : (first : List (Bool × Refusal)) → number_of (first ++ later) ≡ 0 → (number_of first ≡ 0) × (number_of later ≡ 0)
  unfolding number_of
  all_held [] e = (refl, e)
  all_held ((true, r) ∷ first) e = all_held first e
  all_held ((false, r) ∷ first) e = absurd (not-zero r e)

  -- the outcome of the first checks, passed on as that of all
  pub outcome_first : (first : List (Bool × Refusal)) {A : Type 0} {o : Result A Refusal} {r : Refusal} → outcome_number o ≡ number_of first → o ≡ Err r → outcome_number o ≡ number_of (first ++ later)
  outcome_first first {r = r} e d = ap outcome_number d ∙ sym (refused_first first r (sym e ∙ ap outcome_number d))

-- ---- answers

module _ {A : Type 0} (checks : List (Bool × Refusal)) (result zeros : A) where
  pub told_done : number_of checks ≡ 0 → record { number = 0; value = result } ≡ answer checks result zeros
  unfolding answer
  told_done e = rw e

  pub told_refused : (r : Refusal) → number_of checks ≡ refusal_number r → record { number = refusal_number r; value = zeros } ≡ answer checks result zeros
  unfolding answer
  told_refused r e = rw (e, refused_zeros r result zeros)

  -- an outcome of the same checks, passed on
  pub passed_on : {B : Type 0} (o : Result B Refusal) → outcome_number o ≡ number_of checks → (r : Refusal) → o ≡ Err r → record { number = outcome_number o; value = zeros } ≡ answer checks result zeros
  passed_on o e r d = rw d (told_refused r (sym e ∙ ap outcome_number d))

pub accepted : {A : Type 0} {o : Result A Refusal} {x : A} {k : ℕ} → outcome_number o ≡ k → o ≡ Ok x → k ≡ 0
accepted e d = sym e ∙ ap outcome_number d

-- ---- the size

pub size_true : (n : ℕ) → is_size n ≡ true → (3 ≤ n) × (n ≤ 12)
size_true n e = let t = both (leb 3 n) (leb n 12) e in (leb-true 3 n t.0, leb-true n 12 t.1)

pub size_low : (n : ℕ) → n < 3 → is_size n ≡ false
size_low n l = rw (lt-leb 3 n l)

pub size_high : (n : ℕ) → 12 < n → is_size n ≡ false
size_high n h = rw (lt-leb n 12 h, and-false)

pub size_in : (n : ℕ) → 3 ≤ n → n ≤ 12 → is_size n ≡ true
size_in n l h = rw (le-leb 3 n l, le-leb n 12 h)

-- a size and one more check: that they hold, and what they tell
pub sized_holds : (n : ℕ) (b : Bool) (r : Refusal) → 3 ≤ n → n ≤ 12 → b ≡ true → number_of ((is_size n, Size) ∷ (b, r) ∷ []) ≡ 0
sized_holds n b r l h e = check_holds _ _ (size_in n l h) ∙ check_holds _ _ e ∙ all_hold

pub sized_done : (n : ℕ) (b : Bool) (r : Refusal) → number_of ((is_size n, Size) ∷ (b, r) ∷ []) ≡ 0 → (3 ≤ n) × (n ≤ 12) × (b ≡ true)
sized_done n b r e =
    let s = check_held (is_size n) Size ((b, r) ∷ []) e in
    let l = size_true n s.0 in
    (l.0, l.1, (check_held b r [] s.1).0)
