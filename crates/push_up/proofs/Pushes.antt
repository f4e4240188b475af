-- How many pushes a program has, and their pulses.
-- Assumes nothing.
use Rattle.std.proofs.Common.{◌≡◌, ℕ, ◌+◌, ◌-◌, ◌<◌, ◌≤◌, max, List, [], ◌∷◌, ◌++◌, length, refl, ⊎_elim, le_refl, arith, length-append, le-ltb, lt-ltb}
use native.Mathlib.Nat.{max-zero}
use Rattle.order.proofs.Cells.{lt_cases}
use Rattle.group.specs.Levels.{level}
use Rattle.push_up.specs.declared.Push.{Push}
use Rattle.push_up.specs.PushUp.{singles, floor_over, raise, push_of, rank_pushes, pushes, pulses_in}

-- the push of a cell that rises, and none of one that keeps its level
pub push_of_lem : (c old new : ℕ) → old < new → push_of c old new ≡ record { cell = record { 0 = c }; start = old; reach = new } ∷ []
unfolding push_of
push_of_lem c old new l = rw (lt-ltb old new l)

pub push_none : (c old : ℕ) → push_of c old old ≡ []
unfolding push_of
push_none c old = rw (le-ltb old old (le_refl old))

-- what holds of one push where the cell rises, and of none where it does not
pub push_cases : (P : List Push → Type 0) (c old new : ℕ) → (old < new → P (record { cell = record { 0 = c }; start = old; reach = new } ∷ [])) → (new ≤ old → P [])
    → P (push_of c old new)
unfolding push_of
push_cases P c old new rises keeps = ⊎_elim (λ t. rw t.1 (rises t.0)) (λ t. rw t.1 (keeps t.0)) (lt_cases old new)

-- what it adds: at most one to their number, and its rise to the pulses
push_few : (c old new : ℕ) → length (push_of c old new) ≤ 1
push_few c old new = push_cases (λ ps. length ps ≤ 1) c old new (λ l. omega arith) (λ l. omega arith)

push_pulses : (c old new : ℕ) → pulses_in (push_of c old new) ≡ new - old
unfolding pulses_in
push_pulses c old new = push_cases (λ ps. pulses_in ps ≡ new - old) c old new (λ l. omega arith) (λ l. omega arith)

pulses_append : (ps qs : List Push) → pulses_in (ps ++ qs) ≡ pulses_in ps + pulses_in qs
unfolding pulses_in
pulses_append [] qs = omega arith
pulses_append (p ∷ ps) qs = omega (arith, pulses_append ps qs)

pub pulses_more : (ps : List Push) (c old new : ℕ) → pulses_in (ps ++ push_of c old new) ≡ pulses_in ps + (new - old)
pulses_more ps c old new = omega (arith, pulses_append ps (push_of c old new), push_pulses c old new)

-- ---- how many

-- the cells above the lowest rank
abbrev pub cells_above : List (List ℕ) → ℕ
cells_above [] = 0
cells_above (r ∷ []) = 0
cells_above (r ∷ s ∷ rs) = length r + cells_above (s ∷ rs)

rank_few : (old : List ℕ) (f : ℕ) (r : List ℕ) → length (rank_pushes old f r) ≤ length r
unfolding rank_pushes
rank_few old f [] = omega arith
rank_few old f (c ∷ cs) =
    let new = max (level old c) f in
    omega (arith, length-append (rank_pushes old f cs) (push_of c (level old c) new), push_few c (level old c) new, rank_few old f cs)

rank_none : (old r : List ℕ) → rank_pushes old 0 r ≡ []
unfolding rank_pushes
rank_none old [] = refl
rank_none old (c ∷ cs) = rw (rank_none old cs, max-zero, push_none c (level old c))

-- no cell of the lowest rank is pushed
pub few_pushes : (gap : ℕ) (old : List ℕ) (rs : List (List ℕ)) → length (pushes gap rs old) ≤ cells_above rs
unfolding pushes floor_over raise
few_pushes gap old [] = omega arith
few_pushes gap old (r ∷ []) = rw (rank_none old r) (omega arith)
few_pushes gap old (r ∷ s ∷ rs) =
    let f = floor_over gap (s ∷ rs) (raise gap (s ∷ rs) old) in
    omega (arith, length-append (pushes gap (s ∷ rs) old) (rank_pushes old f r), rank_few old f r, few_pushes gap old (s ∷ rs))

pub singles_above : (cs : List ℕ) → cells_above (singles cs) ≡ length cs - 1
unfolding singles
singles_above [] = refl
singles_above (c ∷ []) = refl
singles_above (c ∷ d ∷ ds) = omega (arith, singles_above (d ∷ ds))
