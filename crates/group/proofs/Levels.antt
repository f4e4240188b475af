-- Laws of levels and caps: reading after a change, the cellwise order, sums and rises.
-- Assumes nothing.
use Rattle.std.proofs.Common.{◌≡◌, ℕ, zero, suc, ◌+◌, ◌-◌, ◌<◌, ◌≤◌, true, leb, ◌≢◌, List, [], ◌∷◌, length, get_or, set, refl, ap, le_trans, le_refl, le_of_suc-le-suc, not-suc-le-zero, arith, get_or-set_other, get_or-set_same, le-leb, leb-true}
use mathlib.Core.Bool.{false≢true}
use lib.Seq.{set-get_or}
use Rattle.order.proofs.Cells.{both}
use Rattle.group.specs.Levels.{level, put, AtMost, empty, more, at_most, rises, leaked, sum}

-- ---- reading, and reading after a change

pub level_next : (ls : List ℕ) (c : ℕ) → level ls (suc c) ≡ get_or ls c 0
unfolding level
level_next ls c = let e : suc c - 1 ≡ c = omega arith in rw e

pub level_put : (ls : List ℕ) (c v : ℕ) → c - 1 < length ls → level (put ls c v) c ≡ v
unfolding level put
level_put ls c v h = get_or-set_same ls (c - 1) v 0 h

pub level_put_other : (ls : List ℕ) (c d v : ℕ) → d - 1 ≢ c - 1 → level (put ls c v) d ≡ level ls d
unfolding level put
level_put_other ls c d v h = get_or-set_other ls (c - 1) (d - 1) v 0 h

-- a cell set to its own level
pub put_same : (ls : List ℕ) (c : ℕ) → put ls c (level ls c) ≡ ls
unfolding put level
put_same ls c = set-get_or ls (c - 1) 0

-- what holds of a level, and of the one that a cell is set to, holds still
pub get_d_set_each : (P : ℕ → Type 0) (xs : List ℕ) (i j v : ℕ) → P v → P (get_or xs j 0) → P (get_or (set xs i v) j 0)
get_d_set_each P [] i j v h k = k
get_d_set_each P (x ∷ xs) zero zero v h k = h
get_d_set_each P (x ∷ xs) zero (suc j) v h k = k
get_d_set_each P (x ∷ xs) (suc i) zero v h k = k
get_d_set_each P (x ∷ xs) (suc i) (suc j) v h k = get_d_set_each P xs i j v h k

pub level_put_least : (ls : List ℕ) (c d v f : ℕ) → f ≤ v → f ≤ level ls d → f ≤ level (put ls c v) d
unfolding level put
level_put_least ls c d v f h k = get_d_set_each (λ x. f ≤ x) ls (c - 1) (d - 1) v h k

-- ---- the cellwise order

pub at_most_refl : (xs : List ℕ) → AtMost xs xs
at_most_refl [] = empty
at_most_refl (x ∷ xs) = more (le_refl x) (at_most_refl xs)

pub at_most_trans : {xs ys zs : List ℕ} → AtMost xs ys → AtMost ys zs → AtMost xs zs
at_most_trans empty q = q
at_most_trans (more h p) (more k q) = more (le_trans h k) (at_most_trans p q)

pub at_most_antisym : {xs ys : List ℕ} → AtMost xs ys → AtMost ys xs → xs ≡ ys
at_most_antisym empty empty = refl
at_most_antisym (more {x = x} {y = y} h p) (more k q) =
    let same : x ≡ y = omega arith in
    rw (same, at_most_antisym p q)

pub at_most_length : {xs ys : List ℕ} → AtMost xs ys → length xs ≡ length ys
at_most_length empty = refl
at_most_length (more h p) = ap suc (at_most_length p)

at_most_get_d : {xs ys : List ℕ} (i : ℕ) → AtMost xs ys → get_or xs i 0 ≤ get_or ys i 0
at_most_get_d i empty = le_refl 0
at_most_get_d zero (more h p) = h
at_most_get_d (suc i) (more h p) = at_most_get_d i p

pub at_most_level : {xs ys : List ℕ} (c : ℕ) → AtMost xs ys → level xs c ≤ level ys c
unfolding level
at_most_level c p = at_most_get_d (c - 1) p

-- a cell set to no more than its partner, and one set to no less
set_below : {xs ys : List ℕ} (i v : ℕ) → AtMost xs ys → v ≤ get_or ys i 0 → AtMost (set xs i v) ys
set_below i v empty k = empty
set_below zero v (more h p) k = more k p
set_below (suc i) v (more h p) k = more h (set_below i v p k)

pub put_below : {xs ys : List ℕ} (c v : ℕ) → AtMost xs ys → v ≤ level ys c → AtMost (put xs c v) ys
unfolding level put
put_below c v p k = set_below (c - 1) v p k

set_above : {xs ys : List ℕ} (i v : ℕ) → AtMost xs ys → get_or xs i 0 ≤ v → AtMost xs (set ys i v)
set_above i v empty k = empty
set_above zero v (more h p) k = more k p
set_above (suc i) v (more h p) k = more h (set_above i v p k)

pub put_above : {xs ys : List ℕ} (c v : ℕ) → AtMost xs ys → level xs c ≤ v → AtMost xs (put ys c v)
unfolding level put
put_above c v p k = set_above (c - 1) v p k

-- ---- the test of the order

pub at_most_true : (xs ys : List ℕ) → at_most xs ys ≡ true → AtMost xs ys
unfolding at_most
at_most_true [] [] e = empty
at_most_true [] (y ∷ ys) e = absurd (false≢true e)
at_most_true (x ∷ xs) [] e = absurd (false≢true e)
at_most_true (x ∷ xs) (y ∷ ys) e =
    let both = both (leb x y) (at_most xs ys) e in
    more (leb-true x y both.0) (at_most_true xs ys both.1)

pub true_at_most : {xs ys : List ℕ} → AtMost xs ys → at_most xs ys ≡ true
unfolding at_most
true_at_most empty = refl
true_at_most (more h p) = rw (le-leb _ _ h) (true_at_most p)

-- ---- sums and rises

pub sum_mono : {xs ys : List ℕ} → AtMost xs ys → sum xs ≤ sum ys
unfolding sum
sum_mono empty = le_refl 0
sum_mono (more h p) = omega (arith, sum_mono p)

-- the sum where one cell is changed
sum-set : (ls : List ℕ) (i v : ℕ) → i < length ls → sum (set ls i v) + get_or ls i 0 ≡ sum ls + v
unfolding sum
sum-set [] i v l = absurd (not-suc-le-zero l)
sum-set (x ∷ ls) zero v l = omega arith
sum-set (x ∷ ls) (suc i) v l = omega (arith, sum-set ls i v (le_of_suc-le-suc l))

pub sum_put : (ls : List ℕ) (c v : ℕ) → c - 1 < length ls → sum (put ls c v) + level ls c ≡ sum ls + v
unfolding level put
sum_put ls c v l = sum-set ls (c - 1) v l

-- going up, the rises are what the sum grows by
pub rises_up : {xs ys : List ℕ} → AtMost xs ys → rises xs ys + sum xs ≡ sum ys
unfolding rises sum
rises_up empty = refl
rises_up (more h p) = omega (arith, rises_up p)

-- going down there are none
pub rises_down : {xs ys : List ℕ} → AtMost ys xs → rises xs ys ≡ 0
unfolding rises
rises_down empty = refl
rises_down (more h p) = omega (arith, rises_down p)

-- ---- a leak

pub leaked_below : (c d : ℕ) (xs : List ℕ) → AtMost (leaked c d xs) xs
unfolding leaked
leaked_below c d xs = put_below c (level xs c - d) (at_most_refl xs) (omega arith)

sub_mono : {x y : ℕ} (d : ℕ) → x ≤ y → x - d ≤ y - d
sub_mono d h = omega arith

set_leak : {xs ys : List ℕ} (i d : ℕ) → AtMost xs ys → AtMost (set xs i (get_or xs i 0 - d)) (set ys i (get_or ys i 0 - d))
set_leak i d empty = empty
set_leak zero d (more h p) = more (sub_mono d h) p
set_leak (suc i) d (more h p) = more h (set_leak i d p)

-- it keeps the cellwise order
pub leaked_mono : {xs ys : List ℕ} (c d : ℕ) → AtMost xs ys → AtMost (leaked c d xs) (leaked c d ys)
unfolding leaked level put
leaked_mono c d p = set_leak (c - 1) d p

sum_set_leak : {xs ys : List ℕ} (i d : ℕ) → AtMost xs ys
    → sum xs + sum (set ys i (get_or ys i 0 - d)) ≤ sum ys + sum (set xs i (get_or xs i 0 - d))
unfolding sum
sum_set_leak i d empty = le_refl 0
sum_set_leak zero d (more h p) = omega arith
sum_set_leak (suc i) d (more h p) = omega (arith, sum_set_leak i d p)

-- of two sets of levels the higher one loses at least as much by it
pub leaked_loss : {xs ys : List ℕ} (c d : ℕ) → AtMost xs ys → sum xs + sum (leaked c d ys) ≤ sum ys + sum (leaked c d xs)
unfolding leaked level put
leaked_loss c d p = sum_set_leak (c - 1) d p
