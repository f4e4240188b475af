-- Laws of used pulses to which rises are added.
-- Assumes nothing.
use Rattle.std.proofs.Common.{◌≡◌, ℕ, zero, suc, ◌+◌, ◌-◌, ◌≤◌, true, leb, List, [], ◌∷◌, length, drop, replicate, refl, ap, ap₂, arith, le-leb, leb-true}
use Rattle.order.proofs.Cells.{both}
use Rattle.group.specs.Levels.{AtMost, empty, more, tallied}
use Rattle.group.specs.Record.{all_at_most, is_row}
use Rattle.group.proofs.Levels.{at_most_refl}

pub length_tallied : (us xs ys : List ℕ) → length (tallied us xs ys) ≡ length us
unfolding tallied
length_tallied [] xs ys = refl
length_tallied (u ∷ us) [] ys = refl
length_tallied (u ∷ us) (x ∷ xs) [] = refl
length_tallied (u ∷ us) (x ∷ xs) (y ∷ ys) = ap suc (length_tallied us xs ys)

-- nothing rises
pub tallied_same : (us xs : List ℕ) → tallied us xs xs ≡ us
unfolding tallied
tallied_same [] xs = refl
tallied_same (u ∷ us) [] = refl
tallied_same (u ∷ us) (x ∷ xs) =
    let e : u + (x - x) ≡ u = omega arith in
    ap₂ ◌∷◌ e (tallied_same us xs)

-- from no pulses, none is above the new level
pub tallied_fresh : {xs ys : List ℕ} (k : ℕ) → AtMost xs ys → length ys ≡ k → AtMost (tallied (replicate k 0) xs ys) ys
unfolding tallied
tallied_fresh zero empty e = empty
tallied_fresh zero (more a p) e = absurd (omega (arith, e))
tallied_fresh (suc k) empty e = absurd (omega (arith, e))
tallied_fresh (suc k) (more {x} {y} a p) e =
    let low : 0 + (y - x) ≤ y = omega arith in
    more low (tallied_fresh k p (omega (arith, e)))

-- two rises in turn are one
pub tallied_twice : {xs ys zs : List ℕ} (us : List ℕ) → AtMost xs ys → AtMost ys zs → tallied (tallied us xs ys) ys zs ≡ tallied us xs zs
unfolding tallied
tallied_twice [] p q = refl
tallied_twice (u ∷ us) empty empty = refl
tallied_twice (u ∷ us) (more {x} {y} a p) (more {y = z} b q) =
    let e : (u + (y - x)) + (z - y) ≡ u + (z - x) = omega arith in
    ap₂ ◌∷◌ e (tallied_twice us p q)

-- higher new levels leave no fewer
pub tallied_mono : {ys zs : List ℕ} (us xs : List ℕ) → AtMost ys zs → AtMost (tallied us xs ys) (tallied us xs zs)
unfolding tallied
tallied_mono [] xs p = empty
tallied_mono (u ∷ us) [] p = at_most_refl (u ∷ us)
tallied_mono (u ∷ us) (x ∷ xs) empty = at_most_refl (u ∷ us)
tallied_mono (u ∷ us) (x ∷ xs) (more {x = y} {y = z} a p) =
    let h : u + (y - x) ≤ u + (z - x) = omega arith in
    more h (tallied_mono us xs p)

-- where used pulses and new levels are 0, the used pulses stay 0
tallied_past : (n : ℕ) (us xs ys : List ℕ) → all_at_most 0 (drop n us) ≡ true → all_at_most 0 (drop n ys) ≡ true → all_at_most 0 (drop n (tallied us xs ys)) ≡ true
unfolding tallied all_at_most
tallied_past n [] xs ys e f = e
tallied_past n (u ∷ us) [] ys e f = e
tallied_past n (u ∷ us) (x ∷ xs) [] e f = e
tallied_past zero (u ∷ us) (x ∷ xs) (y ∷ ys) e f =
    let t = both (leb u 0) (all_at_most 0 us) e in
    let s = both (leb y 0) (all_at_most 0 ys) f in
    rw (le-leb (u + (y - x)) 0 (omega (arith, leb-true u 0 t.0, leb-true y 0 s.0))) (tallied_past zero us xs ys t.1 s.1)
tallied_past (suc n) (u ∷ us) (x ∷ xs) (y ∷ ys) e f = tallied_past n us xs ys e f

-- used pulses within a limit stay a row where the new levels are one
pub row_tallied : (m k n : ℕ) (us xs ys : List ℕ) → is_row m n us ≡ true → is_row k n ys ≡ true → all_at_most m (tallied us xs ys) ≡ true → is_row m n (tallied us xs ys) ≡ true
unfolding is_row
row_tallied m k n us xs ys e f a =
    let t = both (all_at_most m us) (all_at_most 0 (drop n us)) e in
    let s = both (all_at_most k ys) (all_at_most 0 (drop n ys)) f in
    rw a (tallied_past n us xs ys t.1 s.1)
