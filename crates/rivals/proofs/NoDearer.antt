-- Our cells beside a rival's: levels and used pulses, cell by cell.
--
--   NoDearer us ls vs ms   our used pulses us at levels ls, the rival's vs at levels ms: no level of ours is above its partner, and raised to it the cell would
--                          have taken no more pulses than its partner
-- It stays so when both are raised and ours are still nowhere above, when both leak, and when both are erased; and no cell of ours has then taken more.
-- Assumes nothing.
use Prim.Native.Nat.{ℕ, zero, suc, ◌+◌, ◌-◌, ◌≤◌}
use mathlib.Core.Path.{◌≡◌}
use mathlib.Core.List.{List, [], ◌∷◌}
use native.Mathlib.Nat.{le_refl}
use native.Mathlib.Omega.{arith}
use lib.ListN.{length, get_or, set, replicate}
use Rattle.group.specs.Levels.{level, put, AtMost, empty, more, tallied, leaked}

pub data NoDearer : List ℕ → List ℕ → List ℕ → List ℕ → Type 0 where
  none : NoDearer [] [] [] []
  cell : {u l v m : ℕ} {us ls vs ms : List ℕ} → l ≤ m → u + m ≤ v + l → NoDearer us ls vs ms → NoDearer (u ∷ us) (l ∷ ls) (v ∷ vs) (m ∷ ms)

pub no_dearer_refl : (us ls : List ℕ) → length us ≡ length ls → NoDearer us ls us ls
no_dearer_refl [] [] e = none
no_dearer_refl [] (l ∷ ls) e = absurd (omega (arith, e))
no_dearer_refl (u ∷ us) [] e = absurd (omega (arith, e))
no_dearer_refl (u ∷ us) (l ∷ ls) e = cell (le_refl l) (le_refl (u + l)) (no_dearer_refl us ls (omega (arith, e)))

pub no_dearer_levels : {us ls vs ms : List ℕ} → NoDearer us ls vs ms → AtMost ls ms
no_dearer_levels none = empty
no_dearer_levels (cell h k p) = more h (no_dearer_levels p)

pub no_dearer_used : {us ls vs ms : List ℕ} → NoDearer us ls vs ms → AtMost us vs
no_dearer_used none = empty
no_dearer_used (cell {u} {l} {v} {m} h k p) = let less : u ≤ v = omega arith in more less (no_dearer_used p)

pub no_dearer_raised : {us ls vs ms ls' ms' : List ℕ} → NoDearer us ls vs ms → AtMost ls ls' → AtMost ms ms' → AtMost ls' ms'
    → NoDearer (tallied us ls ls') ls' (tallied vs ms ms') ms'
unfolding tallied
no_dearer_raised none empty empty empty = none
no_dearer_raised (cell {u} {l} {v} {m} h k p) (more {y = l'} a q) (more {y = m'} b r) (more c s) =
    let less : (u + (l' - l)) + m' ≤ (v + (m' - m)) + l' = omega arith in
    cell c less (no_dearer_raised p q r s)

-- a lower level loses no more
set_leaked : {us ls vs ms : List ℕ} (i d : ℕ) → NoDearer us ls vs ms → NoDearer us (set ls i (get_or ls i 0 - d)) vs (set ms i (get_or ms i 0 - d))
set_leaked i d none = none
set_leaked zero d (cell {u} {l} {v} {m} h k p) = grind (arith, cell)
set_leaked (suc i) d (cell h k p) = cell h k (set_leaked i d p)

pub no_dearer_leaked : {us ls vs ms : List ℕ} (c d : ℕ) → NoDearer us ls vs ms → NoDearer us (leaked c d ls) vs (leaked c d ms)
unfolding leaked level put
no_dearer_leaked c d p = set_leaked (c - 1) d p

pub no_dearer_erased : {us ls vs ms : List ℕ} (k : ℕ) → length us ≡ k → NoDearer us ls vs ms → NoDearer us (replicate k 0) vs (replicate k 0)
no_dearer_erased zero e none = none
no_dearer_erased (suc k) e none = absurd (omega (arith, e))
no_dearer_erased zero e (cell h k p) = absurd (omega (arith, e))
no_dearer_erased (suc k) e (cell {u} {l} {v} {m} h less p) =
    let used : u + 0 ≤ v + 0 = omega arith in
    cell (le_refl 0) used (no_dearer_erased k (omega (arith, e)) p)
