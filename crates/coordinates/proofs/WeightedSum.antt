-- The weighted sum where one coordinate changes, and where the last ones are 0.
-- Assumes nothing.
use Prim.Native.Nat.{ℕ, zero, suc, ◌+◌, ◌*◌, ◌≤◌, ◌<◌}
use native.Mathlib.Nat.{mul-add}
use native.Mathlib.Omega.{arith}
use mathlib.Core.Path.{◌≡◌, refl, ap}
use Rattle.order.specs.Cells.{tabulate}
use Rattle.order.proofs.Tabulate.{tabulate_ext}
use Rattle.coordinates.specs.Coordinates.{weight}

-- v more at index j, and the same elsewhere: v times its number is added
pub weight_more : (m i j v : ℕ) (f h : ℕ → ℕ) → j < m → h j ≡ f j + v → ((k : ℕ) → (k ≡ j → ⊥) → h k ≡ f k)
    → weight i (tabulate m h) ≡ weight i (tabulate m f) + (i + j) * v
unfolding weight
weight_more zero i j v f h l more same = absurd (omega arith)
weight_more (suc m) i zero v f h l more same =
    let rest : weight (suc i) (tabulate m (λ k. h (suc k))) ≡ weight (suc i) (tabulate m (λ k. f (suc k))) =
    ap (weight (suc i)) (tabulate_ext m _ _ (λ k g. same (suc k) (omega arith))) in
    omega (arith, ap (λ (x : ℕ). i * x) more, mul-add i (f 0) v)
weight_more (suc m) i (suc j) v f h l more same =
    let next : suc i + j ≡ i + suc j = omega arith in
    let rest : weight (suc i) (tabulate m (λ k. h (suc k))) ≡ weight (suc i) (tabulate m (λ k. f (suc k))) + (i + suc j) * v =
    rw next at (weight_more m (suc i) j v (λ k. f (suc k)) (λ k. h (suc k)) (omega arith) more (λ k e. same (suc k) (omega arith))) in
    omega (arith, ap (λ (x : ℕ). i * x) (same 0 (omega arith)))

-- nothing is added where all from m on are 0
pub weight_past : (m k i : ℕ) (f : ℕ → ℕ) → m ≤ k → ((j : ℕ) → m ≤ j → f j ≡ 0) → weight i (tabulate k f) ≡ weight i (tabulate m f)
unfolding weight
weight_past zero zero i f l z = refl
weight_past zero (suc k) i f l z =
    omega (arith, ap (λ (v : ℕ). i * v) (z 0 (omega arith)), weight_past zero k (suc i) (λ j. f (suc j)) (omega arith) (λ j h. z (suc j) (omega arith)))
weight_past (suc m) zero i f l z = absurd (omega arith)
weight_past (suc m) (suc k) i f l z =
    ap (λ (w : ℕ). i * f 0 + w) (weight_past m k (suc i) (λ j. f (suc j)) (omega arith) (λ j h. z (suc j) (omega arith)))
