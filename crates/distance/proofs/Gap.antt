-- The cell at place p is dropped from the front: what stands behind it, as far as place n, is copied one place up.
-- Assumes nothing.
use Prim.Native.Nat.{ℕ, ◌+◌, ◌-◌, ◌≤◌}
use native.Mathlib.Omega.{arith}
use mathlib.Core.Path.{◌≡◌, sym, ap, ap₂, ◌∙◌}
use mathlib.Core.List.{List, ◌++◌, map, map-append}
use lib.ListN.{length, take, drop, length-drop}
use lib.Seq.{take-take, take-paste}
use Rattle.std.specs.List.{copy_within}
use Rattle.std.proofs.lemmas.List.{take-map, drop-map, drop-take}
use Rattle.order.specs.declared.Cell.{Cell}
use Rattle.order.specs.declared.Order.{Order}
use Rattle.order.specs.Order.{cell_numbers}
use Rattle.distance.specs.Steps.{front, without}

module _ {A : Type 0} (xs : List A) {p n : ℕ} (g : 1 ≤ p) (l : p ≤ n) (s : n ≤ length xs) where
  pub copied : take (n - 1) (copy_within xs p n (p - 1)) ≡ take (p - 1) (take n xs) ++ drop p (take n xs)
  copied =
      let e : p - 1 + (n - p) ≡ n - 1 = omega arith in
      let f : p + (n - p) ≡ n = omega arith in
      ap (λ (k : ℕ). take k (copy_within xs p n (p - 1))) (sym e)
      ∙ take-paste xs (p - 1) (drop p xs) (n - p) (omega arith) (omega (arith, length-drop p xs))
      ∙ ap₂ ◌++◌ (sym (take-take (p - 1) n xs (omega arith))) (sym (rw f at (drop-take p (n - p) xs)))

-- the same in a record
pub closed : (v : Order) (cells : List Cell) {p n : ℕ} → 1 ≤ p → p ≤ n → n ≤ 12 → length v.cells ≡ 12 → cells ≡ copy_within v.cells p n (p - 1)
    → front (n - 1) (record { len = v.len; cells = cells }) ≡ without p (front n v)
unfolding cell_numbers
closed v cells {p} {n} g l s w e =
    let first = ap (map (λ (c : Cell). c.0)) (copied v.cells g l (omega (arith, w))) in
    rw (e, take-map _ (n - 1) (copy_within v.cells p n (p - 1)))
    (first ∙ map-append _ (take (p - 1) (take n v.cells)) (drop p (take n v.cells))
    ∙ ap₂ ◌++◌ (sym (ap (take (p - 1)) (take-map _ n v.cells) ∙ take-map _ (p - 1) (take n v.cells))) (sym (ap (drop p) (take-map _ n v.cells) ∙ drop-map _ p (take n v.cells))))
