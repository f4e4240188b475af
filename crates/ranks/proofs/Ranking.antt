-- The sweep that takes the places of the numbers 1 to 12 in a list: the ranks of an order, and the cells of given ranks.
-- Assumes nothing.
use Prim.Native.Nat.{ℕ, suc, ◌-◌, ◌≤◌, ◌<◌}
use native.Mathlib.Omega.{arith}
use mathlib.Core.Path.{◌≡◌, refl, sym, ap, ◌∙◌}
use mathlib.Core.Bool.{cond}
use mathlib.Core.Logic.{⊎_elim}
use mathlib.Core.List.{List, ◌∷◌}
use lib.Dec.{ltb}
use lib.ListN.{length, take, drop, set, replicate}
use lib.Seq.{set_out}
use borrow.Author.Tests.{le-ltb, eq-eqb, ne_eqb}
use Rattle.order.specs.Cells.{place_from, place_of, tabulate}
use Rattle.order.proofs.Cells.{lt_cases}
use Rattle.order.proofs.Tabulate.{length_tabulate, tabulate_ext, tabulate_set}
use Rattle.order.proofs.Sweep.{Downto, Turn, turn_by, down_none, down_more, drop_none, met_down}

place_same : (p x : ℕ) (xs : List ℕ) → place_from p (x ∷ xs) x ≡ p
unfolding place_from
place_same p x xs = rw (eq-eqb x x refl)

place_other : (p x c : ℕ) (xs : List ℕ) → (x ≡ c → ⊥) → place_from p (x ∷ xs) c ≡ place_from (suc p) xs c
unfolding place_from
place_other p x c xs h = rw (ne_eqb c x (λ e. h (sym e)))

-- `wrap` makes a rank or a cell of a number
module _ {A : Type 0} (wrap : ℕ → A) where
  -- the places of 1 to 12 in a list whose first place is p
  unfoldable pub places_from : ℕ → List ℕ → List A
  places_from p xs = tabulate 12 (λ k. wrap (place_from p xs (suc k)))

  pub places_more : (p x : ℕ) (xs : List ℕ) → cond (ltb x 1) (places_from (suc p) xs) (set (places_from (suc p) xs) (x - 1) (wrap p)) ≡ places_from p (x ∷ xs)
  unfolding places_from
  places_more p x xs =
      ⊎_elim
      (λ t. rw t.1 (tabulate_ext 12 _ _ (λ k l. ap wrap (sym (place_other p x (suc k) xs (omega arith))))))
      (λ t.
      let e : suc (x - 1) ≡ x = omega arith in
      let v : place_from p (x ∷ xs) (suc (x - 1)) ≡ p = rw e (place_same p x xs) in
      rw (t.1, ← ap wrap v)
      (tabulate_set 12 _ (λ k. wrap (place_from p (x ∷ xs) (suc k))) (x - 1) (λ j q. ap wrap (sym (place_other p x (suc j) xs (omega arith))))))
      (lt_cases x 1)

  -- the numbers from place i on have their places, and the others 0
  pub record Placed (xs : List ℕ) (len : ℕ) (ys : List A) (i : ℕ) : Type 0 where
    pub down : Downto xs len i
    pub sofar : ys ≡ places_from (suc i) (drop i (take len xs))

  pub placed_none : (xs : List ℕ) (len : ℕ) → length xs ≡ 12 → len ≤ 12 → Placed xs len (replicate 12 (wrap 0)) len
  unfolding places_from place_from
  placed_none xs len w s = record { down = down_none xs len w s; sofar = rw (drop_none xs len w s) }

  module _ {xs : List ℕ} {ys : List A} {len i x : ℕ} (t : Turn (Placed xs len ys i) xs i x) where
    open t use {state as s, more as p}

    on_down : Turn (Downto xs len i) xs i x
    on_down = turn_by (λ (s : Placed xs len ys i). s.down) t

    placed_more : Placed xs len (cond (ltb x 1) ys (set ys (x - 1) (wrap i))) (i - 1)
    placed_more =
        let e : suc (i - 1) ≡ i = omega arith in
        record { down = down_more on_down; sofar = rw (s.sofar, met_down on_down, e) (places_more i x (drop i (take len xs))) }

    -- i is stored at the place of x
    pub placed_at : 1 ≤ x → {j v : ℕ} → j ≡ x - 1 → v ≡ i → Placed xs len (set ys j (wrap v)) (i - 1)
    placed_at l a b = rw (a, b) (rw (le-ltb x 1 l) at placed_more)

    length_placed : length ys ≡ 12
    unfolding places_from
    length_placed = ap length s.sofar ∙ length_tabulate 12 (λ k. wrap (place_from (suc i) (drop i (take len xs)) (suc k)))

    -- an x outside 1 to 12 has no place
    pub placed_out : (1 ≤ x → 12 < x) → Placed xs len ys (i - 1)
    placed_out h =
        ⊎_elim (λ t. rw t.1 at placed_more)
        (λ t. rw (t.1, set_out ys (x - 1) (wrap i) (omega (arith, length_placed))) at placed_more)
        (lt_cases x 1)

  pub placed_all : {xs : List ℕ} {ys : List A} {len i : ℕ} → Placed xs len ys i → i ≤ 0 → ys ≡ tabulate 12 (λ k. wrap (place_of (take len xs) (suc k)))
  unfolding places_from place_of
  placed_all {i = i} s l = let e : i ≡ 0 = omega arith in rw e at s.sofar
