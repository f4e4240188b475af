-- The search for a cell's place among the first n, from the front.
-- Assumes nothing.
use Prim.Native.Nat.{ℕ, suc, ◌+◌, ◌≤◌, ◌<◌}
use native.Mathlib.Omega.{arith}
use native.Mathlib.Numerals.{add-one}
use mathlib.Core.Path.{◌≡◌, refl, sym, ap, ◌∙◌}
use mathlib.Core.Bool.{Bool, cond}
use mathlib.Core.List.{List}
use lib.Dec.{eqb}
use lib.ListN.{length, get_or, take, drop, drop_of_length-le}
use lib.Seq.{drop-cons, get_or-take, length-take-le}
use borrow.Author.Tests.{eq-eqb, ne_eqb}
use Rattle.std.proofs.lemmas.List.{length-map}
use Rattle.order.specs.declared.Cell.{Cell}
use Rattle.order.specs.declared.Order.{Order}
use Rattle.order.specs.Cells.{place_from, place_of}
use Rattle.order.specs.Order.{cell_numbers}
use Rattle.order.proofs.Numbers.{place_at}

-- the first n cells of an order
module _ (o : Order) (n : ℕ) (h : n ≤ length (cell_numbers o)) where
  pub front_long : length (take n o.cells) ≡ n
  unfolding cell_numbers
  front_long = length-take-le n o.cells (omega (arith, h, length-map o.cells (λ (c : Cell). c.0)))

  pub front_at : (i : ℕ) → i < n → (get_or (take n o.cells) i (record { 0 = 0 })).0 ≡ get_or (cell_numbers o) i 0
  front_at i l = ap (λ (c : Cell). c.0) (get_or-take n o.cells i (record { 0 = 0 }) l) ∙ place_at o i

-- c is not among the first i
pub record Passed (xs : List ℕ) (n c i : ℕ) : Type 0 where
  pub fits : n ≤ length xs
  pub left : i ≤ n
  pub later : place_of (take n xs) c ≡ place_from (suc i) (drop i (take n xs)) c

pub passed_none : (xs : List ℕ) (n c : ℕ) → n ≤ length xs → Passed xs n c 0
unfolding place_of
passed_none xs n c h = record { fits = h; left = omega arith; later = refl }

module _ {xs : List ℕ} {n c i : ℕ} (s : Passed xs n c i) where
  module _ (l : i < n) {x : ℕ} (at : x ≡ get_or xs i 0) where
    step : {b : Bool} → eqb c x ≡ b → place_of (take n xs) c ≡ cond b (suc i) (place_from (suc (suc i)) (drop (suc i) (take n xs)) c)
    unfolding place_from
    step e =
        let here : get_or (take n xs) i 0 ≡ x = get_or-take n xs i 0 l ∙ sym at in
        s.later ∙ rw (drop-cons (take n xs) i 0 (omega (arith, length-take-le n xs s.fits)), here, e)

    pub passed_here : x ≡ c → i + 1 ≡ place_of (take n xs) c
    passed_here e = add-one i ∙ sym (step (eq-eqb c x (sym e)))

    pub passed_more : (x ≡ c → ⊥) → Passed xs n c (i + 1)
    passed_more e = record { fits = s.fits; left = omega arith; later = rw (add-one i) (step (ne_eqb c x (λ f. e (sym f)))) }

  pub passed_all : n ≤ i → 0 ≡ place_of (take n xs) c
  unfolding place_from
  passed_all l = sym (s.later ∙ rw (drop_of_length-le (take n xs) {i = i} (omega (arith, length-take-le n xs s.fits))))
