-- A row is its levels up to a place and its places past it.
-- Assumes nothing.
use Prim.Native.Nat.{ℕ, zero, suc}
use mathlib.Core.Path.{◌≡◌, refl, sym, ap, ◌∙◌}
use mathlib.Core.Bool.{Bool, true, false, ◌&&◌, and-false, and-true, and_assoc}
use mathlib.Core.List.{List, [], ◌∷◌}
use native.Mathlib.Omega.{arith}
use lib.Dec.{leb}
use lib.ListN.{take, drop}
use borrow.Author.Tests.{leb-true, le-leb}
use Rattle.order.proofs.Cells.{both}
use Rattle.group.specs.Record.{all_at_most, is_row}

all_zero_lem : (m : ℕ) (xs : List ℕ) → all_at_most 0 xs ≡ true → all_at_most m xs ≡ true
unfolding all_at_most
all_zero_lem m [] e = refl
all_zero_lem m (x ∷ xs) e =
    let t = both (leb x 0) (all_at_most 0 xs) e in
    rw (le-leb x m (omega (arith, leb-true x 0 t.0))) (all_zero_lem m xs t.1)

all_split : (m n : ℕ) (xs : List ℕ) → all_at_most m xs ≡ (all_at_most m (take n xs) && all_at_most m (drop n xs))
unfolding all_at_most
all_split m zero xs = refl
all_split m (suc n) [] = refl
all_split m (suc n) (x ∷ xs) = ap (λ (b : Bool). leb x m && b) (all_split m n xs) ∙ sym (and_assoc (leb x m) _ _)

pub row_split : (m n : ℕ) (xs : List ℕ) → (all_at_most m (take n xs) && all_at_most 0 (drop n xs)) ≡ is_row m n xs
unfolding is_row
row_split m n xs = go (all_at_most 0 (drop n xs)) refl
  where
    go : (b : Bool) → all_at_most 0 (drop n xs) ≡ b → (all_at_most m (take n xs) && b) ≡ (all_at_most m xs && b)
    go true e =
        let whole : all_at_most m xs ≡ all_at_most m (take n xs) =
        all_split m n xs ∙ ap (λ (b : Bool). all_at_most m (take n xs) && b) (all_zero_lem m (drop n xs) e) ∙ and-true (all_at_most m (take n xs)) in
        rw whole
    go false e = and-false (all_at_most m (take n xs)) ∙ sym (and-false (all_at_most m xs))
