-- Values that are given, levels and caps up to 4,095 or used pulses up to the endurance, in the places of a row: what the row made of them tells, and what such a
-- row and its first n values tell of each other.
-- Assumes nothing.
use Rattle.std.proofs.Common.{◌≡◌, ℕ, ◌-◌, ◌≤◌, Bool, true, false, cond, ◌&&◌, leb, eqb, List, [], ◌∷◌, ◌++◌, length, take, drop, replicate, Option, Some, None, refl, sym, ap, ap₂, ◌∙◌, arith, length-append, take-append-drop}
use Rattle.std.proofs.lemmas.Bool.Decides.{nat_tests}
use Rattle.std.proofs.lemmas.List.{length-replicate, drop-replicate}
use borrow.Author.Tests.{eqb-true, eq-eqb}
use Rattle.std.specs.List.{list_all}
use Rattle.std.specs.Ordering.{partial_le, as_partial_cmp, nat_cmp}
use lib.Seq.{length-take-le}
use Rattle.order.proofs.Cells.{both}
use Rattle.group.specs.Record.{all_at_most, is_row}
use Rattle.group.proofs.LevelRows.{all_take, row_true, padded_row, row_zeros}
use Rattle.take_over.specs.Rows.{row_if_given}
use Rattle.take_over.specs.TakeOver.{is_given, in_places}

-- ---- values and their number

same_length : (m n : ℕ) (xs : List ℕ) → length xs ≡ n → is_given m n xs ≡ all_at_most m xs
unfolding is_given
same_length m n xs e = rw (eq-eqb (length xs) n e)

-- ---- the row that values make

pub row_passed : {A : Type 0} (z : A) (p : A → Bool) (n : ℕ) (xs : List A) → length xs ≡ n → list_all p xs ≡ true
    → Some (xs ++ drop n (replicate 12 z)) ≡ row_if_given z p n xs
row_passed z p n xs e t = rw (t, eq-eqb (length xs) n e, drop-replicate n 12 z, sym e)

at_most : (x m : ℕ) → partial_le (as_partial_cmp nat_cmp) x m ≡ leb x m
at_most x m = grind (arith, nat_tests)

passed : (m : ℕ) (xs : List ℕ) → list_all (λ x. partial_le (as_partial_cmp nat_cmp) x m) xs ≡ all_at_most m xs
unfolding all_at_most
passed m [] = refl
passed m (x ∷ xs) = ap₂ ◌&&◌ (at_most x m) (passed m xs)

-- r is the row of values of which none is above m
abbrev pub RowOf : ℕ → ℕ → List ℕ → Option (List ℕ) → Type 0
RowOf m n xs r = r ≡ row_if_given 0 (λ x. partial_le (as_partial_cmp nat_cmp) x m) n xs

module _ (m n : ℕ) (xs : List ℕ) {r : Option (List ℕ)} (e : RowOf m n xs r) where
  row : r ≡ cond (is_given m n xs) (Some (in_places xs)) None
  unfolding is_given
  row = e ∙ ap (λ (b : Bool). cond (eqb (length xs) n && b) (Some (in_places xs)) None) (passed m xs)

  pub row_found : {places : List ℕ} → r ≡ Some places → (is_given m n xs ≡ true) × (places ≡ in_places xs)
  row_found {places} f = go (is_given m n xs) (sym f ∙ row)
    where
      go : (b : Bool) → Some places ≡ cond b (Some (in_places xs)) None → (b ≡ true) × (places ≡ in_places xs)
      go true h = (refl, cc)
      go false h = absurd (cc)

  pub row_missing : r ≡ None → is_given m n xs ≡ false
  row_missing f = go (is_given m n xs) (sym f ∙ row)
    where
      go : (b : Bool) → None ≡ cond b (Some (in_places xs)) None → b ≡ false
      go true h = absurd (cc)
      go false h = refl

-- ---- rows

-- given values in their places are a row
module _ (m n : ℕ) (xs : List ℕ) (e : is_given m n xs ≡ true) where
  given : (length xs ≡ n) × (all_at_most m xs ≡ true)
  unfolding is_given
  given = let t = both (eqb (length xs) n) (all_at_most m xs) e in (eqb-true (length xs) n t.0, t.1)

  pub given_row : is_row m n (in_places xs) ≡ true
  given_row = padded_row m n (12 - length xs) xs given.1 given.0

  pub given_twelve : n ≤ 12 → length (in_places xs) ≡ 12
  given_twelve l =
      let zeros : List ℕ = replicate (12 - length xs) 0 in
      length-append xs zeros ∙ omega (arith, given.0, length-replicate {A = ℕ} (12 - length xs) 0)

-- and the first n values of a row are given ones, and in their places they are that row
module _ (m n : ℕ) (xs : List ℕ) (small : n ≤ 12) (twelve : length xs ≡ 12) (e : is_row m n xs ≡ true) where
  long : length (take n xs) ≡ n
  long = length-take-le n xs (omega (arith, twelve))

  pub row_given : is_given m n (take n xs) ≡ true
  row_given = same_length m n (take n xs) long ∙ all_take m n xs (row_true m n xs e)

  pub row_back : in_places (take n xs) ≡ xs
  row_back = rw (long, ← twelve, ← row_zeros m n xs e) (take-append-drop n xs)
