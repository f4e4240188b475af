-- The set of the cells met, as a number: digit k is 1 where cell k + 1 is met.
-- Assumes nothing.
use Prim.Native.Nat.{ℕ, zero, suc, ◌/◌, ◌%◌, ◌^◌}
use native.Mathlib.Nat.{max-zero, zero-add}
use native.Mathlib.Omega.{arith}
use mathlib.Core.Path.{◌≡◌, refl, sym, ap, ◌∙◌}
use mathlib.Core.Logic.{⊎_elim}
use mathlib.Core.List.{List, [], ◌∷◌}
use lib.Bits.{bit_or}
use lib.Count.{ones}
use lib.Dec.{eqb-suc-suc}
use Rattle.order.specs.Cells.{count, below}
use Rattle.order.proofs.Cells.{below_suc, eq_cases, tally-ge}
use Rattle.order.proofs.Bits.{digit_of_zero, digit_of_power, digit_of_or, ones_none, ones_next}

-- m holds just the listed cells, each of which is listed once
pub record Holds (m : ℕ) (xs : List ℕ) : Type 0 where
  pub cells : below 1 xs ≡ 0
  pub digits : (k : ℕ) → m / 2 ^ k % 2 ≡ count (suc k) xs

pub holds_none : Holds 0 []
holds_none = record { cells = refl; digits = digit_of_zero }

module _ {m : ℕ} {xs : List ℕ} (h : Holds m xs) where
  -- a cell that is not listed yet
  pub holds_more : (k : ℕ) → count (suc k) xs ≡ 0 → Holds (bit_or m (2 ^ k)) (suc k ∷ xs)
  holds_more k z = record {
    cells = omega (arith, h.cells, tally-ge (suc k) 1 (omega arith));
    digits = λ j.
        digit_of_or m (2 ^ k) j ∙ rw (h.digits j, digit_of_power j k, eqb-suc-suc j k)
        (⊎_elim
        (λ t. rw (t.1, ap (λ (c : ℕ). count (suc c) xs) (sym t.0) ∙ z))
        (λ t. rw t.1 (max-zero (count (suc j) xs) ∙ sym (zero-add (count (suc j) xs))))
        (eq_cases k j));
  }

  -- the ones below the digit of a cell count the listed cells below that cell
  pub holds_below : (k : ℕ) → ones (m % 2 ^ k) ≡ below (suc k) xs
  holds_below zero = ones_none m ∙ sym h.cells
  holds_below (suc k) = omega (arith, ones_next k m, h.digits k, holds_below k, below_suc (suc k) xs)
