-- Rises added to used pulses place by place, as long as the endurance lasts.
-- Assumes nothing.
use Rattle.std.proofs.Common.{◌≡◌, ℕ, zero, suc, ◌+◌, ◌-◌, ◌%◌, ◌^◌, ◌<◌, ◌≤◌, Bool, true, false, ◌&&◌, leb, List, [], ◌∷◌, ◌++◌, length, get_or, take, drop, set, sym, refl, ap, ◌∙◌, append-nil, le_of_suc-le-suc, not-suc-le-zero, add-one, arith, drop_of_length-le, take_all, leb-false, leb-true}
use mathlib.Core.Bool.{and-true, and_assoc}
use lib.Bits.{bit_or}
use borrow.Author.Tests.{lt-leb}
use Rattle.order.proofs.Cells.{both}
use Rattle.order.proofs.Numbers.{drop_up}
use Rattle.order.proofs.Bits.{or_at_most}
use Rattle.group.specs.Levels.{tallied}
use Rattle.group.specs.Record.{all_at_most}
use Rattle.group.proofs.TopBit.{low, above_test}
use Rattle.group.proofs.Tallies.{length_tallied}

-- the rise of place i
abbrev rise : List ℕ → List ℕ → ℕ → ℕ
rise xs ys i = get_or ys i 0 - get_or xs i 0

-- u pulses and a rise r of 16 bits, with their sum s and what is left of e, each modulo 2^32: they come to no more than e exactly where none of the three has the
-- top bit
module _ (e u r s w : ℕ) (small : e ≤ low) (fits : u < 2 ^ 32) (short : r < 65536) (sums : s ≡ (u + r) % 2 ^ 32) (less : w < 2 ^ 32) (wraps : (w + s) % 2 ^ 32 ≡ e) where
  -- used pulses without the top bit leave room for any rise
  pub whole : u ≤ low → s ≡ u + r
  whole h = omega arith

  under : s < 2 ^ 32
  under = omega arith

  next_test : (over : ℕ) → leb (bit_or over (bit_or (bit_or u s) w)) low ≡ (leb over low && leb (u + r) e)
  next_test over = or_at_most 31 low over (bit_or (bit_or u s) w) refl ∙ rw (or_at_most 31 low (bit_or u s) w refl, or_at_most 31 low u s refl) (regroup ∙ go (leb u low) refl)
    where
      regroup : (leb over low && ((leb u low && leb s low) && leb w low)) ≡ (leb over low && (leb u low && (leb s low && leb w low)))
      regroup = ap (λ (t : Bool). leb over low && t) (and_assoc (leb u low) (leb s low) (leb w low))

      go : (b : Bool) → leb u low ≡ b → (leb over low && (b && (leb s low && leb w low))) ≡ (leb over low && leb (u + r) e)
      go true f = ap (λ (t : Bool). leb over low && t) (above_test e s w small under less wraps ∙ ap (λ (t : ℕ). leb t e) (whole (leb-true u low f)))
      go false f = ap (λ (t : Bool). leb over low && t) (sym (lt-leb (u + r) e (omega (arith, leb-false u low f))))

sum-suc : (i : ℕ) (us xs ys : List ℕ) → i < length us → i < length xs → i < length ys
    → set (take i (tallied us xs ys) ++ drop i us) i (get_or us i 0 + rise xs ys i) ≡ take (suc i) (tallied us xs ys) ++ drop (suc i) us
unfolding tallied
sum-suc i [] xs ys a b c = absurd (not-suc-le-zero a)
sum-suc i (u ∷ us) [] ys a b c = absurd (not-suc-le-zero b)
sum-suc i (u ∷ us) (x ∷ xs) [] a b c = absurd (not-suc-le-zero c)
sum-suc zero (u ∷ us) (x ∷ xs) (y ∷ ys) a b c = refl
sum-suc (suc i) (u ∷ us) (x ∷ xs) (y ∷ ys) a b c =
    ap (λ (l : List ℕ). (u + (y - x)) ∷ l) (sum-suc i us xs ys (le_of_suc-le-suc a) (le_of_suc-le-suc b) (le_of_suc-le-suc c))

-- the used pulses and the levels before and after
module _ (e : ℕ) (us xs ys : List ℕ) where
  -- the first i rises are added, and `over` gathers the bits that tell which of them are past the endurance
  pub record Adding (sums : List ℕ) (over i : ℕ) : Type 0 where
    pub gathered : (leb over low && all_at_most e (tallied (drop i us) (drop i xs) (drop i ys))) ≡ all_at_most e (tallied us xs ys)
    pub summed : leb over low ≡ true → sums ≡ take i (tallied us xs ys) ++ drop i us

  pub adding_none : Adding us 0 0
  adding_none = record { gathered = refl; summed = λ f. refl }

  module _ {sums : List ℕ} {over i : ℕ} (a : Adding sums over i) where
    -- u pulses are used at place i, and r is the rise there
    pub adding_more : (u r : ℕ) → u ≡ get_or us i 0 → r ≡ rise xs ys i → e ≤ low → u < 2 ^ 32 → r < 65536 → i < length us → i < length xs → i < length ys
        → let s = (u + r) % 2 ^ 32 in Adding (set sums i s) (bit_or over (bit_or (bit_or u s) ((e + (2 ^ 32 - s)) % 2 ^ 32))) (i + 1)
    unfolding tallied all_at_most
    adding_more u r here rises small fits short l m n =
        let s = (u + r) % 2 ^ 32 in
        let w = (e + (2 ^ 32 - s)) % 2 ^ 32 in
        let test = next_test e u r s w small fits short refl (omega arith) (omega arith) over in
        record {
          gathered = rw test (and_assoc (leb over low) (leb (u + r) e) _ ∙ rw (here, rises) (rw (drop_up us i l, drop_up xs i m, drop_up ys i n) at a.gathered));
          summed =
              λ f.
              let t = both (leb over low) (leb (u + r) e) (sym test ∙ f) in
              let plain = whole e u r s w small fits short refl (omega arith) (omega arith) (omega (arith, leb-true (u + r) e t.1)) in
              rw (plain, a.summed t.0, add-one i, here, rises) (sum-suc i us xs ys l m n);
        }

    module _ (l : length us ≤ i) where
      pub adding_lasts : leb over low ≡ all_at_most e (tallied us xs ys)
      unfolding tallied all_at_most
      adding_lasts = sym (and-true (leb over low)) ∙ rw (drop_of_length-le us {i = i} l) at a.gathered

      pub adding_all : leb over low ≡ true → sums ≡ tallied us xs ys
      adding_all f =
          let whole = take_all i (tallied us xs ys) (omega (arith, length_tallied us xs ys)) in
          a.summed f ∙ rw (whole, drop_of_length-le us {i = i} l) (append-nil (tallied us xs ys))
