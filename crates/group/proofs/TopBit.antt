-- The top one of 32 bits tells which of two numbers is the greater, where the limit has 31 bits: a number is above it exactly where the number has that bit, or
-- the limit less the number, modulo 2^32, has it. A loop gathers both in `over`.
-- Assumes nothing.
use Rattle.std.proofs.Common.{◌≡◌, ℕ, ◌+◌, ◌-◌, ◌%◌, ◌^◌, ◌<◌, ◌≤◌, Bool, true, false, cond, ◌&&◌, ltb, leb, List, ◌++◌, length, get_or, drop, replicate, sym, refl, ap, ◌∙◌, mod-eq_of_lt, arith, le-leb, leb-false, leb-true}
use mathlib.Core.Bool.{and_assoc, and-false}
use lib.Bits.{bit_and, bit_or, and_mask, and_zero_r}
use borrow.Author.Tests.{lt-leb}
use Rattle.order.proofs.Bits.{or_at_most}
use Rattle.order.proofs.Spare.{row_at}
use Rattle.group.specs.Record.{is_row, is_endurance}
use Rattle.group.proofs.LevelRows.{limit, row_step}

-- all but the top bit
abbrev pub low : ℕ
low = 2147483647

module _ (e u w : ℕ) (small : e ≤ low) (fits : u < 2 ^ 32) (less : w < 2 ^ 32) (wraps : (w + u) % 2 ^ 32 ≡ e) where
  pub above_test : (leb u low && leb w low) ≡ leb u e
  above_test = go (leb u e) refl
    where
      high : (b : Bool) → leb u low ≡ b → e < u → (b && leb w low) ≡ false
      high false f l = refl
      high true f l = lt-leb w low (omega (arith, leb-true u low f))

      go : (b : Bool) → leb u e ≡ b → (leb u low && leb w low) ≡ b
      go true f =
          let h = leb-true u e f in
          rw (le-leb u low (omega arith), le-leb w low (omega arith))
      go false f = high (leb u low) refl (leb-false u e f)

  pub above_gathered : (over : ℕ) (left : Bool) → (leb (bit_or (bit_or over u) w) low && left) ≡ (leb over low && (leb u e && left))
  above_gathered over left =
      rw (or_at_most 31 low (bit_or over u) w refl, or_at_most 31 low over u refl)
      (and_assoc (leb over low && leb u low) (leb w low) left
      ∙ and_assoc (leb over low) (leb u low) (leb w low && left)
      ∙ ap (λ (b : Bool). leb over low && b) (sym (and_assoc (leb u low) (leb w low) left) ∙ ap (λ (b : Bool). b && left) above_test))

-- a number with b one less and w what it leaves of 1,000,000, each modulo 2^32: it is an endurance exactly where none of the three has the top bit
pub range_test : (e b w : ℕ) → e < 2 ^ 32 → b < 2 ^ 32 → w < 2 ^ 32 → (b + 1) % 2 ^ 32 ≡ e → (w + e) % 2 ^ 32 ≡ 1000000 → leb (bit_or (bit_or e b) w) low ≡ is_endurance e
range_test e b w fits below left one rest =
    or_at_most 31 low (bit_or e b) w refl ∙ rw (or_at_most 31 low e b refl) (and_swap (leb e low) (leb b low) (leb w low) ∙ rw (above_test 1000000 e w (omega arith) fits left rest) (by (leb e 1000000) refl))
  where
    and_swap : (p q r : Bool) → ((p && q) && r) ≡ (q && (p && r))
    and_swap false false r = refl
    and_swap false true r = refl
    and_swap true false r = refl
    and_swap true true r = refl

    low_one : (t : Bool) → leb 1 e ≡ t → e ≤ 1000000 → leb b low ≡ t
    low_one true f h = le-leb b low (omega (arith, leb-true 1 e f))
    low_one false f h = lt-leb b low (omega (arith, leb-false 1 e f))

    by : (t : Bool) → leb e 1000000 ≡ t → (leb b low && t) ≡ (leb 1 e && t)
    by true h = ap (λ (t : Bool). t && true) (low_one (leb 1 e) refl (leb-true e 1000000 h))
    by false h = and-false (leb b low) ∙ sym (and-false (leb 1 e))

-- gathered, a bit stays
pub kept_bit : (over u w : ℕ) → leb over low ≡ false → leb (bit_or (bit_or over u) w) low ≡ false
kept_bit over u w e = or_at_most 31 low (bit_or over u) w refl ∙ rw (or_at_most 31 low over u refl, e)

-- ---- a row against its limits

-- all bits of a limit as far as n places, and none past them
abbrev pub within : List ℕ
within = replicate 12 4294967295 ++ replicate 12 0

pub limit_at : (m n i : ℕ) → m < 2 ^ 32 → n ≤ 12 → i < 12 → bit_and m (get_or within (12 - n + i) 0) ≡ limit m n i
limit_at m n i small l h = ap (bit_and m) (row_at 4294967295 0 n i l h) ∙ go (ltb i n)
  where
    go : (b : Bool) → bit_and m (cond b 4294967295 0) ≡ cond b m 0
    go true = and_mask m 32 ∙ mod-eq_of_lt {n = m} {m = 2 ^ 32} small
    go false = and_zero_r m

-- place i is tested against its limit k
pub row_gathered : (m n i over k : ℕ) (xs : List ℕ) → m ≤ low → i < length xs → get_or xs i 0 < 2 ^ 32 → k ≡ limit m n i
    → (leb (bit_or (bit_or over (get_or xs i 0)) ((k + (2 ^ 32 - get_or xs i 0)) % 2 ^ 32)) low && is_row m (n - (i + 1)) (drop (i + 1) xs)) ≡ (leb over low && is_row m (n - i) (drop i xs))
row_gathered m n i over k xs small l fits e =
    let most : limit m n i ≤ low = by (ltb i n) in
    above_gathered (limit m n i) (get_or xs i 0) _ most fits (omega arith) (omega arith) over _ ∙ ap (λ (b : Bool). leb over low && b) (sym (row_step m n i xs l))
  where
    by : (b : Bool) → cond b m 0 ≤ low
    by true = small
    by false = omega arith
