-- The rule of the table of counts, carried from the one test of the whole table to each entry.
-- Assumes nothing.
use mathlib.Core.Path.{◌≡◌, ap, ◌∙◌, fun_ext}
use mathlib.Core.Bool.{true, ◌&&◌}
use mathlib.Core.List.{List, []}
use Prim.Native.Nat.{ℕ, zero, suc, ◌+◌, ◌-◌, ◌*◌, ◌^◌, ◌≤◌, ◌<◌}
use native.Mathlib.Nat.{suc-mul, mul-le-mul_right, le_refl, mod-lt}
use native.Mathlib.Omega.{arith}
use lib.Dec.{T, eqb, ltb, leb, eqb→eq, leb→le, ltb→lt}
use lib.ListN.{length, get_or}
use borrow.Author.Tests.{lt-ltb, le-ltb}
use Rattle.order.specs.Refusals.{is_size}
use Rattle.order.proofs.Refusals.{size_true}
use Rattle.decoder.specs.Decoding.{modulus}
use Rattle.code.specs.declared.table.Table.{Table}
use Rattle.code.specs.Tails.{sum_below, owed, nothing, tails_from, tails, Entry, Block}
use Rattle.code.specs.Table.{all, entry, due, block_right, blocks, table_right}
use Rattle.code.proofs.Tests.{and_left, and_right, all_at}

-- each entry's place is within the block's n rows, and so within the largest block
pub within : (n i r : ℕ) → Entry n i r → (i - 1) * modulus n + r < n * modulus n
within n i r e =
    let h : suc (i - 1) ≤ n = omega arith in
    omega (arith, mul-le-mul_right (modulus n) h, suc-mul (i - 1) (modulus n))

pub inside : (n i r : ℕ) → Entry n i r → (i - 1) * modulus n + r < 276
unfolding all
inside n i r e =
    omega (arith, within n i r e, leb→le (n * modulus n) 276 (all_at (λ n. leb (n * modulus n) 276) 13 tt n (omega arith)))

module _ (counts : List ℕ) (n : ℕ) (pos : 0 < n) (t : T (block_right counts n)) where
  at : (j r : ℕ) → j < n → r < modulus n → entry counts n j r ≡ due counts n j r
  unfolding block_right
  at j r hj hr =
      eqb→eq _ _
      (all_at (λ r. eqb (entry counts n j r) (due counts n j r)) (modulus n)
      (all_at (λ j. all (λ r. eqb (entry counts n j r) (due counts n j r)) (modulus n)) n t j hj) r hr)

  row : (k j r : ℕ) → suc j + k ≡ n → r < modulus n → entry counts n j r ≡ tails_from (modulus n) k (suc j) r
  unfolding due tails_from owed
  row zero j r e hr = rw (le-ltb (suc j) n (omega arith)) at (at j r (omega arith) hr)
  row (suc k) j r e hr =
      rw (lt-ltb (suc j) n (omega arith)) at (at j r (omega arith) hr)
      ∙ ap (λ (f : ℕ → ℕ). sum_below f (suc (suc j))) (fun_ext (λ v. row k (suc j) (owed (modulus n) (suc j) r v) (omega arith) (mod-lt _ (omega arith))))

module _ (t : Table) (right : T (table_right t)) (k : ℕ) (h : k < 10) where
  abbrev block : List ℕ
  block = get_or (blocks t) k []

  whole : T (eqb (length block) ((3 + k) * modulus (3 + k)) && block_right block (3 + k))
  unfolding table_right
  whole = all_at (λ k. eqb (length (get_or (blocks t) k [])) ((3 + k) * modulus (3 + k)) && block_right (get_or (blocks t) k []) (3 + k)) 10 right k h

  -- each entry of each block is the count that it stands for
  pub rule : Block (3 + k) block
  unfolding tails
  rule = record {
    size = eqb→eq _ _ (and_left (eqb (length block) ((3 + k) * modulus (3 + k))) (block_right block (3 + k)) whole);
    at = λ i r e.
        let start : suc (i - 1) ≡ i = omega arith in
        rw start at (row block (3 + k) (omega arith) (and_right (eqb (length block) ((3 + k) * modulus (3 + k))) (block_right block (3 + k)) whole) (3 + k - i) (i - 1) r (omega arith) e.residue);
  }

-- a number is none of the k from 3 on, as a match's last arm knows it
abbrev pub Skips : ℕ → ℕ → Type 0
Skips zero n = Unit
Skips (suc k) n = Skips k n × (n ≡ 3 + k → ⊥)

past : (k n : ℕ) → Skips k n → 3 ≤ n → 3 + k ≤ n
past zero n s h = omega arith
past (suc k) n s h = omega (arith, past k n s.0 h, s.1)

-- the last arm's size
pub last_size : (n : ℕ) → is_size n ≡ true → Skips 9 n → n ≡ 12
last_size n e s =
    let (low, high) = size_true n e in
    omega (arith, past 9 n s low)

-- how many choices of k coordinates from coordinate i on there are
ways : ℕ → ℕ → ℕ
ways zero i = 1
ways (suc k) i = suc i * ways k (suc i)

sum_bound : (c : ℕ → ℕ) (b : ℕ) → ((v : ℕ) → c v ≤ b) → (j : ℕ) → sum_below c j ≤ j * b
unfolding sum_below
sum_bound c b h zero = omega arith
sum_bound c b h (suc j) = omega (arith, sum_bound c b h j, h j, suc-mul j b)

tails_ways : (m k i r : ℕ) → tails_from m k i r ≤ ways k i
unfolding tails_from ways nothing
tails_ways m zero i zero = le_refl 1
tails_ways m zero i (suc r) = omega arith
tails_ways m (suc k) i r = sum_bound _ (ways k (suc i)) (λ v. tails_ways m k (suc i) (owed m i r v)) (suc i)

-- each count is a u32
pub tails_fit : (n i r : ℕ) → n ≤ 12 → i ≤ n → tails n i r < 2 ^ 32
unfolding tails ways all
tails_fit n i r hn hi =
    let few : ways (n - i) i < 2 ^ 32 = ltb→lt _ _ (all_at (λ i. ltb (ways (n - i) i) (2 ^ 32)) 13 (all_at (λ n. all (λ i. ltb (ways (n - i) i) (2 ^ 32)) 13) 13 tt n (omega arith)) i (omega arith)) in
    omega (arith, tails_ways (modulus n) (n - i) i r)
