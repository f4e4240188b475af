-- Document 01, "The one-error code": the counts of the table, by their recurrence. The contracts of private functions cite them; what they
-- count is shown in proofs/Laws (`entry_counts`, `K-entry`).
--
--   sum_below f j       f 0 + f 1 + .. + f (j - 1)
--   owed m i r v       what the later coordinates must leave, for all to leave r, where coordinate i is v
--   nothing r          nothing is chosen: 1 for r = 0, else 0
--   tails_from m k i r  how many choices of k coordinates from coordinate i on leave r, for r below m
--   tails n i r        how many choices of the coordinates i to n - 1 leave r: the table's entry for n, start i, residue r
--   having n i r v     how many of them have coordinate i at v, for v from 0 to i
--   before n i r v     how many of them have coordinate i below v
--   Entry n i r        the table has such an entry: n from 3 to 12, start i from 1 to n, residue r below 2n - 1
--   Block n counts     the counts of size n: for each start a row of 2n - 1 counts, by residue
use Rattle.std.specs.Prelude.{◌≡◌, List, ℕ, zero, suc, ◌+◌, ◌-◌, ◌*◌, ◌%◌, ◌≤◌, ◌<◌, length, get_or}
use Rattle.decoder.specs.Decoding.{modulus}

unfoldable pub sum_below : (ℕ → ℕ) → ℕ → ℕ
sum_below f zero = 0
sum_below f (suc j) = sum_below f j + f j

unfoldable pub owed : ℕ → ℕ → ℕ → ℕ → ℕ
owed m i r v = (r + (m - i * v % m)) % m

unfoldable pub nothing : ℕ → ℕ
nothing zero = 1
nothing (suc r) = 0

unfoldable pub tails_from : ℕ → ℕ → ℕ → ℕ → ℕ
tails_from m zero i r = nothing r
tails_from m (suc k) i r = sum_below (λ v. tails_from m k (suc i) (owed m i r v)) (suc i)

unfoldable pub tails : ℕ → ℕ → ℕ → ℕ
tails n i r = tails_from (modulus n) (n - i) i r

abbrev pub having : ℕ → ℕ → ℕ → ℕ → ℕ
having n i r v = tails n (i + 1) (owed (modulus n) i r v)

unfoldable pub before : ℕ → ℕ → ℕ → ℕ → ℕ
before n i r v = sum_below (having n i r) v

pub record Entry (n i r : ℕ) : Type 0 where
  pub low : 3 ≤ n
  pub high : n ≤ 12
  pub first : 1 ≤ i
  pub last : i ≤ n
  pub residue : r < modulus n

pub record Block (n : ℕ) (counts : List ℕ) : Type 0 where
  pub size : length counts ≡ n * modulus n
  pub at : (i r : ℕ) → Entry n i r → get_or counts ((i - 1) * modulus n + r) 0 ≡ tails n i r
