-- Document 01's table of 1,215 counts: its rule, as one test over the whole table. The contracts of private functions cite it; that each entry
-- is then the count that it stands for is shown in proofs/Rule (`rule`).
--
--   all test n            the test passes at each number below n
--   entry block n j r     in the block of size n, the count of start j + 1 and residue r
--   due block n j r       what the recurrence asks of it, from the counts of the next start; for start n, 1 for r = 0, else 0
--   block_right block n    each count of size n is what the recurrence asks
--   blocks table          the blocks of the sizes 3 to 12
--   table_right table      each of them has a row of 2n - 1 counts for each of n starts, and is right
use Rattle.std.specs.Prelude.{Bool, true, cond, ◌&&◌, List, [], ◌∷◌, ℕ, zero, suc, ◌+◌, ◌*◌, eqb, ltb, length, get_or}
use Rattle.code.specs.declared.table.Table.{Table}
use Rattle.decoder.specs.Decoding.{modulus}
use Rattle.code.specs.Tails.{sum_below, owed, nothing}

unfoldable pub all : (ℕ → Bool) → ℕ → Bool
all f zero = true
all f (suc n) = f n && all f n

abbrev pub entry : List ℕ → ℕ → ℕ → ℕ → ℕ
entry block n j r = get_or block (j * modulus n + r) 0

unfoldable pub due : List ℕ → ℕ → ℕ → ℕ → ℕ
due block n j r = cond (ltb (suc j) n) (sum_below (λ v. entry block n (suc j) (owed (modulus n) (suc j) r v)) (suc (suc j))) (nothing r)

unfoldable pub block_right : List ℕ → ℕ → Bool
block_right block n = all (λ j. all (λ r. eqb (entry block n j r) (due block n j r)) (modulus n)) n

abbrev pub blocks : Table → List (List ℕ)
blocks t = t.of_3 ∷ t.of_4 ∷ t.of_5 ∷ t.of_6 ∷ t.of_7 ∷ t.of_8 ∷ t.of_9 ∷ t.of_10 ∷ t.of_11 ∷ t.of_12 ∷ []

unfoldable pub table_right : Table → Bool
table_right t = all (λ k. eqb (length (get_or (blocks t) k [])) ((3 + k) * modulus (3 + k)) && block_right (get_or (blocks t) k []) (3 + k)) 10
