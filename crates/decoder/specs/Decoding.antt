-- Document 01, "The one-error code" (SD 003, construction 8, code C1): which orders are codewords, and which codeword an order reads as.
--
--   modulus n           the divisor 2n - 1
--   leaves m i r x      the weighted sum (coordinates, specs Coordinates, `weight`) leaves r on division by m, where the first is coordinate i
--   is_codeword n u      an order of n cells is a codeword: the sum over i of i times coordinate i is divisible by 2n - 1
--   first_below n test   the first k from 0 to n - 1 that passes the test, and n where none does
--   correction n u      the place at which a neighbour exchange makes u a codeword: 0 where u is one itself, and n where u is lost
--   Nearby n u c        c is a codeword of n cells at distance 0 or 1 from u. For the laws of decoding (proofs/Decoding)
use Rattle.std.specs.Prelude.{◌≡◌, Bool, true, cond, List, ℕ, zero, suc, ◌-◌, ◌*◌, ◌%◌, ◌≤◌, eqb, ltb}
use Rattle.order.specs.Cells.{is_order}
use Rattle.coordinates.specs.Coordinates.{coordinates_to, weight}
use Rattle.distance.specs.Distance.{opposed, exchange}

abbrev pub modulus : ℕ → ℕ
modulus n = 2 * n - 1

unfoldable pub leaves : ℕ → ℕ → ℕ → List ℕ → Bool
leaves m i r x = eqb (weight i x % m) r

unfoldable pub is_codeword : ℕ → List ℕ → Bool
is_codeword n u = leaves (modulus n) 1 0 (coordinates_to (n - 1) u)

unfoldable pub first_below : ℕ → (ℕ → Bool) → ℕ
first_below zero test = 0
first_below (suc n) test = cond (ltb (first_below n test) n) (first_below n test) (cond (test n) n (suc n))

unfoldable pub correction : ℕ → List ℕ → ℕ
correction n u = first_below n (λ k. is_codeword n (exchange k u))

pub record Nearby (n : ℕ) (u c : List ℕ) : Type 0 where
  pub order : is_order n c ≡ true
  pub code : is_codeword n c ≡ true
  pub near : opposed u c ≤ 1
