-- Cited by the contracts of private functions and by laws: no promise of a public function rests on these definitions.
--
--   syndrome_of n u    what the weighted sum of an order leaves on division by 2n - 1
--   Misread o s       an order of n cells whose syndrome is s, and not 0
--   below_only n k    k where it is below n, else none
--   corrects_by        the exchange of a cell and the one just below it makes the syndrome s 0
--   Exchangeable o k  an order of n cells, and k is a place from 1 to n - 1
use Rattle.std.specs.Prelude.{◌≡◌, Bool, cond, List, Option, Some, None, ℕ, ◌+◌, ◌-◌, ◌%◌, ◌≤◌, ◌<◌, ltb, eqb}
use Rattle.order.specs.declared.Order.{Order}
use Rattle.order.specs.Refusals.{number_of}
use Rattle.order.specs.Order.{listed, order_checks}
use Rattle.coordinates.specs.Coordinates.{coordinates_to, weight}
use Rattle.decoder.specs.Decoding.{modulus}

unfoldable pub syndrome_of : ℕ → List ℕ → ℕ
syndrome_of n u = weight 1 (coordinates_to (n - 1) u) % modulus n

pub record Misread (o : Order) (s : ℕ) : Type 0 where
  pub passed : number_of (order_checks o) ≡ 0
  pub syndrome : s ≡ syndrome_of o.len (listed o)
  pub wrong : 0 < s

abbrev pub below_only : ℕ → ℕ → Option ℕ
below_only n k = cond (ltb k n) (Some k) None

unfoldable pub corrects_by : ℕ → ℕ → ℕ → ℕ → Bool
corrects_by n s a b = cond (ltb a b) (eqb (s + (b - 1)) (modulus n)) (eqb s (a - 1))

pub record Exchangeable (o : Order) (k : ℕ) : Type 0 where
  pub passed : number_of (order_checks o) ≡ 0
  pub first : 1 ≤ k
  pub last : k < o.len
