-- Groups counted from 1: a sum, a test, places and the first refusal over groups 1 to n, by a function that says what belongs to group k.
--
--   total n f           f 1 + f 2 + .. + f n
--   all_of n test        each of 1, 2, .., n passes the test
--   put_each n f xs      the list with its places 1 to n set to f 1, f 2, .., f n; the later places stay
--   first_refusing n number    the first of 1, 2, .., n whose number is not 0; 0 where all of them are
use Rattle.std.specs.Prelude.{ℕ, zero, suc, ◌+◌, Bool, true, ◌&&◌, List, set}
use Rattle.order.specs.Refusals.{if_done}

unfoldable pub total : ℕ → (ℕ → ℕ) → ℕ
total zero f = 0
total (suc n) f = total n f + f (suc n)

unfoldable pub all_of : ℕ → (ℕ → Bool) → Bool
all_of zero test = true
all_of (suc n) test = all_of n test && test (suc n)

unfoldable pub put_each : {A : Type 0} → ℕ → (ℕ → A) → List A → List A
put_each zero f xs = xs
put_each (suc n) f xs = set (put_each n f xs) n (f (suc n))

unfoldable pub first_refusing : ℕ → (ℕ → ℕ) → ℕ
first_refusing zero number = 0
first_refusing (suc n) number = if_done (first_refusing n number) (if_done (number (suc n)) 0 (suc n)) (first_refusing n number)
