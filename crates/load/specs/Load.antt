-- Document 02, request (i), "A test load that both benches can make".
--
--   shifted_left k x          the 32-bit number x shifted left by k places: what goes past 32 bits is lost
--   shifted_right k x         the number x shifted right by k places
--   next_state x              the state after x: the 32-bit xorshift of Marsaglia, shifts left 13, right 17, left 5
--   state_after k x           the state that is k steps after x
--   symbols m x k            k symbols from the state x on, where there are m codewords: each is the new state modulo m
--   load_checks n seed        the checks of a load: 1, then 21 for a seed of 0
--   told_load a               what an answer says: its number, and the last state, or 0
--   load_of n seed k          the answer to a load of k symbols: the last state, which is the seed where k is 0; 0 beside a refusal
--   symbols_after n seed xs   the lent list xs after a load: symbols in all places, and as it was where the load is refused
use Rattle.std.specs.Prelude.{ℕ, zero, suc, ◌*◌, ◌/◌, ◌%◌, ◌^◌, Bool, List, [], ◌∷◌, Result, leb, length}
use Rattle.std.specs.Int.Bits.{bit_xor}
use Rattle.order.specs.declared.Refusal.{Refusal}
use Rattle.order.specs.declared.Refusal.TheVariants.{Size, Seed}
use Rattle.order.specs.Refusals.{number_of, if_done, Told, told, answer, is_size}
use Rattle.code.specs.Words.{K}

-- ---- the generator

abbrev pub shifted_left : ℕ → ℕ → ℕ
shifted_left k x = x * 2 ^ k % 2 ^ 32

abbrev pub shifted_right : ℕ → ℕ → ℕ
shifted_right k x = x / 2 ^ k

unfoldable pub next_state : ℕ → ℕ
next_state x =
    let a = bit_xor x (shifted_left 13 x) in
    let b = bit_xor a (shifted_right 17 a) in
    bit_xor b (shifted_left 5 b)

unfoldable pub state_after : ℕ → ℕ → ℕ
state_after zero x = x
state_after (suc k) x = state_after k (next_state x)

unfoldable pub symbols : ℕ → ℕ → ℕ → List ℕ
symbols m x zero = []
symbols m x (suc k) = next_state x % m ∷ symbols m (next_state x) k

-- ---- the load

abbrev pub load_checks : ℕ → ℕ → List (Bool × Refusal)
load_checks n seed = (is_size n, Size) ∷ (leb 1 seed, Seed) ∷ []

abbrev pub told_load : Result ℕ Refusal → Told ℕ
told_load a = told 0 a

unfoldable pub load_of : ℕ → ℕ → ℕ → Told ℕ
load_of n seed k = answer (load_checks n seed) (state_after k seed) 0

unfoldable pub symbols_after : ℕ → ℕ → List ℕ → List ℕ
symbols_after n seed xs = if_done (number_of (load_checks n seed)) (symbols (K n) seed (length xs)) xs
