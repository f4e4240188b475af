-- Numbers in base ten: how one is spelled from its last digit, how long it is, and that the digits give it back.
-- Assumes nothing.
use mathlib.Core.Path.{◌≡◌, refl, sym, ap, ◌∙◌}
use Prim.Native.Nat.{ℕ, zero, suc, ◌+◌, ◌*◌, ◌/◌, ◌%◌, ◌^◌, ◌-◌, ◌≤◌, ◌<◌}
use native.Mathlib.Omega.{arith}
use native.Mathlib.Nat.{pow-suc, lt_of_lt_of_le}
use mathlib.Core.Bool.{Bool, true, false}
use mathlib.Core.List.{List, [], ◌∷◌, ◌++◌, append_assoc}
use lib.Dec.{T, ltb, leb, leb→le}
use lib.ListN.{length, length-append}
use borrow.Author.Tests.{ltb-true, ltb-false, lt-ltb, le-ltb}
use Rattle.lines.specs.Line.{spelled, decimal}
use Rattle.lines.specs.Puts.{pair}

spelled_digit : (k n : ℕ) → n < 10 → spelled (suc k) n ≡ (48 + n) ∷ []
unfolding spelled
spelled_digit k n h = rw (lt-ltb n 10 h) refl

spelled_last : (k n : ℕ) → 10 ≤ n → spelled (suc k) n ≡ spelled k (n / 10) ++ (48 + n % 10) ∷ []
unfolding spelled
spelled_last k n h = rw (le-ltb n 10 h) refl

-- the bound on the digits does not show, where it is above the number
spelled_enough : (k m n : ℕ) → n < k → n < m → spelled k n ≡ spelled m n
spelled_enough zero m n h i = absurd (omega arith)
spelled_enough (suc k) zero n h i = absurd (omega arith)
spelled_enough (suc k) (suc m) n h i = go (ltb n 10) refl (λ a b. spelled_enough k m (n / 10) a b)
  where
    go : (t : Bool) → ltb n 10 ≡ t → (n / 10 < k → n / 10 < m → spelled k (n / 10) ≡ spelled m (n / 10)) → spelled (suc k) n ≡ spelled (suc m) n
    go true e rest = spelled_digit k n (ltb-true n 10 e) ∙ sym (spelled_digit m n (ltb-true n 10 e))
    go false e rest =
        let ten : 10 ≤ n = ltb-false n 10 e in
        let a : n / 10 < k = omega arith in
        let b : n / 10 < m = omega arith in
        spelled_last k n ten ∙ ap (λ (ds : List ℕ). ds ++ (48 + n % 10) ∷ []) (rest a b) ∙ sym (spelled_last m n ten)

-- one digit
pub decimal_digit : (n : ℕ) → n < 10 → decimal n ≡ (48 + n) ∷ []
unfolding decimal
decimal_digit n h = spelled_digit n n h

-- the last digit comes after the others
pub decimal_last : (n : ℕ) → 10 ≤ n → decimal n ≡ decimal (n / 10) ++ (48 + n % 10) ∷ []
unfolding decimal
decimal_last n h =
    let a : n / 10 < n = omega arith in
    let b : n / 10 < suc (n / 10) = omega arith in
    spelled_last n n h ∙ ap (λ (ds : List ℕ). ds ++ (48 + n % 10) ∷ []) (spelled_enough n (suc (n / 10)) (n / 10) a b)

-- two digits
pub decimal_pair : (n : ℕ) → 10 ≤ n → n < 100 → decimal n ≡ pair n
decimal_pair n h l =
    let high : n / 10 < 10 = omega arith in
    decimal_last n h ∙ ap (λ (ds : List ℕ). ds ++ (48 + n % 10) ∷ []) (decimal_digit (n / 10) high)

-- the last two digits come after the others
pub decimal_last_two : (n : ℕ) → 100 ≤ n → decimal n ≡ decimal (n / 100) ++ pair (n % 100)
decimal_last_two n h =
    let ten : 10 ≤ n = omega arith in
    let more : 10 ≤ n / 10 = omega arith in
    let high : n / 10 / 10 ≡ n / 100 = omega arith in
    let mid : n / 10 % 10 ≡ n % 100 / 10 = omega arith in
    let low : n % 10 ≡ n % 100 % 10 = omega arith in
    decimal_last n ten
    ∙ ap (λ (ds : List ℕ). ds ++ (48 + n % 10) ∷ []) (decimal_last (n / 10) more)
    ∙ append_assoc (decimal (n / 10 / 10)) ((48 + n / 10 % 10) ∷ []) ((48 + n % 10) ∷ [])
    ∙ ap (λ (k : ℕ). decimal k ++ (48 + n / 10 % 10) ∷ (48 + n % 10) ∷ []) high
    ∙ ap (λ (d : ℕ). decimal (n / 100) ++ (48 + d) ∷ (48 + n % 10) ∷ []) mid
    ∙ ap (λ (d : ℕ). decimal (n / 100) ++ (48 + n % 100 / 10) ∷ (48 + d) ∷ []) low

-- and the last four after the others: two pairs
pub decimal_last_four : (n : ℕ) → 10000 ≤ n → decimal n ≡ decimal (n / 10000) ++ (pair (n % 10000 / 100) ++ pair (n % 10000 % 100))
decimal_last_four n h =
    let hundred : 100 ≤ n = omega arith in
    let more : 100 ≤ n / 100 = omega arith in
    let high : n / 100 / 100 ≡ n / 10000 = omega arith in
    let mid : n / 100 % 100 ≡ n % 10000 / 100 = omega arith in
    let low : n % 100 ≡ n % 10000 % 100 = omega arith in
    decimal_last_two n hundred
    ∙ ap (λ (ds : List ℕ). ds ++ pair (n % 100)) (decimal_last_two (n / 100) more)
    ∙ append_assoc (decimal (n / 100 / 100)) (pair (n / 100 % 100)) (pair (n % 100))
    ∙ ap (λ (k : ℕ). decimal k ++ (pair (n / 100 % 100) ++ pair (n % 100))) high
    ∙ ap (λ (k : ℕ). decimal (n / 10000) ++ (pair k ++ pair (n % 100))) mid
    ∙ ap (λ (k : ℕ). decimal (n / 10000) ++ (pair (n % 10000 / 100) ++ pair k)) low

pub digit_length : (n : ℕ) → n < 10 → length (decimal n) ≡ 1
digit_length n h = ap length (decimal_digit n h)

pub last_length : (n : ℕ) → 10 ≤ n → length (decimal n) ≡ length (decimal (n / 10)) + 1
last_length n h = ap length (decimal_last n h) ∙ length-append (decimal (n / 10)) ((48 + n % 10) ∷ [])

pub pair_length : (n : ℕ) → 10 ≤ n → n < 100 → length (decimal n) ≡ 2
pair_length n h l = ap length (decimal_pair n h l)

pub last_two_length : (n : ℕ) → 100 ≤ n → length (decimal n) ≡ length (decimal (n / 100)) + 2
last_two_length n h = ap length (decimal_last_two n h) ∙ length-append (decimal (n / 100)) (pair (n % 100))

pub last_four_length : (n : ℕ) → 10000 ≤ n → length (decimal n) ≡ length (decimal (n / 10000)) + 4
last_four_length n h =
    ap length (decimal_last_four n h) ∙ length-append (decimal (n / 10000)) (pair (n % 10000 / 100) ++ pair (n % 10000 % 100))

-- a number below 10 ^ (k + 1) has at most k + 1 digits
pub decimal_length : (k n : ℕ) → n < 10 ^ suc k → length (decimal n) ≤ suc k
decimal_length zero n h = omega (arith, digit_length n h)
decimal_length (suc k) n h = go (ltb n 10) refl (decimal_length k (n / 10))
  where
    go : (t : Bool) → ltb n 10 ≡ t → (n / 10 < 10 ^ suc k → length (decimal (n / 10)) ≤ suc k) → length (decimal n) ≤ suc (suc k)
    go true e shorter = omega (arith, digit_length n (ltb-true n 10 e))
    go false e shorter =
        let p : 10 ^ suc (suc k) ≡ 10 ^ suc k * 10 = pow-suc 10 (suc k) in
        let s : n / 10 < 10 ^ suc k = omega arith in
        let i : length (decimal (n / 10)) ≤ suc k = shorter s in
        omega (arith, last_length n (ltb-false n 10 e))

-- the same of a number of a type: its bound is tested once
pub short : (k b : ℕ) {n : ℕ} → n < b → T (leb b (10 ^ suc k)) → length (decimal n) ≤ suc k
short k b h t = decimal_length k _ (lt_of_lt_of_le h (leb→le b (10 ^ suc k) t))

-- a number of 32 bits, or of 16, which may stand in a wider type
pub word_length : (m : ℕ) {n : ℕ} → m ≡ n → n < 2 ^ 32 → length (decimal m) ≤ 10
word_length m e h = short 9 (2 ^ 32) (omega (arith, e, h)) tt

pub level_length : (m : ℕ) {n : ℕ} → m ≡ n → n < 65536 → length (decimal m) ≤ 5
level_length m e h = short 4 65536 (omega (arith, e, h)) tt

-- ---- the digits of a number give it back

abbrev value_from : ℕ → List ℕ → ℕ
value_from v [] = v
value_from v (d ∷ ds) = value_from (v * 10 + (d - 48)) ds

value_append : (v : ℕ) (ds es : List ℕ) → value_from v (ds ++ es) ≡ value_from (value_from v ds) es
value_append v [] es = refl
value_append v (d ∷ ds) es = value_append (v * 10 + (d - 48)) ds es

pub decimal_value : (k n : ℕ) → n < k → value_from 0 (decimal n) ≡ n
decimal_value zero n h = absurd (omega arith)
decimal_value (suc k) n h = go (ltb n 10) refl (decimal_value k (n / 10))
  where
    go : (t : Bool) → ltb n 10 ≡ t → (n / 10 < k → value_from 0 (decimal (n / 10)) ≡ n / 10) → value_from 0 (decimal n) ≡ n
    go true e shorter = rw (decimal_digit n (ltb-true n 10 e)) (omega arith)
    go false e shorter =
        let ten : 10 ≤ n = ltb-false n 10 e in
        let i : value_from 0 (decimal (n / 10)) ≡ n / 10 = shorter (omega arith) in
        let a : value_from 0 (decimal (n / 10) ++ (48 + n % 10) ∷ []) ≡ value_from 0 (decimal (n / 10)) * 10 + (48 + n % 10 - 48) =
        value_append 0 (decimal (n / 10)) ((48 + n % 10) ∷ []) in
        rw (decimal_last n ten) (omega arith)
