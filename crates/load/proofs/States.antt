-- The states of the generator.
--
--   one_to_one                      two states that have the same next state are the same
--   next_is_state, after_is_state   the state never becomes 0
--   state_cut                       steps in two parts
--   states_apart                    two states that are not the same are not after any number of steps
--   comes_back                      where a state comes again after j steps more, the one begun with comes again after j steps
-- Assumes nothing.
use Prim.Native.Nat.{ℕ, zero, suc, ◌+◌, ◌*◌, ◌/◌, ◌%◌, ◌^◌, ◌<◌}
use mathlib.Core.Path.{◌≡◌, refl, sym, ap, ap₂, ◌∙◌}
use native.Mathlib.Nat.{zero-add, add-zero, suc-add, mul_assoc, mul_comm, pow-suc, mod-lt}
use native.Mathlib.Numerals.{add-one}
use native.Mathlib.Omega.{arith}
use lib.Bits.{differ, bit_xor, xor_step, xor_add_and, and_le_l, and_le_r, xor_lt, xor_block, xor_shr, xor_mod, shifted_half, shifted_even}
use lib.Pow.{pow_pos, shr_le, field, mod-mod-pow}
use Rattle.load.specs.Load.{shifted_left, shifted_right, next_state, state_after}
use Rattle.load.specs.Claims.{IsState}

-- ---- exclusive or

-- two bits differ where their sum is odd
differ_odd : (a b : ℕ) → a < 2 → b < 2 → differ a b ≡ (a + b) % 2
differ_odd zero b la lb = omega (arith, lb)
differ_odd (suc a) zero la lb = omega (arith, la)
differ_odd (suc a) (suc b) la lb = differ_odd a b (omega (arith, la)) (omega (arith, lb)) ∙ omega arith

xor_bits : (a b : ℕ) → bit_xor a b ≡ bit_xor (a / 2) (b / 2) * 2 + (a % 2 + b % 2) % 2
xor_bits a b = xor_step a b ∙ ap (λ (d : ℕ). bit_xor (a / 2) (b / 2) * 2 + d) (differ_odd (a % 2) (b % 2) (omega arith) (omega arith))

odd_across : (a b c d : ℕ) → (a + b) % 2 ≡ (c + d) % 2 → (a + c) % 2 ≡ (b + d) % 2
odd_across a b c d e = omega (arith, e)

-- what differs alike in two pairs differs alike across them; w bits are enough for the four together
xor_across : (w a b c d : ℕ) → a + b + c + d < 2 ^ w → bit_xor a b ≡ bit_xor c d → bit_xor a c ≡ bit_xor b d
xor_across zero a b c d l e =
    let none-a : a ≡ 0 = omega (arith, l) in
    let none-b : b ≡ 0 = omega (arith, l) in
    let none-c : c ≡ 0 = omega (arith, l) in
    let none-d : d ≡ 0 = omega (arith, l) in
    rw (none-a, none-b, none-c, none-d)
xor_across (suc w) a b c d l e =
    let halves : bit_xor (a / 2) (b / 2) ≡ bit_xor (c / 2) (d / 2) = omega (arith, e, xor_bits a b, xor_bits c d) in
    let last : (a % 2 + b % 2) % 2 ≡ (c % 2 + d % 2) % 2 = omega (arith, e, xor_bits a b, xor_bits c d) in
    xor_bits a c
    ∙ ap₂ (λ (h d : ℕ). h * 2 + d)
    (xor_across w (a / 2) (b / 2) (c / 2) (d / 2) (omega (arith, rw (pow-suc 2 w) at l)) halves)
    (odd_across (a % 2) (b % 2) (c % 2) (d % 2) last)
    ∙ sym (xor_bits b d)

-- two numbers whose bits nowhere differ are equal
xor_zero : (a b : ℕ) → bit_xor a b ≡ 0 → a ≡ b
xor_zero a b e = omega (arith, e, xor_add_and a b, and_le_l a b, and_le_r a b)

-- ---- a stage of the xorshift: a number, exclusive or what it is shifted to

-- a shift that goes bit by bit, leaves 0 alone as it is, and stays within 32 bits
record Shifts (shift : ℕ → ℕ) : Type 0 where
  linear : (x y : ℕ) → shift (bit_xor x y) ≡ bit_xor (shift x) (shift y)
  fixed : (x : ℕ) → x < 2 ^ 32 → x ≡ shift x → x ≡ 0
  small : (x : ℕ) → x < 2 ^ 32 → shift x < 2 ^ 32

module _ {shift : ℕ → ℕ} (s : Shifts shift) where
  stage_small : (x : ℕ) → x < 2 ^ 32 → bit_xor x (shift x) < 2 ^ 32
  stage_small x l = xor_lt 32 x (shift x) l (s.small x l)

  stage_one_to_one : (x y : ℕ) → x < 2 ^ 32 → y < 2 ^ 32 → bit_xor x (shift x) ≡ bit_xor y (shift y) → x ≡ y
  stage_one_to_one x y l m e =
      let kept : bit_xor x y ≡ shift (bit_xor x y) =
      xor_across 34 x (shift x) y (shift y) (omega (arith, l, m, s.small x l, s.small y m)) e ∙ sym (s.linear x y) in
      xor_zero x y (s.fixed (bit_xor x y) (xor_lt 32 x y l m) kept)

-- what stays under a shift to the left must be even, and so must its half
left_fixed : (w k x : ℕ) → x < 2 ^ w → x ≡ x * 2 ^ suc k % 2 ^ w → x ≡ 0
left_fixed zero k x l e = omega arith
left_fixed (suc w) k x l e =
    let even : x % 2 ≡ 0 = ap (λ (y : ℕ). y % 2) e ∙ rw add-one at (mod-mod-pow (x * 2 ^ suc k) w 1) ∙ shifted_even x k in
    let twice : x / 2 * 2 ≡ x = omega (arith, even) in
    let part : x / 2 * 2 ^ suc k ≡ x * 2 ^ k = ap (λ (p : ℕ). x / 2 * p) (pow-suc 2 k ∙ mul_comm (2 ^ k) 2) ∙ sym (mul_assoc (x / 2) 2 (2 ^ k)) ∙ ap (λ (y : ℕ). y * 2 ^ k) twice in
    let half : x / 2 ≡ x / 2 * 2 ^ suc k % 2 ^ w = ap (λ (y : ℕ). y / 2) e ∙ rw add-one at (field (x * 2 ^ suc k) w 1) ∙ ap (λ (y : ℕ). y % 2 ^ w) (shifted_half x k ∙ sym part) in
    let small : x / 2 < 2 ^ w = omega (arith, rw (pow-suc 2 w) at l) in
    omega (arith, twice, left_fixed w k (x / 2) small half)

left_linear : (k x y : ℕ) → shifted_left k (bit_xor x y) ≡ bit_xor (shifted_left k x) (shifted_left k y)
left_linear k x y =
    let whole : bit_xor (x * 2 ^ k) (y * 2 ^ k) ≡ bit_xor x y * 2 ^ k = rw (add-zero (x * 2 ^ k), add-zero (y * 2 ^ k), add-zero (bit_xor x y * 2 ^ k)) at (xor_block k x y 0 0 (pow_pos k) (pow_pos k)) in
    ap (λ (z : ℕ). z % 2 ^ 32) (sym whole) ∙ xor_mod (x * 2 ^ k) (y * 2 ^ k) 32

-- to the left by one place or more
left : (k : ℕ) → Shifts (shifted_left (suc k))
left k = record { linear = left_linear (suc k); fixed = left_fixed 32 k; small = λ x l. mod-lt (x * 2 ^ suc k) (pow_pos 32) }

right : Shifts (shifted_right 17)
right = record { linear = λ x y. xor_shr x y 17; fixed = λ x l e. omega (arith, e); small = λ x l. omega (arith, l, shr_le x 17) }

-- ---- a step is three stages

module _ (x : ℕ) (l : x < 2 ^ 32) where
  first_small : bit_xor x (shifted_left 13 x) < 2 ^ 32
  first_small = stage_small (left 12) x l

  second_small : let a = bit_xor x (shifted_left 13 x) in bit_xor a (shifted_right 17 a) < 2 ^ 32
  second_small = stage_small right _ first_small

  next_small : next_state x < 2 ^ 32
  unfolding next_state
  next_small = stage_small (left 4) _ second_small

pub one_to_one : (x y : ℕ) → x < 2 ^ 32 → y < 2 ^ 32 → next_state x ≡ next_state y → x ≡ y
unfolding next_state
one_to_one x y l m e =
    let third = stage_one_to_one (left 4) _ _ (second_small x l) (second_small y m) e in
    let second = stage_one_to_one right _ _ (first_small x l) (first_small y m) third in
    stage_one_to_one (left 12) x y l m second

-- ---- the state never becomes 0

next_of_0 : next_state 0 ≡ 0
unfolding next_state
next_of_0 = refl

-- 0 is the state after 0, and after no other
next_above : (x y : ℕ) → IsState x → next_state x ≡ y → 0 < y
next_above x zero s e = let none = one_to_one x 0 s.small (omega arith) (e ∙ sym next_of_0) in absurd (omega (arith, none, s.above))
next_above x (suc y) s e = omega arith

pub next_is_state : (x : ℕ) → IsState x → IsState (next_state x)
next_is_state x s = record { above = next_above x _ s refl; small = next_small x s.small }

pub after_is_state : (k x : ℕ) → IsState x → IsState (state_after k x)
unfolding state_after
after_is_state zero x s = s
after_is_state (suc k) x s = after_is_state k (next_state x) (next_is_state x s)

-- ---- several steps

pub state_cut : (j k x : ℕ) → state_after (j + k) x ≡ state_after k (state_after j x)
unfolding state_after
state_cut zero k x = rw zero-add
state_cut (suc j) k x = rw suc-add (state_cut j k (next_state x))

pub states_apart : (k x y : ℕ) → x < 2 ^ 32 → y < 2 ^ 32 → state_after k x ≡ state_after k y → x ≡ y
unfolding state_after
states_apart zero x y l m e = e
states_apart (suc k) x y l m e = one_to_one x y l m (states_apart k (next_state x) (next_state y) (next_small x l) (next_small y m) e)

after_small : (k x : ℕ) → x < 2 ^ 32 → state_after k x < 2 ^ 32
unfolding state_after
after_small zero x l = l
after_small (suc k) x l = after_small k (next_state x) (next_small x l)

pub comes_back : (j k x : ℕ) → x < 2 ^ 32 → state_after (j + k) x ≡ state_after k x → state_after j x ≡ x
comes_back j k x l e = states_apart k (state_after j x) x (after_small j x l) l (sym (state_cut j k x) ∙ e)
