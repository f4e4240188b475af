-- A sweep over the listed numbers of a record from the last place to the first.
-- Assumes nothing.
use Prim.Native.Nat.{ℕ, suc, ◌-◌, ◌≤◌, ◌<◌}
use native.Mathlib.Omega.{arith}
use mathlib.Core.Path.{◌≡◌, refl, sym, ap, ◌∙◌}
use mathlib.Core.List.{List, [], ◌∷◌}
use lib.ListN.{length, get_or, take, drop, drop_of_length-le}
use lib.Seq.{get_or-take}
use Rattle.order.specs.Cells.{count}
use Rattle.order.proofs.Cells.{IsOrder, order_range, order_count, count-drop, tally-eq}
use Rattle.order.proofs.Numbers.{length_front, drop_down}

-- the sweep has come down to place i
pub record Downto (xs : List ℕ) (len i : ℕ) : Type 0 where
  pub whole : length xs ≡ 12
  pub small : len ≤ 12
  pub left : i ≤ len

module _ (xs : List ℕ) (len : ℕ) (w : length xs ≡ 12) (s : len ≤ 12) where
  pub down_none : Downto xs len len
  down_none = record { whole = w; small = s; left = omega arith }

  pub drop_none : drop len (take len xs) ≡ []
  drop_none = drop_of_length-le (take len xs) {i = len} (omega (arith, length_front xs len w s))

-- a turn of the sweep: S holds at place i, and the next place holds x
pub record Turn (S : Type 0) (xs : List ℕ) (i x : ℕ) : Type 0 where
  pub state : S
  pub more : 0 < i
  pub at : x ≡ get_or xs (i - 1) 0

pub turn_at : {S : Type 0} {xs : List ℕ} {i x : ℕ} → S → 0 < i → x ≡ get_or xs (i - 1) 0 → Turn S xs i x
turn_at s m e = record { state = s; more = m; at = e }

-- the same turn by what S tells
pub turn_by : {S R : Type 0} {xs : List ℕ} {i x : ℕ} → (S → R) → Turn S xs i x → Turn R xs i x
turn_by f t = record { state = f t.state; more = t.more; at = t.at }

module _ {xs : List ℕ} {len i x : ℕ} (t : Turn (Downto xs len i) xs i x) where
  open t use {state as s, more as p, at}

  pub down_more : Downto xs len (i - 1)
  down_more = record { whole = s.whole; small = s.small; left = omega (arith, s.left) }

  pub met_at : get_or (take len xs) (i - 1) 0 ≡ x
  met_at = get_or-take len xs (i - 1) 0 (omega (arith, s.left)) ∙ sym at

  pub met_down : drop (i - 1) (take len xs) ≡ x ∷ drop i (take len xs)
  met_down =
      drop_down (take len xs) i p (omega (arith, s.left, length_front xs len s.whole s.small))
      ∙ ap (λ (k : ℕ). k ∷ drop i (take len xs)) met_at

  -- in an order x is in range, and has not been met
  module _ (o : IsOrder len (take len xs)) where
    pub met_low : 1 ≤ x
    met_low = omega (arith, order_range len (take len xs) o (i - 1) (omega (arith, s.left)), met_at)

    pub met_high : x ≤ len
    met_high = omega (arith, order_range len (take len xs) o (i - 1) (omega (arith, s.left)), met_at)

    pub met_new : count x (drop i (take len xs)) ≡ 0
    met_new =
        let e : suc (x - 1) ≡ x = omega (arith, met_low) in
        let once : count x (take len xs) ≡ 1 = rw e at (order_count len (take len xs) o (x - 1) (omega (arith, met_low, met_high))) in
        omega (arith, count-drop x (i - 1) (take len xs), ap (count x) met_down, tally-eq x x refl)
