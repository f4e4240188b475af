-- The invariant of the sweep: what it holds is what the definition says of the places that it has come by.
-- Assumes nothing.
use Prim.Native.Nat.{ℕ, suc, ◌+◌, ◌-◌, ◌*◌, ◌%◌, ◌^◌, ◌≤◌}
use native.Mathlib.Nat.{mod-lt, mul-le-mul}
use native.Mathlib.Omega.{arith}
use mathlib.Core.Path.{◌≡◌, sym, ap, ◌∙◌}
use mathlib.Core.Bool.{true, cond}
use mathlib.Core.List.{List}
use lib.Bits.{bit_or}
use lib.Count.{ones, ones-le}
use lib.Dec.{ltb}
use lib.ListN.{length, get_or, take, drop, set, replicate}
use lib.Pow.{pow_pos}
use Rattle.order.specs.Cells.{count, below, is_order}
use Rattle.order.proofs.Cells.{IsOrder, order_true}
use Rattle.order.proofs.Sweep.{Downto, Turn, turn_by, down_none, down_more, drop_none, met_at, met_low, met_high, met_new, met_down}
use Rattle.coordinates.specs.Coordinates.{coordinate_of, weight}
use Rattle.coordinates.specs.Sweep.{met_to}
use Rattle.coordinates.proofs.Mask.{Holds, holds_none, holds_more, holds_below}
use Rattle.coordinates.proofs.Sweeping.{met_left_out, coordinate_place, met_none, met_step, sum_step}

-- a cell's term of the weighted sum
term_low : (x met : ℕ) → x ≤ 12 → (x - 1) * ones (met % 2 ^ (x - 1)) ≤ 121
term_low x met l =
    let k = x - 1 in
    mul-le-mul {n₂ = 11} {m₂ = 11} (omega arith) (omega (arith, ones-le k (met % 2 ^ k) (mod-lt met (pow_pos k))))

-- i places are to come, and the sweep holds what the other len - i give
pub record Counted (xs : List ℕ) (len met : ℕ) (values : List ℕ) (sum i : ℕ) : Type 0 where
  pub down : Downto xs len i
  pub order : IsOrder len (take len xs)
  pub holds : Holds met (drop i (take len xs))
  pub sofar : values ≡ met_to 11 (len - i) (take len xs)
  pub total : sum ≡ weight 1 (met_to 11 (len - i) (take len xs))
  pub small : sum + 121 * i ≤ 121 * len

pub counted_none : (xs : List ℕ) (len : ℕ) → length xs ≡ 12 → len ≤ 12 → is_order len (take len xs) ≡ true → Counted xs len 0 (replicate 11 0) 0 len
unfolding weight
counted_none xs len w s t =
    let o = order_true len (take len xs) t in
    let none : len - len ≡ 0 = omega arith in
    record {
      down = down_none xs len w s;
      order = o;
      holds = rw (drop_none xs len w s) holds_none;
      sofar = rw none (sym (met_none o 11));
      total = rw (none, met_none o 11);
      small = omega arith;
    }

module _ {xs values : List ℕ} {len met sum i x : ℕ} (t : Turn (Counted xs len met values sum i) xs i x) where
  open t use {state as s}

  abbrev u : List ℕ
  u = take len xs

  on_down : Turn (Downto xs len i) xs i x
  on_down = turn_by (λ (s : Counted xs len met values sum i). s.down) t

  pub counted_low : 1 ≤ x
  counted_low = met_low on_down s.order

  pub counted_high : x ≤ 12
  counted_high = omega (arith, met_high on_down s.order, s.down.small)

  same_cell : suc (x - 1) ≡ x
  same_cell = omega (arith, counted_low)

  -- the cell is the one at the next place
  next_cell : get_or u (len - suc (len - i)) 0 ≡ x
  next_cell =
      let e : len - suc (len - i) ≡ i - 1 = omega (arith, t.more, s.down.left) in
      rw e (met_at on_down)

  -- the ones below its bit are its coordinate
  counted_ones : ones (met % 2 ^ (x - 1)) ≡ coordinate_of u (x - 1)
  counted_ones =
      let after : i - 1 + 1 ≡ i = omega (arith, t.more) in
      let place : coordinate_of u (x - 1) ≡ below x (drop i u) =
      rw (met_at on_down, after) at (coordinate_place s.order (i - 1) (omega (arith, t.more, s.down.left))) in
      rw same_cell at (holds_below s.holds (x - 1)) ∙ sym place

  pub sum_small : sum + (x - 1) * ones (met % 2 ^ (x - 1)) ≤ 1452
  sum_small = omega (arith, term_low x met counted_high, s.small, s.down.small, t.more)

  pub counted_more :
      let v = ones (met % 2 ^ (x - 1)) in
      Counted xs len (bit_or met (2 ^ (x - 1))) (cond (ltb x 2) values (set values (x - 2) v)) (sum + (x - 1) * v) (i - 1)
  counted_more =
      let new : count (suc (x - 1)) (drop i u) ≡ 0 = rw same_cell (met_new on_down s.order) in
      let more : len - (i - 1) ≡ suc (len - i) = omega (arith, t.more, s.down.left) in
      let l : suc (len - i) ≤ len = omega (arith, t.more, s.down.left) in
      record {
        down = down_more on_down;
        order = s.order;
        holds = rw (met_down on_down) (rw same_cell at (holds_more s.holds (x - 1) new));
        sofar = rw (s.sofar, counted_ones, more) (rw next_cell at (met_step s.order (len - i) l 11));
        total = rw (s.total, counted_ones, more) (sym (rw next_cell at (sum_step s.order (len - i) l 11 (rw next_cell counted_high))));
        small = omega (arith, term_low x met counted_high, s.small, t.more);
      }

-- what it holds when it ends: as many places are to come as the given number leaves out
module _ {xs values : List ℕ} {len met sum i : ℕ} (s : Counted xs len met values sum i) (k : ℕ) (e : i ≡ len - k) where
  same_places : met_to 11 (len - i) (take len xs) ≡ met_to 11 k (take len xs)
  same_places = met_left_out 11 (len - i) k (take len xs) (omega (arith, s.order.size, s.down.left))

  pub counted_values : values ≡ met_to 11 k (take len xs)
  counted_values = s.sofar ∙ same_places

  pub counted_sum : sum ≡ weight 1 (met_to 11 k (take len xs))
  counted_sum = s.total ∙ ap (weight 1) same_places
