-- The invariant of `number_by`: it holds at the start, after each coordinate, and at the end it is the answer.
-- Assumes nothing.
use mathlib.Core.Path.{◌≡◌}
use mathlib.Core.Bool.{true}
use mathlib.Core.List.{List, ◌∷◌}
use Prim.Native.Nat.{ℕ, suc, ◌+◌, ◌-◌, ◌^◌, ◌≤◌, ◌<◌}
use native.Mathlib.Nat.{zero-add, add-zero}
use native.Mathlib.Numerals.{add-one}
use native.Mathlib.Omega.{arith}
use lib.Dec.{T}
use lib.ListN.{length, length-drop}
use Rattle.order.specs.Refusals.{is_size}
use Rattle.order.proofs.Refusals.{size_true}
use Rattle.coordinates.specs.declared.Coordinates.{Coordinates}
use Rattle.coordinates.specs.Coordinates.{in_range}
use Rattle.decoder.specs.Decoding.{modulus, leaves}
use Rattle.code.specs.Words.{words, vectors, word_number}
use Rattle.code.specs.Tails.{tails, owed, before}
use Rattle.code.specs.Steps.{is_word, Choosing}
use Rattle.code.proofs.Scanning.{Sized, cut, at, from, from_cons, from_end, length_cut}
use Rattle.code.proofs.Rule.{tails_fit}
use Rattle.code.proofs.Numbering.{words_from, owed_lt, tail_word, found, number_zero}
use Rattle.code.proofs.Laws.{K-entry, word_of_lem, number_below}
use Rattle.code.proofs.Steps.{number_from, number_step}

-- the cells of which these are the coordinates
abbrev pub cells : Coordinates → ℕ
cells x = x.len + 1

-- the coordinates from i on are in their ranges and leave r, and their number and sum together are the word's number
pub record Summing (x : Coordinates) (sum r i : ℕ) : Type 0 where
  pub sized : Sized x
  pub low : 3 ≤ cells x
  pub word : is_word (cells x) (cut x) ≡ true
  pub first : 1 ≤ i
  pub last : i ≤ cells x
  pub residue : r < modulus (cells x)
  pub range : in_range (cells x - 1) i (from x i) ≡ true
  pub sum_leaves : T (leaves (modulus (cells x)) i r (from x i))
  pub total : sum + number_from (cells x) i r (from x i) ≡ word_number (cells x) (cut x)

pub start : (x : Coordinates) → length x.values ≡ 11 → is_size (cells x) ≡ true → is_word (cells x) (cut x) ≡ true → Summing x 0 0 1
unfolding word_number words words_from vectors
start x size s w =
    let (low, high) = size_true (cells x) s in
    let t = word_of_lem (cells x) (cut x) w in
    record {
      sized = record { size = size; high = omega arith };
      low = low;
      word = w;
      first = omega arith;
      last = omega arith;
      residue = omega arith;
      range = t.range;
      sum_leaves = t.sum;
      total = zero-add _;
    }

-- the number of coordinates from i on is below their count
found_from : (n i r : ℕ) (x : List ℕ) → 0 < n → length x ≡ n - i → r < modulus n → in_range (n - 1) i x ≡ true → T (leaves (modulus n) i r x) → number_from n i r x < tails n i r
unfolding tails
found_from n i r x pos len h range sum = rw (← len) (found (modulus n) (omega arith) (n - 1) x i r h range sum)

module _ (x : Coordinates) (sum r i : ℕ) (s : Summing x sum r i) where
  abbrev n : ℕ
  n = cells x

  module _ (h : i ≤ x.len) where
    abbrev v : ℕ
    v = at x i

    abbrev r' : ℕ
    r' = owed (modulus n) i r v

    cons : from x i ≡ v ∷ from x (i + 1)
    cons = from_cons x s.sized i s.first h

    later : (v ≤ i) × (in_range (n - 1) (i + 1) (from x (i + 1)) ≡ true) × T (leaves (modulus n) (i + 1) r' (from x (i + 1)))
    later = rw (add-one i) (tail_word (modulus n) (omega arith) (n - 1) i r v (from x (suc i)) s.residue (rw (cons, add-one i) at s.range) (rw (cons, add-one i) at s.sum_leaves))

    -- what each call for coordinate i asks
    pub choosing : Choosing n i r × (v ≤ i)
    choosing = (record { low = omega arith; high = omega arith; first = s.first; last = omega arith; residue = s.residue }, later.0)

    split : number_from n i r (from x i) ≡ before n i r v + number_from n (i + 1) r' (from x (i + 1))
    split =
        let len : length (from x (i + 1)) ≡ n - (i + 1) = omega (arith, length-drop (i + 1 - 1) (cut x), length_cut x s.sized) in
        rw cons
        (number_step choosing.0 v later.0 (from x (i + 1))
        (found_from n (i + 1) r' (from x (i + 1)) (omega arith) len (owed_lt (modulus n) (omega arith) i r v) later.1 later.2))

    -- the sum stays a u32: the word's number is below K(n), which is one
    pub sum_fits : sum + before n i r v < 2 ^ 32
    sum_fits =
        omega (arith, split, s.total, number_below n (omega arith) (cut x) s.word, K-entry n (omega arith), tails_fit n 1 0 (omega arith) (omega arith))

    pub step : (b q : ℕ) → b ≡ before n i r v → q ≡ r' → Summing x (sum + b) q (i + 1)
    step b q e' e =
        record {
          sized = s.sized;
          low = s.low;
          word = s.word;
          first = omega arith;
          last = omega arith;
          residue = rw e (owed_lt (modulus n) (omega arith) i r v);
          range = later.1;
          sum_leaves = rw e later.2;
          total = rw (e, e') (omega (arith, split, s.total));
        }

  pub end : x.len < i → sum ≡ word_number n (cut x)
  end h =
      let none : n - i ≡ 0 = omega arith in
      rw (from_end x s.sized i h, none, number_zero (modulus n) (omega arith) i r, add-zero) at s.total
