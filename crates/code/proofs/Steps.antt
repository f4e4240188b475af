-- One coordinate's step, in the terms of the functions: n cells, coordinate i, the residue r that all from i on must leave.
-- Assumes nothing.
use mathlib.Core.Path.{◌≡◌, refl, ap, ◌∙◌}
use mathlib.Core.List.{List, [], ◌∷◌}
use Prim.Native.Nat.{ℕ, suc, ◌+◌, ◌-◌, ◌≤◌, ◌<◌}
use native.Mathlib.Numerals.{add-one}
use native.Mathlib.Omega.{arith}
use lib.ListN.{get_or}
use Rattle.decoder.specs.Decoding.{modulus}
use Rattle.code.specs.Words.{index_of}
use Rattle.code.specs.Tails.{sum_below, owed, tails_from, tails, having, before}
use Rattle.code.specs.Steps.{Choosing}
use Rattle.code.proofs.Lists.{sum_term}
use Rattle.code.proofs.Numbering.{words_from, owed_lt, below, word_suc, number_suc}
use Rattle.code.proofs.Residue.{none_yet, once_more}

pub before_zero : (n i r : ℕ) → before n i r 0 ≡ 0
unfolding before sum_below
before_zero n i r = refl

pub before_more : (n i r v : ℕ) → before n i r (v + 1) ≡ before n i r v + having n i r v
unfolding before sum_below
before_more n i r v = rw add-one

-- s is what the later coordinates must leave where coordinate i is v
pub record Owing (n i r v s : ℕ) : Type 0 where
  pub right : s ≡ owed (modulus n) i r v
  pub residue : s < modulus n

module _ {n i r : ℕ} (c : Choosing n i r) where
  pub none : Owing n i r 0 r
  none = record { right = none_yet (modulus n) i r c.residue; residue = c.residue }

  pub more : {v s : ℕ} (t : ℕ) → Owing n i r v s → t ≡ owed (modulus n) i s 1 → Owing n i r (v + 1) t
  more {v} t o e =
      let next : t ≡ owed (modulus n) i r (v + 1) = e ∙ rw o.right (once_more (modulus n) i r (omega arith) c.residue v) in
      record { right = next; residue = rw next (owed_lt (modulus n) (omega arith) i r (v + 1)) }

-- and the count of these is that with coordinate i at v
pub counted : {n i r v s : ℕ} (k : ℕ) → Owing n i r v s → k ≡ tails n (i + 1) s → k ≡ having n i r v
counted k o e = rw o.right at e

-- the same count, by the number of coordinates from i on
before_below : (n i r v : ℕ) → before n i r v ≡ below (modulus n) (n - suc i) i r v
unfolding before tails below
before_below n i r v = ap (λ (j : ℕ). sum_below (λ u. tails_from (modulus n) (n - j) j (owed (modulus n) i r u)) v) (add-one i)

module _ (n i r : ℕ) (h : i < n) where
  tails_below : tails n i r ≡ below (modulus n) (n - suc i) i r (suc i)
  unfolding below tails tails_from
  tails_below =
      let e : n - i ≡ suc (n - suc i) = omega arith in
      ap (λ (k : ℕ). tails_from (modulus n) k i r) e

  pub before_all : before n i r (i + 1) ≡ tails n i r
  before_all = rw (tails_below, before_below, add-one)

  -- those with coordinate i up to v are among all
  pub before_next : (v : ℕ) → v ≤ i → before n i r v + having n i r v ≤ tails n i r
  unfolding before
  before_next v hv = rw before_all at (sum_term (having n i r) (i + 1) v (omega arith))

-- the coordinates from i on of a number
abbrev pub word_from : ℕ → ℕ → ℕ → ℕ → List ℕ
word_from n i r s = get_or (words_from (modulus n) (n - i) i r) s []

-- the number of coordinates from i on
abbrev pub number_from : ℕ → ℕ → ℕ → List ℕ → ℕ
number_from n i r x = index_of x (words_from (modulus n) (n - i) i r)

module _ {n i r : ℕ} (c : Choosing n i r) (v : ℕ) (hv : v ≤ i) where
  wordsFrom_suc : words_from (modulus n) (n - i) i r ≡ words_from (modulus n) (suc (n - suc i)) i r
  wordsFrom_suc =
      let e : n - i ≡ suc (n - suc i) = omega arith in
      ap (λ (k : ℕ). words_from (modulus n) k i r) e

  -- the first coordinate of a number's word, and the number that is left for the later ones
  pub word_step : (s t : ℕ) → s ≡ before n i r v + t → t < having n i r v → word_from n i r s ≡ v ∷ word_from n (i + 1) (owed (modulus n) i r v) t
  unfolding tails
  word_step s t e ht =
      rw (e, wordsFrom_suc, before_below, add-one)
      (word_suc (modulus n) (omega arith) (n - suc i) i r v (omega arith) hv t (rw add-one at ht))

  pub number_step :
      (x : List ℕ) → number_from n (i + 1) (owed (modulus n) i r v) x < having n i r v
      → number_from n i r (v ∷ x) ≡ before n i r v + number_from n (i + 1) (owed (modulus n) i r v) x
  unfolding tails
  number_step x h =
      rw (wordsFrom_suc, before_below, add-one)
      (number_suc (modulus n) (omega arith) (n - suc i) i r v (omega arith) hv x (rw add-one at h))
