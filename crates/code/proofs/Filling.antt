-- The invariant of `word_by`: it holds at the start, after each coordinate, and at the end it is the answer.
-- Assumes nothing.
use mathlib.Core.Path.{◌≡◌, refl, ◌∙◌}
use mathlib.Core.List.{List, [], ◌++◌}
use Prim.Native.Nat.{ℕ, zero, suc, ◌+◌, ◌-◌, ◌≤◌, ◌<◌}
use native.Mathlib.Nat.{sub-zero, zero-sub, suc-sub-suc, zero-add}
use native.Mathlib.Omega.{arith}
use lib.ListN.{length, drop, replicate, set, drop_of_length-le}
use lib.Seq.{sets, sets-eq}
use Rattle.coordinates.specs.declared.Coordinates.{Coordinates}
use Rattle.decoder.specs.Decoding.{modulus}
use Rattle.code.specs.declared.Choice.{Choice}
use Rattle.code.specs.Words.{K, word_at, words, vectors}
use Rattle.code.specs.Tails.{tails}
use Rattle.code.specs.Steps.{held, Choosing, Chosen}
use Rattle.code.proofs.Numbering.{words_from, owed_lt, word_right}
use Rattle.code.proofs.Laws.{K-entry, word_is_word, word_of_lem}
use Rattle.code.proofs.Steps.{word_from, word_step}

drop-replicate : (k n a : ℕ) → drop k (replicate n a) ≡ replicate (n - k) a
drop-replicate zero n a = rw sub-zero
drop-replicate (suc k) zero a = rw zero-sub
drop-replicate (suc k) (suc n) a = rw suc-sub-suc (drop-replicate k n a)

-- eleven zeros with a list stored from the front are the list and zeros
stored_front : (x : List ℕ) → length x ≤ 11 → sets (replicate 11 0) 0 x ≡ x ++ replicate (11 - length x) 0
stored_front x h = sets-eq x (replicate 11 0) 0 (omega arith) ∙ rw (zero-add, drop-replicate (length x) 11 0)

-- a symbol below the count of a size
pub record Symbol (n s : ℕ) : Type 0 where
  pub low : 3 ≤ n
  pub high : n ≤ 12
  pub some : s < K n

-- the coordinates before i are stored, and those from i on are the word of a number among the words that leave r
pub record Filling (n symbol : ℕ) (values : List ℕ) (number r i : ℕ) : Type 0 where
  pub known : Symbol n symbol
  pub first : 1 ≤ i
  pub last : i ≤ n
  pub residue : r < modulus n
  pub some : number < tails n i r
  pub stored : sets values (i - 1) (word_from n i r number) ≡ sets (replicate 11 0) 0 (word_at n symbol)

pub start : (n symbol : ℕ) → Symbol n symbol → Filling n symbol (replicate 11 0) symbol 0 1
unfolding word_at words words_from vectors
start n symbol h =
    record {
      known = h;
      first = omega arith;
      last = omega arith;
      residue = omega arith;
      some = rw (K-entry n (omega arith)) h.some;
      stored = refl;
    }

module _ (n symbol : ℕ) (values : List ℕ) (number r i : ℕ) (f : Filling n symbol values number r i) where
  pub step : (c : Choice) → i < n → Chosen n i r number c → Filling n symbol (set values (i - 1) c.value) c.number c.residue (i + 1)
  step c h chosen =
      let e = chosen.residue in
      let at : Choosing n i r = record { low = f.known.low; high = f.known.high; first = f.first; last = h; residue = f.residue } in
      let place : i + 1 - 1 ≡ suc (i - 1) = omega arith in
      record {
        known = f.known;
        first = omega arith;
        last = omega arith;
        residue = rw e (owed_lt (modulus n) (omega arith) i r c.value);
        some = rw e chosen.left;
        stored = rw (e, place) (rw (word_step at c.value chosen.range number c.number chosen.split chosen.left) at f.stored);
      }

  pub end : n ≤ i → ◌≡◌ {A = Coordinates} (record { len = n - 1; values = values }) (held (word_at n symbol))
  unfolding tails
  end h =
      let whole = (word_right (modulus n) (omega arith) (n - 1) (n - i) i r number (omega arith) f.residue f.some).0 in
      let none : word_from n i r number ≡ [] = drop_of_length-le (word_from n i r number) {i = 0} (omega arith) in
      let all : values ≡ sets (replicate 11 0) 0 (word_at n symbol) = rw none at f.stored in
      let size : length (word_at n symbol) ≡ n - 1 = (word_of_lem n (word_at n symbol) (word_is_word n (omega arith) symbol f.known.some)).size in
      rw (all, stored_front (word_at n symbol) (omega arith), size)
