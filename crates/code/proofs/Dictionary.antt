-- The words stand in dictionary order, coordinate 1 first.
-- Assumes nothing.
use Prim.Native.Nat.{ℕ, zero, suc, ◌+◌, ◌-◌, ◌<◌}
use native.Mathlib.Nat.{eq-or-lt_of_le}
use native.Mathlib.Decide.{dec_lt}
use native.Mathlib.Omega.{arith}
use mathlib.Core.Path.{◌≡◌, ap, ◌∙◌}
use mathlib.Core.Logic.{◌⊎◌, inl, inr}
use mathlib.Core.List.{List, [], ◌∷◌}
use lib.ListN.{get_or}
use Rattle.decoder.specs.Decoding.{modulus}
use Rattle.code.specs.Words.{Earlier, here, later, K, word_at, words, vectors}
use Rattle.code.specs.Tails.{tails, tails_from, owed, nothing}
use Rattle.code.proofs.Lists.{sum_term}
use Rattle.code.proofs.Numbering.{words_from, below, owed_lt, word_suc, pick}
use Rattle.code.proofs.Laws.{K-entry}

module _ (m : ℕ) (pos : 0 < m) where
  -- word s of the choices of k coordinates from coordinate i on that leave r
  abbrev word : ℕ → ℕ → ℕ → ℕ → List ℕ
  word k i r s = get_or (words_from m k i r) s []

  abbrev InOrder : ℕ → ℕ → Type 0
  InOrder k i = (r s t : ℕ) → r < m → s < t → t < tails_from m k i r → Earlier (word k i r s) (word k i r t)

  -- a word with a lower first coordinate has a lower number
  below_less : (k i r v w t : ℕ) → v < w → t < tails_from m k (suc i) (owed m i r v) → below m k i r v + t < below m k i r w
  unfolding below
  below_less k i r v w t l h = omega (arith, sum_term (λ u. tails_from m k (suc i) (owed m i r u)) w v l)

  nothing_lt : (r s t : ℕ) → s < t → t < nothing r → ⊥
  unfolding nothing
  nothing_lt zero s t l h = omega arith
  nothing_lt (suc r) s t l h = omega arith

  -- two words of k + 1 coordinates: by their first ones, or where these are the same by the others
  by_first :
      (k i r v w a b : ℕ) → InOrder k (suc i) → a < tails_from m k (suc i) (owed m i r v) → b < tails_from m k (suc i) (owed m i r w)
      → below m k i r v + a < below m k i r w + b
      → Earlier (v ∷ word k (suc i) (owed m i r v) a) (w ∷ word k (suc i) (owed m i r w) b)
  by_first k i r v w a b others la lb l = elim (dec_lt v w) [ yes less ↦ here less | no g ↦ rest (eq-or-lt_of_le (omega arith)) ]
    where
      rest : (w ≡ v) ⊎ (w < v) → Earlier (v ∷ word k (suc i) (owed m i r v) a) (w ∷ word k (suc i) (owed m i r w) b)
      rest (inl e) = rw e (later (others (owed m i r v) a b (owed_lt m pos i r v) (omega (arith, rw e at l)) (rw e at lb)))
      rest (inr g) = absurd (omega (arith, below_less k i r w v b g lb))

  in_order : (k i : ℕ) → InOrder k i
  unfolding tails_from
  in_order zero i r s t h l ht = absurd (nothing_lt r s t l ht)
  in_order (suc k) i r s t h l ht =
      let hs : s < tails_from m (suc k) i r = omega arith in
      let (v, lv, a, la, ea) = pick m pos k i r s hs in
      let (w, lw, b, lb, eb) = pick m pos k i r t ht in
      let es : word (suc k) i r s ≡ v ∷ word k (suc i) (owed m i r v) a = ap (word (suc k) i r) ea ∙ word_suc m pos k i r v h (omega arith) a la in
      let et : word (suc k) i r t ≡ w ∷ word k (suc i) (owed m i r w) b = ap (word (suc k) i r) eb ∙ word_suc m pos k i r w h (omega arith) b lb in
      rw (es, et) (by_first k i r v w a b (in_order k (suc i)) la lb (omega arith))

pub words_in_order : (n : ℕ) → 0 < n → (s t : ℕ) → s < t → t < K n → Earlier (word_at n s) (word_at n t)
unfolding word_at tails words words_from vectors
words_in_order n pos s t l h = in_order (modulus n) (omega arith) (n - 1) 1 0 s t (omega arith) l (rw (← K-entry n pos) at h)
