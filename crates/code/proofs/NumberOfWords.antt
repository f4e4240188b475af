-- What an answer of `words` tells of n.
-- Assumes nothing.
use Prim.Native.Nat.{ℕ}
use mathlib.Core.Path.{◌≡◌, refl, sym, ap, ◌∙◌}
use mathlib.Core.Bool.{Bool, true, false}
use mathlib.Core.List.{[]}
use Rattle.order.specs.declared.Refusal.{Refusal}
use Rattle.order.specs.declared.Refusal.TheVariants.{Size}
use Rattle.order.specs.Refusals.{Told, answer, is_size}
use Rattle.order.proofs.Refusals.{not-zero, check_held, check_holds, all_hold, told_done}
use Rattle.std.specs.Prelude.{Ok, Err}
use Rattle.code.specs.Words.{K}
use Rattle.code.specs.Symbols.{told_words, words_of}

module _ (n : ℕ) where
  pub no_size_refused : (r : Refusal) → told_words (Err r) ≡ words_of n → is_size n ≡ false
  unfolding words_of answer
  no_size_refused r e = go (is_size n) refl
    where
      go : (b : Bool) → is_size n ≡ b → is_size n ≡ false
      go false f = f
      go true f = absurd (not-zero r (ap (λ (t : Told ℕ). t.number) e ∙ check_holds _ _ f ∙ all_hold))

  pub words_are_K : (k : ℕ) → told_words (Ok k) ≡ words_of n → (is_size n ≡ true) × (k ≡ K n)
  unfolding words_of answer
  words_are_K k e =
      let size = (check_held (is_size n) Size [] (sym (ap (λ (t : Told ℕ). t.number) e))).0 in
      (size, ap (λ (t : Told ℕ). t.value) (e ∙ sym (told_done _ (K n) 0 (check_holds _ _ size ∙ all_hold))))
