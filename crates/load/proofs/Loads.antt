-- Laws of the load.
--
--   symbol_at_lem                  place i, counted from 0, has the state that is i + 1 steps after the one begun with, modulo the number of codewords
--   symbols_cut                symbols in two parts
--   load_done, load_refused    the answer, case by case
--   list_done, list_refused    the lent list
--   load_state                 the last state of a load that is not refused is a state, so never 0
--   load_symbols               every symbol of a load that is not refused is that of a codeword
--   load_whole                 a load cut anywhere in two is the load made whole
-- Assumes nothing.
use Prim.Native.Nat.{ℕ, zero, suc, ◌+◌, ◌%◌, ◌^◌, ◌<◌}
use mathlib.Core.Path.{◌≡◌, refl, sym, ap, ap₂, ◌∙◌, subst}
use mathlib.Core.Logic.{◌⊎◌, inl, inr, ⊎_elim}
use mathlib.Core.Bool.{Bool, true, false}
use mathlib.Core.List.{List, [], ◌∷◌, ◌++◌}
use native.Mathlib.Nat.{zero-add, suc-add, mod-lt}
use native.Mathlib.Omega.{arith}
use lib.Dec.{leb}
use lib.ListN.{length, get_or, length-append}
use borrow.Author.Tests.{leb-true, le-leb, lt-ltb}
use Rattle.std.specs.Prelude.{Err}
use Rattle.order.specs.declared.Refusal.{Refusal}
use Rattle.order.specs.declared.Refusal.TheVariants.{Size, Seed}
use Rattle.order.specs.Refusals.{refusal_number, number_of, Told, answer, is_size}
use Rattle.order.proofs.Refusals.{refused_zeros, refused_first, check_fails, check_holds, all_hold, told_done, told_refused, sized_holds, sized_done}
use Rattle.code.specs.Words.{K}
use Rattle.code.specs.Symbols.{codeword_checks, told_words, words_of}
use Rattle.code.proofs.Laws.{some_symbol}
use Rattle.load.specs.Load.{next_state, state_after, symbols, load_checks, load_of, symbols_after}
use Rattle.load.specs.Claims.{IsState, handed_on, MadeWhole}
use Rattle.load.proofs.States.{after_is_state, state_cut}

-- ---- symbols

pub length_symbols : (m x k : ℕ) → length (symbols m x k) ≡ k
unfolding symbols
length_symbols m x zero = refl
length_symbols m x (suc k) = ap suc (length_symbols m (next_state x) k)

pub symbol_at_lem : (m x k i : ℕ) → i < k → get_or (symbols m x k) i 0 ≡ state_after (suc i) x % m
unfolding symbols state_after
symbol_at_lem m x zero i l = absurd (omega (arith, l))
symbol_at_lem m x (suc k) zero l = refl
symbol_at_lem m x (suc k) (suc i) l = symbol_at_lem m (next_state x) k i (omega (arith, l))

pub symbols_cut : (m j k x : ℕ) → symbols m x (j + k) ≡ symbols m x j ++ symbols m (state_after j x) k
unfolding symbols state_after
symbols_cut m zero k x = rw zero-add
symbols_cut m (suc j) k x = rw suc-add (ap (λ (l : List ℕ). next_state x % m ∷ l) (symbols_cut m j k (next_state x)))

-- ---- the answer and the list

pub load_passes : (n x : ℕ) → is_size n ≡ true → 0 < x → number_of (load_checks n x) ≡ 0
load_passes n x size pos = check_holds _ _ size ∙ check_holds _ _ (le-leb 1 x pos) ∙ all_hold

-- the refusal of a size, passed on
pub words_refused : (n x : ℕ) (r : Refusal) → told_words (Err r) ≡ words_of n → number_of (load_checks n x) ≡ refusal_number r
unfolding words_of answer
words_refused n x r e = refused_first ((leb 1 x, Seed) ∷ []) ((is_size n, Size) ∷ []) r (sym (ap (λ (t : Told ℕ). t.number) e))

-- a seed of 0
pub seed_refused : (n x : ℕ) → is_size n ≡ true → x ≡ 0 → number_of (load_checks n x) ≡ refusal_number Seed
seed_refused n x size e = check_holds Size _ size ∙ check_fails Seed [] (ap (leb 1) e)

module _ (n x : ℕ) where
  module _ (e : number_of (load_checks n x) ≡ 0) where
    pub load_done : (k : ℕ) → load_of n x k ≡ record { number = 0; value = state_after k x }
    unfolding load_of
    load_done k = sym (told_done (load_checks n x) (state_after k x) 0 e)

    pub list_done : (xs : List ℕ) → symbols_after n x xs ≡ symbols (K n) x (length xs)
    unfolding symbols_after
    list_done xs = rw e

    -- what is begun with is a state, and there is a codeword
    begun : x < 2 ^ 32 → IsState x
    begun l = record { above = leb-true 1 x (sized_done n (leb 1 x) Seed e).2; small = l }

    some_word : 0 < K n
    some_word = some_symbol n (omega (arith, (sized_done n (leb 1 x) Seed e).0))

  module _ (r : Refusal) (e : number_of (load_checks n x) ≡ refusal_number r) where
    pub load_refused : (k : ℕ) → load_of n x k ≡ record { number = refusal_number r; value = 0 }
    unfolding load_of
    load_refused k = sym (told_refused (load_checks n x) (state_after k x) 0 r e)

    pub list_refused : (xs : List ℕ) → symbols_after n x xs ≡ xs
    unfolding symbols_after
    list_refused xs = rw (e, refused_zeros r (symbols (K n) x (length xs)) xs)

-- ---- the state never becomes 0, and every symbol is that of a codeword

module _ (n x : ℕ) (e : number_of (load_checks n x) ≡ 0) where
  pub load_state : x < 2 ^ 32 → (k : ℕ) → IsState (load_of n x k).value
  load_state l k = subst (λ (t : Told ℕ). IsState t.value) (sym (load_done n x e k)) (after_is_state k x (begun n x e l))

  pub load_symbols : (xs : List ℕ) (i : ℕ) → i < length xs → number_of (codeword_checks n (get_or (symbols_after n x xs) i 0)) ≡ 0
  load_symbols xs i l =
      let size = sized_done n (leb 1 x) Seed e in
      sized_holds n _ _ size.0 size.1 (rw (list_done n x e xs, symbol_at_lem (K n) x (length xs) i l) (lt-ltb _ _ (mod-lt (state_after (suc i) x) (some_word n x e))))

-- ---- a load cut anywhere in two is the load made whole, refused or not

module _ (n x : ℕ) (xs ys : List ℕ) where
  abbrev middle : ℕ
  middle = handed_on n x xs

  -- both parts are refused alike
  whole_refused : (r : Refusal) → ((z : ℕ) → z ≡ x ⊎ z ≡ 0 → number_of (load_checks n z) ≡ refusal_number r) → MadeWhole n x xs ys
  whole_refused r e =
      let first = e x (inl refl) in
      let later = e middle (inr (ap (λ (t : Told ℕ). t.value) (load_refused n x r first _))) in
      record {
        list = rw (list_refused n x r first xs, list_refused n middle r later ys) (sym (list_refused n x r first (xs ++ ys)));
        answer = load_refused n middle r later (length ys) ∙ sym (load_refused n x r first _);
      }

  whole_done : is_size n ≡ true → IsState x → MadeWhole n x xs ys
  whole_done size s =
      let first = load_passes n x size s.above in
      let m : middle ≡ state_after (length xs) x = ap (λ (t : Told ℕ). t.value) (load_done n x first (length xs)) in
      let later = load_passes n middle size (rw m (after_is_state (length xs) x s).above) in
      let long = length-append xs ys in
      let last : state_after (length ys) middle ≡ state_after (length (xs ++ ys)) x = rw (long, m) (sym (state_cut (length xs) (length ys) x)) in
      let both : symbols (K n) x (length xs) ++ symbols (K n) middle (length ys) ≡ symbols (K n) x (length (xs ++ ys)) =
      rw (long, m) (sym (symbols_cut (K n) (length xs) (length ys) x)) in
      record {
        list = ap₂ (λ (a b : List ℕ). a ++ b) (list_done n x first xs) (list_done n middle later ys) ∙ both ∙ sym (list_done n x first (xs ++ ys));
        answer = load_done n middle later (length ys) ∙ ap (λ (z : ℕ). record { number = 0; value = z }) last ∙ sym (load_done n x first (length (xs ++ ys)));
      }

pub load_whole : (n x : ℕ) (xs ys : List ℕ) → x < 2 ^ 32 → MadeWhole n x xs ys
load_whole n x xs ys l = go (is_size n) refl x refl
  where
    go : (b : Bool) → is_size n ≡ b → (z : ℕ) → x ≡ z → MadeWhole n x xs ys
    go false e z f = whole_refused n x xs ys Size (λ y k. check_fails Size _ e)
    go true e zero f = whole_refused n x xs ys Seed (λ y k. check_holds Size _ e ∙ check_fails Seed [] (rw (⊎_elim (λ a. a ∙ f) (λ a. a) k)))
    go true e (suc z) f = whole_done n x xs ys e (record { above = omega arith; small = l })
