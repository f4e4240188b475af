-- The loop that fills the lent list.
--
--   Filled        after i places: they hold the first i symbols, the later places are as they were, and the state is i steps on
-- Assumes nothing.
use Prim.Native.Nat.{ℕ, zero, suc, ◌+◌, ◌%◌, ◌≤◌, ◌<◌}
use mathlib.Core.Path.{◌≡◌, refl, ap, ◌∙◌}
use mathlib.Core.List.{List, [], ◌∷◌, ◌++◌}
use native.Mathlib.Numerals.{add-one}
use native.Mathlib.Omega.{arith}
use lib.ListN.{length, set, drop}
use Rattle.load.specs.Load.{next_state, state_after, symbols}

pub record Filled (m x : ℕ) (old new : List ℕ) (state i : ℕ) : Type 0 where
  pub within : i ≤ length old
  pub list : new ≡ symbols m x i ++ drop i old
  pub state_now : state ≡ state_after i x

pub filled_none : (m x : ℕ) (old : List ℕ) → Filled m x old old x 0
unfolding symbols state_after
filled_none m x old = record { within = omega arith; list = refl; state_now = refl }

-- the next symbol put in its place
put_next : (m x i : ℕ) (old : List ℕ) → i < length old
    → set (symbols m x i ++ drop i old) i (next_state (state_after i x) % m) ≡ symbols m x (suc i) ++ drop (suc i) old
unfolding symbols state_after
put_next m x zero [] l = absurd (omega (arith, l))
put_next m x zero (y ∷ old) l = refl
put_next m x (suc i) [] l = absurd (omega (arith, l))
put_next m x (suc i) (y ∷ old) l = ap (λ (k : List ℕ). next_state x % m ∷ k) (put_next m (next_state x) i old (omega arith))

next_after : (i x : ℕ) → next_state (state_after i x) ≡ state_after (suc i) x
unfolding state_after
next_after zero x = refl
next_after (suc i) x = next_after i (next_state x)

pub filled_more : {m x : ℕ} {old new : List ℕ} {state i z : ℕ} → Filled m x old new state i → i < length old → z ≡ next_state state
    → Filled m x old (set new i (z % m)) z (i + 1)
filled_more {m} {x} {old} {new} {state} {i} {z} f l e =
    let now : z ≡ next_state (state_after i x) = e ∙ ap next_state f.state_now in
    rw (add-one i)
    (record {
      within = omega arith;
      list = rw (f.list, now) (put_next m x i old l);
      state_now = now ∙ next_after i x;
    })
