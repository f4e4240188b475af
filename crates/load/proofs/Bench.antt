-- Worked cases. The first state is document 02's; what else is reckoned is what scripts/reference, which goes by the document, prints with --load.
-- Assumes nothing.
use mathlib.Core.Path.{◌≡◌, refl, sym}
use mathlib.Core.List.{[], ◌∷◌}
use native.Mathlib.Omega.{arith}
use Rattle.order.specs.Refusals as refusals
use Rattle.code.specs.Words.{K}
use Rattle.code.specs.Tails.{tails, tails_from, sum_below, owed, nothing}
use Rattle.code.proofs.Laws.{K-entry}
use Rattle.load.specs.Load.{next_state, state_after, symbols, load_of, symbols_after}

-- "From state 1 the next state is 270369." Then the one after it, the highest state, one with a single bit set, and Marsaglia's own seed.
pub next_states :
    (next_state 1 ≡ 270369)
    × (next_state 270369 ≡ 67634689)
    × (next_state 4294967295 ≡ 253983)
    × (next_state 2147483648 ≡ 2148024320)
    × (next_state 2463534242 ≡ 723471715)
unfolding next_state
next_states = (refl, refl, refl, refl, refl)

pub state_100 : state_after 100 1 ≡ 147405559
unfolding state_after next_state
state_100 = refl

words_of_5 : K 5 ≡ 14
unfolding tails tails_from sum_below owed nothing
words_of_5 = sym (K-entry 5 (omega arith))

-- four symbols of 5 cells, whole, and the last two of them from the state that the first two leave
pub load_of_5 :
    (symbols_after 5 1 (0 ∷ 0 ∷ 0 ∷ 0 ∷ []) ≡ 1 ∷ 3 ∷ 13 ∷ 11 ∷ [])
    × (load_of 5 1 4 ≡ record { number = 0; value = 307599695 })
    × (load_of 5 1 2 ≡ record { number = 0; value = 67634689 })
    × (symbols_after 5 67634689 (0 ∷ 0 ∷ []) ≡ 13 ∷ 11 ∷ [])
unfolding symbols_after load_of symbols state_after next_state refusals.answer refusals.number_of
load_of_5 = (rw words_of_5, refl, refl, rw words_of_5)

-- no symbols: the seed; a size that is none, also with a seed of 0, and a seed of 0
pub ends :
    (load_of 5 7 0 ≡ record { number = 0; value = 7 })
    × (load_of 13 0 2 ≡ record { number = 1; value = 0 })
    × (load_of 2 1 2 ≡ record { number = 1; value = 0 })
    × (load_of 12 0 2 ≡ record { number = 21; value = 0 })
    × (symbols_after 12 0 (8 ∷ 9 ∷ []) ≡ 8 ∷ 9 ∷ [])
unfolding symbols_after load_of state_after refusals.answer refusals.number_of
ends = (refl, refl, refl, refl, refl)
