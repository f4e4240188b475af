-- Document 02, request (i), "It must be shown": what is shown of states and loads. No promise of a function rests on these definitions.
--
--   IsState x                a state: a number of 32 bits other than 0
--   handed_on n seed xs       the state that a load of the list xs hands back, with which a later part begins
--   MadeWhole n seed xs ys   a load of xs, and then one of ys from the state handed back, are the load of both in a row made whole: the list, and the answer
use Rattle.std.specs.Prelude.{ℕ, ◌^◌, ◌<◌, ◌≡◌, List, ◌++◌, length}
use Rattle.load.specs.Load.{load_of, symbols_after}

pub record IsState (x : ℕ) : Type 0 where
  pub above : 0 < x
  pub small : x < 2 ^ 32

abbrev pub handed_on : ℕ → ℕ → List ℕ → ℕ
handed_on n seed xs = (load_of n seed (length xs)).value

pub record MadeWhole (n seed : ℕ) (xs ys : List ℕ) : Type 0 where
  pub list : symbols_after n seed xs ++ symbols_after n (handed_on n seed xs) ys ≡ symbols_after n seed (xs ++ ys)
  pub answer : load_of n (handed_on n seed xs) (length ys) ≡ load_of n seed (length (xs ++ ys))
