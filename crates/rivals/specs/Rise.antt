-- Document 01, "Calls outside the list": the words of "the rise of the top level when v is written from levels n down to 1 along u".
--
--   top_level n ls      the highest level of the cells 1 to n
--   written v ls       the levels after v is written: the minimal push-up
--   Staircase n u ls   the levels are n down to 1 along u: the cell in u's first place has level n, the next one n - 1, and so on
use Rattle.std.specs.Prelude.{ℕ, suc, ◌-◌, ◌<◌, ◌≡◌, List, get_or}
use Rattle.order.specs.Cells.{tabulate}
use Rattle.group.specs.Levels.{level}
use Rattle.push_up.specs.PushUp.{singles, top, raise}

unfoldable pub top_level : ℕ → List ℕ → ℕ
top_level n ls = top (tabulate n suc) ls

abbrev pub written : List ℕ → List ℕ → List ℕ
written v ls = raise 1 (singles v) ls

pub record Staircase (n : ℕ) (u ls : List ℕ) : Type 0 where
  pub along : (k : ℕ) → k < n → level ls (get_or u k 0) ≡ n - k
