-- Document 02, request (b): pushes that carry their start. For the laws.
--
--   counted k ps               the first k of the pushes: those that an answer with this count carries
--   played ps ls               the levels after the pushes, applied one by one to the levels ls
--   Starts ps ls               each push starts from the level at which its cell stands when that push begins, and reaches a higher one
--   cells_pushed ps             the cells that are pushed, in their turn
--   IsPushProgram ps old new   the pushes are a push program from the old levels to the new ones. Which push comes first is said by `pushes` alone
use Rattle.std.specs.Prelude.{◌≡◌, ℕ, ◌<◌, ◌≤◌, List, [], ◌∷◌, map, length, take}
use Rattle.order.specs.Cells.{tally, count, is_cell}
use Rattle.group.specs.Levels.{level, put, rises}
use Rattle.push_up.specs.declared.Push.{Push}
use Rattle.push_up.specs.PushUp.{pulses_in}

abbrev pub counted : ℕ → List Push → List Push
counted k ps = take k ps

unfoldable pub played : List Push → List ℕ → List ℕ
played [] ls = ls
played (p ∷ ps) ls = played ps (put ls p.cell.0 p.reach)

unfoldable pub Starts : List Push → List ℕ → Type 0
Starts [] ls = Unit {0}
Starts (p ∷ ps) ls = (p.start ≡ level ls p.cell.0) × (p.start < p.reach) × Starts ps (put ls p.cell.0 p.reach)

abbrev pub cells_pushed : List Push → List ℕ
cells_pushed ps = map (λ p. p.cell.0) ps

pub record IsPushProgram (ps : List Push) (old new : List ℕ) : Type 0 where
  -- applied push by push to the old levels, it gives the new ones
  pub gives : played ps old ≡ new
  -- each start is the level of its cell when that push begins, and below its reach
  pub starts : Starts ps old
  -- no cell is pushed twice, and nothing is pushed that has no place among the levels
  pub once : (c : ℕ) → count c (cells_pushed ps) ≤ tally (is_cell (length old) c)
  -- its pulses are the sum of all rises
  pub pulses : pulses_in ps ≡ rises old new
