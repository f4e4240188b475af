-- Document 01, "The plain machine": minimal push-up (SD 000) and its push program; document 02, request (b): the start of a push, and the pulses; request (g):
-- several cells on one rank (SD 001). A target lists the cells of each rank, highest rank first. An order is the target of one cell a rank. The gap between ranks is a
-- parameter here; in every call it is 1.
--
--   singles xs          the target that is an order: the cells of each rank, one a rank
--   top r ls            the highest level of the cells r of a rank
--   floor_over g rs ls   the least level of a cell that stands just above these ranks: the gap above the highest level of the first one; 0 where
--                       there are none
--   Reach f r ls        every cell of r is at level f or above it. For the laws
--   Shows g rs ls       the target shows: every cell of a rank is at least the gap above every cell of the next. With gap 1 and
--                       one cell a rank: the levels fall strictly along the order. For the laws, and for demand 3
--   lift old f r new    each cell of r takes the larger of its old level and f
--   raise g rs ls       minimal push-up: the lowest rank keeps its levels; going up, each cell takes the larger of its old level and the
--                       gap above the highest new level of the rank just below it. For an order: the lowest cell keeps its level; each next cell
--                       takes the larger of its old level and one more than the new level of the cell just below it
--   push_of c old new    the push of a cell that really rises, from the level where it starts to the one that it reaches; none of one that keeps
--                       its level
--   rank_pushes old f r  the pushes of the cells r, which take the larger of their old level and f: the cell listed last is pushed first, as the rank
--                       listed last is
--   pushes g rs ls      the push program, from low to high
--   pulses_in ps         the pulses of a push program: the sum of reach minus start over its pushes
use Rattle.std.specs.Prelude.{ℕ, ◌+◌, ◌-◌, ◌≤◌, max, cond, List, [], ◌∷◌, ◌++◌, nat_lt}
use Rattle.push_up.specs.declared.Push.{Push}
use Rattle.group.specs.Levels.{level, put}

unfoldable pub singles : List ℕ → List (List ℕ)
singles [] = []
singles (c ∷ cs) = (c ∷ []) ∷ singles cs

unfoldable pub top : List ℕ → List ℕ → ℕ
top [] ls = 0
top (c ∷ cs) ls = max (level ls c) (top cs ls)

unfoldable pub floor_over : ℕ → List (List ℕ) → List ℕ → ℕ
floor_over g [] ls = 0
floor_over g (r ∷ rs) ls = top r ls + g

unfoldable pub Reach : ℕ → List ℕ → List ℕ → Type 0
Reach f [] ls = Unit {0}
Reach f (c ∷ cs) ls = (f ≤ level ls c) × Reach f cs ls

unfoldable pub Shows : ℕ → List (List ℕ) → List ℕ → Type 0
Shows g [] ls = Unit {0}
Shows g (r ∷ rs) ls = Reach (floor_over g rs ls) r ls × Shows g rs ls

unfoldable pub lift : List ℕ → ℕ → List ℕ → List ℕ → List ℕ
lift old f [] new = new
lift old f (c ∷ cs) new = put (lift old f cs new) c (max (level old c) f)

unfoldable pub raise : ℕ → List (List ℕ) → List ℕ → List ℕ
raise g [] ls = ls
raise g (r ∷ rs) ls = let new = raise g rs ls in lift ls (floor_over g rs new) r new

unfoldable pub push_of : ℕ → ℕ → ℕ → List Push
push_of c old new = cond (nat_lt old new) (record { cell = record { 0 = c }; start = old; reach = new } ∷ []) []

unfoldable pub rank_pushes : List ℕ → ℕ → List ℕ → List Push
rank_pushes old f [] = []
rank_pushes old f (c ∷ cs) = rank_pushes old f cs ++ push_of c (level old c) (max (level old c) f)

unfoldable pub pushes : ℕ → List (List ℕ) → List ℕ → List Push
pushes g [] ls = []
pushes g (r ∷ rs) ls = pushes g rs ls ++ rank_pushes ls (floor_over g rs (raise g rs ls)) r

-- a difference of numbers from 0 does not go below 0
unfoldable pub pulses_in : List Push → ℕ
pulses_in [] = 0
pulses_in (p ∷ ps) = (p.reach - p.start) + pulses_in ps
