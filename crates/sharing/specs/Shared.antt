-- Document 02, request (g): several cells on one rank (compressed rank modulation, SD 001). A target is a list of rank sizes, each at least 1 and adding up
-- to n, with a list of the cells by rank, highest first.
--
--   sizes_of t           the rank sizes that a target lists, the highest rank first
--   each_filled ss       each of these sizes is at least 1
--   is_sizes n t         the target lists rank sizes of n cells: no more than there are places, each at least 1, adding up to n, and zeros past them
--   is_listed c r        cell c is one of r
--   by_number n r        those of the cells 1 to n that are listed in r, the greatest number first. The cell listed last on a rank is pushed first (push_up,
--                       specs PushUp): so cells within a rank are pushed in rising cell number, whichever way the target lists them
--   ranks_of n ss xs     the cells of each rank: the list xs in parts of the sizes ss, each by number
--   shared_target n t    the cells of each rank of a target, the highest rank first
--   ranked_checks n t    the checks of a target for n cells: 18 and directly after it 4
--   shared_checks g t    the checks of a shared write: 1, 2, 18, 4, 8, 19
--   write_shared_of g t   the answer to `write_shared`: that of a write, but for the mark, which a shared write clears
--   plain_target o       the record of a target that is an order: no rank sizes
--   ones_target n o      an order of n cells as a target with rank sizes: all of them 1. For the laws
--   unmarked t          the answer to a write, mark aside: the mark of its group is cleared. For the laws
use Rattle.std.specs.Prelude.{ℕ, zero, suc, ◌-◌, Bool, true, false, ◌&&◌, cond, List, [], ◌∷◌, ◌++◌, eqb, leb, take, drop, replicate}
use Rattle.order.specs.declared.Order.{Order}
use Rattle.order.specs.declared.Refusal.{Refusal}
use Rattle.order.specs.declared.Refusal.TheVariants.{NoOrder, RankSizes}
use Rattle.order.specs.Refusals.{Told, answer}
use Rattle.order.specs.Cells.{count, all_zero}
use Rattle.order.specs.Order.{listed, is_order_of}
use Rattle.group.specs.declared.Group.{Group}
use Rattle.group.specs.Levels.{sum}
use Rattle.group.specs.Record.{group_checks, with_mark}
use Rattle.push_up.specs.WriteAnswer.{Program, pushed, unpushed, push_checks}
use Rattle.sharing.specs.declared.Ranked.{Ranked}

-- ---- rank sizes

abbrev pub sizes_of : Ranked → List ℕ
sizes_of t = take t.count t.sizes

unfoldable pub each_filled : List ℕ → Bool
each_filled [] = true
each_filled (s ∷ ss) = leb 1 s && each_filled ss

unfoldable pub is_sizes : ℕ → Ranked → Bool
is_sizes n t = leb t.count 12 && (each_filled (sizes_of t) && (eqb (sum (sizes_of t)) n && all_zero (drop t.count t.sizes)))

-- ---- the cells of each rank

abbrev pub is_listed : ℕ → List ℕ → Bool
is_listed c r = leb 1 (count c r)

unfoldable pub by_number : ℕ → List ℕ → List ℕ
by_number zero r = []
by_number (suc n) r = cond (is_listed (suc n) r) (suc n ∷ by_number n r) (by_number n r)

unfoldable pub ranks_of : ℕ → List ℕ → List ℕ → List (List ℕ)
ranks_of n [] xs = []
ranks_of n (s ∷ ss) xs = by_number n (take s xs) ∷ ranks_of n ss (drop s xs)

abbrev pub shared_target : ℕ → Ranked → List (List ℕ)
shared_target n t = ranks_of n (sizes_of t) (listed t.cells)

-- ---- the shared write

abbrev pub ranked_checks : ℕ → Ranked → List (Bool × Refusal)
ranked_checks n t = (is_sizes n t, RankSizes) ∷ (is_order_of n t.cells, NoOrder) ∷ []

abbrev pub shared_checks : Group → Ranked → List (Bool × Refusal)
shared_checks g t = group_checks g ++ (ranked_checks g.n t ++ push_checks g (shared_target g.n t))

unfoldable pub write_shared_of : Group → Ranked → Told Program
write_shared_of g t = answer (shared_checks g t) (pushed false g (shared_target g.n t)) (unpushed g)

-- ---- orders as targets

abbrev pub plain_target : Order → Ranked
plain_target o = record { count = 0; sizes = replicate 12 0; cells = o }

abbrev pub ones_target : ℕ → Order → Ranked
ones_target n o = record { count = n; sizes = replicate n 1 ++ replicate (12 - n) 0; cells = o }

abbrev pub unmarked : Told Program → Told Program
unmarked t =
    let p = t.value in
    record {
      number = t.number;
      value = record { group = with_mark false p.group; pulses = p.pulses; count = p.count; pushes = p.pushes };
    }
