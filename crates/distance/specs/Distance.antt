-- Document 01, "Coordinates and distance": the distance of two orders, neighbour exchanges, and what the call answers.
--
--   before v y z      going along v, y is met before z
--   opposed u v       the distance: the number of cell pairs that u and v list oppositely. Each pair x, y that u lists in
--                     this order counts where v lists y before x
--   exchange k u      the neighbour exchange at place k: the cells of ranks k and k + 1 change places; at a place outside 1 to n - 1
--                     nothing changes
--   exchange_first u, exchange_past k u    the first two cells exchanged; past k cells, the next two
--   exchanges ks u    the exchanges at each place of a list, one after the other
--   told_distance a    what an answer says: its number, and the distance, or 0
--   distance_of u v    the answer to `distance`
use Rattle.std.specs.Prelude.{ℕ, zero, suc, ◌+◌, Bool, true, false, cond, List, [], ◌∷◌, Result, eqb}
use Rattle.order.specs.declared.Order.{Order}
use Rattle.order.specs.declared.Refusal.{Refusal}
use Rattle.order.specs.Refusals.{Told, told, answer}
use Rattle.order.specs.Cells.{count_if}
use Rattle.order.specs.Order.{listed, pair_checks}

abbrev pub before : List ℕ → ℕ → ℕ → Bool
before [] y z = false
before (x ∷ v) y z = cond (eqb z x) false (cond (eqb y x) true (before v y z))

abbrev pub opposed : List ℕ → List ℕ → ℕ
opposed [] v = 0
opposed (x ∷ u) v = count_if (λ y. before v y x) u + opposed u v

-- the first two cells exchanged
abbrev pub exchange_first : List ℕ → List ℕ
exchange_first [] = []
exchange_first (x ∷ []) = x ∷ []
exchange_first (x ∷ y ∷ u) = y ∷ x ∷ u

-- past k cells, the next two exchanged
abbrev pub exchange_past : ℕ → List ℕ → List ℕ
exchange_past zero u = exchange_first u
exchange_past (suc k) [] = []
exchange_past (suc k) (x ∷ u) = x ∷ exchange_past k u

abbrev pub exchange : ℕ → List ℕ → List ℕ
exchange zero u = u
exchange (suc k) u = exchange_past k u

abbrev pub exchanges : List ℕ → List ℕ → List ℕ
exchanges [] u = u
exchanges (k ∷ ks) u = exchanges ks (exchange k u)

abbrev pub told_distance : Result ℕ Refusal → Told ℕ
told_distance a = told 0 a

unfoldable pub distance_of : Order → Order → Told ℕ
distance_of u v = answer (pair_checks u v) (opposed (listed u) (listed v)) 0
