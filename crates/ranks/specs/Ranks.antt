-- The record of ranks, and what the calls on it answer.
--
--   rank_numbers r       the numbers in the record's twelve places
--   ranked r            the ranks, by cell
--   rank_checks r        the checks of ranks that are handed in
--   ranks_of o           the inverse of an order: the rank of each cell
--   order_by_rank r       the inverse of ranks: the cell of each rank
--   no_ranks             the zeros beside a refusal
--   told_ranks           what an answer says: its number, and the ranks, or zeros
--   ranks_of_order, order_of_ranks    the answers to `ranks_of` and `from_ranks`
use Rattle.std.specs.Prelude.{ℕ, suc, Bool, List, [], ◌∷◌, map, take, replicate, Result}
use Rattle.order.specs.declared.Rank.{Rank}
use Rattle.order.specs.declared.Order.{Order}
use Rattle.order.specs.declared.Refusal.{Refusal}
use Rattle.order.specs.declared.Refusal.TheVariants.{Size, NoOrder}
use Rattle.order.specs.Refusals.{Told, told, answer, is_size}
use Rattle.order.specs.Cells.{is_listing, tabulate, place_of}
use Rattle.order.specs.Order.{listed, order_checks, no_order}
use Rattle.ranks.specs.declared.Ranks.{Ranks}

unfoldable pub rank_numbers : Ranks → List ℕ
rank_numbers r = map (λ (k : Rank). k.0) r.ranks

abbrev pub ranked : Ranks → List ℕ
ranked r = take r.len (rank_numbers r)

abbrev pub rank_checks : Ranks → List (Bool × Refusal)
rank_checks r = (is_size r.len, Size) ∷ (is_listing r.len r.len (rank_numbers r), NoOrder) ∷ []

unfoldable pub ranks_of : Order → Ranks
ranks_of o = record { len = o.len; ranks = tabulate 12 (λ k. record { 0 = place_of (listed o) (suc k) }) }

unfoldable pub order_by_rank : Ranks → Order
order_by_rank r = record { len = r.len; cells = tabulate 12 (λ k. record { 0 = place_of (ranked r) (suc k) }) }

abbrev pub no_ranks : Ranks
no_ranks = record { len = 0; ranks = replicate 12 (record { 0 = 0 }) }

abbrev pub told_ranks : Result Ranks Refusal → Told Ranks
told_ranks a = told no_ranks a

unfoldable pub ranks_of_order : Order → Told Ranks
ranks_of_order o = answer (order_checks o) (ranks_of o) no_ranks

unfoldable pub order_of_ranks : Ranks → Told Order
order_of_ranks r = answer (rank_checks r) (order_by_rank r) no_order
