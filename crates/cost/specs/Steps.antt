-- What the private functions of `cost` promise, in terms of ranks. Nothing here is needed to read a public contract.
--
--   told_pair, ranks_of_pair        the ranks of two orders that pass the checks of a pair
--   Low r                        each rank is at most 12
--   displacements_by_rank from to  the displacements of the cells 1 to 12, by their ranks
--   Grows from to n most         one of the first n cells has a rank that grows by `most`
--   LargestGrowth from to n most none of the first n grows by more than `most`, and one grows by that, or it is 0
use Rattle.std.specs.Prelude.{ℕ, ◌+◌, ◌≤◌, ◌<◌, ◌≡◌, ◌⊎◌, List, get_or, Result, ℤ}
use Rattle.std.proofs.Math.IntN.{sub_ℕ}
use Rattle.order.specs.declared.Order.{Order}
use Rattle.order.specs.declared.Refusal.{Refusal}
use Rattle.ranks.specs.declared.Ranks.{Ranks}
use Rattle.order.specs.Refusals.{Told, told, answer}
use Rattle.order.specs.Cells.{tabulate}
use Rattle.order.specs.Order.{pair_checks}
use Rattle.ranks.specs.Ranks.{ranks_of, rank_numbers, no_ranks}

abbrev pub told_pair : Result (Ranks × Ranks) Refusal → Told (Ranks × Ranks)
told_pair a = told (no_ranks, no_ranks) a

unfoldable pub ranks_of_pair : Order → Order → Told (Ranks × Ranks)
ranks_of_pair u v = answer (pair_checks u v) (ranks_of u, ranks_of v) (no_ranks, no_ranks)

pub record Low (r : Ranks) : Type 0 where
  pub low : (k : ℕ) → get_or (rank_numbers r) k 0 ≤ 12

unfoldable pub displacements_by_rank : Ranks → Ranks → List ℤ
displacements_by_rank from to = tabulate 12 (λ k. sub_ℕ (get_or (rank_numbers to) k 0) (get_or (rank_numbers from) k 0))

pub record Grows (from to : List ℕ) (n most : ℕ) : Type 0 where
  pub index : ℕ
  pub inside : index < n
  pub by : get_or to index 0 ≡ get_or from index 0 + most

pub record LargestGrowth (from to : List ℕ) (n most : ℕ) : Type 0 where
  pub over : (k : ℕ) → k < n → get_or to k 0 ≤ get_or from k 0 + most
  pub some : (most ≡ 0) ⊎ Grows from to n most
