-- Cited by the contracts of the private functions alone: no promise of a public function rests on these definitions.
--
--   front n o       the numbers of the first n cells of the order
--   without p xs    the list without what stands at place p, from 1
--   SameFront u v n the first n places of u and of v hold the same cells, in whatever order, and none twice; n is at most 12
use Rattle.std.specs.Prelude.{ℕ, ◌-◌, ◌≤◌, ◌≡◌, List, ◌++◌, take, drop}
use Rattle.order.specs.declared.Order.{Order}
use Rattle.order.specs.Cells.{count}
use Rattle.order.specs.Order.{cell_numbers}

abbrev pub front : ℕ → Order → List ℕ
front n o = take n (cell_numbers o)

abbrev pub without : ℕ → List ℕ → List ℕ
without p xs = take (p - 1) xs ++ drop p xs

pub record SameFront (u v : Order) (n : ℕ) : Type 0 where
  pub small : n ≤ 12
  pub same : (c : ℕ) → count c (front n u) ≡ count c (front n v)
  pub once : (c : ℕ) → count c (front n u) ≤ 1
