-- Displacements where an order is not its own list of ranks, as each order of document 01's cases 1 and 2 is.
-- Assumes nothing.
use mathlib.Core.Path.{◌≡◌, refl}
use mathlib.Core.List.{[], ◌∷◌}
use lib.IntN.{pos, negsuc}
use Rattle.order.specs.Cells.{place_from, place_of}
use Rattle.cost.specs.Cost.{displacement, displacements}

-- cell 1 goes from the first place to the last: cells taken for ranks would give +1, +1, -2
order_is_not_ranks : displacements 3 (1 ∷ 2 ∷ 3 ∷ []) (2 ∷ 3 ∷ 1 ∷ []) ≡ pos 2 ∷ negsuc 0 ∷ negsuc 0 ∷ []
unfolding place_from place_of displacement displacements
order_is_not_ranks = refl
