-- Document 01, "Coordinates and distance": the coordinates of an order, their weighted sum ("The one-error code"), and the order of coordinates, over
-- lists of numbers.
--
--   after c xs          what stands after c in the list: nothing where c is not there
--   coordinate_of xs i   coordinate i: the number of cells below i + 1 in number that stand after cell i + 1
--   coordinates_to m xs  coordinates 1 to m
--   weight i x          the weighted sum: the sum of each coordinate times its number, where the first is coordinate i
--   insert_at k c xs     the list with c put in after its first k elements
--   order_from x n       the order of the cells 1 to n made of x 1 to x (n - 1): cell i + 1 is put in with x i of the cells 1 to i
--                       after it. Where each x i is at most i, these are its coordinates
--   limit m i           the largest that coordinate i of m can be: i, and 0 past the m coordinates
--   inRange m i xs      the values from coordinate i on, of m coordinates, run from 0 to their limit
use Rattle.std.specs.Prelude.{ℕ, zero, suc, ◌+◌, ◌-◌, ◌*◌, Bool, true, ◌&&◌, cond, List, [], ◌∷◌, ◌++◌, take, drop, leb, eqb}
use Rattle.order.specs.Cells.{below, tabulate}

abbrev pub after : ℕ → List ℕ → List ℕ
after c [] = []
after c (x ∷ xs) = cond (eqb c x) xs (after c xs)

unfoldable pub coordinate_of : List ℕ → ℕ → ℕ
coordinate_of xs i = below (suc i) (after (suc i) xs)

unfoldable pub coordinates_to : ℕ → List ℕ → List ℕ
coordinates_to m xs = tabulate m (λ k. coordinate_of xs (suc k))

unfoldable pub weight : ℕ → List ℕ → ℕ
weight i [] = 0
weight i (v ∷ x) = i * v + weight (suc i) x

abbrev pub insert_at : {A : Type 0} → ℕ → A → List A → List A
insert_at k c xs = take k xs ++ c ∷ drop k xs

unfoldable pub order_from : (ℕ → ℕ) → ℕ → List ℕ
order_from x zero = []
order_from x (suc i) = insert_at (i - x i) (suc i) (order_from x i)

abbrev pub limit : ℕ → ℕ → ℕ
limit m i = cond (leb i m) i 0

unfoldable pub in_range : ℕ → ℕ → List ℕ → Bool
in_range m i [] = true
in_range m i (x ∷ xs) = leb x (limit m i) && in_range m (suc i) xs
