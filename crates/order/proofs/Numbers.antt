-- The numbers in a record's twelve places.
-- Assumes nothing.
use Prim.Native.Nat.{ℕ, ◌+◌, ◌-◌, ◌≤◌, ◌<◌}
use native.Mathlib.Numerals.{add-one}
use native.Mathlib.Omega.{arith}
use mathlib.Core.Path.{◌≡◌, sym, ap, ◌∙◌}
use mathlib.Core.List.{List, ◌∷◌, map}
use lib.ListN.{length, get_or, take, drop, length-map, get_or-map}
use lib.Seq.{drop-cons, length-take-le}
use Rattle.order.specs.declared.Cell.{Cell}
use Rattle.order.specs.declared.Order.{Order}
use Rattle.order.specs.Order.{cell_numbers}

abbrev pub cell : ℕ → Cell
cell k = record { 0 = k }

abbrev pub cell_number : Cell → ℕ
cell_number c = c.0

-- what owning an array of structs tells: the list is as long as the list of the elements' data
pub length_mapped : (X Y : Type 0) (f : X → Y) (l : List X) (n : ℕ) → length (map f l) ≡ n → length l ≡ n
length_mapped X Y f l n e = sym (length-map l f) ∙ e

pub length_places : (o : Order) → length o.cells ≡ 12 → length (cell_numbers o) ≡ 12
unfolding cell_numbers
length_places o e = length-map o.cells (λ (c : Cell). c.0) ∙ e

pub place_at : (o : Order) (i : ℕ) → (get_or o.cells i (record { 0 = 0 })).0 ≡ get_or (cell_numbers o) i 0
unfolding cell_numbers
place_at o i = sym (get_or-map (λ (c : Cell). c.0) o.cells i (record { 0 = 0 }))

-- a list, from place i on: for a loop that goes up, and for one that goes down
pub drop_up : (xs : List ℕ) (i : ℕ) → i < length xs → drop i xs ≡ get_or xs i 0 ∷ drop (i + 1) xs
drop_up xs i l = drop-cons xs i 0 l ∙ ap (λ (k : ℕ). get_or xs i 0 ∷ drop k xs) (sym (add-one i))

pub drop_down : (xs : List ℕ) (i : ℕ) → 0 < i → i ≤ length xs → drop (i - 1) xs ≡ get_or xs (i - 1) 0 ∷ drop i xs
drop_down xs i p l =
    let e : i - 1 + 1 ≡ i = omega arith in
    rw e at (drop_up xs (i - 1) (omega arith))

pub length_front : (xs : List ℕ) (len : ℕ) → length xs ≡ 12 → len ≤ 12 → length (take len xs) ≡ len
length_front xs len w s = length-take-le len xs (omega arith)
