-- A neighbour exchange in the record of an order, by a swap.
-- Assumes nothing.
use Prim.Native.Nat.{ℕ, zero, suc, ◌-◌, ◌≤◌, ◌<◌}
use native.Mathlib.Omega.{arith}
use mathlib.Core.Path.{◌≡◌, refl, sym, ap, ◌∙◌}
use mathlib.Core.Bool.{true}
use mathlib.Core.List.{List, [], ◌∷◌}
use lib.ListN.{length, get_or, set, length-set}
use lib.Seq.{get_or-set_same, get_or-set_other}
use Rattle.std.specs.Prelude.{swap}
use Rattle.std.proofs.lemmas.List.{get_or_default}
use Rattle.order.specs.declared.Cell.{Cell}
use Rattle.order.specs.declared.Order.{Order}
use Rattle.order.specs.Cells.{is_order, tabulate}
use Rattle.order.specs.Refusals.{number_of}
use Rattle.order.specs.Order.{listed, order_checks, order_record}
use Rattle.order.proofs.Tabulate.{get_d_tabulate, tabulate_set}
use Rattle.order.proofs.Numbers.{cell}
use Rattle.order.proofs.Records.{passed, passed_listed, passed_order, record_back}
use Rattle.distance.specs.Distance.{exchange}
use Rattle.decoder.specs.Nearest.{exchanged_order}
use Rattle.decoder.specs.Steps.{Exchangeable}
use Rattle.order.proofs.Records.{recorded_length, recorded_list, recorded_passes}
use Rattle.decoder.proofs.Decoding.{exchange_order}

exchange_set : (j : ℕ) (u : List ℕ) → suc j < length u → exchange (suc j) u ≡ set (set u j (get_or u (suc j) 0)) (suc j) (get_or u j 0)
exchange_set j [] h = absurd (omega arith)
exchange_set zero (x ∷ []) h = absurd (omega arith)
exchange_set zero (x ∷ y ∷ u) h = refl
exchange_set (suc j) (x ∷ u) h = ap (λ (w : List ℕ). x ∷ w) (exchange_set j u (omega arith))

-- the cells of a record
places : List ℕ → List Cell
places xs = tabulate 12 (λ k. cell (get_or xs k 0))

place_set : (xs : List ℕ) (k v : ℕ) → k < length xs → set (places xs) k (cell v) ≡ places (set xs k v)
unfolding places
place_set xs k v h =
    ap (λ (w : ℕ). set (places xs) k (cell w)) (sym (get_or-set_same xs k v 0 h))
    ∙ tabulate_set 12 (λ i. cell (get_or xs i 0)) (λ i. cell (get_or (set xs k v) i 0)) k (λ j q. ap cell (sym (get_or-set_other xs k j v 0 q)))

swapped : (cs : List Cell) (xs : List ℕ) → cs ≡ places xs → (j : ℕ) → suc j < length xs → length xs ≤ 12
    → set (set cs j (get_or cs (suc j) (cell 0))) (suc j) (get_or cs j (cell 0)) ≡ places (exchange (suc j) xs)
unfolding places
swapped cs xs e j h s =
    let at : (k : ℕ) → k < 12 → get_or (places xs) k (cell 0) ≡ cell (get_or xs k 0) = λ k l. get_d_tabulate 12 (λ i. cell (get_or xs i 0)) k (cell 0) l in
    let y = get_or xs (suc j) 0 in
    rw (e, at (suc j) (omega arith), at j (omega arith), place_set xs j y (omega arith), place_set (set xs j y) (suc j) (get_or xs j 0) (omega (arith, length-set xs j y)))
    (ap places (sym (exchange_set j xs h)))

swap_stores : {A : Type 0} (xs : List A) (i j : ℕ) (d : A) → i < length xs → j < length xs → swap xs i j ≡ set (set xs i (get_or xs j d)) j (get_or xs i d)
swap_stores [] i j d h l = absurd (omega arith)
swap_stores (x ∷ xs) i j d h l = rw (get_or_default (x ∷ xs) i x d h, get_or_default (x ∷ xs) j x d l) refl

-- the cells at places k - 1 and k, from 0, swapped
abbrev pub stored : Order → ℕ → Order
stored o k = record { len = o.len; cells = swap o.cells (k - 1) k }

pub stored_exchange : (o : Order) (k : ℕ) → Exchangeable o k → length o.cells ≡ 12 → stored o k ≡ exchanged_order o k
unfolding exchanged_order order_record places
stored_exchange o zero e w = absurd (omega (arith, e.first))
stored_exchange o (suc j) e w =
    let back : o.cells ≡ places (listed o) = ap (λ (r : Order). r.cells) (sym (record_back o e.passed w)) in
    let h : suc j < length (listed o) = omega (arith, (passed_order o e.passed).size, e.last) in
    let d : suc j - 1 ≡ j = omega arith in
    let swap : (stored o (suc j)).cells ≡ places (exchange (suc j) (listed o)) = rw (d, swap_stores o.cells j (suc j) (cell 0) (omega (arith, w, e.last, (passed o e.passed).1)) (omega (arith, w, e.last, (passed o e.passed).1))) (swapped o.cells (listed o) back j h (omega (arith, (passed_order o e.passed).size, (passed o e.passed).1))) in
    λ i. record { len = sym (recorded_length o.len _ (exchange_order o.len (listed o) (passed_listed o e.passed) (suc j))) i; cells = swap i }

-- ---- the order that is made

module _ (o : Order) (d : number_of (order_checks o) ≡ 0) (k : ℕ) where
  ordered : is_order o.len (exchange k (listed o)) ≡ true
  ordered = exchange_order o.len (listed o) (passed_listed o d) k

  pub same_length : (exchanged_order o k).len ≡ o.len
  unfolding exchanged_order
  same_length = recorded_length o.len _ ordered

  pub same_list_lem : listed (exchanged_order o k) ≡ exchange k (listed o)
  unfolding exchanged_order
  same_list_lem = recorded_list o.len _ ordered (passed o d).0 (passed o d).1

  pub exchanged_passes : number_of (order_checks (exchanged_order o k)) ≡ 0
  unfolding exchanged_order
  exchanged_passes = recorded_passes o.len _ ordered (passed o d).0 (passed o d).1
