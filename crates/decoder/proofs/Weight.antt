-- A neighbour exchange and the weighted sum: it changes by the greater of the two cells less 1, up where that one stands just below, down
-- where it stands just above. So the syndrome tells whether the exchange makes a codeword.
-- Assumes nothing.
use Prim.Native.Nat.{ℕ, suc, ◌+◌, ◌-◌, ◌%◌, ◌≤◌, ◌<◌}
use native.Mathlib.Nat.{mod-add-mod, mod-eq_of_lt, mod-eq-sub-mod, mod-lt}
use native.Mathlib.Omega.{arith}
use mathlib.Core.Path.{◌≡◌, sym, ◌∙◌}
use mathlib.Core.Logic.{◌⊎◌, inl, inr, ⊎_elim, ◌↔◌}
use mathlib.Core.Bool.{true, false}
use mathlib.Core.List.{List}
use lib.Dec.{eqb}
use lib.ListN.{get_or}
use borrow.Author.Tests.{eqb-true, eq-eqb, ne_eqb}
use Rattle.order.proofs.Cells.{lt_cases, eq_cases, IsOrder, order_range}
use Rattle.coordinates.specs.Coordinates.{coordinate_of, coordinates_to, weight}
use Rattle.coordinates.proofs.WeightedSum.{weight_more}
use Rattle.distance.specs.Distance.{exchange}
use Rattle.distance.proofs.Counts.{order_distinct}
use Rattle.distance.proofs.Exchange.{Exchanged, exchange_at, exchanged_apart}
use Rattle.distance.proofs.OneCoordinate.{OneMore, coordinate_more, coordinate_less}
use Rattle.decoder.specs.Decoding.{modulus, leaves, is_codeword}
use Rattle.decoder.specs.Steps.{syndrome_of, corrects_by}

-- ---- the weighted sum

abbrev pub sum_of : ℕ → List ℕ → ℕ
sum_of n u = weight 1 (coordinates_to (n - 1) u)

sum_more : {n i : ℕ} {u v : List ℕ} → OneMore n i u v → sum_of n v ≡ sum_of n u + i
unfolding coordinates_to
sum_more {n} {i} {u} {v} t =
    let e : suc (i - 1) ≡ i = omega (arith, t.first) in
    let more = weight_more (n - 1) 1 (i - 1) 1 (λ k. coordinate_of u (suc k)) (λ k. coordinate_of v (suc k)) (omega (arith, t.first, t.last)) (rw e t.more) in
    omega (arith, more (λ k q. t.others (suc k) (λ p. q (omega arith))))

-- ---- remainders

-- whether w + d, or what is d less than w, is divisible
module _ (m : ℕ) (d : ℕ) (l : d < m) where
  more_divides : 0 < d → (w : ℕ) → ((w + d) % m ≡ 0) ↔ (w % m + d ≡ m)
  more_divides g w =
      let s = w % m in
      let low : s < m = mod-lt w (omega arith) in
      let e : (w + d) % m ≡ (s + d) % m = sym (mod-add-mod w m d) in
      ⊎_elim (λ t. let f : (s + d) % m ≡ s + d = mod-eq_of_lt t.0 in (λ p. absurd (omega arith), λ q. absurd (omega arith)))
      (λ t. let f : (s + d) % m ≡ s + d - m = mod-eq-sub-mod t.0 ∙ mod-eq_of_lt (omega arith) in (λ p. omega arith, λ q. omega arith))
      (lt_cases (s + d) m)

  less_divides : (w : ℕ) → (w % m ≡ 0) ↔ ((w + d) % m ≡ d)
  less_divides w =
      let s = w % m in
      let low : s < m = mod-lt w (omega arith) in
      let e : (w + d) % m ≡ (s + d) % m = sym (mod-add-mod w m d) in
      ⊎_elim (λ t. let f : (s + d) % m ≡ s + d = mod-eq_of_lt t.0 in (λ p. omega arith, λ q. omega arith))
      (λ t. let f : (s + d) % m ≡ s + d - m = mod-eq-sub-mod t.0 ∙ mod-eq_of_lt (omega arith) in (λ p. absurd (omega arith), λ q. absurd (omega arith)))
      (lt_cases (s + d) m)

-- two tests that pass together are the same
pub same_test : (p q r t : ℕ) → (p ≡ q) ↔ (r ≡ t) → eqb p q ≡ eqb r t
same_test p q r t (f, g) =
    ⊎_elim (λ (e : (p ≡ q) × (eqb q p ≡ true)). eq-eqb p q e.0 ∙ sym (eq-eqb r t (f e.0)))
    (λ (e : (p ≡ q → ⊥) × (eqb q p ≡ false)). ne_eqb p q e.0 ∙ sym (ne_eqb r t (λ x. e.0 (g x)))) (eq_cases p q)

-- ---- an exchange at a place

-- the exchange at place k + 1, of the cell a and the cell b just below it
module _ (n : ℕ) (u : List ℕ) (o : IsOrder n u) (k : ℕ) (h : suc k < n) where
  abbrev a : ℕ
  a = get_or u k 0

  abbrev b : ℕ
  b = get_or u (suc k) 0

  neighbours : Exchanged a b u (exchange (suc k) u)
  neighbours = exchange_at k u (omega (arith, o.size))

  -- two cells of the order
  pub place_cells : ((1 ≤ a) × (a ≤ n)) × ((1 ≤ b) × (b ≤ n)) × (a ≡ b → ⊥)
  place_cells = (order_range n u o k (omega arith), order_range n u o (suc k) h, exchanged_apart neighbours (order_distinct o))

  -- the coordinate of the greater one changes
  pub place_more : a < b → OneMore n (b - 1) u (exchange (suc k) u)
  place_more l = coordinate_more neighbours o l

  pub place_less : b < a → OneMore n (a - 1) (exchange (suc k) u) u
  place_less l = coordinate_less neighbours o l

  sum_up : a < b → sum_of n (exchange (suc k) u) ≡ sum_of n u + (b - 1)
  sum_up l = sum_more (place_more l)

  sum_down : b < a → sum_of n u ≡ sum_of n (exchange (suc k) u) + (a - 1)
  sum_down l = sum_more (place_less l)

  -- the syndrome tells whether it makes a codeword
  pub corrects_by_lem : is_codeword n (exchange (suc k) u) ≡ corrects_by n (syndrome_of n u) a b
  unfolding is_codeword leaves corrects_by syndrome_of
  corrects_by_lem =
      let (p, q, apart) = place_cells in
      ⊎_elim
      (λ t. rw (t.1, sum_up t.0) (same_test _ _ _ _ (more_divides (modulus n) (b - 1) (omega arith) (omega arith) (sum_of n u))))
      (λ t. rw (t.1, sum_down (omega arith)) (same_test _ _ _ _ (less_divides (modulus n) (a - 1) (omega arith) (sum_of n (exchange (suc k) u)))))
      (lt_cases a b)

  pub correcting : is_codeword n (exchange (suc k) u) ≡ true
      → ((a < b) × (syndrome_of n u + (b - 1) ≡ modulus n)) ⊎ ((b < a) × (syndrome_of n u ≡ a - 1))
  unfolding corrects_by
  correcting e =
      let (_, _, apart) = place_cells in
      let s = syndrome_of n u in
      let f = sym corrects_by_lem ∙ e in
      ⊎_elim (λ t. inl (t.0, eqb-true (s + (b - 1)) (modulus n) (rw t.1 at f)))
      (λ t. inr (omega arith, eqb-true s (a - 1) (rw t.1 at f)))
      (lt_cases a b)
