-- The inverse of a listing, in the places of a record.
-- Assumes nothing.
use Prim.Native.Nat.{ℕ, suc, ◌+◌, ◌≤◌, ◌<◌}
use native.Mathlib.Omega.{arith}
use mathlib.Core.Path.{◌≡◌, refl, sym, ap, ◌∙◌}
use mathlib.Core.Bool.{Bool, true, false}
use mathlib.Core.Logic.{⊎_elim}
use mathlib.Core.List.{List, map}
use lib.ListN.{length, get_or, take, drop, length-map, get_or-eq_default}
use lib.Seq.{ext_get_or, get_or-drop, get_or-take, length-take-le}
use borrow.Author.Tests.{eq-eqb}
use Rattle.order.specs.Cells.{tabulate, place_of, is_order, all_zero, is_listing}
use Rattle.order.proofs.Cells.{IsOrder, order_true, true_order, lt_cases}
use Rattle.order.proofs.Tabulate.{length_tabulate, get_d_tabulate, tabulate_ext}
use Rattle.order.proofs.Places.{inverse_to, length_inverse, inverse_at, place_past, inverse_order, order_inverse, inverse_inverse}
use Rattle.order.proofs.Padded.{all_zero_lem, number_at, padded}
use Rattle.order.proofs.Check.{listing_parts}

-- both tests hold or none does
same_test : (a b : Bool) → (a ≡ true → b ≡ true) → (b ≡ true → a ≡ true) → a ≡ b
same_test true b f g = sym (f refl)
same_test false true f g = g refl
same_test false false f g = refl

module _ {A : Type 0} (wrap : ℕ → A) (number : A → ℕ) (back : (k : ℕ) → number (wrap k) ≡ k) (forth : (a : A) → wrap (number a) ≡ a) where
  -- the places of 1 to m in the list
  unfoldable pub inverted : ℕ → List ℕ → List A
  inverted m xs = tabulate m (λ k. wrap (place_of xs (suc k)))

  length_inverted : (m : ℕ) (xs : List ℕ) → length (map number (inverted m xs)) ≡ m
  unfolding inverted
  length_inverted m xs = length-map (inverted m xs) number ∙ length_tabulate m (λ k. wrap (place_of xs (suc k)))

  inverted_at : (m : ℕ) (xs : List ℕ) (k : ℕ) → k < m → get_or (map number (inverted m xs)) k 0 ≡ place_of xs (suc k)
  unfolding inverted
  inverted_at m xs k l =
      number_at wrap number back forth (inverted m xs) k
      ∙ ap number (get_d_tabulate m (λ k. wrap (place_of xs (suc k))) k (wrap 0) l) ∙ back (place_of xs (suc k))

  pub inverted_listed : (m n : ℕ) (xs : List ℕ) → n ≤ m → take n (map number (inverted m xs)) ≡ inverse_to n xs
  inverted_listed m n xs s =
      let long : length (take n (map number (inverted m xs))) ≡ n = length-take-le n (map number (inverted m xs)) (omega (arith, length_inverted m xs)) in
      ext_get_or 0 (take n (map number (inverted m xs))) (inverse_to n xs) (long ∙ sym (length_inverse n xs))
      (λ k l. get_or-take n (map number (inverted m xs)) k 0 (omega arith) ∙ inverted_at m xs k (omega arith) ∙ sym (inverse_at n xs k (omega arith)))

  module _ (m n : ℕ) (xs : List ℕ) (o : IsOrder n xs) (s : n ≤ m) where
    inverted_clear : all_zero (drop n (map number (inverted m xs))) ≡ true
    inverted_clear =
        all_zero_lem (drop n (map number (inverted m xs)))
        (λ k. get_or-drop n (map number (inverted m xs)) k 0
        ∙ ⊎_elim (λ t. inverted_at m xs (n + k) t.0 ∙ place_past n xs o (n + k) (omega arith))
        (λ t. get_or-eq_default (map number (inverted m xs)) 0 {n = n + k} (omega (arith, length_inverted m xs)))
        (lt_cases (n + k) m))

    -- the inverse of an order is one
    pub inverted_listing : is_listing n n (map number (inverted m xs)) ≡ true
    unfolding is_listing
    inverted_listing =
        rw (eq-eqb n n refl, inverted_listed m n xs s, true_order n (inverse_to n xs) (inverse_order n xs o), inverted_clear)

    -- and the inverse of that is the order, in its places
    pub inverted_back : inverted m (inverse_to n xs) ≡ padded wrap number back forth m xs
    unfolding inverted padded
    inverted_back =
        tabulate_ext m (λ k. wrap (place_of (inverse_to n xs) (suc k))) (λ k. wrap (get_or xs k 0))
        (λ k l. ap wrap
        (⊎_elim
        (λ t. sym (inverse_at n (inverse_to n xs) k t.0) ∙ ap (λ (ys : List ℕ). get_or ys k 0) (inverse_inverse n xs o))
        (λ t. place_past n (inverse_to n xs) (inverse_order n xs o) k t.0 ∙ sym (get_or-eq_default xs 0 {n = k} (omega (arith, o.size))))
        (lt_cases k n)))

  -- a list is an order where its inverse is one
  pub inverted_order : (m n : ℕ) (xs : List ℕ) → length xs ≡ n → n ≤ m → is_listing n n (map number (inverted m xs)) ≡ is_order n xs
  inverted_order m n xs e s =
      same_test (is_listing n n (map number (inverted m xs))) (is_order n xs)
      (λ t. true_order n xs (order_inverse n xs e
      (order_true n (inverse_to n xs) (rw (inverted_listed m n xs s) at (listing_parts (map number (inverted m xs)) n n t).order))))
      (λ t. inverted_listing m n xs (order_true n xs t) s)
