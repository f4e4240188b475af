-- A shared write leaves a group; and the write of an order is the case of all sizes 1, mark aside.
-- Assumes nothing.
use Prim.Native.Nat.{ℕ, zero, suc, ◌-◌, ◌≤◌}
use mathlib.Core.Path.{◌≡◌, refl, sym, ap, ap₂, ◌∙◌}
use mathlib.Core.Logic.{⊎_elim}
use mathlib.Core.Bool.{Bool, true, false}
use mathlib.Core.List.{List, [], ◌∷◌, ◌++◌}
use native.Mathlib.Omega.{arith}
use lib.ListN.{length, replicate, length-replicate}
use lib.Seq.{take_at, drop_at}
use borrow.Author.Tests.{le-leb, eq-eqb, ne_eqb}
use Rattle.order.specs.declared.Order.{Order}
use Rattle.order.specs.declared.Refusal.TheVariants.{NoOrder, RankSizes}
use Rattle.order.specs.Refusals.{number_of, if_done, answer}
use Rattle.order.specs.Cells.{all_zero}
use Rattle.order.specs.Order.{listed, is_order_of}
use Rattle.order.proofs.Cells.{order_true, eq_cases}
use Rattle.order.proofs.Check.{order_parts}
use Rattle.order.proofs.Refusals.{check_holds, check_fails, check_held, all_held, later_decide, first_decide}
use Rattle.group.specs.declared.Group.{Group}
use Rattle.group.specs.Levels.{sum}
use Rattle.group.specs.Record.{group_checks, IsGroup}
use Rattle.group.proofs.Checks.{checked_size}
use Rattle.push_up.specs.PushUp.{singles}
use Rattle.push_up.specs.WriteAnswer.{Program, push_checks, pushed, unpushed, write_checks, write_of}
use Rattle.push_up.proofs.Orders.{CellsOf, order_cells, cells_tail, first_low, first_high}
use Rattle.push_up.proofs.Writes.{push_group}
use Rattle.sharing.specs.declared.Ranked.{Ranked}
use Rattle.sharing.specs.Shared.{sizes_of, each_filled, is_sizes, is_listed, by_number, ranks_of, shared_target, ranked_checks, shared_checks, write_shared_of, ones_target, unmarked}
use Rattle.sharing.proofs.Targets.{number_none, number_in, number_out}

-- ---- what it leaves

pub shared_group : (g : Group) (t : Ranked) → IsGroup g → IsGroup (write_shared_of g t).value.group
unfolding write_shared_of
shared_group g t h =
    let rs = shared_target g.n t in
    push_group (λ (p : Program). p.group) false g rs (group_checks g ++ ranked_checks g.n t) (pushed false g rs) (unpushed g) h refl
    refl

-- ---- all sizes 1

listed_self : (c : ℕ) → is_listed c (c ∷ []) ≡ true
listed_self c = rw (eq-eqb c c refl)

listed_other : (d c : ℕ) → (d ≡ c → ⊥) → is_listed d (c ∷ []) ≡ false
listed_other d c q = rw (ne_eqb d c q)

number_under : (n c : ℕ) → suc n ≤ c → by_number n (c ∷ []) ≡ []
number_under zero c l = number_none (c ∷ [])
number_under (suc n) c l = number_out n (c ∷ []) (listed_other (suc n) c (λ e. omega (arith, e))) ∙ number_under n c (omega arith)

number_self : (n c : ℕ) → 1 ≤ c → c ≤ n → by_number n (c ∷ []) ≡ c ∷ []
number_self zero c l h = absurd (omega arith)
number_self (suc n) c l h =
    ⊎_elim
    (λ t. number_in n (c ∷ []) (rw t.0 (listed_self c)) ∙ ap₂ ◌∷◌ t.0 (number_under n c (omega (arith, t.0))))
    (λ t. number_out n (c ∷ []) (listed_other (suc n) c t.0) ∙ number_self n c l (omega (arith, t.0)))
    (eq_cases (suc n) c)

-- each rank has one cell: the target is the order itself
ones_singles : (n : ℕ) (xs : List ℕ) → CellsOf n xs → ranks_of n (replicate (length xs) 1) xs ≡ singles xs
unfolding ranks_of singles
ones_singles n [] s = refl
ones_singles n (x ∷ xs) s = ap₂ ◌∷◌ (number_self n x (first_low s) (first_high s)) (ones_singles n xs (cells_tail s))

ones_filled : (n : ℕ) → each_filled (replicate n 1) ≡ true
unfolding each_filled
ones_filled zero = refl
ones_filled (suc n) = ones_filled n

ones_sum : (n : ℕ) → sum (replicate n 1) ≡ n
unfolding sum
ones_sum zero = refl
ones_sum (suc n) = omega (arith, ones_sum n)

zeros_zero : (k : ℕ) → all_zero (replicate k 0) ≡ true
unfolding all_zero
zeros_zero zero = refl
zeros_zero (suc k) = zeros_zero k

module _ (n : ℕ) (o : Order) where
  ones_listed : sizes_of (ones_target n o) ≡ replicate n 1
  ones_listed = take_at (replicate n 1) (replicate (12 - n) 0) n (length-replicate n 1)

  pub ones_sizes : n ≤ 12 → is_sizes n (ones_target n o) ≡ true
  unfolding is_sizes
  ones_sizes l =
      rw (le-leb n 12 l, ones_listed, ones_filled n, ones_sum n, eq-eqb n n refl, drop_at {A = ℕ} (replicate n 1) (replicate (12 - n) 0) n (length-replicate n 1)) (zeros_zero (12 - n))

module _ (g : Group) (o : Order) where
  abbrev ones : Ranked
  ones = ones_target g.n o

  -- the target is the order
  ones_target_lem : is_order_of g.n o ≡ true → shared_target g.n ones ≡ singles (listed o)
  ones_target_lem e =
      let order = order_true g.n (listed o) (order_parts g.n o e).1.order in
      ap (λ (ss : List ℕ). ranks_of g.n ss (listed o)) (ones_listed g.n o ∙ ap (λ (k : ℕ). replicate k 1) (sym order.size))
      ∙ ones_singles g.n (listed o) (order_cells g.n (listed o) order)

  -- the same number
  ones_number : number_of (shared_checks g ones) ≡ number_of (write_checks g o)
  ones_number = by_record (number_of (group_checks g)) refl
    where
      later : (b : Bool) → is_order_of g.n o ≡ b
          → number_of ((is_order_of g.n o, NoOrder) ∷ push_checks g (shared_target g.n ones)) ≡ number_of ((is_order_of g.n o, NoOrder) ∷ push_checks g (singles (listed o)))
      later true e = rw (ones_target_lem e)
      later false e = check_fails NoOrder _ e ∙ sym (check_fails NoOrder _ e)

      by_record : (k : ℕ) → number_of (group_checks g) ≡ k → number_of (shared_checks g ones) ≡ number_of (write_checks g o)
      by_record zero e =
          later_decide _ (group_checks g) e ∙ check_holds RankSizes _ (ones_sizes g.n o (checked_size g e).1) ∙ later (is_order_of g.n o) refl
          ∙ sym (later_decide _ (group_checks g) e)
      by_record (suc k) e =
          let no : number_of (group_checks g) ≡ 0 → ⊥ = λ z. omega (arith, z, e) in
          first_decide _ (group_checks g) no ∙ sym (first_decide _ (group_checks g) no)

  -- the write of the order, mark aside: of any record and any order, refused or not
  pub ones_write : unmarked (write_shared_of g ones) ≡ unmarked (write_of g o)
  unfolding write_shared_of write_of answer pushed
  ones_write = rw ones_number (by_number_lem (number_of (write_checks g o)) refl)
    where
      by_number_lem : (k : ℕ) → number_of (write_checks g o) ≡ k
          → unmarked (record { number = k; value = if_done k (pushed false g (shared_target g.n ones)) (unpushed g) })
          ≡ unmarked (record { number = k; value = if_done k (pushed true g (singles (listed o))) (unpushed g) })
      by_number_lem zero e =
          let order = (check_held (is_order_of g.n o) NoOrder _ (all_held _ (group_checks g) e).1).0 in
          rw (ones_target_lem order)
      by_number_lem (suc k) e = refl
