-- Document 01, "Calls outside the list": displacements and the cost of orders u to v.
--
--   displacement u v c     cell c's rank in v minus its rank in u, a signed number
--   displacements n u v    those of the cells 1 to n
--   larger_of x ys          the largest of x and the listed numbers
--   largest xs             the largest of a list of numbers; 0 of none
--   cost n u v             the largest of the displacements
--   told_displacements, told_cost        what an answer says: its number, and the displacements or the cost, or zeros
--   displacements_of, cost_of            the answers to `displacements` and `cost`
use Rattle.std.specs.Prelude.{ℕ, suc, cond, List, [], ◌∷◌, replicate, Result, Ok, Err, ℤ, pos}
use Rattle.std.proofs.Math.IntN.{sub_ℕ}
use Rattle.std.specs.Int.Signed.{le_z}
use Rattle.order.specs.declared.Order.{Order}
use Rattle.order.specs.declared.Refusal.{Refusal}
use Rattle.order.specs.Refusals.{refusal_number, Told, told, answer}
use Rattle.order.specs.Cells.{tabulate, place_of}
use Rattle.order.specs.Order.{listed, pair_checks}

unfoldable pub displacement : List ℕ → List ℕ → ℕ → ℤ
displacement u v c = sub_ℕ (place_of v c) (place_of u c)

unfoldable pub displacements : ℕ → List ℕ → List ℕ → List ℤ
displacements n u v = tabulate n (λ k. displacement u v (suc k))

unfoldable pub larger_of : ℤ → List ℤ → ℤ
larger_of x [] = x
larger_of x (y ∷ ys) = cond (le_z x y) (larger_of y ys) (larger_of x ys)

unfoldable pub largest : List ℤ → ℤ
largest [] = pos 0
largest (x ∷ xs) = larger_of x xs

unfoldable pub cost : ℕ → List ℕ → List ℕ → ℤ
cost n u v = largest (displacements n u v)

abbrev pub told_displacements : Result (List ℤ) Refusal → Told (List ℤ)
told_displacements a = told (replicate 12 (pos 0)) a

abbrev pub told_cost : Result ℕ Refusal → Told ℤ
told_cost (Ok c) = record { number = 0; value = pos c }
told_cost (Err refusal) = record { number = refusal_number refusal; value = pos 0 }

-- by cell number, in twelve places: a cell that is not listed has rank 0 in both
unfoldable pub displacements_of : Order → Order → Told (List ℤ)
displacements_of u v = answer (pair_checks u v) (displacements 12 (listed u) (listed v)) (replicate 12 (pos 0))

unfoldable pub cost_of : Order → Order → Told ℤ
cost_of u v = answer (pair_checks u v) (cost u.len (listed u) (listed v)) (pos 0)
