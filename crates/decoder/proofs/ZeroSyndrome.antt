-- The syndrome of an order, by the weighted sum that a sweep over it holds: it is 0 where the order is a codeword.
-- Assumes nothing.
use Prim.Native.Nat.{ℕ, ◌%◌, ◌≤◌}
use native.Mathlib.Omega.{arith}
use mathlib.Core.Path.{◌≡◌, refl, sym, ap, ◌∙◌}
use mathlib.Core.List.{List}
use lib.Dec.{eqb}
use Rattle.std.specs.Prelude.{Ok, Err}
use Rattle.order.specs.declared.Order.{Order}
use Rattle.order.specs.declared.Refusal.{Refusal}
use Rattle.order.specs.Refusals.{refusal_number, number_of, Told, answer}
use Rattle.order.specs.Order.{listed, order_checks}
use Rattle.order.proofs.Refusals.{told_done}
use Rattle.order.proofs.Records.{passed}
use Rattle.coordinates.specs.declared.Sweep.{Sweep}
use Rattle.coordinates.specs.Conversion.{coordinates_of}
use Rattle.coordinates.specs.Sweep.{sweep_of, told_sweep, sweep_of_order}
use Rattle.coordinates.proofs.Sweeping.{sweep_coordinates, sweep_sum}
use Rattle.decoder.specs.Decoding.{modulus, leaves, is_codeword}
use Rattle.decoder.specs.Steps.{syndrome_of}

-- an order is a codeword where its syndrome is 0
pub code_syndrome : (n : ℕ) (u : List ℕ) → is_codeword n u ≡ eqb (syndrome_of n u) 0
unfolding is_codeword leaves syndrome_of
code_syndrome n u = refl

-- ---- the sweep over an order that is handed in

pub sweep_refused : (o : Order) (k : ℕ) (r : Refusal) → told_sweep (Err r) ≡ sweep_of_order o k → number_of (order_checks o) ≡ refusal_number r
unfolding sweep_of_order answer
sweep_refused o k r e = sym (ap (λ (t : Told Sweep). t.number) e)

module _ (o : Order) (k : ℕ) (s : Sweep) (e : told_sweep (Ok s) ≡ sweep_of_order o k) where
  pub sweep_passed : number_of (order_checks o) ≡ 0
  unfolding sweep_of_order answer
  sweep_passed = sym (ap (λ (t : Told Sweep). t.number) e)

  -- of all its places
  module _ (l : o.len ≤ k) where
    same_sweep : s ≡ sweep_of o k
    unfolding sweep_of_order
    same_sweep = ap (λ (t : Told Sweep). t.value) (e ∙ sym (told_done _ _ _ sweep_passed))

    pub same_coordinates : s.coordinates ≡ coordinates_of o
    same_coordinates = rw same_sweep (sweep_coordinates o sweep_passed k l)

    -- the sum gives the syndrome
    pub same_syndrome : s.sum % modulus o.len ≡ syndrome_of o.len (listed o)
    unfolding syndrome_of
    same_syndrome = rw same_sweep (ap (λ (w : ℕ). w % modulus o.len) (sweep_sum o sweep_passed k l))

    -- it says whether the order is a codeword
    pub sum_tested : eqb (s.sum % modulus o.len) 0 ≡ is_codeword o.len (listed o)
    sum_tested = ap (λ (s : ℕ). eqb s 0) same_syndrome ∙ sym (code_syndrome o.len (listed o))

-- an order that passed its checks has a size that `syndrome` takes
pub passed_size : (o : Order) → number_of (order_checks o) ≡ 0 → (1 ≤ o.len) × (o.len ≤ 12)
passed_size o d = (omega (arith, (passed o d).0), (passed o d).1)
