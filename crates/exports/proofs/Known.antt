-- An answer of a call whose value is a number, once it is known which answer it is: its number and its value are those that the call's contract gives.
-- Assumes nothing.
use mathlib.Core.Path.{◌≡◌, sym, ap, ◌∙◌}
use Prim.Native.Nat.{ℕ}
use Rattle.order.specs.Refusals.{Told}

module _ {A : Type 0} (told : A → Told ℕ) {a b : A} {t : Told ℕ} (e : a ≡ b) (h : told a ≡ t) where
  pub number_of : (told b).number ≡ t.number
  number_of = ap (λ (t : Told ℕ). t.number) (sym (ap told e) ∙ h)

  pub value_of : (told b).value ≡ t.value
  value_of = ap (λ (t : Told ℕ). t.value) (sym (ap told e) ∙ h)
