-- Signed numbers: laws of their order, and the difference of two naturals.
-- Assumes nothing.
use Prim.Native.Nat.{ℕ, ◌+◌, ◌-◌, ◌≤◌}
use native.Mathlib.Omega.{arith}
use Rattle.std.proofs.lemmas.Int.{ints}
use mathlib.Core.Path.{◌≡◌, refl, ap, ◌∙◌}
use mathlib.Core.Bool.{true, false}
use mathlib.Core.Logic.{◌⊎◌, inl, inr, ⊎_elim}
use mir.Syntax.{w8}
use mir.Val.{SFits}
use lib.Dec.{le→leb}
use lib.IntN.{ℤ, pos, negsuc, sub_ℕ}
use lib.Signed.{le_z, ◌≤ℤ◌, le_z_yes}
use borrow.Author.Tests.{le-ltb, le-leb, lt-leb}
use Rattle.order.proofs.Cells.{lt_cases}

-- ---- the order

pub ≤ℤ-trans : {a b c : ℤ} → a ≤ℤ b → b ≤ℤ c → a ≤ℤ c
≤ℤ-trans h k = omega (arith, ints)

pub ≤ℤ-antisym : {a b : ℤ} → a ≤ℤ b → b ≤ℤ a → a ≡ b
≤ℤ-antisym h k = omega (arith, ints)

pub le_cases : (a b : ℤ) → ((a ≤ℤ b) × (le_z a b ≡ true)) ⊎ ((b ≤ℤ a) × (le_z a b ≡ false))
le_cases (pos a) (pos b) =
    ⊎_elim (λ t. inr (le_z_yes (le→leb b a (omega arith)), lt-leb a b t.0)) (λ t. inl (le_z_yes (le→leb a b t.0), le-leb a b t.0)) (lt_cases b a)
le_cases (pos a) (negsuc b) = inr (le_z_yes tt, refl)
le_cases (negsuc a) (pos b) = inl (le_z_yes tt, refl)
le_cases (negsuc a) (negsuc b) =
    ⊎_elim (λ t. inr (le_z_yes (le→leb a b (omega arith)), lt-leb b a t.0)) (λ t. inl (le_z_yes (le→leb b a t.0), le-leb b a t.0)) (lt_cases a b)

-- ---- a difference of two naturals

sub_high : (a b : ℕ) → b ≤ a → sub_ℕ a b ≡ pos (a - b)
sub_high a b l = rw (le-ltb a b l)

-- ranks are small, so their difference fits
pub sub_fits : (a b : ℕ) → a ≤ 12 → b ≤ 12 → SFits w8 (sub_ℕ a b)
sub_fits a b h k =
    ⊎_elim (λ t. rw t.1 (record { sfits = omega arith })) (λ t. rw t.1 (record { sfits = omega arith })) (lt_cases a b)

-- what a difference is, is at most, and is at least
pub sub_rise : (a b r : ℕ) → a ≡ b + r → sub_ℕ a b ≡ pos r
sub_rise a b r e = let d : a - b ≡ r = omega arith in sub_high a b (omega arith) ∙ ap pos d

pub sub_most : (a b r : ℕ) → a ≤ b + r → sub_ℕ a b ≤ℤ pos r
sub_most a b r h =
    ⊎_elim (λ t. rw t.1 (le_z_yes tt)) (λ t. rw t.1 (le_z_yes (le→leb (a - b) r (omega arith)))) (lt_cases a b)

pub sub_positive : (a b : ℕ) → b ≤ a → pos 0 ≤ℤ sub_ℕ a b
sub_positive a b h = rw (sub_high a b h) (le_z_yes (le→leb 0 (a - b) (omega arith)))
