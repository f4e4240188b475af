-- What an answer says in the refusal table's terms determines the answer.
-- Assumes nothing.
use mathlib.Core.Path.{◌≡◌}
use Rattle.std.specs.Prelude.{ℕ, Result}
use Rattle.order.specs.declared.Refusal.{Refusal}
use Rattle.order.proofs.Told.{told_lem}
use Rattle.window.specs.Calls.{told_windows}

pub told_windows_lem : (a b : Result ℕ Refusal) → told_windows a ≡ told_windows b → a ≡ b
told_windows_lem = told_lem 0
