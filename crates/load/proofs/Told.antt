-- What an answer says in the refusal table's terms determines the answer.
-- Assumes nothing.
use Prim.Native.Nat.{ℕ}
use mathlib.Core.Path.{◌≡◌}
use Rattle.std.specs.Prelude.{Result}
use Rattle.order.specs.declared.Refusal.{Refusal}
use Rattle.order.proofs.Told.{told_lem}
use Rattle.load.specs.Load.{told_load}

pub told_load_lem : (a b : Result ℕ Refusal) → told_load a ≡ told_load b → a ≡ b
told_load_lem a b e = told_lem 0 a b e
