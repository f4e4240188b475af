-- What an answer says in the refusal table's terms determines the answer.
-- Assumes nothing.
use Prim.Native.Nat.{ℕ}
use mathlib.Core.Path.{◌≡◌}
use Rattle.std.specs.Prelude.{Result}
use Rattle.order.specs.declared.Refusal.{Refusal}
use Rattle.order.proofs.Told.{told_lem}
use Rattle.distance.specs.Distance.{told_distance}

pub told_distance_lem : (a b : Result ℕ Refusal) → told_distance a ≡ told_distance b → a ≡ b
told_distance_lem a b e = told_lem 0 a b e
