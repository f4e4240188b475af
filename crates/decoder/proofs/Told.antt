-- What an answer says in the refusal table's terms determines the answer.
-- Assumes nothing.
use mathlib.Core.Path.{◌≡◌}
use mathlib.Core.Bool.{Bool, false}
use Rattle.std.specs.Prelude.{Result}
use Rattle.order.specs.declared.Refusal.{Refusal}
use Rattle.order.proofs.Told.{told_lem}
use Rattle.decoder.specs.declared.Found.{Found}
use Rattle.decoder.specs.Nearest.{nothing_found, told_test, told_nearest}

pub told_test_lem : (a b : Result Bool Refusal) → told_test a ≡ told_test b → a ≡ b
told_test_lem a b e = told_lem false a b e

pub told_nearest_lem : (a b : Result Found Refusal) → told_nearest a ≡ told_nearest b → a ≡ b
told_nearest_lem a b e = told_lem nothing_found a b e
