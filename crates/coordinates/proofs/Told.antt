-- What an answer says in the refusal table's terms determines the answer.
-- Assumes nothing.
use mathlib.Core.Path.{◌≡◌}
use Rattle.std.specs.Prelude.{Result}
use Rattle.order.specs.declared.Refusal.{Refusal}
use Rattle.order.proofs.Told.{told_lem}
use Rattle.coordinates.specs.declared.Coordinates.{Coordinates}
use Rattle.coordinates.specs.declared.Sweep.{Sweep}
use Rattle.coordinates.specs.Conversion.{told_coordinates, no_coordinates}
use Rattle.coordinates.specs.Sweep.{told_sweep, no_sweep}

pub told_coordinates_lem : (a b : Result Coordinates Refusal) → told_coordinates a ≡ told_coordinates b → a ≡ b
told_coordinates_lem a b e = told_lem no_coordinates a b e

pub told_sweep_lem : (a b : Result Sweep Refusal) → told_sweep a ≡ told_sweep b → a ≡ b
told_sweep_lem a b e = told_lem no_sweep a b e
