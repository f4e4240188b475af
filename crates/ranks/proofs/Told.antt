-- What an answer says in the refusal table's terms determines the answer.
-- Assumes nothing.
use mathlib.Core.Path.{◌≡◌}
use Rattle.std.specs.Prelude.{Result}
use Rattle.order.specs.declared.Refusal.{Refusal}
use Rattle.order.proofs.Told.{told_lem}
use Rattle.ranks.specs.declared.Ranks.{Ranks}
use Rattle.ranks.specs.Ranks.{told_ranks, no_ranks}

pub told_ranks_lem : (a b : Result Ranks Refusal) → told_ranks a ≡ told_ranks b → a ≡ b
told_ranks_lem a b e = told_lem no_ranks a b e
