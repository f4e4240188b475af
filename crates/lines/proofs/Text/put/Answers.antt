-- `lines::Text::put` meets its contract.
use mathlib.Core.Path.{refl}
use native.Mathlib.Omega.{arith}
use Rattle.lines.proofs.Paste.{puts_bytes}
use Rattle.lines.proofs.Text.put.Goals as goal

pub returns : goal.returns
returns c = record { puts = puts_bytes _ _ _ _ _ _ c.requires c.copy_from_slice.ensures.after (omega arith) refl; few = omega arith; same = refl }
