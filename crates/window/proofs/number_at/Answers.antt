-- `window::number_at` meets its contract: the window is a part of the ring, or the part of the scratch where it was put together.
use mathlib.Core.Path.{sym, ap, ◌∙◌}
use native.Mathlib.Omega.{arith}
use Rattle.window.specs.Ring.{window_number}
use Rattle.window.proofs.Numbering.{window_inside, placed_first, placed_kept}
use Rattle.window.proofs.number_at.Goals as goal

pub returns-then-end-ring-clause-value : goal.returns-then-end-ring-clause-value
returns-then-end-ring-clause-value c = c.number_of.ensures ∙ ap window_number (sym (window_inside c.args.ring.now c.args.width c.args.start (omega arith)))

pub returns-clause-value : goal.returns-clause-value
returns-clause-value c = c.number_of-2.ensures ∙ ap window_number (placed_first c.args.ring.now c.args.width c.args.start c.args.scratch.now c.put_window.ensures)

pub returns-clause-kept_past : goal.returns-clause-kept_past
returns-clause-kept_past c = placed_kept c.args.ring.now c.args.width c.args.start c.args.scratch.now c.put_window.ensures c.requires.1.1
