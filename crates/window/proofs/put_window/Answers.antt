-- `window::put_window` meets its contract, by the invariant of Placing.
use borrow.Author.Rules.{rules}
use native.Mathlib.Omega.{arith}
use Rattle.window.proofs.Placing.{placing_none, placing_more, placing_end}
use Rattle.window.proofs.put_window.Goals as goal

pub loop-j-init : goal.loop-j-init
loop-j-init c = (placing_none _ _ _ c.requires.0, search rules)

pub loop-j-preserved : goal.loop-j-preserved
loop-j-preserved c =
    (placing_more c.loop-j.invariant.0 (omega (arith, c.requires)) c.next_on-at.ensures, search rules)

pub returns : goal.returns
returns c = placing_end c.loop-j.invariant.0 _ (omega (arith, c.loop-j.invariant.1))
