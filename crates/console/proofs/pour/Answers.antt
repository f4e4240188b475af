-- `console::pour` meets its contract: the run takes each piece, and each text ends within its buffer.
use borrow.Author.Rules.{rules}
use mathlib.Core.Path.{◌≡◌}
use mathlib.Core.List.{List}
use Prim.Native.Nat.{ℕ, ◌≤◌}
use native.Mathlib.Omega.{arith}
use lib.ListN.{length, take}
use lib.Seq.{length-take-le}
use Rattle.console.proofs.Sent.{sent_starts, sent_goes_on, sent_ends, sent_steps}
use Rattle.console.proofs.pour.Goals as goal

pub loop-pieces-init : goal.loop-pieces-init
loop-pieces-init g c = sent_starts (search rules) (search rules) (search rules) c.begin-p.ensures

-- the bytes that were read stand in the buffer
fits : (size : ℕ) (input : List ℕ) → size ≤ 4096 → length input ≡ 4096 → length (take size input) ≡ size
fits size input read buffer = length-take-le size input (omega (arith, read, buffer))

-- a full piece has 4,096 bytes
full : (size : ℕ) (input : List ℕ) → size ≤ 4096 → 4096 ≤ size → length input ≡ 4096 → length (take size input) ≡ 4096
full size input read all buffer = omega (arith, fits size input read buffer, read, all)

pub take_piece-done-requires : goal.take_piece-done-requires
take_piece-done-requires g c =
    let at = c.loop-pieces in
    sent_goes_on at.invariant (take at.size at.input) (full at.size at.input at.invariant.read (omega arith) at.invariant.buffer)

pub loop-pieces-preserved : goal.loop-pieces-preserved
loop-pieces-preserved g c =
    let at = c.loop-pieces in
    sent_steps at.invariant (take at.size at.input) (full at.size at.input at.invariant.read (omega arith) at.invariant.buffer) c.loop-pieces-test.true
    c.take_piece-done.ensures.progress_value (search rules) (search rules) (search rules)

pub take_last-end-requires : goal.take_last-end-requires
take_last-end-requires g c =
    let at = c.loop-pieces in
    sent_ends at.invariant (take at.size at.input) (fits at.size at.input at.invariant.read at.invariant.buffer)
