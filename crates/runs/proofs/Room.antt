-- A buffer of the length that `room` has for the bytes that are read takes the whole text.
-- Assumes nothing.
use mathlib.Core.Path.{◌≡◌, refl}
use Prim.Native.Nat.{ℕ, ◌≤◌, min}
use mathlib.Core.List.{List}
use lib.ListN.{length, length-take}
use borrow.Author.Tests.{le-leb}
use Rattle.runs.specs.Text.{text_of, taken, room, printed}

pub room_enough : (bs out : List ℕ) → room (min 65536 (length bs)) ≤ length out → printed bs out ≡ text_of (taken bs)
unfolding printed
room_enough bs out h = rw (length-take 65536 bs, le-leb (room (min 65536 (length bs))) (length out) h) refl
