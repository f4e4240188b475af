-- A line put where its longest has room, and none put where it has not.
-- Assumes nothing.
use mathlib.Core.Path.{◌≡◌, sym, ap, ◌∙◌}
use Prim.Native.Nat.{ℕ, ◌+◌, ◌≤◌, ◌<◌}
use native.Mathlib.Omega.{arith}
use native.Mathlib.Nat.{add-zero}
use mathlib.Core.List.{List}
use lib.ListN.{length}
use borrow.Author.Tests.{le-leb, lt-leb}
use Rattle.lines.specs.Line.{pasted, in_room}
use Rattle.lines.specs.Puts.{Puts}
use Rattle.lines.proofs.Paste.{length_pasted, pasted_none}

module _ (k at : ℕ) (t xs : List ℕ) where
  -- what a line's contract says of its end and of the buffer
  abbrev pub Put : List ℕ → ℕ → Type 0
  Put ys end = (end ≡ at + length (in_room k at t xs)) × ((ys ≡ pasted at (in_room k at t xs) xs) × (end ≤ at + k))

  pub none_put : length xs < at + k → Put xs at
  none_put h = rw (lt-leb (at + k) (length xs) h) (sym (add-zero at), (pasted_none xs at, omega arith))

  module _ (h : at + k ≤ length xs) {ys : List ℕ} {end : ℕ} where
    pub line_put : Puts xs ys at end t → end ≤ at + k → Put ys end
    line_put p l = rw (le-leb (at + k) (length xs) h) (p.ends, (p.put, l))

    pub put_line_lem : Put ys end → Puts xs ys at end t
    put_line_lem p =
        let put = rw (le-leb (at + k) (length xs) h) at p in
        let fits : at + length t ≤ length xs = omega (arith, h, put.0, put.1.1) in
        record { fits = fits; put = put.1.0; kept = ap length put.1.0 ∙ length_pasted at t xs fits; ends = put.0 }
