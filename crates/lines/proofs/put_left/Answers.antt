-- `lines::put_left` meets its contract.
use borrow.Author.Rules.{rules}
use mathlib.Core.Path.{◌≡◌, refl}
use Prim.Native.Nat.{ℕ, zero, suc}
use native.Mathlib.Omega.{arith}
use mathlib.Core.List.{[], ◌∷◌, ◌++◌}
use Rattle.lines.specs.Line.{after, left_line}
use Rattle.lines.proofs.Adds.{adds_as, put_from}
use Rattle.lines.proofs.Paste.{puts_none, puts_as}
use Rattle.lines.proofs.InRoom.{none_put, line_put}
use Rattle.lines.proofs.put_left.Goals as goal
use Rattle.lines.proofs.put_left.Goals.{then-out-at-via-then-out-at, then-out-at-via-else-out-at+then-left-eq0}

none : (k : ℕ) → k ≡ 0 → [] ≡ left_line k
unfolding left_line
none k e = rw e refl

some : (k : ℕ) → (k ≡ 0 → ⊥) → 108 ∷ 101 ∷ 102 ∷ 116 ∷ after 32 k ++ 10 ∷ [] ≡ left_line k
unfolding left_line
some zero h = absurd (h refl)
some (suc k) h = refl

pub returns-then-out-at : goal.returns-then-out-at
returns-then-out-at c =
    elim c.then-out-at.branch [
      | then-out-at-via-then-out-at w ↦
          let put = none_put _ _ _ _ (omega (arith, w.if-out-at.true)) in
          record { value = put.0; out_after = put.1.0; upper_bound = put.1.1 }
      | then-out-at-via-else-out-at+then-left-eq0 w ↦
          let put =
          line_put _ _ _ _ (omega (arith, w.if-out-at.false)) (puts_as (none _ w.if-left-eq0.true) (puts_none _ _ (omega (arith, w.if-out-at.false)))) (omega arith) in
          record { value = put.0; out_after = put.1.0; upper_bound = put.1.1 }
    ]

pub returns : goal.returns
returns c =
    let put =
    line_put _ _ _ _ (omega (arith, c.if-out-at.false))
    (put_from c.new-text.ensures.buffer c.new-text.ensures.place (search rules) (adds_as (some _ c.if-left-eq0.false) c.put_named.ensures))
    (omega arith) in
    record { value = put.0; out_after = put.1.0; upper_bound = put.1.1 }
