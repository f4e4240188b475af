-- A store has at most 49,140 pulses: twelve cells that rise from 0 to 4,095.
-- Assumes nothing.
use Prim.Native.Nat.{ℕ, ◌≤◌, zero-le}
use native.Mathlib.Omega.{arith}
use mathlib.Core.Path.{◌≡◌, refl, sym, ◌∙◌}
use mathlib.Core.Bool.{true}
use lib.ListN.{length}
use Rattle.order.specs.Refusals.{number_of}
use Rattle.order.proofs.Refusals.{check_held, all_held}
use Rattle.code.specs.Symbols.{word_of}
use Rattle.coordinates.specs.Conversion.{coordinate_at}
use Rattle.coordinates.proofs.RoundTrip.{order_of_any}
use Rattle.code.specs.Words.{word_at}
use Rattle.group.specs.declared.Group.{Group}
use Rattle.group.specs.Record.{group_checks}
use Rattle.group.proofs.Levels.{at_most_length, at_most_true}
use Rattle.group.proofs.LevelRows.{row_true, row_below, rises_most}
use Rattle.group.proofs.Checks.{checked_size, checked_caps}
use Rattle.group.proofs.Groups.{told_value}
use Rattle.push_up.specs.PushUp.{singles}
use Rattle.push_up.specs.WriteAnswer.{Program, raised, fits, push_checks, pushed, unpushed}
use Rattle.push_up.proofs.Minimal.{raise_above}
use Rattle.push_up.proofs.Orders.{order_target}
use Rattle.push_up.proofs.Programs.{counted_pulses, counted_program}
use Rattle.push_up.proofs.Writes.{push_held}
use Rattle.engine.specs.ReadStore.{store_checks, store_of}

module _ (g : Group) (s : ℕ) where
  -- as many levels as before
  store_levels : length (store_of g s).value.group.levels ≡ length g.levels
  unfolding store_of pushed raised
  store_levels =
      told_value (λ (p : Program). length p.group.levels ≡ length g.levels) (store_checks g s) (pushed true g (singles (word_of g.n s))) (unpushed g)
      (λ e. sym (at_most_length (raise_above 1 (singles (word_of g.n s)) g.levels)))
      refl

  word_pulses : length g.levels ≡ 12 → number_of (group_checks g) ≡ 0 → number_of (push_checks g (singles (word_of g.n s))) ≡ 0 → (pushed true g (singles (word_of g.n s))).pulses ≤ 49140
  unfolding fits word_of pushed
  word_pulses twelve d f =
      let t = singles (word_of g.n s) in
      let target = order_target g.n (word_of g.n s) (order_of_any (coordinate_at (word_at g.n s)) g.n) in
      let program = counted_program true g t target (omega (arith, twelve, checked_size g d)) in
      let row = row_below 4095 g.n (at_most_true (raised g t) g.caps (push_held g t f).0) (checked_caps g d) in
      omega (arith, twelve, counted_pulses true g t, program.pulses, rises_most g.levels (raised g t) (row_true 4095 g.n (raised g t) row))

  pub store_pulses : length (store_of g s).value.group.levels ≡ 12 → (store_of g s).value.pulses ≤ 49140
  unfolding store_of
  store_pulses twelve =
      told_value (λ (p : Program). p.pulses ≤ 49140) (store_checks g s) (pushed true g (singles (word_of g.n s))) (unpushed g)
      (λ e. let t = all_held _ (group_checks g) e in word_pulses (sym store_levels ∙ twelve) t.0 (check_held _ _ _ t.1).1)
      zero-le
