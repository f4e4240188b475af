-- What an accepted open makes is a group, and a group stays a group under leak, wear and erase.
-- Assumes nothing.
use Prim.Native.Nat.{ℕ, ◌-◌}
use mathlib.Core.Path.{◌≡◌, refl, ◌∙◌}
use mathlib.Core.List.{List, [], ◌∷◌, ◌++◌}
use native.Mathlib.Omega.{arith}
use lib.Dec.{leb}
use lib.ListN.{replicate, length-append, length-replicate}
use borrow.Author.Tests.{leb-true}
use Rattle.order.specs.declared.Cell.{Cell}
use Rattle.order.specs.declared.Refusal.TheVariants.{Size, CapUp, Endurance}
use Rattle.order.specs.Refusals.{is_size}
use Rattle.order.proofs.Refusals.{check_held, size_true, all_held}
use Rattle.group.specs.declared.Group.{Group}
use Rattle.group.specs.Levels.{level}
use Rattle.group.specs.Record.{is_endurance, group_checks, IsGroup, opened, no_group}
use Rattle.changes.specs.Changes.{open_checks, cell_checks, open_of, leak_of, wear_of, erase_of}
use Rattle.group.proofs.Levels.{at_most_refl, at_most_length, put_below, leaked_below}
use Rattle.group.proofs.LevelRows.{row_below, zeros_row, full_row}
use Rattle.group.proofs.Checks.{rules_hold, checked_levels}
use Rattle.group.proofs.Groups.{told_value, told_accepted, group_kept}

pub open_group : (n e : ℕ) → (open_of n e).number ≡ 0 → IsGroup (open_of n e).value
unfolding open_of
open_group n e done =
    let t = told_accepted (open_checks n e) (opened n e) no_group done in
    let sized = check_held (is_size n) Size _ t.0 in
    let s = size_true n sized.0 in
    let full : List ℕ = replicate n 4095 in
    let clear : List ℕ = replicate (12 - n) 0 in
    rw t.1
    (record {
      passes =
          rules_hold (opened n e)
          (record {
            small = s.0;
            large = s.1;
            levels = zeros_row 4095 n 12;
            caps = full_row 4095 n;
            endurance = (check_held (is_endurance e) Endurance [] sized.1).0;
            used = zeros_row e n 12;
          });
      levels = refl;
      caps = length-append full clear ∙ omega (arith, length-replicate {A = ℕ} n 4095, length-replicate {A = ℕ} (12 - n) 0);
      used = refl;
    })

pub leak_group : (g : Group) (c : Cell) (d : ℕ) → IsGroup g → IsGroup (leak_of g c d).value
unfolding leak_of
leak_group g c d h =
    let low = leaked_below c.0 d g.levels in
    told_value IsGroup (cell_checks g c) _ g
    (λ e. group_kept g h _ g.caps _ (row_below 4095 g.n low (checked_levels g h.passes)) (at_most_length low ∙ h.levels) (at_most_refl g.caps)) h

pub wear_group : (g : Group) (c : Cell) (cap : ℕ) → IsGroup g → IsGroup (wear_of g c cap).value
unfolding wear_of
wear_group g c cap h =
    told_value IsGroup (cell_checks g c ++ (leb cap (level g.caps c.0), CapUp) ∷ []) _ g
    (λ e.
    let l = leb-true cap (level g.caps c.0) (check_held _ CapUp [] (all_held _ (cell_checks g c) e).1).0 in
    group_kept g h g.levels _ _ (checked_levels g h.passes) h.levels (put_below c.0 cap (at_most_refl g.caps) l)) h

pub erase_group : (g : Group) → IsGroup g → IsGroup (erase_of g).value
unfolding erase_of
erase_group g h =
    told_value IsGroup (group_checks g) _ g (λ e. group_kept g h (replicate 12 0) g.caps _ (zeros_row 4095 g.n 12) refl (at_most_refl g.caps)) h
