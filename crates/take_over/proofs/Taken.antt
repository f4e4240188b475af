-- What a take-over makes is a group, and any group can be taken over as it stands, but for the mark, which is set.
-- Assumes nothing.
use Prim.Native.Nat.{ℕ}
use mathlib.Core.Path.{◌≡◌, sym, ◌∙◌}
use mathlib.Core.Bool.{true, ◌&&◌}
use mathlib.Core.List.{List, []}
use lib.ListN.{length, take}
use Rattle.order.specs.declared.Refusal.TheVariants.{Size, Measurement, Endurance}
use Rattle.order.specs.Refusals.{number_of, is_size}
use Rattle.order.proofs.Cells.{both}
use Rattle.order.proofs.Refusals.{check_held, check_holds, all_hold, told_done, size_true, size_in}
use Rattle.group.specs.declared.Group.{Group}
use Rattle.group.specs.Record.{is_row, is_endurance, IsGroup, no_group, changed, with_mark}
use Rattle.group.proofs.Checks.{rules_held, rules_hold}
use Rattle.group.proofs.Groups.{told_accepted}
use Rattle.take_over.specs.TakeOver.{is_given, take_over_checks, taken_over, take_over_of}
use Rattle.take_over.proofs.Rows.{given_row, given_twelve, row_given, row_back}

pub take_over_group : (n : ℕ) (ls cs us : List ℕ) (e : ℕ) → (take_over_of n ls cs us e).number ≡ 0 → IsGroup (take_over_of n ls cs us e).value
unfolding take_over_of
take_over_group n ls cs us e done =
    let t = told_accepted (take_over_checks n ls cs us e) (taken_over n ls cs us e) no_group done in
    let sized = check_held (is_size n) Size _ t.0 in
    let measured = check_held (is_given 4095 n ls && is_given 4095 n cs) Measurement _ sized.1 in
    let rows = both (is_given 4095 n ls) (is_given 4095 n cs) measured.0 in
    let tallies = both (is_endurance e) (is_given e n us) (check_held _ Endurance [] measured.1).0 in
    let s = size_true n sized.0 in
    rw t.1
    (record {
      passes =
          rules_hold (taken_over n ls cs us e)
          (record {
            small = s.0;
            large = s.1;
            levels = given_row 4095 n ls rows.0;
            caps = given_row 4095 n cs rows.1;
            endurance = tallies.0;
            used = given_row e n us tallies.1;
          });
      levels = given_twelve 4095 n ls rows.0 s.1;
      caps = given_twelve 4095 n cs rows.1 s.1;
      used = given_twelve e n us tallies.1 s.1;
    })

-- a group taken over with other levels and other used pulses, which are rows for its n too, and with the caps and the endurance it has
module _ (g : Group) (h : IsGroup g) (ls us : List ℕ) (r : is_row 4095 g.n ls ≡ true) (w : length ls ≡ 12)
    (q : is_row g.endurance g.n us ≡ true) (u : length us ≡ 12) where
  taken_checks : number_of (take_over_checks g.n (take g.n ls) (take g.n g.caps) (take g.n us) g.endurance) ≡ 0
  taken_checks =
      let rules = rules_held g h.passes in
      check_holds _ _ (size_in g.n rules.small rules.large)
      ∙ check_holds _ _ (rw (row_given 4095 g.n ls rules.large w r, row_given 4095 g.n g.caps rules.large h.caps rules.caps))
      ∙ check_holds _ _ (rw (rules.endurance, row_given g.endurance g.n us rules.large u q))
      ∙ all_hold

  pub taken_with : take_over_of g.n (take g.n ls) (take g.n g.caps) (take g.n us) g.endurance ≡ record { number = 0; value = changed g ls g.caps us true }
  unfolding take_over_of
  taken_with =
      let rules = rules_held g h.passes in
      sym (told_done _ (taken_over g.n (take g.n ls) (take g.n g.caps) (take g.n us) g.endurance) no_group taken_checks)
      ∙ rw (
        row_back 4095 g.n ls rules.large w r,
        row_back 4095 g.n g.caps rules.large h.caps rules.caps,
        row_back g.endurance g.n us rules.large u q,
      )

pub taken_as_it_stands : (g : Group) → IsGroup g
    → take_over_of g.n (take g.n g.levels) (take g.n g.caps) (take g.n g.used) g.endurance ≡ record { number = 0; value = with_mark true g }
taken_as_it_stands g h =
    let rules = rules_held g h.passes in
    taken_with g h g.levels g.used rules.levels h.levels rules.used h.used
