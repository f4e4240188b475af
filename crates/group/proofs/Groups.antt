-- What holds of an answer's value, by its number; and a record that stays a group when it is changed.
-- Assumes nothing.
use Rattle.std.proofs.Common.{◌≡◌, ℕ, zero, suc, Bool, true, List, length, refl, ◌∙◌}
use Rattle.order.specs.declared.Refusal.{Refusal}
use Rattle.order.specs.Refusals.{number_of, if_done, answer}
use Rattle.group.specs.declared.Group.{Group}
use Rattle.group.specs.Levels.{AtMost}
use Rattle.group.specs.Record.{is_row, IsGroup, changed}
use Rattle.group.proofs.Levels.{at_most_length}
use Rattle.group.proofs.LevelRows.{row_below}
use Rattle.group.proofs.Checks.{rules_held, rules_hold}

-- ---- answers

-- what holds of the result where the number is 0, and of the zeros, holds of what the number picks
pub by_number_lem : {A : Type 0} (P : A → Type 0) (k : ℕ) (result zeros : A) → (k ≡ 0 → P result) → P zeros → P (if_done k result zeros)
by_number_lem P zero result zeros p q = p refl
by_number_lem P (suc k) result zeros p q = q

-- so with an answer's value
pub told_value : {A : Type 0} (P : A → Type 0) (checks : List (Bool × Refusal)) (result zeros : A) → (number_of checks ≡ 0 → P result) → P zeros
    → P (answer checks result zeros).value
unfolding answer
told_value P checks result zeros p q = by_number_lem P (number_of checks) result zeros p q

pub told_accepted : {A : Type 0} (checks : List (Bool × Refusal)) (result zeros : A) → (answer checks result zeros).number ≡ 0
    → (number_of checks ≡ 0) × ((answer checks result zeros).value ≡ result)
unfolding answer
told_accepted checks result zeros e = (e, rw e)

-- ---- groups

module _ (g : Group) (h : IsGroup g) where
  -- good levels, caps nowhere above the old ones, and used pulses that the endurance allows
  pub group_with : (ls ks us : List ℕ) (w : Bool) → is_row 4095 g.n ls ≡ true → length ls ≡ 12 → AtMost ks g.caps → is_row g.endurance g.n us ≡ true → length us ≡ 12
      → IsGroup (changed g ls ks us w)
  group_with ls ks us w r l p q u =
      let rules = rules_held g h.passes in
      record {
        passes =
            rules_hold (changed g ls ks us w)
            (record { small = rules.small; large = rules.large; levels = r; caps = row_below 4095 g.n p rules.caps; endurance = rules.endurance; used = q });
        levels = l;
        caps = at_most_length p ∙ h.caps;
        used = u;
      }

  -- the same with the used pulses that it has
  pub group_kept : (ls ks : List ℕ) (w : Bool) → is_row 4095 g.n ls ≡ true → length ls ≡ 12 → AtMost ks g.caps → IsGroup (changed g ls ks g.used w)
  group_kept ls ks w r l p = group_with ls ks g.used w r l p (rules_held g h.passes).used h.used
