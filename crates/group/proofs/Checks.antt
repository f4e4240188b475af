-- The checks of a record: which number they give, and what a call that passes them knows.
-- Assumes nothing.
use Rattle.std.proofs.Common.{◌≡◌, ℕ, ◌≤◌, true, ◌&&◌, leb, leb-true}
use Rattle.order.specs.declared.Refusal.TheVariants.{NoGroup}
use Rattle.order.specs.Refusals.{number_of}
use Rattle.order.specs.Cells.{is_cell}
use Rattle.order.proofs.Cells.{both}
use Rattle.order.proofs.Refusals.{sized_done, sized_holds}
use Rattle.group.specs.declared.Group.{Group}
use Rattle.group.specs.Record.{is_row, is_endurance, group_checks, has_rows, has_tallies}

-- ---- what a group tells

pub endurance_most : (e : ℕ) → is_endurance e ≡ true → e ≤ 1000000
endurance_most e r = leb-true e 1000000 (both (leb 1 e) (leb e 1000000) r).1

-- what the record of a group keeps
pub record Rules (g : Group) : Type 0 where
  pub small : 3 ≤ g.n
  pub large : g.n ≤ 12
  pub levels : is_row 4095 g.n g.levels ≡ true
  pub caps : is_row 4095 g.n g.caps ≡ true
  pub endurance : is_endurance g.endurance ≡ true
  pub used : is_row g.endurance g.n g.used ≡ true

-- it passes the checks exactly when it keeps them
pub rules_held : (g : Group) → number_of (group_checks g) ≡ 0 → Rules g
rules_held g d =
    let t = sized_done g.n _ _ d in
    let kept = both (has_rows g) (has_tallies g) t.2 in
    let rows = both (is_row 4095 g.n g.levels) (is_row 4095 g.n g.caps) kept.0 in
    let tallies = both (is_endurance g.endurance) (is_row g.endurance g.n g.used) kept.1 in
    record { small = t.0; large = t.1; levels = rows.0; caps = rows.1; endurance = tallies.0; used = tallies.1 }

pub rules_hold : (g : Group) → Rules g → number_of (group_checks g) ≡ 0
rules_hold g r = sized_holds g.n (has_rows g && has_tallies g) NoGroup r.small r.large (rw (r.levels, r.caps, r.endurance, r.used))

module _ (g : Group) (d : number_of (group_checks g) ≡ 0) where
  pub checked_size : (3 ≤ g.n) × (g.n ≤ 12)
  checked_size = let r = rules_held g d in (r.small, r.large)

  pub checked_levels : is_row 4095 g.n g.levels ≡ true
  checked_levels = (rules_held g d).levels

  pub checked_caps : is_row 4095 g.n g.caps ≡ true
  checked_caps = (rules_held g d).caps

pub cell_true : (n c : ℕ) → is_cell n c ≡ true → (1 ≤ c) × (c ≤ n)
cell_true n c e = let t = both (leb 1 c) (leb c n) e in (leb-true 1 c t.0, leb-true c n t.1)
