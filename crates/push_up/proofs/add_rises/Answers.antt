-- `push_up::add_rises` meets its contract. The invariant: the rises passed are added.
use Rattle.std.proofs.Common.{◌≡◌, ℕ, ◌<◌, List, Option, Some, None, Bool, true, false, cond, ◌&&◌, leb, length, get_or, sym, refl, ◌∙◌, arith, w32, Fits, rules, le-leb}
use borrow.Author.Tests.{lt-leb}
use Rattle.group.specs.Levels.{tallied}
use Rattle.group.specs.Record.{is_endurance}
use Rattle.group.proofs.Checks.{endurance_most}
use Rattle.group.proofs.TopBit.{low}
use Rattle.push_up.specs.WriteAnswer.{endures, tallies_of}
use Rattle.push_up.proofs.Rises.{adding_more, adding_lasts, adding_all}
use Rattle.push_up.proofs.add_rises.Goals as goal
use Rattle.push_up.proofs.add_rises.Goals.{then-over-gt-LOW_BITS-via-then-over-gt-LOW_BITS, then-over-gt-LOW_BITS-via-else-over-gt-LOW_BITS+then-not-is_endurance}

pub loop-i-preserved : goal.loop-i-preserved
loop-i-preserved c =
    let long : (length c.args.used ≡ 12) × (length c.args.old ≡ 12) × (length c.args.new ≡ 12) = (search rules, search rules, search rules) in
    let used : Fits w32 (get_or c.args.used c.loop-i.i 0) = search rules in
    λ r.
    adding_more c.args.endurance c.args.used c.args.old c.args.new (c.loop-i.invariant r) _ _ refl (c.from-rise.ensures ∙ c.excess.ensures)
    (omega (arith, endurance_most c.args.endurance r)) used.fits (omega (arith, c.from-rise.ensures, c.excess.type_inv)) (omega (arith, long)) (omega (arith, long)) (omega (arith, long))

out_of_range : (e : ℕ) (us xs ys : List ℕ) → is_endurance e ≡ false → ◌≡◌ {A = Option (List ℕ)} None (tallies_of e us xs ys)
unfolding tallies_of
out_of_range e us xs ys r = sym (rw r)

past : (e over : ℕ) (us xs ys : List ℕ) → low < over → (is_endurance e ≡ true → leb over low ≡ endures e us xs ys) → ◌≡◌ {A = Option (List ℕ)} None (tallies_of e us xs ys)
unfolding tallies_of
past e over us xs ys l tested = go (is_endurance e) refl
  where
    go : (b : Bool) → is_endurance e ≡ b → ◌≡◌ {A = Option (List ℕ)} None (cond (b && endures e us xs ys) (Some (tallied us xs ys)) None)
    go false r = refl
    go true r = rw (sym (tested r) ∙ lt-leb over low l)

pub returns-then-over-gt-LOW_BITS : goal.returns-then-over-gt-LOW_BITS
returns-then-over-gt-LOW_BITS c =
    let twelve : (length c.args.used ≡ 12) × (length c.args.old ≡ 12) × (length c.args.new ≡ 12) = (search rules, search rules, search rules) in
    elim c.then-over-gt-LOW_BITS.branch [
      | then-over-gt-LOW_BITS-via-then-over-gt-LOW_BITS w ↦
          past _ c.loop-i.over c.args.used c.args.old c.args.new w.if-over-gt-LOW_BITS.true
          (λ r. adding_lasts c.args.endurance c.args.used c.args.old c.args.new (c.loop-i.invariant r) (omega (arith, twelve)))
      | then-over-gt-LOW_BITS-via-else-over-gt-LOW_BITS+then-not-is_endurance w ↦ out_of_range _ _ _ _ (sym w.is_endurance.ensures ∙ w.if-not-is_endurance.true)
    ]

pub returns : goal.returns
unfolding tallies_of
returns c =
    let twelve : (length c.args.used ≡ 12) × (length c.args.old ≡ 12) × (length c.args.new ≡ 12) = (search rules, search rules, search rules) in
    let ranged = sym c.is_endurance.ensures ∙ c.if-not-is_endurance.false in
    let none = le-leb c.loop-i.over low (omega arith) in
    let tested = adding_lasts c.args.endurance c.args.used c.args.old c.args.new (c.loop-i.invariant ranged) (omega (arith, twelve)) in
    rw (ranged, ← tested, none, adding_all c.args.endurance c.args.used c.args.old c.args.new (c.loop-i.invariant ranged) (omega (arith, twelve)) none)
