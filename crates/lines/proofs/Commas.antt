-- The levels of a group, as `put_levels` puts them: one at each turn, with its mark before it.
-- Assumes nothing.
use mathlib.Core.Path.{◌≡◌, refl, sym, ap, ◌∙◌}
use Prim.Native.Nat.{ℕ, zero, suc, ◌+◌, ◌*◌, ◌≤◌, ◌<◌, min}
use mathlib.Core.Bool.{Bool, true, false}
use borrow.Author.Tests.{leb-true, leb-false}
use native.Mathlib.Omega.{arith}
use native.Mathlib.Numerals.{add-one}
use mathlib.Core.List.{List, [], ◌∷◌, ◌++◌, append_assoc, append-nil}
use lib.Dec.{leb}
use lib.ListN.{length, get_or, take, length-take}
use lib.Seq.{take-suc, take_all}
use Rattle.lines.specs.Line.{after, after_commas, level_text}
use Rattle.lines.specs.declared.Text.{Text}
use Rattle.lines.specs.Puts.{Adds, Room}
use Rattle.lines.proofs.Adds.{adds_none, adds_as, adds_in, adds_join}

commas_append : (xs : List ℕ) (y : ℕ) → after_commas (xs ++ y ∷ []) ≡ after_commas xs ++ after 44 y
commas_append [] y = append-nil (after 44 y)
commas_append (x ∷ xs) y =
    ap (λ (t : List ℕ). after 44 x ++ t) (commas_append xs y) ∙ sym (append_assoc (after 44 x) (after_commas xs) (after 44 y))

-- each level with its mark before it
abbrev marked : List ℕ → List ℕ
marked [] = []
marked (x ∷ xs) = 32 ∷ level_text (x ∷ xs)

-- the mark before level i: a blank at the first, a comma at the others
abbrev mark_of : ℕ → ℕ
mark_of zero = 32
mark_of (suc i) = 44

marked_more : (i : ℕ) (ls : List ℕ) → i < length ls → marked (take (i + 1) ls) ≡ marked (take i ls) ++ after (mark_of i) (get_or ls i 0)
marked_more i [] h = absurd (omega arith)
marked_more zero (x ∷ xs) h = append-nil (after 32 x)
marked_more (suc j) (x ∷ xs) h =
    let more : suc j + 1 ≡ suc (suc j) = omega arith in
    rw more
    (ap (λ (t : List ℕ). after 32 x ++ t) (ap after_commas (take-suc xs j 0 (omega arith)) ∙ commas_append (take j xs) (get_or xs j 0))
    ∙ sym (append_assoc (after 32 x) (after_commas (take j xs)) (after 44 (get_or xs j 0))))

-- where there is a level, this is a blank and the levels' text
marked_some : (ls : List ℕ) → 1 ≤ length ls → marked ls ≡ 32 ∷ level_text ls
marked_some [] h = absurd (omega arith)
marked_some (x ∷ xs) h = refl

-- the loop: to the text first, i of the levels have been added
pub record Joining (first : Text) (ls : List ℕ) (now : Text) (mark i : ℕ) : Type 0 where
  pub few : length ls ≤ 12
  pub reached : i ≤ length ls
  pub room : Room 72 first
  pub marks : mark ≡ mark_of i
  pub adds : Adds (6 * i) first now (marked (take i ls))

pub joining_starts : {first : Text} {ls : List ℕ} → length ls ≤ 12 → Room 72 first → Joining first ls first 32 0
joining_starts {first} {ls} f r =
    record { few = f; reached = omega arith; room = r; marks = refl; adds = adds_none first (omega arith) }

-- there is room for one more
pub joining_room : {first now : Text} {ls : List ℕ} {mark i : ℕ} → Joining first ls now mark i → i < length ls → Room 6 now
joining_room j h = omega (arith, j.few, j.room, j.adds.few, j.adds.puts.ends, j.adds.puts.kept)

pub joining_steps : {first now later : Text} {ls : List ℕ} {mark i : ℕ}
    → Joining first ls now mark i → i < length ls → Adds 6 now later (after mark (get_or ls i 0)) → Joining first ls later 44 (i + 1)
joining_steps {ls = ls} {i = i} j l p =
    record {
      few = j.few;
      reached = omega arith;
      room = j.room;
      marks = rw (add-one i) refl;
      adds =
          adds_as
          (ap (λ (m : ℕ). marked (take i ls) ++ after m (get_or ls i 0)) j.marks ∙ sym (marked_more i ls l))
          (adds_join (omega arith) j.adds p);
    }

-- where the loop ends, the levels are those of cells 1 to n
pub joining_ends : {first now : Text} {ls : List ℕ} {mark i : ℕ} (n : ℕ) (levels : List ℕ)
    → Joining first ls now mark i → length ls ≤ i → ls ≡ take n levels → 1 ≤ length ls
    → Adds 72 first now (32 ∷ level_text (take n levels))
joining_ends {ls = ls} {i = i} n levels j l t s =
    let all : i ≡ length ls = omega (arith, j.reached) in
    adds_in (omega (arith, j.few, j.reached)) (adds_as (ap (λ (k : ℕ). marked (take k ls)) all ∙ ap marked (take_all (length ls) ls (omega arith)) ∙ marked_some ls s ∙ ap (λ (u : List ℕ). 32 ∷ level_text u) t) j.adds)

-- the levels of cells 1 to n: cells past the twelve have none
module _ (ls : List ℕ) (n : ℕ) (t : length ls ≡ 12) where
  pub levels_few : length (take (min n 12) ls) ≤ 12
  levels_few = omega (arith, t, length-take (min n 12) ls)

  pub levels_some : 1 ≤ n → 1 ≤ length (take (min n 12) ls)
  levels_some h = omega (arith, t, length-take (min n 12) ls)

  pub levels_all : take (min n 12) ls ≡ take n ls
  levels_all = by (leb n 12) refl
    where
      by : (b : Bool) → leb n 12 ≡ b → take (min n 12) ls ≡ take n ls
      by true h = let l : n ≤ 12 = leb-true _ _ h in let e : min n 12 ≡ n = omega arith in ap (λ (k : ℕ). take k ls) e
      by false h =
          let l : 12 < n = leb-false _ _ h in
          take_all (min n 12) ls (omega (arith, t)) ∙ sym (take_all n ls (omega (arith, t)))
