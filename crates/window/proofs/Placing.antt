-- The loop of a window: its levels, one after the other round the ring, go to the front of a list.
-- Assumes nothing.
use Prim.Native.Nat.{ℕ, suc, ◌+◌, ◌%◌, ◌≤◌, ◌<◌}
use mathlib.Core.Path.{◌≡◌, refl, sym, ap, ap₂, ◌∙◌}
use mathlib.Core.List.{List, [], ◌∷◌, ◌++◌}
use native.Mathlib.Nat.{add-zero, add_assoc, mod-lt, mod-eq_of_lt, mod-add-mod}
use native.Mathlib.Numerals.{add-one}
use native.Mathlib.Omega.{arith}
use lib.ListN.{length, get_or, set, drop, length-append, length-drop}
use lib.Seq.{drop-cons, set_at, append_snoc, ext_get_or}
use Rattle.order.specs.Cells.{tabulate}
use Rattle.order.proofs.Tabulate.{length_tabulate, get_d_tabulate, tabulate_add}
use Rattle.window.specs.Ring.{level_round, window_at}
use Rattle.window.specs.Calls.{put_first}

-- ---- a list that grows at its front

tabulate_more : (n : ℕ) (f : ℕ → ℕ) → tabulate (n + 1) f ≡ tabulate n f ++ (f n ∷ [])
tabulate_more n f = tabulate_add n 1 f ∙ ap (λ (j : ℕ). tabulate n f ++ (f j ∷ [])) (add-zero n)

-- the first k places hold f, the later ones are as they were
unfoldable pub grown : (ℕ → ℕ) → ℕ → List ℕ → List ℕ
grown f k old = tabulate k f ++ drop k old

pub grown_none : (f : ℕ → ℕ) (old : List ℕ) → old ≡ grown f 0 old
unfolding grown
grown_none f old = refl

pub grown_length : (f : ℕ → ℕ) (k : ℕ) (old : List ℕ) → k ≤ length old → length (grown f k old) ≡ length old
unfolding grown
grown_length f k old l = omega (arith, length-append (tabulate k f) (drop k old), length_tabulate k f, length-drop k old)

pub grown_more : (f : ℕ → ℕ) (k : ℕ) (old : List ℕ) → k < length old → set (grown f k old) k (f k) ≡ grown f (k + 1) old
unfolding grown
grown_more f k old l =
    ap (λ (d : List ℕ). set (tabulate k f ++ d) k (f k)) (drop-cons old k 0 l)
    ∙ set_at (tabulate k f) (get_or old k 0) (drop (suc k) old) (f k) k (length_tabulate k f)
    ∙ sym (append_snoc (tabulate k f) (f k) (drop (suc k) old))
    ∙ ap₂ ◌++◌ (sym (tabulate_more k f)) (ap (λ (n : ℕ). drop n old) (sym (add-one k)))

pub grown_whole : (f : ℕ → ℕ) (k : ℕ) (old : List ℕ) → grown f k old ≡ put_first (tabulate k f) old
unfolding grown
grown_whole f k old = rw (length_tabulate k f)

-- ---- round the ring

-- the level of the cell that comes j cells after cell p + 1
abbrev pub level_on : List ℕ → ℕ → ℕ → ℕ
level_on ring p j = level_round ring (p + j)

pub record Placing (ring : List ℕ) (p : ℕ) (old out : List ℕ) (at j : ℕ) : Type 0 where
  pub first : 0 < length ring
  pub room : j ≤ length old
  pub list : out ≡ grown (level_on ring p) j old
  pub place : at ≡ (p + j) % length ring

pub placing_none : (ring : List ℕ) (p : ℕ) (old : List ℕ) → p < length ring → Placing ring p old old p 0
placing_none ring p old l =
    record { first = omega arith; room = omega arith; list = grown_none (level_on ring p) old; place = rw (add-zero p) (sym (mod-eq_of_lt l)) }

module _ {ring : List ℕ} {p : ℕ} {old out : List ℕ} {at j : ℕ} (s : Placing ring p old out at j) where
  pub placing_at : at < length ring
  placing_at = rw s.place (mod-lt (p + j) s.first)

  pub placing_length : length out ≡ length old
  placing_length = ap length s.list ∙ grown_length (level_on ring p) j old s.room

  pub placing_more : {next : ℕ} → j < length old → next ≡ (at + 1) % length ring → Placing ring p old (set out j (get_or ring at 0)) next (j + 1)
  placing_more {next} l e =
      record {
        first = s.first;
        room = omega arith;
        list = rw (s.list, s.place) (grown_more (level_on ring p) j old l);
        place = rw (e, s.place) (mod-add-mod (p + j) (length ring) 1 ∙ ap (λ (k : ℕ). k % length ring) (add_assoc p j 1));
      }

  pub placing_end : (width : ℕ) → j ≡ width → out ≡ put_first (window_at ring width p) old
  unfolding window_at
  placing_end width e = rw (← e) (s.list ∙ grown_whole (level_on ring p) j old)

-- ---- all levels, one after the other

abbrev pub level_in : List ℕ → ℕ → ℕ
level_in ring j = get_or ring j 0

pub levels_whole : (ring old : List ℕ) (j : ℕ) → j ≡ length ring → grown (level_in ring) j old ≡ put_first ring old
levels_whole ring old j e =
    let all : tabulate (length ring) (level_in ring) ≡ ring =
    ext_get_or 0 (tabulate (length ring) (level_in ring)) ring (length_tabulate (length ring) (level_in ring))
    (λ i l. get_d_tabulate (length ring) (level_in ring) i 0 (omega (arith, length_tabulate (length ring) (level_in ring)))) in
    rw e (grown_whole (level_in ring) (length ring) old ∙ ap (λ (t : List ℕ). put_first t old) all)
