-- A text put into a buffer: its laws.
-- Assumes nothing.
use mathlib.Core.Path.{◌≡◌, refl, sym, ap, ◌∙◌, subst}
use Prim.Native.Nat.{ℕ, suc, ◌+◌, ◌≤◌, ◌<◌}
use native.Mathlib.Omega.{arith}
use native.Mathlib.Nat.{add-zero}
use mathlib.Core.List.{List, [], ◌∷◌, ◌++◌, append_assoc, append-nil}
use lib.ListN.{length, set, take, drop, length-drop, length-set, length-append, take-append-drop}
use lib.Seq.{length-take-le, take_at, take_all, drop_at, drop-drop, set_split}
use borrow.Rule.Slice.PartMut.{put_mid}
use Rattle.std.proofs.lemmas.Slice.{put_mid-paste}
use Rattle.lines.specs.Line.{pasted}
use Rattle.lines.specs.Puts.{Puts}

-- what stands before the end of the text
head_length : (at : ℕ) (t xs : List ℕ) → at ≤ length xs → length (take at xs ++ t) ≡ at + length t
head_length at t xs h = length-append (take at xs) t ∙ ap (λ (k : ℕ). k + length t) (length-take-le at xs h)

-- the buffer stays as long as it was
pub length_pasted : (at : ℕ) (t xs : List ℕ) → at + length t ≤ length xs → length (pasted at t xs) ≡ length xs
unfolding pasted
length_pasted at t xs h =
    let head : length (take at xs ++ t) ≡ at + length t = head_length at t xs (omega arith) in
    let rest = drop (at + length t) xs in
    omega (arith, h, head, length-append (take at xs ++ t) rest, length-drop (at + length t) xs)

-- a text put after another
pub pasted_join : (at : ℕ) (t u xs : List ℕ) → at + length t ≤ length xs → pasted (at + length t) u (pasted at t xs) ≡ pasted at (t ++ u) xs
unfolding pasted
pasted_join at t u xs h =
    let e : length (take at xs ++ t) ≡ at + length t = head_length at t xs (omega arith) in
    let l : length (t ++ u) ≡ length t + length u = length-append t u in
    let joined : at + length (t ++ u) ≡ at + length t + length u = omega arith in
    let first : take (at + length t) (take at xs ++ t ++ drop (at + length t) xs) ≡ take at xs ++ t =
    take_at (take at xs ++ t) (drop (at + length t) xs) (at + length t) e in
    let last : drop (at + length t + length u) (take at xs ++ t ++ drop (at + length t) xs) ≡ drop (at + length (t ++ u)) xs =
    sym (drop-drop (length u) (at + length t) _) ∙ ap (drop (length u)) (drop_at (take at xs ++ t) (drop (at + length t) xs) (at + length t) e)
    ∙ drop-drop (length u) (at + length t) xs
    ∙ ap (λ (k : ℕ). drop k xs) (sym joined) in
    ap (λ (p : List ℕ). p ++ u ++ drop (at + length t + length u) (take at xs ++ t ++ drop (at + length t) xs)) first
    ∙ ap (λ (p : List ℕ). take at xs ++ t ++ u ++ p) last
    ∙ ap (λ (p : List ℕ). p ++ drop (at + length (t ++ u)) xs) (append_assoc (take at xs) t u)

-- ---- Puts

pub pasted_none : (xs : List ℕ) (at : ℕ) → xs ≡ pasted at [] xs
unfolding pasted
pasted_none xs at =
    sym
    (ap (λ (j : ℕ). take at xs ++ [] ++ drop j xs) (add-zero at)
    ∙ ap (λ (p : List ℕ). p ++ drop at xs) (append-nil (take at xs))
    ∙ take-append-drop at xs)

pub puts_none : (xs : List ℕ) (at : ℕ) → at ≤ length xs → Puts xs xs at at []
puts_none xs at h = record { fits = omega arith; put = pasted_none xs at; kept = refl; ends = sym (add-zero at) }

pasted_byte : (xs : List ℕ) (at b : ℕ) → at < length xs → set xs at b ≡ pasted at (b ∷ []) xs
unfolding pasted
pasted_byte xs at b h =
    let e : suc at ≡ at + length (b ∷ []) = omega arith in
    set_split xs at b h ∙ sym (append_assoc (take at xs) (b ∷ []) (drop (suc at) xs)) ∙ ap (λ (k : ℕ). take at xs ++ b ∷ [] ++ drop k xs) e

pub puts_byte : (xs : List ℕ) (at b : ℕ) → at < length xs → Puts xs (set xs at b) at (at + 1) (b ∷ [])
puts_byte xs at b h = record { fits = omega arith; put = pasted_byte xs at b h; kept = length-set xs at b; ends = refl }

-- one text after another is their join
pub puts_join : {a b c t u : List ℕ} {at mid end : ℕ} → Puts a b at mid t → Puts b c mid end u → Puts a c at end (t ++ u)
puts_join {a} {b} {c} {t} {u} {at} {mid} {end} p q =
    let l : length (t ++ u) ≡ length t + length u = length-append t u in
    let m : mid ≡ at + length t = p.ends in
    let e : end ≡ mid + length u = q.ends in
    let f : mid + length u ≤ length b = q.fits in
    let n : length b ≡ length a = p.kept in
    record {
      fits = omega arith;
      put =
          q.put ∙ ap (λ (k : ℕ). pasted k u b) m ∙ ap (pasted (at + length t) u) p.put ∙ pasted_join at t u a p.fits;
      kept = q.kept ∙ n;
      ends = omega arith;
    }

-- a byte before a text
pub puts_first : {xs later t : List ℕ} {at b end : ℕ} → at < length xs → Puts (set xs at b) later (at + 1) end t → Puts xs later at end (b ∷ t)
puts_first {xs} {at = at} {b = b} h p = puts_join (puts_byte xs at b h) p

-- the same put, of an equal text
pub puts_as : {before later t u : List ℕ} {at end : ℕ} → t ≡ u → Puts before later at end t → Puts before later at end u
puts_as {before} {later} {t} {u} {at} {end} e p = subst (Puts before later at end) e p

-- bytes copied into the place where the text ends
pub puts_bytes : (xs ys t : List ℕ) (at k end : ℕ) → at + length t ≤ length xs → ys ≡ t → k ≡ length t → end ≡ at + length t → Puts xs (put_mid at k xs ys) at end t
unfolding pasted
puts_bytes xs ys t at k end h e s d =
    let put : put_mid at k xs ys ≡ pasted at t xs =
    put_mid-paste at k xs ys t (length t) e (sym s) refl
    ∙ ap (λ (p : List ℕ). take at xs ++ p ++ drop (at + length t) xs) (take_all (length t) t (omega arith)) in
    record { fits = h; put = put; kept = ap length put ∙ length_pasted at t xs h; ends = d }
