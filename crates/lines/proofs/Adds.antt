-- A text to which more is added: its laws.
-- Assumes nothing.
use mathlib.Core.Path.{◌≡◌, refl, ◌∙◌, subst}
use Prim.Native.Nat.{ℕ, ◌+◌, ◌≤◌}
use native.Mathlib.Omega.{arith}
use mathlib.Core.List.{List, [], ◌++◌}
use lib.ListN.{length, length-append}
use Rattle.lines.specs.declared.Text.{Text}
use Rattle.lines.specs.Puts.{Adds, Puts, Room}
use Rattle.lines.proofs.Paste.{puts_none, puts_join}

-- nothing added
pub adds_none : {k : ℕ} (text : Text) → text.at ≤ length text.out.now → Adds k text text []
adds_none text h = record { puts = puts_none text.out.now text.at h; few = omega arith; same = refl }

-- the same added, an equal text
pub adds_as : {k : ℕ} {before later : Text} {t u : List ℕ} → t ≡ u → Adds k before later t → Adds k before later u
adds_as {k} {before} {later} e a = subst (Adds k before later) e a

-- the same added, in more room
pub adds_in : {j k : ℕ} {before later : Text} {t : List ℕ} → j ≤ k → Adds j before later t → Adds k before later t
adds_in h a = record { puts = a.puts; few = omega (arith, a.few); same = a.same }

-- one text after another is their join
pub adds_join : {j k m : ℕ} {a b c : Text} {t u : List ℕ} → j + k ≤ m → Adds j a b t → Adds k b c u → Adds m a c (t ++ u)
adds_join {t = t} {u = u} h p q =
    record { puts = puts_join p.puts q.puts; few = omega (arith, p.few, q.few, length-append t u); same = q.same ∙ p.same }

-- room for both leaves room for the other
pub room_left : {j m : ℕ} (k : ℕ) {a b : Text} {t : List ℕ} → j + k ≤ m → Room m a → Adds j a b t → Room k b
room_left k h r p = omega (arith, p.few, p.puts.kept, p.puts.ends)

-- what has been put into the buffer when the text is let go
pub put_from : {k : ℕ} {first last : Text} {xs ys t : List ℕ} {at : ℕ}
    → first.out.now ≡ xs → first.at ≡ at → ys ≡ last.out.now → Adds k first last t → Puts xs ys at last.at t
put_from e s l a = rw (← e, ← s, l) a.puts
