-- What the contracts of the private functions cite: a text put into a lent buffer. No public contract cites this file.
--
--   Puts before later at end t  a buffer was before and is later, as long as it was: the text t, which had room, went in from place at to
--                               the place end
--   Room k text                 a text that is being put has room for k bytes more
--   Adds k before later t       to a text that was before and is later, in the same buffer, the text t of k bytes at most was added
--   pair n                      the two digits of a number below 100
use Rattle.std.specs.Prelude.{ℕ, ◌+◌, ◌/◌, ◌%◌, ◌≤◌, ◌≡◌, List, [], ◌∷◌, length}
use Rattle.lines.specs.declared.Text.{Text}
use Rattle.lines.specs.Line.{pasted}

pub record Puts (before later : List ℕ) (at end : ℕ) (t : List ℕ) : Type 0 where
  pub fits : at + length t ≤ length before
  pub put : later ≡ pasted at t before
  pub kept : length later ≡ length before
  pub ends : end ≡ at + length t

abbrev pub Room : ℕ → Text → Type 0
Room k text = text.at + k ≤ length text.out.now

pub record Adds (k : ℕ) (before later : Text) (t : List ℕ) : Type 0 where
  pub puts : Puts before.out.now later.out.now before.at later.at t
  pub few : length t ≤ k
  pub same : later.out.ghost_name ≡ before.out.ghost_name

abbrev pub pair : ℕ → List ℕ
pair n = (48 + n / 10) ∷ (48 + n % 10) ∷ []
