-- The checks of a page call run in the order of the row: 16, and then those of the group that is named.
-- Assumes nothing.
use Prim.Native.Nat.{ℕ, zero, suc}
use native.Mathlib.Omega.{arith}
use mathlib.Core.Path.{◌≡◌, refl, sym, ◌∙◌}
use mathlib.Core.Bool.{Bool, true, false}
use mathlib.Core.List.{◌∷◌}
use Rattle.order.specs.declared.Refusal.TheVariants.{NoPage}
use Rattle.order.specs.Refusals.{number_of, check_row, in_row}
use Rattle.order.proofs.Refusals.{check_holds}
use Rattle.group.specs.declared.Group.{Group}
use Rattle.engine.specs.ReadStore.{read_checks}
use Rattle.engine.proofs.Answers as answers
use Rattle.page.specs.declared.Page.{Page}
use Rattle.page.specs.Groups.{first_refusing}
use Rattle.page.specs.Pages.{group_at, is_page, page_answer, number_read, symbols_of, unread, read_page_of, ReadSymbols}

-- an answer that names a group has that group's number
pub named_number : {A : Type 0} (group : A → ℕ) (b : Bool) (n : ℕ) (number : ℕ → ℕ) (result : A) (zeros : ℕ → A) → group result ≡ 0
    → ((k : ℕ) → group (zeros k) ≡ k) → (i : ℕ) → let t = page_answer b n number result zeros in group t.value ≡ suc i → (b ≡ true) × (t.number ≡ number (suc i))
unfolding page_answer
named_number group false n number result zeros r z i e = absurd (omega (arith, e, z 0))
named_number group true n number result zeros r z i e = go (first_refusing n number) refl
  where
    go : (k : ℕ) → first_refusing n number ≡ k → (true ≡ true) × ((page_answer true n number result zeros).number ≡ number (suc i))
    go zero f = absurd (omega (arith, rw f at e, r))
    go (suc k) f = let same : suc k ≡ suc i = sym (z (suc k)) ∙ rw f at e in rw (f, same) (refl, refl)

-- a page read that names group k has the number of the first of these checks that does not hold
pub page_read_checks : (p : Page) (i : ℕ) → (read_page_of p).value.group ≡ suc i
    → (read_page_of p).number ≡ number_of ((is_page p, NoPage) ∷ read_checks (group_at p (suc i)))
unfolding read_page_of number_read
page_read_checks p i e =
    let t = named_number (λ (v : ReadSymbols). v.group) (is_page p) p.count (number_read p) (symbols_of p) unread refl (λ k. refl) i e in
    t.1 ∙ answers.read_number (group_at p (suc i)) ∙ sym (check_holds NoPage (read_checks (group_at p (suc i))) t.0)

pub page_read_in_row : (b : Bool) (g : Group) → in_row ((b, NoPage) ∷ read_checks g) check_row ≡ true
page_read_in_row b g = refl
