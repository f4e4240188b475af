-- The checks of a page store run in the order of the row: 16, and then those of the group that is named.
-- Assumes nothing.
use Prim.Native.Nat.{ℕ, suc}
use mathlib.Core.Path.{◌≡◌, refl, sym, ◌∙◌}
use mathlib.Core.Bool.{Bool, true}
use mathlib.Core.List.{List, ◌∷◌}
use Rattle.order.specs.declared.Refusal.TheVariants.{NoPage}
use Rattle.order.specs.Refusals.{number_of, answer, check_row, in_row}
use Rattle.order.proofs.Refusals.{check_holds}
use Rattle.group.specs.declared.Group.{Group}
use Rattle.engine.specs.ReadStore.{store_checks, store_of}
use Rattle.page.specs.declared.Page.{Page}
use Rattle.page.specs.Pages.{group_at}
use Rattle.page.proofs.Row.{named_number}
use Rattle.page_store.specs.StoreAnswer.{symbol_at, takes, number_stored, AfterStore, all_stored, none_stored, store_page_of}

-- a page store that names group k has the number of the first of these checks that does not hold
pub page_store_checks : (p : Page) (ss : List ℕ) (i : ℕ) → (store_page_of p ss).value.group ≡ suc i
    → (store_page_of p ss).number ≡ number_of ((takes p ss, NoPage) ∷ store_checks (group_at p (suc i)) (symbol_at ss (suc i)))
unfolding store_page_of number_stored store_of answer
page_store_checks p ss i e =
    let t = named_number (λ (v : AfterStore). v.group) (takes p ss) p.count (number_stored p ss) (all_stored p ss) (none_stored p) refl (λ k. refl) i e in
    t.1 ∙ sym (check_holds NoPage (store_checks (group_at p (suc i)) (symbol_at ss (suc i))) t.0)

pub page_store_in_row : (b : Bool) (g : Group) (s : ℕ) → in_row ((b, NoPage) ∷ store_checks g s) check_row ≡ true
page_store_in_row b g s = refl
