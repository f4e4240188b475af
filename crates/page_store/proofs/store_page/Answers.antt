-- `page_store::store_page` meets its contract.
use native.Mathlib.Omega.{arith}
use mathlib.Core.Path.{sym, ◌∙◌}
use Rattle.page_store.proofs.Storing.{store_not, not_taken, other_length, is_taken}
use Rattle.page_store.proofs.store_page.Goals.{then-not-is_page-via-then-not-is_page, then-not-is_page-via-else-not-is_page+then-symbols-page}
use Rattle.page_store.proofs.store_page.Goals as goal

pub returns-then-not-is_page : goal.returns-then-not-is_page
returns-then-not-is_page c =
    store_not c.args.page c.args.symbols.now
    (elim c.then-not-is_page.branch [
      | then-not-is_page-via-then-not-is_page w ↦ not_taken _ _ (sym c.is_page.ensures ∙ w.if-not-is_page.true)
      | then-not-is_page-via-else-not-is_page+then-symbols-page w ↦ other_length _ _ (λ e. absurd (omega arith))
    ])

pub store_each-requires : goal.store_each-requires
store_each-requires c = is_taken _ _ (sym c.is_page.ensures ∙ c.if-not-is_page.false) (omega arith)
