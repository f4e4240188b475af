-- `page::read_page` meets its contract.
use mathlib.Core.Path.{sym, ◌∙◌}
use Rattle.page.proofs.Pages.{read_not}
use Rattle.page.proofs.read_page.Goals as goal

pub returns-then-not-is_page : goal.returns-then-not-is_page
returns-then-not-is_page c = read_not _ (sym c.is_page.ensures ∙ c.if-not-is_page.true)
