-- `page::is_page` meets its contract.
use borrow.Author.Rules.{rules}
use mathlib.Core.Path.{◌∙◌}
use Rattle.order.proofs.Numbers.{length_mapped}
use Rattle.page.proofs.Pages.{page_like}
use Rattle.page.proofs.is_page.Goals as goal

pub returns-then-contains : goal.returns-then-contains
returns-then-contains c = c.have_n.ensures ∙ page_like c.args.page _ (search length_mapped) (search rules) (search rules)
