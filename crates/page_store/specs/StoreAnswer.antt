-- Document 02, "A page of groups": what a page store answers. It takes one symbol a group, and stores all or none.
--
--   symbol_at ss k       the symbol of group k in a list of symbols
--   takes p ss          a page with a list of one symbol a group
--   number_stored, group_stored, pulses_stored    what the store of its symbol in group k answers: the number, the group after it, the pulses
--   AfterStore          what the answer to a page store carries: the group that it names, the page, the pulses
--   all_stored p ss      what an accepted page store carries: each group with its symbol stored, and the sum of their pulses
--   none_stored p k      what one that is refused carries: the group k that it names, the page as it was, no pulses
--   told_stored p a      what the answer to a page store of p says: its number, and what it carries
--   store_page_of         the answer to `store_page`
use Rattle.std.specs.Prelude.{ℕ, ◌-◌, Bool, ◌&&◌, List, Result, Ok, Err, eqb, length, get_or}
use Rattle.order.specs.Refusals.{refusal_number, Told}
use Rattle.group.specs.declared.Group.{Group}
use Rattle.engine.specs.ReadStore.{store_of}
use Rattle.page.specs.declared.Page.{Page}
use Rattle.page.specs.declared.PageRefusal.{PageRefusal}
use Rattle.page.specs.Groups.{total, put_each}
use Rattle.page.specs.Pages.{group_at, is_page, page_answer}
use Rattle.page_store.specs.declared.PageStored.{PageStored}

abbrev pub symbol_at : List ℕ → ℕ → ℕ
symbol_at ss k = get_or ss (k - 1) 0

unfoldable pub takes : Page → List ℕ → Bool
takes p ss = is_page p && eqb (length ss) p.count

unfoldable pub number_stored : Page → List ℕ → ℕ → ℕ
number_stored p ss k = (store_of (group_at p k) (symbol_at ss k)).number

unfoldable pub group_stored : Page → List ℕ → ℕ → Group
group_stored p ss k = (store_of (group_at p k) (symbol_at ss k)).value.group

unfoldable pub pulses_stored : Page → List ℕ → ℕ → ℕ
pulses_stored p ss k = (store_of (group_at p k) (symbol_at ss k)).value.pulses

pub record AfterStore : Type 0 where
  pub group : ℕ
  pub page : Page
  pub pulses : ℕ

abbrev pub all_stored : Page → List ℕ → AfterStore
all_stored p ss =
    record {
      group = 0;
      page = record { count = p.count; groups = put_each p.count (group_stored p ss) p.groups };
      pulses = total p.count (pulses_stored p ss);
    }

abbrev pub none_stored : Page → ℕ → AfterStore
none_stored p k = record { group = k; page = p; pulses = 0 }

abbrev pub told_stored : Page → Result PageStored PageRefusal → Told AfterStore
told_stored p (Ok stored) = record { number = 0; value = record { group = 0; page = stored.page; pulses = stored.pulses } }
told_stored p (Err refused) = record { number = refusal_number refused.refusal; value = none_stored p refused.group }

unfoldable pub store_page_of : Page → List ℕ → Told AfterStore
store_page_of p ss = page_answer (takes p ss) p.count (number_stored p ss) (all_stored p ss) (none_stored p)
