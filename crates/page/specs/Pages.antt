-- Document 02, "A page of groups": what is a page, the form of the answers to page calls, and what a page read answers.
--
--   group_at p k         group k of the page; groups are counted from 1
--   like_first p k       group k has the n of group 1
--   is_page p            1 to 8 records with the same n; whether each of them is a group is asked group by group. What stands after them is not looked at
--   page_answer b n number a z    the answer to a page call: 16 and z 0 where b does not hold; 0 and the result a where each of the groups 1 to n has the
--                       number 0; else the number of the first that has not, k, and z k
--   number_read, symbol_read    what the read of group k answers: the number, the symbol
--   ReadSymbols         what the answer to a page read carries: the group that it names, how many symbols, the symbols in eight places
--   symbols_of p         what an accepted page read carries: the symbol of each group
--   unread k            what one that is refused carries: the group k that it names, and zeros
--   told_page_read a      what that answer says: its number, and what it carries
--   read_page_of          the answer to `read_page`
use Rattle.std.specs.Prelude.{ℕ, ◌-◌, Bool, cond, ◌&&◌, List, Result, Ok, Err, leb, eqb, get_or, replicate}
use Rattle.order.specs.declared.Refusal.TheVariants.{NoPage}
use Rattle.order.specs.Refusals.{refusal_number, if_done, Told}
use Rattle.group.specs.declared.Group.{Group}
use Rattle.group.specs.Record.{no_group}
use Rattle.engine.specs.ReadStore.{read_of}
use Rattle.page.specs.declared.Page.{Page}
use Rattle.page.specs.declared.PageRead.{PageRead}
use Rattle.page.specs.declared.PageRefusal.{PageRefusal}
use Rattle.page.specs.Groups.{all_of, put_each, first_refusing}

-- ---- pages

abbrev pub group_at : Page → ℕ → Group
group_at p k = get_or p.groups (k - 1) no_group

unfoldable pub like_first : Page → ℕ → Bool
like_first p k = eqb (group_at p k).n (group_at p 1).n

unfoldable pub is_page : Page → Bool
is_page p = leb 1 p.count && (leb p.count 8 && all_of p.count (like_first p))

unfoldable pub page_answer : {A : Type 0} → Bool → ℕ → (ℕ → ℕ) → A → (ℕ → A) → Told A
page_answer b n number result zeros =
    let first = first_refusing n number in
    cond b (if_done first (record { number = 0; value = result }) (record { number = number first; value = zeros first })) (record { number = refusal_number NoPage; value = zeros 0 })

-- ---- page read

unfoldable pub number_read : Page → ℕ → ℕ
number_read p k = (read_of (group_at p k)).number

unfoldable pub symbol_read : Page → ℕ → ℕ
symbol_read p k = (read_of (group_at p k)).value.symbol

pub record ReadSymbols : Type 0 where
  pub group : ℕ
  pub count : ℕ
  pub symbols : List ℕ

abbrev pub symbols_of : Page → ReadSymbols
symbols_of p = record { group = 0; count = p.count; symbols = put_each p.count (symbol_read p) (replicate 8 0) }

abbrev pub unread : ℕ → ReadSymbols
unread k = record { group = k; count = 0; symbols = replicate 8 0 }

abbrev pub told_page_read : Result PageRead PageRefusal → Told ReadSymbols
told_page_read (Ok read) = record { number = 0; value = record { group = 0; count = read.count; symbols = read.symbols } }
told_page_read (Err refused) = record { number = refusal_number refused.refusal; value = unread refused.group }

unfoldable pub read_page_of : Page → Told ReadSymbols
read_page_of p = page_answer (is_page p) p.count (number_read p) (symbols_of p) unread
