-- What an answer says in the refusal table's terms determines the answer.
-- Assumes nothing.
use mathlib.Core.Path.{◌≡◌, sym, ap}
use Rattle.std.specs.Prelude.{Result, Ok, Err}
use Rattle.order.specs.Refusals.{Told}
use Rattle.order.proofs.Refusals.{refusal_by_number, not-zero}
use Rattle.page.specs.declared.PageRead.{PageRead}
use Rattle.page.specs.declared.PageRefusal.{PageRefusal}
use Rattle.page.specs.Pages.{ReadSymbols, told_page_read}

pub told_page_read_lem : (a b : Result PageRead PageRefusal) → told_page_read a ≡ told_page_read b → a ≡ b
told_page_read_lem (Ok a) (Ok b) e =
    λ i. Ok (record {
      count = (ap (λ (t : Told ReadSymbols). t.value.count) e) i;
      symbols = (ap (λ (t : Told ReadSymbols). t.value.symbols) e) i;
    })
told_page_read_lem (Ok a) (Err s) e = absurd (not-zero s.refusal (sym (ap (λ (t : Told ReadSymbols). t.number) e)))
told_page_read_lem (Err r) (Ok b) e = absurd (not-zero r.refusal (ap (λ (t : Told ReadSymbols). t.number) e))
told_page_read_lem (Err r) (Err s) e =
    let refusal = refusal_by_number r.refusal s.refusal (ap (λ (t : Told ReadSymbols). t.number) e) in
    λ i. Err (record { refusal = refusal i; group = (ap (λ (t : Told ReadSymbols). t.value.group) e) i })
