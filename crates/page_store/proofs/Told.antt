-- What an answer says in the refusal table's terms determines the answer.
-- Assumes nothing.
use mathlib.Core.Path.{◌≡◌, sym, ap}
use Rattle.std.specs.Prelude.{Result, Ok, Err}
use Rattle.order.specs.Refusals.{Told}
use Rattle.order.proofs.Refusals.{refusal_by_number, not-zero}
use Rattle.page.specs.declared.Page.{Page}
use Rattle.page.specs.declared.PageRefusal.{PageRefusal}
use Rattle.page_store.specs.declared.PageStored.{PageStored}
use Rattle.page_store.specs.StoreAnswer.{AfterStore, told_stored}

pub told_stored_lem : (p : Page) (a b : Result PageStored PageRefusal) → told_stored p a ≡ told_stored p b → a ≡ b
told_stored_lem p (Ok a) (Ok b) e =
    λ i. Ok (record {
      page = (ap (λ (t : Told AfterStore). t.value.page) e) i;
      pulses = (ap (λ (t : Told AfterStore). t.value.pulses) e) i;
    })
told_stored_lem p (Ok a) (Err s) e = absurd (not-zero s.refusal (sym (ap (λ (t : Told AfterStore). t.number) e)))
told_stored_lem p (Err r) (Ok b) e = absurd (not-zero r.refusal (ap (λ (t : Told AfterStore). t.number) e))
told_stored_lem p (Err r) (Err s) e =
    let refusal = refusal_by_number r.refusal s.refusal (ap (λ (t : Told AfterStore). t.number) e) in
    λ i. Err (record { refusal = refusal i; group = (ap (λ (t : Told AfterStore). t.value.group) e) i })
