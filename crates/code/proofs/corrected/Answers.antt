-- `code::corrected` meets its contract: the word that the decoder found has a number.
use Rattle.std.proofs.Common.{rules}
use Rattle.code.proofs.Reading.{corrected_refused, found_word, corrected_found}
use Rattle.code.proofs.corrected.Goals as goal

pub returns-in_err-found : goal.returns-in_err-found
returns-in_err-found c =
    let refused = corrected_refused c.args.o c.in_err-found.field-0.0 c.in_err-found.ensures in
    grind (refused, rules)

pub number-requires : goal.number-requires
number-requires c = found_word _ _ c.in_ok-found.ensures

pub returns : goal.returns
returns c = corrected_found _ _ c.in_ok-found.ensures c.number.ensures c.verdict_at.ensures
