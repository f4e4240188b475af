-- `code::decode` meets its contract: its answer is a part of that of `corrected`.
use Rattle.std.proofs.Common.{rules}
use mathlib.Core.Path.{ap, ◌∙◌}
use Rattle.code.proofs.Reading.{reading_told, decode_part}
use Rattle.code.proofs.decode.Goals as goal

pub returns-in_err-corrected : goal.returns-in_err-corrected
returns-in_err-corrected c =
    let refused = ap reading_told c.in_err-corrected.ensures ∙ decode_part c.args.o in
    grind (refused, rules)

pub returns : goal.returns
returns c = ap reading_told c.in_ok-corrected.ensures ∙ decode_part c.args.o
