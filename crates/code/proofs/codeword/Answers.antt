-- `code::codeword` meets its contract: the order of a word of the list is never refused.
use mathlib.Core.Path.{◌≡◌, ap, ◌∙◌}
use Prim.Native.Nat.{◌<◌}
use native.Mathlib.Omega.{arith}
use Rattle.coordinates.specs.Conversion.{order_of_coordinates}
use Rattle.code.specs.Words.{K}
use Rattle.code.proofs.Codewords.{codeword_answer}
use Rattle.code.proofs.codeword.Goals as goal

pub returns : goal.returns
returns c =
    let same : c.new-counts.result.n ≡ c.args.n = grind arith in
    let some : c.args.symbol < K c.new-counts.result.n = omega (arith, c.words.ensures) in
    rw same at (c.from_coordinates.ensures ∙ ap order_of_coordinates c.word.ensures ∙ codeword_answer c.new-counts.result.n _ c.new-counts.result.least c.new-counts.result.most some)
