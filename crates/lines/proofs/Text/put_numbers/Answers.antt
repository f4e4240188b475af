-- `lines::Text::put_numbers` meets its contract.
use mathlib.Core.Path.{ap}
use native.Mathlib.Omega.{arith}
use Rattle.lines.specs.Line.{decimal, after, numbers_of}
use Rattle.lines.specs.Puts.{Adds}
use Rattle.lines.proofs.Adds.{adds_as, adds_in, adds_join}
use Rattle.lines.proofs.Decimal.{word_length}
use Rattle.lines.proofs.Text.put_numbers.Goals as goal

pub put_number-requires : goal.put_number-requires
put_number-requires c = omega (arith, word_length _ c.from.ensures c.ranges.position.fits)

pub put_field-requires : goal.put_field-requires
put_field-requires c = omega (arith, word_length _ c.from.ensures c.ranges.position.fits)

pub put_field-requires-2 : goal.put_field-requires-2
put_field-requires-2 c = omega (arith, word_length _ c.from.ensures c.ranges.position.fits)

pub put_field-requires-3 : goal.put_field-requires-3
put_field-requires-3 c = omega (arith, word_length _ c.from.ensures c.ranges.position.fits)

pub put_field-requires-4 : goal.put_field-requires-4
put_field-requires-4 c = omega (arith, word_length _ c.from.ensures c.ranges.position.fits)

pub returns : goal.returns
unfolding numbers_of
returns c =
    let first : Adds 10 c.args.self.now c.put_number.new.self (decimal c.args.position) = adds_in (word_length _ c.from.ensures c.ranges.position.fits) (adds_as (ap decimal c.from.ensures) c.put_number.ensures) in
    let second : Adds 11 c.put_number.new.self c.put_field.new.self (after 32 c.args.kind) = adds_as (ap (after 32) c.from-2.ensures) c.put_field.ensures in
    let third : Adds 11 c.put_field.new.self c.put_field-2.new.self (after 32 c.args.number) = adds_as (ap (after 32) c.from-3.ensures) c.put_field-2.ensures in
    adds_join (omega arith) (adds_join {m = 43} (omega arith) (adds_join {m = 32} (omega arith) (adds_join {m = 21} (omega arith) first second) third) c.put_field-3.ensures) c.put_field-4.ensures
