-- `decoder::is_codeword` meets its contract: an order is a codeword where its syndrome is 0.
use Rattle.std.proofs.Common.{rules}
use native.Mathlib.Omega.{arith}
use mathlib.Core.Bool.{false}
use Rattle.order.specs.Order.{listed, order_checks}
use Rattle.order.proofs.Refusals.{told_refused, told_done}
use Rattle.decoder.specs.Decoding.{is_codeword}
use Rattle.decoder.specs.Nearest.{is_codeword_of}
use Rattle.decoder.proofs.ZeroSyndrome.{sweep_refused, sweep_passed, sum_tested, passed_size}
use Rattle.decoder.proofs.is_codeword.Goals as goal

pub returns-in_err-sum : goal.returns-in_err-sum
unfolding is_codeword_of
returns-in_err-sum c =
    let o = c.args.o in
    let refused = told_refused (order_checks o) (is_codeword o.len (listed o)) false _ (sweep_refused o o.len c.in_err-sum.field-0.0 c.in_err-sum.ensures) in
    grind (refused, rules)

pub syndrome-requires : goal.syndrome-requires
syndrome-requires c = passed_size _ (sweep_passed _ _ _ c.in_ok-sum.ensures)

pub returns : goal.returns
unfolding is_codeword_of
returns c =
    let swept = c.in_ok-sum.ensures in
    rw (c.syndrome.ensures, sum_tested _ _ _ swept (omega arith)) (told_done _ _ _ (sweep_passed _ _ _ swept))
