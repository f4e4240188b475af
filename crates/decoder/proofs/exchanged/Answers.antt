-- `decoder::exchanged` meets its contract.
use mathlib.Core.Path.{◌≡◌}
use native.Mathlib.Omega.{arith}
use lib.ListN.{length}
use Rattle.order.proofs.Numbers.{length_mapped}
use Rattle.order.proofs.Records.{passed}
use Rattle.decoder.proofs.Stores.{stored_exchange}
use Rattle.decoder.proofs.exchanged.Goals as goal

pub swap-requires-clause-a_in_bounds : goal.swap-requires-clause-a_in_bounds
swap-requires-clause-a_in_bounds c =
    let whole : length c.args.o.cells ≡ 12 = search length_mapped in
    omega (arith, c.requires.last, (passed c.args.o c.requires.passed).1, whole)

pub swap-requires-clause-b_in_bounds : goal.swap-requires-clause-b_in_bounds
swap-requires-clause-b_in_bounds c =
    let whole : length c.args.o.cells ≡ 12 = search length_mapped in
    omega (arith, c.requires.last, (passed c.args.o c.requires.passed).1, whole)

pub returns : goal.returns
returns c = rw c.swap.ensures.after (stored_exchange c.args.o c.args.k c.requires (search length_mapped))
