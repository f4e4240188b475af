-- `code::tail_counts` meets its contract: antt computes the test over the whole table, once.
use Rattle.code.specs.Tails.{sum_below, owed, nothing}
use Rattle.code.specs.Table.{all, due, block_right, table_right}
use Rattle.code.proofs.counts.tail_counts.Goals as goal

pub returns : goal.returns
unfolding all block_right due nothing owed sum_below table_right
returns c = tt
