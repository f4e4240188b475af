-- `cell_run::has_row` meets its contract.
use Rattle.std.proofs.Common.{◌≡◌, true, false, take, drop, ◌∙◌}
use Rattle.group.specs.Record.{all_at_most}
use Rattle.cell_run.proofs.Rows.{row_split}
use Rattle.cell_run.proofs.has_row.Goals as goal

pub returns-then-all_at_most : goal.returns-then-all_at_most
returns-then-all_at_most c =
    let first : all_at_most 4095 (take c.args.run.len c.args.run.levels) ≡ true = cc in
    let past : c.all_at_most-then-all_at_most.result ≡ all_at_most 0 (drop c.args.run.len c.args.run.levels) = cc in
    past ∙ rw first at (row_split 4095 c.args.run.len c.args.run.levels)

pub returns-else-all_at_most : goal.returns-else-all_at_most
returns-else-all_at_most c =
    let first : all_at_most 4095 (take c.args.run.len c.args.run.levels) ≡ false = cc in
    c.if-all_at_most.false ∙ rw first at (row_split 4095 c.args.run.len c.args.run.levels)
