-- `code::Counts::new` keeps the type's promise: the block of size 3 + k is block k of the table, which passed the test.
use mathlib.Core.Path.{◌≡◌}
use native.Mathlib.Omega.{arith}
use Rattle.code.proofs.Rule.{rule}
use Rattle.code.proofs.counts.Counts.new.Goals as goal
use Rattle.code.proofs.counts.Counts.new.Goals.{then-n-lt6+in-3, then-n-lt6+in-4, then-n-lt6+in_default, else-n-lt6+then-n-lt9+in-6, else-n-lt6+then-n-lt9+in-7, else-n-lt6+then-n-lt9+in_default-n, else-n-lt6+else-n-lt9+then-n-lt11+in-9, else-n-lt6+else-n-lt9+then-n-lt11+in_default-n-2, else-n-lt6+else-n-lt9+else-n-lt11+in-11, else-n-lt6+else-n-lt9+else-n-lt11+in_default-n-3}

pub invariant_of-result-clause-block : goal.invariant_of-result-clause-block
invariant_of-result-clause-block c =
    elim c.if-n-lt6.branch [
      | then-n-lt6+in-3 w ↦ rw (w.rows-is, w.in-3.is) (rule _ c.tail_counts-table.ensures 0 (omega arith))
      | then-n-lt6+in-4 w ↦ rw (w.rows-is, w.in-4.is) (rule _ c.tail_counts-table.ensures 1 (omega arith))
      | then-n-lt6+in_default w ↦ let size : c.args.size.cells ≡ 5 = omega (arith, c.args.size.least, c.args.size.most) in rw (w.rows-is, size) (rule _ c.tail_counts-table.ensures 2 (omega arith))
      | else-n-lt6+then-n-lt9+in-6 w ↦ rw (w.rows-is, w.in-6.is) (rule _ c.tail_counts-table.ensures 3 (omega arith))
      | else-n-lt6+then-n-lt9+in-7 w ↦ rw (w.rows-is, w.in-7.is) (rule _ c.tail_counts-table.ensures 4 (omega arith))
      | else-n-lt6+then-n-lt9+in_default-n w ↦ let size : c.args.size.cells ≡ 8 = omega (arith, c.args.size.least, c.args.size.most) in rw (w.rows-is, size) (rule _ c.tail_counts-table.ensures 5 (omega arith))
      | else-n-lt6+else-n-lt9+then-n-lt11+in-9 w ↦ rw (w.rows-is, w.in-9.is) (rule _ c.tail_counts-table.ensures 6 (omega arith))
      | else-n-lt6+else-n-lt9+then-n-lt11+in_default-n-2 w ↦ let size : c.args.size.cells ≡ 10 = omega (arith, c.args.size.least, c.args.size.most) in rw (w.rows-is, size) (rule _ c.tail_counts-table.ensures 7 (omega arith))
      | else-n-lt6+else-n-lt9+else-n-lt11+in-11 w ↦ rw (w.rows-is, w.in-11.is) (rule _ c.tail_counts-table.ensures 8 (omega arith))
      | else-n-lt6+else-n-lt9+else-n-lt11+in_default-n-3 w ↦ let size : c.args.size.cells ≡ 12 = omega (arith, c.args.size.least, c.args.size.most) in rw (w.rows-is, size) (rule _ c.tail_counts-table.ensures 9 (omega arith))
    ]
