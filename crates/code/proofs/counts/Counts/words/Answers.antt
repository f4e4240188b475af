-- `code::Counts::words` meets its contract: the first count of a block of the table, which passed the test, is K of its size.
use mathlib.Core.Path.{◌≡◌}
use mathlib.Core.List.{[]}
use Prim.Native.Nat.{ℕ, ◌+◌, ◌<◌}
use native.Mathlib.Omega.{arith}
use lib.ListN.{get_or}
use Rattle.std.specs.Prelude.{T}
use Rattle.code.specs.declared.table.Table.{Table}
use Rattle.code.specs.Words.{K}
use Rattle.code.specs.Table.{blocks, table_right}
use Rattle.code.proofs.Rule.{rule}
use Rattle.code.proofs.Laws.{first_count}
use Rattle.code.proofs.counts.Counts.words.Goals as goal

-- of the block of each size
first_of : (t : Table) → T (table_right t) → (n k : ℕ) → k < 10 → n ≡ 3 + k → get_or (get_or (blocks t) k []) 0 0 ≡ K n
first_of t right n k h e = rw e (first_count (3 + k) (omega arith) (omega arith) (omega arith) (rule _ right k h))

pub returns-in-3 : goal.returns-in-3
returns-in-3 c = first_of c.tail_counts-table.result.now c.tail_counts-table.ensures c.args.self.n 0 (omega arith) (omega arith)

pub returns-in-4 : goal.returns-in-4
returns-in-4 c = first_of c.tail_counts-table.result.now c.tail_counts-table.ensures c.args.self.n 1 (omega arith) (omega arith)

pub returns-in-5 : goal.returns-in-5
returns-in-5 c = first_of c.tail_counts-table.result.now c.tail_counts-table.ensures c.args.self.n 2 (omega arith) (omega arith)

pub returns-in-6 : goal.returns-in-6
returns-in-6 c = first_of c.tail_counts-table.result.now c.tail_counts-table.ensures c.args.self.n 3 (omega arith) (omega arith)

pub returns-in-7 : goal.returns-in-7
returns-in-7 c = first_of c.tail_counts-table.result.now c.tail_counts-table.ensures c.args.self.n 4 (omega arith) (omega arith)

pub returns-in-8 : goal.returns-in-8
returns-in-8 c = first_of c.tail_counts-table.result.now c.tail_counts-table.ensures c.args.self.n 5 (omega arith) (omega arith)

pub returns-in-9 : goal.returns-in-9
returns-in-9 c = first_of c.tail_counts-table.result.now c.tail_counts-table.ensures c.args.self.n 6 (omega arith) (omega arith)

pub returns-in-10 : goal.returns-in-10
returns-in-10 c = first_of c.tail_counts-table.result.now c.tail_counts-table.ensures c.args.self.n 7 (omega arith) (omega arith)

pub returns-in-11 : goal.returns-in-11
returns-in-11 c = first_of c.tail_counts-table.result.now c.tail_counts-table.ensures c.args.self.n 8 (omega arith) (omega arith)

pub returns-in_default : goal.returns-in_default
returns-in_default c = first_of c.tail_counts-table.result.now c.tail_counts-table.ensures c.args.self.n 9 (omega arith) (omega (arith, c.args.self.least, c.args.self.most))
