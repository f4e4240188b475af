-- `load::load` meets its contract.
use Rattle.std.proofs.Common.{rules}
use mathlib.Core.Path.{sym, ◌∙◌}
use native.Mathlib.Omega.{arith}
use lib.ListN.{length}
use Rattle.order.specs.declared.Refusal.TheVariants.{Seed}
use Rattle.order.proofs.Refusals.{size_true}
use Rattle.code.proofs.Laws.{some_symbol}
use Rattle.code.proofs.NumberOfWords.{words_are_K}
use Rattle.load.proofs.Loads.{load_passes, load_done, list_done, load_refused, list_refused, words_refused, seed_refused}
use Rattle.load.proofs.load.Goals as goal

pub returns-in_err-words-clause-result_value : goal.returns-in_err-words-clause-result_value
returns-in_err-words-clause-result_value c =
    let r = c.in_err-words.field-0.0 in
    let refused = load_refused c.args.n c.args.seed r (words_refused c.args.n c.args.seed r c.in_err-words.ensures) (length c.args.list.now) in
    grind (refused, rules)

pub returns-in_err-words-clause-list_after : goal.returns-in_err-words-clause-list_after
returns-in_err-words-clause-list_after c =
    let r = c.in_err-words.field-0.0 in
    sym (list_refused c.args.n c.args.seed r (words_refused c.args.n c.args.seed r c.in_err-words.ensures) _)

pub returns-then-seed-eq0-clause-result_value : goal.returns-then-seed-eq0-clause-result_value
returns-then-seed-eq0-clause-result_value c =
    let (size, _) = words_are_K c.args.n _ c.in_ok-words.ensures in
    sym (load_refused c.args.n c.args.seed Seed (seed_refused c.args.n c.args.seed size c.if-seed-eq0.true) _)

pub returns-then-seed-eq0-clause-list_after : goal.returns-then-seed-eq0-clause-list_after
returns-then-seed-eq0-clause-list_after c =
    let (size, _) = words_are_K c.args.n _ c.in_ok-words.ensures in
    sym (list_refused c.args.n c.args.seed Seed (seed_refused c.args.n c.args.seed size c.if-seed-eq0.true) _)

pub fill-requires : goal.fill-requires
fill-requires c =
    let (size, words) = words_are_K c.args.n _ c.in_ok-words.ensures in
    rw words (some_symbol c.args.n (omega (arith, (size_true c.args.n size).0)))

pub returns-clause-result_value : goal.returns-clause-result_value
returns-clause-result_value c =
    let (size, _) = words_are_K c.args.n _ c.in_ok-words.ensures in
    let passes = load_passes c.args.n c.args.seed size (omega (arith, c.if-seed-eq0.false)) in
    rw c.fill.ensures.value (sym (load_done c.args.n c.args.seed passes _))

pub returns-clause-list_after : goal.returns-clause-list_after
returns-clause-list_after c =
    let (size, words) = words_are_K c.args.n _ c.in_ok-words.ensures in
    let passes = load_passes c.args.n c.args.seed size (omega (arith, c.if-seed-eq0.false)) in
    c.fill.ensures.list_after ∙ rw words (sym (list_done c.args.n c.args.seed passes _))
