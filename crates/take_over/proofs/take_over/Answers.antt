-- `take_over::take_over` meets its contract.
use Rattle.std.proofs.Common.{◌≡◌, true, false, ◌∙◌, arith}
use Rattle.order.specs.Refusals.{is_size}
use Rattle.order.specs.declared.Refusal.TheVariants.{Measurement, Endurance}
use Rattle.order.proofs.Refusals.{check_fails, check_holds, all_hold, told_refused, told_done, size_in}
use Rattle.group.specs.Record.{is_endurance}
use Rattle.take_over.specs.TakeOver.{take_over_of}
use Rattle.take_over.proofs.Rows.{row_found, row_missing}
use Rattle.take_over.proofs.take_over.Goals as goal

pub returns-in_default : goal.returns-in_default
unfolding take_over_of
returns-in_default c =
    let same : c.in_ok-size.size.cells ≡ c.args.n = grind arith in
    let sized : is_size c.args.n ≡ true = rw same at (size_in _ c.in_ok-size.size.least c.in_ok-size.size.most) in
    let levels = row_found 4095 c.args.n c.args.levels.now (rw same at c.row_of.ensures) c.in_default.is-0 in
    let caps = row_missing 4095 c.args.n c.args.caps.now (rw same at c.row_of-2.ensures) c.in_default.is-1 in
    told_refused _ _ _ Measurement (check_holds _ _ sized ∙ check_fails _ _ (rw (levels.0, caps)))

pub returns-in_default-3 : goal.returns-in_default-3
unfolding take_over_of
returns-in_default-3 c =
    let same : c.in_ok-size.size.cells ≡ c.args.n = grind arith in
    let sized : is_size c.args.n ≡ true = rw same at (size_in _ c.in_ok-size.size.least c.in_ok-size.size.most) in
    let levels = row_missing 4095 c.args.n c.args.levels.now (rw same at c.row_of.ensures) c.in_default.is-0 in
    told_refused _ _ _ Measurement (check_holds _ _ sized ∙ check_fails _ _ (rw levels))

pub returns-in_default-2 : goal.returns-in_default-2
unfolding take_over_of
returns-in_default-2 c =
    let same : c.in_ok-size.size.cells ≡ c.args.n = grind arith in
    let sized : is_size c.args.n ≡ true = rw same at (size_in _ c.in_ok-size.size.least c.in_ok-size.size.most) in
    let levels = row_found 4095 c.args.n c.args.levels.now (rw same at c.row_of.ensures) c.in-Some-Some.is-0 in
    let caps = row_found 4095 c.args.n c.args.caps.now (rw same at c.row_of-2.ensures) c.in-Some-Some.is-1 in
    let lasts : is_endurance c.args.endurance ≡ true = cc in
    let used = row_missing c.args.endurance c.args.n c.args.used.now (rw same at c.row_of-3.ensures) c.in_default-2.is-1 in
    told_refused _ _ _ Endurance (check_holds _ _ sized ∙ check_holds _ _ (rw (levels.0, caps.0)) ∙ check_fails _ _ (rw (lasts, used)))

pub returns-in_default-2-2 : goal.returns-in_default-2-2
unfolding take_over_of
returns-in_default-2-2 c =
    let same : c.in_ok-size.size.cells ≡ c.args.n = grind arith in
    let sized : is_size c.args.n ≡ true = rw same at (size_in _ c.in_ok-size.size.least c.in_ok-size.size.most) in
    let levels = row_found 4095 c.args.n c.args.levels.now (rw same at c.row_of.ensures) c.in-Some-Some.is-0 in
    let caps = row_found 4095 c.args.n c.args.caps.now (rw same at c.row_of-2.ensures) c.in-Some-Some.is-1 in
    let endless : is_endurance c.args.endurance ≡ false = cc in
    told_refused _ _ _ Endurance (check_holds _ _ sized ∙ check_holds _ _ (rw (levels.0, caps.0)) ∙ check_fails _ _ (rw endless))

pub returns : goal.returns
unfolding take_over_of
returns c =
    let same : c.in_ok-size.size.cells ≡ c.args.n = grind arith in
    let sized : is_size c.args.n ≡ true = rw same at (size_in _ c.in_ok-size.size.least c.in_ok-size.size.most) in
    let levels = row_found 4095 c.args.n c.args.levels.now (rw same at c.row_of.ensures) c.in-Some-Some.is-0 in
    let caps = row_found 4095 c.args.n c.args.caps.now (rw same at c.row_of-2.ensures) c.in-Some-Some.is-1 in
    let lasts : is_endurance c.args.endurance ≡ true = cc in
    let used = row_found c.args.endurance c.args.n c.args.used.now (rw same at c.row_of-3.ensures) c.in-true-Some.is-1 in
    rw (levels.1, caps.1, used.1) (told_done _ _ _ (check_holds _ _ sized ∙ check_holds _ _ (rw (levels.0, caps.0)) ∙ check_holds _ _ (rw (lasts, used.0)) ∙ all_hold))
