-- How the answer to a call for windows, and the two lent lists after it, follow from the checks.
-- Assumes nothing.
use Prim.Native.Nat.{ℕ, ◌/◌}
use mathlib.Core.Path.{◌≡◌, sym, ap, ◌∙◌}
use mathlib.Core.Bool.{Bool}
use mathlib.Core.List.{List, []}
use native.Mathlib.Omega.{arith}
use lib.Dec.{leb}
use lib.ListN.{length}
use borrow.Author.Tests.{leb-true}
use Rattle.order.specs.declared.Refusal.{Refusal}
use Rattle.order.specs.declared.Refusal.TheVariants.{RoomShort}
use Rattle.order.specs.Refusals.{Told, refusal_number, number_of, if_done, answer}
use Rattle.order.proofs.Refusals.{told_done, told_refused, refused_zeros, refused_first, later_decide, check_held, all_held}
use Rattle.cell_run.specs.Run.{limit_checks}
use Rattle.cell_run.proofs.Checks.{limits_held}
use Rattle.window.specs.Ring.{window_numbers}
use Rattle.window.specs.Calls.{scratch_levels, window_checks, put_first, windows_of, numbers_after, scratch_after}
use Rattle.window.specs.Steps.{call_checks, Numberable}
use Rattle.window.proofs.Numbering.{numbers_length}

refused_keeps : (f : Refusal) {k : ℕ} (new old : List ℕ) → k ≡ refusal_number f → old ≡ if_done k new old
refused_keeps f new old e = rw e (sym (refused_zeros f new old))

module _ (of_run : List (Bool × Refusal)) (ls : List ℕ) (width step : ℕ) (numbers scratch : List ℕ) where
  -- the answer is a, and the lists are then these
  abbrev pub Answered : Told ℕ → List ℕ → List ℕ → Type 0
  Answered a ns ss =
      (a ≡ windows_of of_run ls width step numbers scratch)
      × ((ns ≡ numbers_after of_run ls width step numbers scratch) × (ss ≡ scratch_after of_run ls width step numbers scratch))

  refused_by : (f : Refusal) → number_of (window_checks of_run ls width step numbers scratch) ≡ refusal_number f
      → Answered (record { number = refusal_number f; value = 0 }) numbers scratch
  unfolding windows_of numbers_after scratch_after
  refused_by f e =
      (told_refused _ _ _ f e, (refused_keeps f _ numbers e, refused_keeps f _ scratch e))

  -- the run that is handed in is refused
  pub run_refused : (f : Refusal) → number_of of_run ≡ refusal_number f → Answered (record { number = refusal_number f; value = 0 }) numbers scratch
  run_refused f e = refused_by f (refused_first _ of_run f e)

  -- it passes, and the later checks decide
  module _ (d : number_of of_run ≡ 0) where
    same : number_of (window_checks of_run ls width step numbers scratch) ≡ number_of (window_checks [] ls width step numbers scratch)
    same = later_decide (window_checks [] ls width step numbers scratch) of_run d

    pub run_passed : {a : Told ℕ} {ns ss : List ℕ}
        → (a ≡ windows_of [] ls width step numbers scratch) × ((ns ≡ numbers_after [] ls width step numbers scratch) × (ss ≡ scratch_after [] ls width step numbers scratch))
        → Answered a ns ss
    unfolding windows_of numbers_after scratch_after answer
    run_passed t = (rw same t.0, (rw same t.1.0, rw same t.1.1))

    pub run_passing : {a : Told ℕ} {ns ss : List ℕ} → Answered a ns ss
        → (a ≡ windows_of [] ls width step numbers scratch) × ((ns ≡ numbers_after [] ls width step numbers scratch) × (ss ≡ scratch_after [] ls width step numbers scratch))
    unfolding windows_of numbers_after scratch_after answer
    run_passing t = (rw same at t.0, (rw same at t.1.0, rw same at t.1.1))

pub numberable : (ls : List ℕ) (width step : ℕ) (numbers scratch : List ℕ) → number_of (call_checks (length ls) width step (length numbers) (length scratch)) ≡ 0
    → Numberable ls width step numbers scratch
numberable ls width step numbers scratch d =
    let w = all_held _ (limit_checks (length ls) width step) d in
    let limits = limits_held (length ls) width step w.0 in
    let c = check_held (leb (length ls / step) (length numbers)) RoomShort _ w.1 in
    let r = check_held (leb (length ls) (length scratch)) RoomShort [] c.1 in
    record {
      first = omega (arith, limits.wide, limits.inside);
      wide = limits.narrow;
      inside = limits.inside;
      forward = limits.forward;
      count = leb-true (length ls / step) (length numbers) c.0;
      room = leb-true (length ls) (length scratch) r.0;
    }

module _ (ls : List ℕ) (width step : ℕ) (numbers scratch : List ℕ) where
  -- the checks by their numbers are those of the call
  by_numbers : call_checks (length ls) width step (length numbers) (length scratch) ≡ window_checks [] ls width step numbers scratch
  unfolding scratch_levels
  by_numbers = rw (numbers_length ls width step)

  pub call_refused : (f : Refusal) → number_of (call_checks (length ls) width step (length numbers) (length scratch)) ≡ refusal_number f
      → Answered [] ls width step numbers scratch (record { number = refusal_number f; value = 0 }) numbers scratch
  call_refused f e = refused_by [] ls width step numbers scratch f (ap number_of (sym by_numbers) ∙ e)

  -- the windows are numbered
  pub filled : {ns ss : List ℕ} → number_of (call_checks (length ls) width step (length numbers) (length scratch)) ≡ 0
      → ns ≡ put_first (window_numbers ls width step) numbers → ss ≡ put_first ls scratch
      → Answered [] ls width step numbers scratch (record { number = 0; value = length ls / step }) ns ss
  unfolding windows_of numbers_after scratch_after scratch_levels
  filled d numbered put =
      let pass : number_of (window_checks [] ls width step numbers scratch) ≡ 0 = ap number_of (sym by_numbers) ∙ d in
      (rw (← numbers_length ls width step) (told_done _ _ _ pass), (rw (numbered, pass), rw (put, pass)))
