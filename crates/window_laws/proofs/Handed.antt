-- A run gives the same windows whether it is handed in as its record or as the list of its levels.
-- Assumes nothing.
use Prim.Native.Nat.{ℕ}
use mathlib.Core.Path.{◌≡◌, refl, sym, ◌∙◌}
use mathlib.Core.List.{List, []}
use Rattle.cell_run.specs.declared.Run.{Run}
use Rattle.cell_run.specs.Run.{run_checks, level_checks}
use Rattle.cell_run.proofs.Runs.{IsRun, levels_pass}
use Rattle.window.specs.Calls.{ring, windows_of, numbers_after, scratch_after}
use Rattle.window.proofs.Answers.{run_passed}

module _ (r : Run) (h : IsRun r) (width step : ℕ) (numbers scratch : List ℕ) where
  pub handed_alike :
      (windows_of (run_checks r) (ring r) width step numbers scratch ≡ windows_of (level_checks (ring r)) (ring r) width step numbers scratch)
      × (numbers_after (run_checks r) (ring r) width step numbers scratch ≡ numbers_after (level_checks (ring r)) (ring r) width step numbers scratch)
      × (scratch_after (run_checks r) (ring r) width step numbers scratch ≡ scratch_after (level_checks (ring r)) (ring r) width step numbers scratch)
  handed_alike =
      let a = windows_of [] (ring r) width step numbers scratch in
      let ns = numbers_after [] (ring r) width step numbers scratch in
      let ss = scratch_after [] (ring r) width step numbers scratch in
      let record-passed = run_passed (run_checks r) (ring r) width step numbers scratch h.passes {a = a} {ns = ns} {ss = ss} (refl, (refl, refl)) in
      let list-passed = run_passed (level_checks (ring r)) (ring r) width step numbers scratch (levels_pass r h) {a = a} {ns = ns} {ss = ss} (refl, (refl, refl)) in
      (sym record-passed.0 ∙ list-passed.0, sym record-passed.1.0 ∙ list-passed.1.0, sym record-passed.1.1 ∙ list-passed.1.1)
