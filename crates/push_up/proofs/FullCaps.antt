-- A group with full caps has room for any target where its levels are low.
-- Assumes nothing.
use Rattle.std.proofs.Common.{◌≡◌, ℕ, ◌+◌, ◌-◌, ◌≤◌, true, List, [], ◌∷◌, ◌++◌, length, get_or, replicate, ◌∙◌, arith}
use lib.ListN.{length-replicate, get_or-append, get_or-replicate}
use Rattle.group.specs.declared.Group.{Group}
use Rattle.group.specs.Levels.{level, AtMost}
use Rattle.group.proofs.Levels.{put_below, true_at_most}
use Rattle.push_up.specs.PushUp.{floor_over, lift, raise}
use Rattle.push_up.specs.WriteAnswer.{raised, fits}
use Rattle.push_up.proofs.Minimal.{Fresh, Apart}
use Rattle.push_up.proofs.Orders.{TargetOf}
use Rattle.push_up.proofs.OneMore.{floor_upper, raise_upper}

-- every cell capped at 4,095
abbrev full : ℕ → List ℕ
full n = replicate n 4095 ++ replicate (12 - n) 0

full_level : (n c : ℕ) → 1 ≤ c → c ≤ n → level (full n) c ≡ 4095
unfolding level
full_level n c low high =
    get_or-append (replicate n 4095) (replicate (12 - n) 0) 0 (c - 1) (omega (arith, length-replicate {A = ℕ} n 4095)) ∙ get_or-replicate {A = ℕ} n (c - 1) 4095 0 (omega arith)

module _ (gap : ℕ) (step : gap ≤ 15) (n h : ℕ) (room : h + 195 ≤ 4095) (old : List ℕ) (low : (i : ℕ) → get_or old i 0 ≤ h) where
  lift_within : (f : ℕ) (r : List ℕ) (rs : List (List ℕ)) (new : List ℕ) → f ≤ 4095 → Fresh n r rs → AtMost new (full n) → AtMost (lift old f r new) (full n)
  unfolding lift level
  lift_within f [] rs new l a p = p
  lift_within f (c ∷ cs) rs new l a p =
      put_below c _ (lift_within f cs rs new l a.1 p) (omega (arith, full_level n c a.0.0.0 a.0.0.1, low (c - 1)))

  raise_within : (rs : List (List ℕ)) → length rs ≤ 12 → Apart n rs → AtMost old (full n) → AtMost (raise gap rs old) (full n)
  unfolding raise Apart
  raise_within [] l a p = p
  raise_within (r ∷ rs) l a p =
      let new = raise gap rs old in
      lift_within (floor_over gap rs new) r rs new (omega (arith, floor_upper gap step h old low rs new (raise_upper gap step h old low rs))) a.0 (raise_within rs (omega arith) a.1 p)

pub low_fits : (g : Group) (t : List (List ℕ)) (h : ℕ) → h + 195 ≤ 4095 → ((i : ℕ) → get_or g.levels i 0 ≤ h) → g.caps ≡ full g.n → AtMost g.levels g.caps
    → length t ≤ 12 → TargetOf g.n t → fits g t ≡ true
unfolding fits raised
low_fits g t h room low caps under l a = rw caps (true_at_most (raise_within 1 (omega arith) g.n h room g.levels low t l a.apart (rw caps at under)))
