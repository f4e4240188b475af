-- What private contracts say of a shared target. No public contract rests on it.
--
--   is_place used s      a place for a rank size that is used has at least 1, and one that is not used has 0
--   part first end xs   the list from one index up to another
--   Flags on r          at the index of each cell stands whether it is one of r
--   rank_up c on old p   the push-up p with those of the cells 1 to c on the next rank that are marked, each from its old level
--   PushesFit n on old p    wherever a cell of 1 to n is to come on that rank, the push-up so far has room for one push more
use Rattle.std.specs.Prelude.{ℕ, zero, suc, ◌-◌, ◌≤◌, ◌<◌, ◌≡◌, Bool, true, false, cond, List, leb, eqb, get_or, take, drop}
use Rattle.push_up.specs.declared.PushUp.{PushUp}
use Rattle.push_up.specs.Steps.{cell_up}
use Rattle.sharing.specs.Shared.{is_listed}

abbrev pub is_place : Bool → ℕ → Bool
is_place used s = cond used (leb 1 s) (eqb s 0)

abbrev pub part : ℕ → ℕ → List ℕ → List ℕ
part first end xs = take (end - first) (drop first xs)

abbrev pub Flags : List Bool → List ℕ → Type 0
Flags on r = (c : ℕ) → get_or on c false ≡ is_listed (suc c) r

unfoldable pub rank_up : ℕ → List Bool → List ℕ → PushUp → PushUp
rank_up zero on old p = record { levels = p.levels; floor = 1; pulses = p.pulses; count = p.count; pushes = p.pushes }
rank_up (suc c) on old p =
    let q = rank_up c on old p in
    cond (get_or on c false) (cell_up 1 p.floor (record { 0 = suc c }) (get_or old c 0) q) q

abbrev pub PushesFit : ℕ → List Bool → List ℕ → PushUp → Type 0
PushesFit n on old p = (c : ℕ) → c < n → get_or on c false ≡ true → ((rank_up c on old p).pulses ≤ 100000) × ((rank_up c on old p).count < 11)
