-- Of every n, a group that refuses the store of a symbol as worn, and one that does as spent: from an opened group, the cell that the symbol's codeword has on
-- top wears to 0; or, with an endurance of n - 1 or more but below twice that, the symbol is stored and the group erased, which keeps its used pulses.
-- Assumes nothing.
use Prim.Native.Nat.{ℕ, zero, suc, ◌+◌, ◌-◌, ◌≤◌, ◌<◌, zero-le}
use native.Mathlib.Omega.{arith}
use mathlib.Core.Path.{◌≡◌, refl, sym, ap, ◌∙◌}
use mathlib.Core.Bool.{Bool, true, false}
use mathlib.Core.List.{List, [], ◌∷◌}
use lib.ListN.{length, get_or, replicate, get_or-replicate}
use borrow.Author.Tests.{le-leb, lt-ltb}
use Rattle.order.specs.declared.Refusal.TheVariants.{NoCell, Worn, CapUp, Spent}
use Rattle.order.specs.Refusals.{number_of, Told, is_size}
use Rattle.order.specs.Order.{no_order}
use Rattle.order.proofs.Cells.{order_true, order_range}
use Rattle.order.proofs.Refusals.{check_holds, check_fails, later_decide, all_hold, told_done, size_true}
use Rattle.order.specs.Cells.{is_cell, is_order}
use Rattle.coordinates.specs.Conversion.{coordinate_at}
use Rattle.coordinates.proofs.RoundTrip.{order_of_any}
use Rattle.code.specs.Words.{K, word_at}
use Rattle.code.specs.Symbols.{word_of}
use Rattle.group.specs.declared.Group.{Group}
use Rattle.group.specs.Levels.{AtMost, level, put, tallied}
use Rattle.group.proofs.Levels.{level_put, at_most_level, at_most_length, at_most_true, true_at_most}
use Rattle.group.proofs.LevelRows.{all_at}
use Rattle.group.proofs.Tallies.{length_tallied}
use Rattle.group.proofs.Checks.{checked_size}
use Rattle.group.specs.Record.{is_endurance, group_checks, IsGroup, opened, with_caps, erased}
use Rattle.changes.specs.Changes.{wear_checks, wear_of, erase_of}
use Rattle.push_up.specs.PushUp.{singles}
use Rattle.push_up.specs.WriteAnswer.{raised, fits, lasts, push_checks, pushed}
use Rattle.push_up.proofs.Orders.{order_target, Falling, shows_falling}
use Rattle.push_up.proofs.Writes.{raised_shows}
use Rattle.plain_machine.specs.declared.Kind.TheVariants.{Wear, Erase}
use Rattle.sharing.specs.Shared.{plain_target}
use Rattle.plain_machine.specs.declared.Call.{Call}
use Rattle.plain_machine.specs.Machine.{apply_of}
use Rattle.plain_machine.proofs.Machine.{apply_number, apply_group, apply_pushed, last_decide, done_held}
use Rattle.rivals.specs.Rivals.{after}
use Rattle.rivals.proofs.Demand3.{opened_group}
use Rattle.rivals.proofs.Valid.{first_store}
use Rattle.page_laws.specs.PageLists.{store_call}

-- ---- the store of a symbol

-- where levels fall along an order, each stands as far below the first as it comes after it
falls_below : (xs ls : List ℕ) → Falling 1 xs ls → (k : ℕ) → k < length xs → level ls (get_or xs k 0) + k ≤ level ls (get_or xs 0 0)
unfolding Falling
falls_below xs ls f zero l = omega arith
falls_below xs ls f (suc k) l = omega (arith, f k l, falls_below xs ls f k (omega arith))

-- in any group
module _ (g : Group) (h : IsGroup g) (s : ℕ) where
  abbrev word : List ℕ
  word = word_of g.n s

  -- the cell on top in the codeword
  abbrev on_top : ℕ
  on_top = get_or word 0 0

  word_listed : is_order g.n word ≡ true
  unfolding word_of
  word_listed = order_of_any (coordinate_at (word_at g.n s)) g.n

  top_range : (1 ≤ on_top) × (on_top ≤ g.n)
  top_range = order_range g.n word (order_true g.n word word_listed) 0 (omega (arith, checked_size g h.passes))

  -- raised, it stands above each of the others
  top_raised : g.n - 1 ≤ level (raised g (singles word)) on_top
  top_raised =
      let shows = raised_shows g (singles word) h (order_target g.n word word_listed) in
      let size = (order_true g.n word word_listed).size in
      omega (arith, falls_below word (raised g (singles word)) (shows_falling 1 word (raised g (singles word)) shows) (g.n - 1) (omega (arith, size, checked_size g h.passes)))

  -- the caps and the endurance decide
  caps_decide : s < K g.n → (apply_of g (store_call s)).number ≡ number_of (push_checks g (singles word))
  caps_decide below = search (arith, apply_number, last_decide, later_decide, check_holds, lt-ltb, all_hold)

not_so : (b : Bool) → (b ≡ true → ⊥) → b ≡ false
not_so false f = refl
not_so true f = absurd (f refl)

-- the cell on top in the codeword of a symbol wears to 0
abbrev pub wearing : ℕ → ℕ → Call
wearing n s = record { kind = Wear (record { 0 = get_or (word_of n s) 0 0 }) 0; target = plain_target no_order }

abbrev pub erasing : Call
erasing = record { kind = Erase; target = plain_target no_order }

-- used pulses to which rises are added, cell by cell
tallied_level : (us xs ys : List ℕ) (i : ℕ) → i < length us → i < length xs → i < length ys → get_or (tallied us xs ys) i 0 ≡ get_or us i 0 + (get_or ys i 0 - get_or xs i 0)
unfolding tallied
tallied_level [] xs ys i l m k = absurd (omega arith)
tallied_level (u ∷ us) [] ys i l m k = absurd (omega arith)
tallied_level (u ∷ us) (x ∷ xs) [] i l m k = absurd (omega arith)
tallied_level (u ∷ us) (x ∷ xs) (y ∷ ys) zero l m k = refl
tallied_level (u ∷ us) (x ∷ xs) (y ∷ ys) (suc i) l m k = tallied_level us xs ys i (omega arith) (omega arith) (omega arith)

module _ (n e : ℕ) (size : is_size n ≡ true) (range : is_endurance e ≡ true) (s : ℕ) where
  abbrev pub new : Group
  new = opened n e

  new_group : IsGroup new
  new_group = opened_group n e size range

  abbrev pub target : List (List ℕ)
  target = singles (word_of n s)

  -- the cell that its codeword has on top
  abbrev pub top_cell : ℕ
  top_cell = get_or (word_of n s) 0 0

  top_cell_range : (1 ≤ top_cell) × (top_cell ≤ n)
  top_cell_range = top_range new new_group s

  -- ---- worn

  abbrev pub worn_group : Group
  worn_group = with_caps new (put new.caps top_cell 0)

  pub wear_done : after apply_of new (wearing n s ∷ []) ≡ worn_group
  unfolding after apply_of wear_of
  wear_done =
      let cell : is_cell n top_cell ≡ true = rw (le-leb 1 top_cell top_cell_range.0, le-leb top_cell n top_cell_range.1) in
      sym (ap (λ (t : Told Group). t.value)
      (told_done (wear_checks new (record { 0 = top_cell }) 0) worn_group new
      (later_decide _ (group_checks new) new_group.passes ∙ check_holds NoCell _ cell ∙ check_holds CapUp [] (le-leb 0 (level new.caps top_cell) zero-le) ∙ all_hold)))

  worn_is_group : IsGroup worn_group
  unfolding after
  worn_is_group = rw wear_done at (apply_group new (wearing n s) new_group)

  cap_none : level worn_group.caps top_cell ≡ 0
  cap_none = grind (arith, level_put, top_cell_range, size_true, new_group)

  pub worn_number : s < K n → (apply_of worn_group (store_call s)).number ≡ 8
  unfolding fits
  worn_number below =
      caps_decide worn_group worn_is_group s below
      ∙ check_fails Worn _
      (not_so (fits worn_group target)
      (λ f. omega (arith, size_true n size, top_raised worn_group worn_is_group s, cap_none, at_most_level top_cell (at_most_true (raised worn_group target) worn_group.caps f))))

  -- ---- spent

  module _ (enough : n - 1 ≤ e) (below : s < K n) where
    stored_first : (apply_of new (store_call s)).number ≡ 0
    stored_first = first_store n e size range enough s below

    abbrev pub spent_group : Group
    spent_group = erased (pushed true new target).group

    stored_group : (apply_of new (store_call s)).value.group ≡ (pushed true new target).group
    stored_group = grind (arith, apply_pushed, stored_first)

    pushed_is_group : IsGroup (pushed true new target).group
    pushed_is_group = rw stored_group at (apply_group new (store_call s) new_group)

    erase_done : (apply_of (pushed true new target).group erasing).value.group ≡ spent_group
    unfolding apply_of erase_of
    erase_done = grind (arith, told_done, pushed_is_group)

    pub spent_reached : after apply_of new (store_call s ∷ erasing ∷ []) ≡ spent_group
    unfolding after
    spent_reached = grind (arith, stored_group, erase_done)

    spent_is_group : IsGroup spent_group
    spent_is_group = rw erase_done at (apply_group (pushed true new target).group erasing pushed_is_group)

    within : AtMost (raised new target) new.caps
    within = (done_held new (store_call s) refl (sym (apply_number new (store_call s)) ∙ stored_first)).0

    twelve : length (raised new target) ≡ 12
    twelve = at_most_length within ∙ new_group.caps

    -- the cell on top takes its pulses twice
    top_twice : level (tallied (tallied (replicate 12 0) (replicate 12 0) (raised new target)) (replicate 12 0) (raised new target)) top_cell
        ≡ level (raised new target) top_cell + level (raised new target) top_cell
    unfolding level
    top_twice = grind (arith, top_cell_range, size_true, get_or-replicate, tallied_level, twelve, length_tallied)

    pub spent_number : e < (n - 1) + (n - 1) → (apply_of spent_group (store_call s)).number ≡ 19
    unfolding fits lasts pushed raised level
    spent_number short =
        caps_decide spent_group spent_is_group s below
        ∙ check_holds Worn _ (true_at_most within)
        ∙ check_fails Spent []
        (not_so (lasts spent_group target) (λ f. omega (arith, top_raised new new_group s, top_twice, all_at e _ f (top_cell - 1))))
