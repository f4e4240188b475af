-- What a group holds: how read, store and alike answer to each other.
--
--   exchanged_reads   the codeword of s with its neighbours at place k exchanged reads as s, put right at k; clean for k = 0
--   store_reads       after an accepted store of s a read answers s, clean
--   store_group       a group stays a group under store
--   nearby_reads      a codeword within distance 1 of the sensed order is what is read
--   read_lost         a read is refused as lost exactly when the group is written and no codeword is within distance 1 of its order
--   alike_yes         alike says yes exactly when both groups read the same symbol and have the same n
--   alike_itself      a group that can be read is like itself
-- Assumes nothing.
use Prim.Native.Nat.{ℕ, zero, suc, ◌≤◌, ◌<◌}
use native.Mathlib.Omega.{arith}
use mathlib.Core.Path.{◌≡◌, refl, sym, ap, ◌∙◌}
use mathlib.Core.Logic.{◌↔◌}
use mathlib.Core.Bool.{Bool, true, false, true≢false}
use mathlib.Core.List.{List, [], ◌∷◌, ◌++◌}
use mathlib.Core.Option.{some}
use lib.Dec.{eqb, ltb}
use borrow.Author.Tests.{ltb-true, ltb-false, lt-ltb, le-ltb, eqb-true, eq-eqb}
use Rattle.order.specs.declared.Refusal.TheVariants.{Size, NoGroup, NoSymbol, Blank, Lost}
use Rattle.order.specs.Refusals.{number_of, if_done, Told, answer}
use Rattle.order.specs.Cells.{is_order}
use Rattle.order.specs.Order.{order_record}
use Rattle.order.proofs.Cells.{both}
use Rattle.order.proofs.Refusals.{all_held, later_decide, check_holds, check_fails, check_held, all_hold}
use Rattle.distance.specs.Distance.{exchange}
use Rattle.decoder.specs.Decoding.{Nearby}
use Rattle.decoder.proofs.Decoding.{reads, reads_lost}
use Rattle.code.specs.declared.Verdict.TheVariants.{Clean, PutRight}
use Rattle.code.specs.Words.{K, symbol_of}
use Rattle.code.specs.Symbols.{word_of, verdict_at, reading_at, decode_of}
use Rattle.code.proofs.Symbols.{symbol_reads}
use Rattle.group.specs.declared.Group.{Group}
use Rattle.group.specs.Record.{group_checks, IsGroup}
use Rattle.push_up.specs.PushUp.{singles}
use Rattle.push_up.specs.WriteAnswer.{Program, push_checks, pushed, unpushed}
use Rattle.group.proofs.Checks.{checked_size}
use Rattle.sensing.proofs.Sensed.{sensed_order_lem}
use Rattle.group.proofs.Groups.{told_accepted}
use Rattle.push_up.proofs.Writes.{group_pushed, push_group}
use Rattle.sensing.proofs.Written.{raised_sensed}
use Rattle.engine.specs.ReadStore.{sensed_order, place_read, read_checks, read_of, store_of, alike_of}
use Rattle.engine.proofs.Answers.{mark_holds, read_number, read_done, read_decoded, word_order, alike_done}

-- ---- a codeword, or one with two neighbours exchanged

module _ (h : Group) (d : number_of (group_checks h) ≡ 0) (w : h.written ≡ true) (s : ℕ) (below : s < K h.n) where
  pub exchanged_reads : (k : ℕ) → k < h.n → sensed_order h ≡ exchange k (word_of h.n s)
      → read_of h ≡ record { number = 0; value = record { symbol = s; verdict = some (verdict_at k) } }
  unfolding word_of
  exchanged_reads k l e =
      let (low, high) = checked_size h d in
      sym (read_decoded h (mark_holds h d w)) ∙ ap (λ (xs : List ℕ). decode_of (order_record xs)) e ∙ symbol_reads h.n s low high below k l

  pub clean_reads : sensed_order h ≡ word_of h.n s → read_of h ≡ record { number = 0; value = record { symbol = s; verdict = some Clean } }
  clean_reads e = exchanged_reads 0 (omega (arith, (checked_size h d).0)) e

  pub put_right_reads : (k : ℕ) → 1 ≤ k → k < h.n → sensed_order h ≡ exchange k (word_of h.n s)
      → read_of h ≡ record { number = 0; value = record { symbol = s; verdict = some (PutRight (record { 0 = k })) } }
  put_right_reads zero g l e = absurd (omega arith)
  put_right_reads (suc k) g l e = exchanged_reads (suc k) l e

-- ---- a store

module _ (g : Group) (s : ℕ) where
  abbrev word : List ℕ
  word = word_of g.n s

  -- what an accepted store knows, and what it leaves
  pub store_accepted : (store_of g s).number ≡ 0
      → (number_of (group_checks g) ≡ 0) × (s < K g.n) × (number_of (push_checks g (singles word)) ≡ 0) × ((store_of g s).value ≡ pushed true g (singles word))
  unfolding store_of
  store_accepted e =
      let t = told_accepted _ (pushed true g (singles word)) (unpushed g) e in
      let c = all_held _ (group_checks g) t.0 in
      let p = check_held (ltb s (K g.n)) NoSymbol _ c.1 in
      (c.0, ltb-true s (K g.n) p.0, p.1, t.1)

  pub store_group : IsGroup g → IsGroup (store_of g s).value.group
  unfolding store_of
  store_group h = push_group (λ (p : Program). p.group) true g (singles word) (group_checks g ++ (ltb s (K g.n), NoSymbol) ∷ []) (pushed true g (singles word)) (unpushed g) h refl refl

  -- it leaves a written group of as many cells, whose order is the codeword
  abbrev Holding : Group → Type 0
  Holding after = (number_of (group_checks after) ≡ 0) × (after.n ≡ g.n) × (after.written ≡ true) × (sensed_order after ≡ word)

  pub store_holds : IsGroup g → (store_of g s).number ≡ 0 → Holding (store_of g s).value.group
  unfolding pushed
  store_holds h e =
      let (d, below, f, left) = store_accepted e in
      rw left ((group_pushed true g (singles word) h f).passes, refl, refl, raised_sensed g word h (word_order g s d below))

  pub store_reads : IsGroup g → (store_of g s).number ≡ 0 → read_of (store_of g s).value.group ≡ record { number = 0; value = record { symbol = s; verdict = some Clean } }
  store_reads h e =
      let (d, n, w, list) = store_holds h e in
      let (_, below, _, _) = store_accepted e in
      clean_reads (store_of g s).value.group d w s (rw n below) (list ∙ ap (λ (k : ℕ). word_of k s) (sym n))

-- ---- within distance 1, and lost

-- of the checks of a read, the last one refuses
last_refuses : (a b c l : Bool) → number_of ((a, Size) ∷ (b, NoGroup) ∷ (c, Blank) ∷ (l, Lost) ∷ []) ≡ 7
    → (number_of ((a, Size) ∷ (b, NoGroup) ∷ []) ≡ 0) × (c ≡ true) × (l ≡ false)
unfolding number_of
last_refuses true true true true e = absurd (omega arith)
last_refuses true true true false e = (refl, refl, refl)
last_refuses true true false l e = absurd (omega arith)
last_refuses true false c l e = absurd (omega arith)
last_refuses false b c l e = absurd (omega arith)

module _ (g : Group) where
  sensed_orders : is_order g.n (sensed_order g) ≡ true
  sensed_orders = sensed_order_lem g.n g.levels

  pos : number_of (group_checks g) ≡ 0 → 1 ≤ g.n
  pos d = omega (arith, (checked_size g d).0)

  pub nearby_reads : number_of (group_checks g) ≡ 0 → g.written ≡ true → (c : List ℕ) → Nearby g.n (sensed_order g) c
      → read_of g ≡ record { number = 0; value = record { symbol = symbol_of g.n c; verdict = some (verdict_at (place_read g)) } }
  unfolding reading_at
  nearby_reads d w c near =
      let (l, e) = (reads g.n (sensed_order g) sensed_orders (pos d) c).1 near in
      rw e (read_done g (later_decide _ (group_checks g) d ∙ check_holds _ _ w ∙ check_holds _ _ (lt-ltb _ _ l) ∙ all_hold))

  pub read_lost : ((read_of g).number ≡ 7)
      ↔ ((number_of (group_checks g) ≡ 0) × (g.written ≡ true) × ((c : List ℕ) → Nearby g.n (sensed_order g) c → ⊥))
  read_lost = (
    λ e.
        let (d, w, l) = last_refuses _ _ _ _ (sym (read_number g) ∙ e) in
        (d, w, λ c near. omega (arith, ltb-false (place_read g) g.n l, ((reads g.n (sensed_order g) sensed_orders (pos d) c).1 near).0)),
    λ (d, w, none).
        let place = (reads_lost g.n (sensed_order g) sensed_orders (pos d)).1 none in
        read_number g ∙ later_decide _ (group_checks g) d ∙ check_holds _ _ w ∙ check_fails _ _ (le-ltb (place_read g) g.n (omega arith)),
  )

-- ---- alike

pub alike_itself : (g : Group) → (read_of g).number ≡ 0 → alike_of g g ≡ record { number = 0; value = true }
alike_itself g d = sym (rw (eq-eqb g.n g.n refl, eq-eqb (read_of g).value.symbol (read_of g).value.symbol refl) at (alike_done g g d d))

module _ (g h : Group) where
  -- a yes comes from two accepted reads
  yes_read : (alike_of g h).value ≡ true → ((read_of g).number ≡ 0) × ((read_of h).number ≡ 0)
  unfolding alike_of answer
  yes_read e = go _ (number_of (read_checks g ++ read_checks h)) refl e
    where
      go : (b : Bool) (k : ℕ) → number_of (read_checks g ++ read_checks h) ≡ k → if_done k b false ≡ true → ((read_of g).number ≡ 0) × ((read_of h).number ≡ 0)
      go b zero z y = let t = all_held (read_checks h) (read_checks g) z in (read_number g ∙ t.0, read_number h ∙ t.1)
      go b (suc k) z y = absurd (true≢false (sym y))

  pub alike_yes : ((alike_of g h).value ≡ true)
      ↔ (((read_of g).number ≡ 0) × ((read_of h).number ≡ 0) × (g.n ≡ h.n) × ((read_of g).value.symbol ≡ (read_of h).value.symbol))
  alike_yes = (
    λ e.
        let (d, f) = yes_read e in
        let (n, s) = both (eqb g.n h.n) _ (ap (λ (t : Told Bool). t.value) (alike_done g h d f) ∙ e) in
        (d, f, eqb-true _ _ n, eqb-true _ _ s),
    λ (d, f, n, s).
        sym (ap (λ (t : Told Bool). t.value) (alike_done g h d f)) ∙ rw (eq-eqb _ _ n, eq-eqb _ _ s),
  )
