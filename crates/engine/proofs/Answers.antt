-- What read, store and alike answer, case by case.
-- Assumes nothing.
use Prim.Native.Nat.{ℕ, ◌<◌}
use native.Mathlib.Omega.{arith}
use mathlib.Core.Path.{◌≡◌, refl, sym, ap, ◌∙◌}
use mathlib.Core.Bool.{Bool, true, false, ◌&&◌}
use mathlib.Core.List.{List, [], ◌∷◌, ◌++◌}
use lib.Dec.{eqb, ltb}
use borrow.Author.Tests.{ltb-true, lt-ltb}
use Rattle.order.specs.declared.Order.{Order}
use Rattle.order.specs.declared.Refusal.{Refusal}
use Rattle.order.specs.declared.Refusal.TheVariants.{NoSymbol, Blank, Lost}
use Rattle.order.specs.Refusals.{refusal_number, number_of, Told, answer}
use Rattle.order.specs.Cells.{is_order}
use Rattle.order.specs.Order.{listed, order_record, is_order_of, order_checks, no_order}
use Rattle.order.proofs.Refusals.{refused_zeros, check_holds, check_held, later_decide, refused_first, told_done, told_refused, size_in, all_hold, all_held}
use Rattle.order.proofs.Records.{passed, recorded_length, recorded_list, recorded_passes}
use Rattle.decoder.specs.Decoding.{correction}
use Rattle.code.specs.Words.{K}
use Rattle.code.specs.Symbols.{word_of, Reading, no_reading, reading_at, codeword_checks, codeword_of, decode_of}
use Rattle.code.proofs.Codewords.{symbol_order}
use Rattle.group.specs.declared.Group.{Group}
use Rattle.group.specs.Record.{group_checks}
use Rattle.push_up.specs.PushUp.{singles}
use Rattle.push_up.specs.WriteAnswer.{write_checks, push_checks, pushed, unpushed, write_of}
use Rattle.group.proofs.Checks.{checked_size}
use Rattle.sensing.proofs.Sensed.{sensed_order_lem}
use Rattle.engine.specs.ReadStore.{sensed_order, marked_checks, marked_order, read_checks, reading_of, read_of, store_checks, store_of, alike_of}

-- checks that give the same number, and the same result
same_answer : {A : Type 0} (a b : List (Bool × Refusal)) (x y zeros : A) → number_of a ≡ number_of b → x ≡ y → answer a x zeros ≡ answer b y zeros
unfolding answer
same_answer a b x y zeros e f = rw (e, f)

-- checks that come first decide both where one of them refuses
same_first :
    {A : Type 0} (first a b : List (Bool × Refusal)) (x y zeros : A)
    → (number_of first ≡ 0 → answer (first ++ a) x zeros ≡ answer (first ++ b) y zeros) → answer (first ++ a) x zeros ≡ answer (first ++ b) y zeros
unfolding answer number_of
same_first [] a b x y zeros h = h refl
same_first ((true, r) ∷ first) a b x y zeros h = same_first first a b x y zeros h
same_first ((false, r) ∷ first) a b x y zeros h = rw (refused_zeros r x zeros, refused_zeros r y zeros)

-- ---- the order that is decoded: the mark is asked where the record is a group

module _ (g : Group) where
  pub mark_holds : number_of (group_checks g) ≡ 0 → g.written ≡ true → number_of (marked_checks g) ≡ 0
  mark_holds d w = later_decide _ (group_checks g) d ∙ check_holds _ _ w ∙ all_hold

  pub mark_held : number_of (marked_checks g) ≡ 0 → (number_of (group_checks g) ≡ 0) × (g.written ≡ true)
  mark_held m = let t = all_held _ (group_checks g) m in (t.0, (check_held g.written Blank [] t.1).0)

  pub marked_refused : (r : Refusal) → record { number = refusal_number r; value = no_order } ≡ marked_order g → number_of (marked_checks g) ≡ refusal_number r
  unfolding marked_order answer
  marked_refused r e = sym (ap (λ (t : Told Order). t.number) e)

  pub marked_done : {o : Order} → record { number = 0; value = o } ≡ marked_order g → (number_of (marked_checks g) ≡ 0) × (o ≡ order_record (sensed_order g))
  unfolding marked_order answer
  marked_done {o} e =
      let m : number_of (marked_checks g) ≡ 0 = sym (ap (λ (t : Told Order). t.number) e) in
      (m, ap (λ (t : Told Order). t.value) e ∙ rw m)

-- ---- read

module _ (g : Group) where
  pub read_number : (read_of g).number ≡ number_of (read_checks g)
  unfolding read_of answer
  read_number = refl

  -- what a read that is done answered
  pub read_done : number_of (read_checks g) ≡ 0 → read_of g ≡ record { number = 0; value = reading_of g }
  unfolding read_of
  read_done d = sym (told_done _ _ _ d)

  -- the record is no group, or blank
  pub read_refused : (r : Refusal) → number_of (marked_checks g) ≡ refusal_number r → record { number = refusal_number r; value = no_reading } ≡ read_of g
  unfolding read_of
  read_refused r e = told_refused _ _ _ r (refused_first _ (marked_checks g) r e)

  -- the sensed order, in its record
  pub sensed_recorded : number_of (group_checks g) ≡ 0 → ((order_record (sensed_order g)).len ≡ g.n) × (listed (order_record (sensed_order g)) ≡ sensed_order g)
  sensed_recorded d =
      let t = sensed_order_lem g.n g.levels in
      let size = checked_size g d in
      (recorded_length g.n (sensed_order g) t, recorded_list g.n (sensed_order g) t size.0 size.1)

  -- a written group: the reading of the sensed order
  pub read_decoded : number_of (marked_checks g) ≡ 0 → decode_of (order_record (sensed_order g)) ≡ read_of g
  unfolding read_of decode_of
  read_decoded m =
      let d = (mark_held g m).0 in
      let xs = sensed_order g in
      let t = sensed_order_lem g.n g.levels in
      let size = checked_size g d in
      let o = order_record xs in
      let same = sensed_recorded d in
      same_answer (order_checks o ++ (ltb (correction o.len (listed o)) o.len, Lost) ∷ []) (read_checks g)
      (reading_at o.len (listed o) (correction o.len (listed o))) (reading_of g) no_reading
      (later_decide _ (order_checks o) (recorded_passes g.n xs t size.0 size.1)
      ∙ rw (same.1, same.0) (sym (later_decide _ (marked_checks g) m)))
      (rw (same.1, same.0))

-- the same by the order that is decoded
module _ (g : Group) where
  pub read_by_mark : (r : Refusal) → record { number = refusal_number r; value = no_order } ≡ marked_order g → record { number = refusal_number r; value = no_reading } ≡ read_of g
  read_by_mark r e = read_refused g r (marked_refused g r e)

  pub read_by_order : {o : Order} → record { number = 0; value = o } ≡ marked_order g → decode_of o ≡ read_of g
  read_by_order e = let (m, same) = marked_done g e in ap decode_of same ∙ read_decoded g m

-- ---- the write of an order of the group's cells: refused as worn or as spent alone

module _ (g : Group) (d : number_of (group_checks g) ≡ 0) (w : List ℕ) (t : is_order g.n w ≡ true) where
  pub write_listed : (checks : List (Bool × Refusal)) → number_of checks ≡ number_of (push_checks g (singles w)) → write_of g (order_record w) ≡ answer checks (pushed true g (singles w)) (unpushed g)
  unfolding write_of
  write_listed checks e =
      let o = order_record w in
      let (low, high) = checked_size g d in
      let list : listed o ≡ w = recorded_list g.n w t low high in
      let ordered : is_order_of g.n o ≡ true = ap (λ (k : ℕ). is_order_of k o) (sym (recorded_length g.n w t)) ∙ (passed o (recorded_passes g.n w t low high)).2 in
      same_answer (write_checks g o) checks (pushed true g (singles (listed o))) (pushed true g (singles w)) (unpushed g)
      (later_decide _ (group_checks g) d ∙ check_holds _ _ ordered ∙ rw list (sym e))
      (ap (λ (xs : List ℕ). pushed true g (singles xs)) list)

-- ---- store

module _ (g : Group) (s : ℕ) where
  -- the record is no group
  pub store_refused_lem : (r : Refusal) → number_of (group_checks g) ≡ refusal_number r → record { number = refusal_number r; value = unpushed g } ≡ store_of g s
  unfolding store_of
  store_refused_lem r e = told_refused _ _ _ r (refused_first _ (group_checks g) r e)

  -- a write of any order refuses it likewise
  pub store_by_write : (o : Order) → (number_of (group_checks g) ≡ 0 → write_of g o ≡ store_of g s) → write_of g o ≡ store_of g s
  unfolding write_of store_of
  store_by_write o h = same_first (group_checks g) _ _ _ _ (unpushed g) h

  module _ (d : number_of (group_checks g) ≡ 0) where
    abbrev symbol_check : List (Bool × Refusal)
    symbol_check = (ltb s (K g.n), NoSymbol) ∷ []

    -- the size has passed, so that the symbol decides
    symbol_decides : number_of (codeword_checks g.n s) ≡ number_of symbol_check
    symbol_decides = let size = checked_size g d in check_holds _ _ (size_in g.n size.0 size.1)

    pub store_no_symbol : (r : Refusal) → record { number = refusal_number r; value = no_order } ≡ codeword_of g.n s → record { number = refusal_number r; value = unpushed g } ≡ store_of g s
    unfolding codeword_of store_of answer
    store_no_symbol r e =
        let refused : number_of symbol_check ≡ refusal_number r = sym symbol_decides ∙ sym (ap (λ (t : Told Order). t.number) e) in
        told_refused _ _ _ r (later_decide _ (group_checks g) d ∙ refused_first (push_checks g (singles (word_of g.n s))) symbol_check r refused)

    pub store_symbol : {o : Order} → record { number = 0; value = o } ≡ codeword_of g.n s → (s < K g.n) × (o ≡ order_record (word_of g.n s))
    unfolding codeword_of answer word_of
    store_symbol {o} e =
        let passes : number_of (codeword_checks g.n s) ≡ 0 = sym (ap (λ (t : Told Order). t.number) e) in
        (ltb-true s (K g.n) (check_held _ NoSymbol [] (sym symbol_decides ∙ passes)).0, ap (λ (t : Told Order). t.value) e ∙ rw passes)

    -- the codeword is an order of the group's cells, so that to write it is to store the symbol
    module _ (below : s < K g.n) where
      pub word_order : is_order g.n (word_of g.n s) ≡ true
      unfolding word_of
      word_order = symbol_order g.n (omega (arith, (checked_size g d).0)) s below

      pub store_written : write_of g (order_record (word_of g.n s)) ≡ store_of g s
      unfolding store_of
      store_written =
          write_listed g d (word_of g.n s) word_order (store_checks g s)
          (later_decide _ (group_checks g) d ∙ check_holds _ _ (lt-ltb s (K g.n) below))

  -- the write of the codeword found
  pub store_by_word : {o : Order} → record { number = 0; value = o } ≡ codeword_of g.n s → write_of g o ≡ store_of g s
  store_by_word {o} e =
      store_by_write o
      (λ d. let (below, same) = store_symbol d e in ap (write_of g) same ∙ store_written d below)

-- ---- alike

module _ (g h : Group) where
  -- the first group's read decides where it is refused, the second's where the first is done
  pub alike_first : (r : Refusal) → (read_of g).number ≡ refusal_number r → record { number = refusal_number r; value = false } ≡ alike_of g h
  unfolding alike_of
  alike_first r e = told_refused _ _ _ r (refused_first (read_checks h) (read_checks g) r (sym (read_number g) ∙ e))

  module _ (d : (read_of g).number ≡ 0) where
    second : number_of (read_checks g ++ read_checks h) ≡ (read_of h).number
    second = later_decide (read_checks h) (read_checks g) (sym (read_number g) ∙ d) ∙ sym (read_number h)

    pub alike_second : (r : Refusal) → (read_of h).number ≡ refusal_number r → record { number = refusal_number r; value = false } ≡ alike_of g h
    unfolding alike_of
    alike_second r e = told_refused _ _ _ r (second ∙ e)

    pub alike_done : (read_of h).number ≡ 0
        → record { number = 0; value = eqb g.n h.n && eqb (read_of g).value.symbol (read_of h).value.symbol } ≡ alike_of g h
    unfolding alike_of
    alike_done e = rw (read_done g (sym (read_number g) ∙ d), read_done h (sym (read_number h) ∙ e)) (told_done _ _ _ (second ∙ e))

  -- the same by the two reads
  pub first_refused : (r : Refusal) → record { number = refusal_number r; value = no_reading } ≡ read_of g → record { number = refusal_number r; value = false } ≡ alike_of g h
  first_refused r e = alike_first r (sym (ap (λ (t : Told Reading). t.number) e))

  module _ {a : Reading} (e : record { number = 0; value = a } ≡ read_of g) where
    first_done : (read_of g).number ≡ 0
    first_done = sym (ap (λ (t : Told Reading). t.number) e)

    pub second_refused : (r : Refusal) → record { number = refusal_number r; value = no_reading } ≡ read_of h → record { number = refusal_number r; value = false } ≡ alike_of g h
    second_refused r f = alike_second first_done r (sym (ap (λ (t : Told Reading). t.number) f))

    pub both_read : {b : Reading} → record { number = 0; value = b } ≡ read_of h → record { number = 0; value = eqb g.n h.n && eqb a.symbol b.symbol } ≡ alike_of g h
    both_read {b} f =
        let second_done : (read_of h).number ≡ 0 = sym (ap (λ (t : Told Reading). t.number) f) in
        rw (← e, ← f) at (alike_done first_done second_done)
