-- Laws of rows: lists of levels, caps or used pulses that a loop reads place by place.
-- Assumes nothing.
use Rattle.std.proofs.Common.{◌≡◌, ℕ, zero, suc, ◌+◌, ◌-◌, ◌*◌, ◌^◌, ◌<◌, ◌≤◌, Bool, true, false, cond, ◌&&◌, ltb, leb, List, [], ◌∷◌, ◌++◌, length, get_or, take, drop, replicate, sym, refl, ap, ◌∙◌, ap₂, ⊎_elim, le_trans, le_refl, arith, length-drop, drop_of_length-le, drop_at, le-leb, leb-false, leb-true}
use mathlib.Core.Bool.{and-false, and-true}
use native.Mathlib.Nat.{sub-zero, zero-sub, suc-sub-suc}
use lib.Bits.{bit_and, bit_or}
use lib.ListN.{length-replicate}
use borrow.Author.Tests.{lt-leb}
use Rattle.order.proofs.Cells.{both, lt_cases}
use Rattle.order.proofs.Numbers.{drop_up}
use Rattle.order.proofs.Bits.{or_at_most, high_zero, gather}
use Rattle.order.proofs.Spare.{row_at}
use Rattle.group.specs.Levels.{AtMost, empty, more, at_most, rises}
use Rattle.group.specs.Record.{all_at_most, is_row}

-- ---- the places from i on

at_most_step : (i : ℕ) (ls cs : List ℕ) → i < length ls → i < length cs
    → at_most (drop i ls) (drop i cs) ≡ (leb (get_or ls i 0) (get_or cs i 0) && at_most (drop (i + 1) ls) (drop (i + 1) cs))
unfolding at_most
at_most_step i ls cs l c = rw (drop_up ls i l, drop_up cs i c)

pub drop-replicate : (i n v : ℕ) → drop i (replicate n v) ≡ replicate (n - i) v
drop-replicate zero n v = simp sub-zero
drop-replicate (suc i) zero v = simp zero-sub
drop-replicate (suc i) (suc n) v = drop-replicate i n v ∙ simp suc-sub-suc

excess_test : (x m : ℕ) → leb (x - m) 0 ≡ leb x m
excess_test x m = go (leb x m) refl
  where
    go : (b : Bool) → leb x m ≡ b → leb (x - m) 0 ≡ b
    go true e = le-leb (x - m) 0 (omega (arith, leb-true x m e))
    go false e = lt-leb (x - m) 0 (omega (arith, leb-false x m e))

-- `over` gathers by how much each number of ls is above that of cs: place i is tested
pub at_most_gathered : (i over : ℕ) (ls cs : List ℕ) → i < length ls → i < length cs
    → (leb (bit_or over (get_or ls i 0 - get_or cs i 0)) 0 && at_most (drop (i + 1) ls) (drop (i + 1) cs)) ≡ (leb over 0 && at_most (drop i ls) (drop i cs))
at_most_gathered i over ls cs l c =
    gather over (get_or ls i 0 - get_or cs i 0) (excess_test (get_or ls i 0) (get_or cs i 0)) _ ∙ ap (λ (b : Bool). leb over 0 && b) (sym (at_most_step i ls cs l c))

-- ---- numbers up to m

-- the same of each number against m
pub all_gathered : (i over m : ℕ) (xs : List ℕ) → i < length xs
    → (leb (bit_or over (get_or xs i 0 - m)) 0 && all_at_most m (drop (i + 1) xs)) ≡ (leb over 0 && all_at_most m (drop i xs))
unfolding all_at_most
all_gathered i over m xs l = rw (drop_up xs i l) (gather over (get_or xs i 0 - m) (excess_test (get_or xs i 0) m) _)

pub all_at : (m : ℕ) (xs : List ℕ) → all_at_most m xs ≡ true → (i : ℕ) → get_or xs i 0 ≤ m
unfolding all_at_most
all_at m [] e i = omega arith
all_at m (x ∷ xs) e zero = leb-true x m (both (leb x m) (all_at_most m xs) e).0
all_at m (x ∷ xs) e (suc i) = all_at m xs (both (leb x m) (all_at_most m xs) e).1 i

pub all_below : {xs ys : List ℕ} (m : ℕ) → AtMost xs ys → all_at_most m ys ≡ true → all_at_most m xs ≡ true
unfolding all_at_most
all_below m empty e = refl
all_below m (more {y = y} {ys = ys} h p) e =
    let t = both (leb y m) (all_at_most m ys) e in
    rw (le-leb _ m (le_trans h (leb-true y m t.0))) (all_below m p t.1)

-- a greater limit
pub all_under : (m k : ℕ) (xs : List ℕ) → m ≤ k → all_at_most m xs ≡ true → all_at_most k xs ≡ true
unfolding all_at_most
all_under m k [] h e = refl
all_under m k (x ∷ xs) h e =
    let t = both (leb x m) (all_at_most m xs) e in
    rw (le-leb x k (le_trans (leb-true x m t.0) h)) (all_under m k xs h t.1)

all_drop : (m k : ℕ) (xs : List ℕ) → all_at_most m xs ≡ true → all_at_most m (drop k xs) ≡ true
unfolding all_at_most
all_drop m zero xs e = e
all_drop m (suc k) [] e = e
all_drop m (suc k) (x ∷ xs) e = all_drop m k xs (both (leb x m) (all_at_most m xs) e).1

all_both : (m : ℕ) (xs ys : List ℕ) → all_at_most m xs ≡ true → all_at_most m ys ≡ true → all_at_most m (xs ++ ys) ≡ true
unfolding all_at_most
all_both m [] ys p q = q
all_both m (x ∷ xs) ys p q =
    let t = both (leb x m) (all_at_most m xs) p in
    rw t.0 (all_both m xs ys t.1 q)

pub all_take : (m k : ℕ) (xs : List ℕ) → all_at_most m xs ≡ true → all_at_most m (take k xs) ≡ true
unfolding all_at_most
all_take m zero xs e = refl
all_take m (suc k) [] e = refl
all_take m (suc k) (x ∷ xs) e =
    let t = both (leb x m) (all_at_most m xs) e in
    rw t.0 (all_take m k xs t.1)

-- one number over and over
same_low : (m k v : ℕ) → v ≤ m → all_at_most m (replicate k v) ≡ true
unfolding all_at_most
same_low m zero v h = refl
same_low m (suc k) v h = rw (le-leb v m h) (same_low m k v h)

-- no number above 0: zeros
zeros_only : (xs : List ℕ) → all_at_most 0 xs ≡ true → xs ≡ replicate (length xs) 0
unfolding all_at_most
zeros_only [] e = refl
zeros_only (x ∷ xs) e =
    let t = both (leb x 0) (all_at_most 0 xs) e in
    let z : x ≡ 0 = omega (arith, leb-true x 0 t.0) in
    ap₂ ◌∷◌ z (zeros_only xs t.1)

-- ---- rows, place by place

-- the limit of place i of a row: m up to n places, and 0 beyond
abbrev pub limit : ℕ → ℕ → ℕ → ℕ
limit m n i = cond (ltb i n) m 0

regroup : (p q r s : Bool) → ((p && q) && (r && s)) ≡ ((p && r) && (q && s))
regroup false q r s = refl
regroup true q true s = refl
regroup true true false s = refl
regroup true false false s = refl

first_in : (m k x : ℕ) (xs : List ℕ) → is_row m (suc k) (x ∷ xs) ≡ (leb x m && is_row m k xs)
unfolding is_row all_at_most
first_in m k x xs = regroup (leb x m) (all_at_most m xs) true (all_at_most 0 (drop k xs)) ∙ rw (and-true (leb x m))

first_past : (m x : ℕ) (xs : List ℕ) → is_row m 0 (x ∷ xs) ≡ (leb x 0 && is_row m 0 xs)
unfolding is_row all_at_most
first_past m x xs = regroup (leb x m) (all_at_most m xs) (leb x 0) (all_at_most 0 xs) ∙ ap (λ (b : Bool). b && is_row m 0 xs) (least (leb x 0) refl)
  where
    least : (b : Bool) → leb x 0 ≡ b → (leb x m && b) ≡ b
    least true e = rw (le-leb x m (omega (arith, leb-true x 0 e)))
    least false e = and-false (leb x m)

pub row_step : (m n i : ℕ) (xs : List ℕ) → i < length xs → is_row m (n - i) (drop i xs) ≡ (leb (get_or xs i 0) (limit m n i) && is_row m (n - (i + 1)) (drop (i + 1) xs))
row_step m n i xs inside =
    ⊎_elim
    (λ t. let e : n - i ≡ suc (n - (i + 1)) = omega arith in rw (t.1, drop_up xs i inside, e) (first_in m _ _ _))
    (λ t.
    let e : n - i ≡ 0 = omega arith in
    let f : n - (i + 1) ≡ 0 = omega arith in
    rw (t.1, drop_up xs i inside, e, f) (first_past m _ _))
    (lt_cases i n)

-- and where no place is left
pub row_ends : (b : Bool) (m n i : ℕ) (xs : List ℕ) → length xs ≤ i → (b && is_row m n (drop i xs)) ≡ b
unfolding is_row all_at_most
row_ends b m n i xs l = rw (drop_of_length-le xs {i = i} l, drop_of_length-le {A = ℕ} [] {i = n} (omega arith), and-true b)

-- the places from i on of both rows
abbrev pub rows_from : ℕ → ℕ → ℕ → List ℕ → List ℕ → Bool
rows_from m n i ls cs = is_row m (n - i) (drop i ls) && is_row m (n - i) (drop i cs)

pub rows_step : (k m n i : ℕ) (ls cs : List ℕ) → m + 1 ≡ 2 ^ k → i < length ls → i < length cs
    → rows_from m n i ls cs ≡ (leb (bit_or (get_or ls i 0) (get_or cs i 0)) (limit m n i) && rows_from m n (i + 1) ls cs)
rows_step k m n i ls cs e l c =
    ap₂ ◌&&◌ (row_step m n i ls l) (row_step m n i cs c)
    ∙ regroup (leb x (limit m n i)) (is_row m (n - (i + 1)) (drop (i + 1) ls)) (leb y (limit m n i)) (is_row m (n - (i + 1)) (drop (i + 1) cs))
    ∙ ap (λ (b : Bool). b && rows_from m n (i + 1) ls cs) (sym (together (ltb i n)))
  where
    x : ℕ
    x = get_or ls i 0

    y : ℕ
    y = get_or cs i 0

    together : (b : Bool) → leb (bit_or x y) (cond b m 0) ≡ (leb x (cond b m 0) && leb y (cond b m 0))
    together true = or_at_most k m x y e
    together false = or_at_most 0 0 x y refl

-- ---- the bits that must be 0, from place 12 - n on: the highest four of sixteen up to n places, and all beyond

abbrev pub spares : List ℕ
spares = replicate 12 61440 ++ replicate 12 65535

-- `over` gathers them: place i is tested
pub rows_gathered : (n i over : ℕ) (ls cs : List ℕ) → n ≤ 12 → i < 12 → i < length ls → i < length cs → bit_or (get_or ls i 0) (get_or cs i 0) < 65536
    → (leb (bit_or over (bit_and (bit_or (get_or ls i 0) (get_or cs i 0)) (get_or spares (12 - n + i) 0))) 0 && rows_from 4095 n (i + 1) ls cs) ≡ (leb over 0 && rows_from 4095 n i ls cs)
rows_gathered n i over ls cs l h in_ls in_cs small =
    ⊎_elim
    (λ t. gather over _ (high_zero 4 12 both (row_at 61440 65535 n i l h ∙ rw t.1) small) _ ∙ ap (λ (b : Bool). leb over 0 && b) (sym (step ∙ rw t.1)))
    (λ t. gather over _ (high_zero 16 0 both (row_at 61440 65535 n i l h ∙ rw t.1) small) _ ∙ ap (λ (b : Bool). leb over 0 && b) (sym (step ∙ rw t.1)))
    (lt_cases i n)
  where
    both : ℕ
    both = bit_or (get_or ls i 0) (get_or cs i 0)

    step : rows_from 4095 n i ls cs ≡ (leb both (limit 4095 n i) && rows_from 4095 n (i + 1) ls cs)
    step = rows_step 12 4095 n i ls cs refl in_ls in_cs

-- ---- rows

pub row_true : (m n : ℕ) (xs : List ℕ) → is_row m n xs ≡ true → all_at_most m xs ≡ true
unfolding is_row
row_true m n xs e = (both (all_at_most m xs) (all_at_most 0 (drop n xs)) e).0

drop_below : {xs ys : List ℕ} (k : ℕ) → AtMost xs ys → AtMost (drop k xs) (drop k ys)
drop_below zero p = p
drop_below (suc k) empty = empty
drop_below (suc k) (more h p) = drop_below k p

-- a row that is nowhere above a good row is good
pub row_below : {xs ys : List ℕ} (m n : ℕ) → AtMost xs ys → is_row m n ys ≡ true → is_row m n xs ≡ true
unfolding is_row
row_below {xs} {ys} m n p e =
    let t = both (all_at_most m ys) (all_at_most 0 (drop n ys)) e in
    rw (all_below m p t.0) (all_below 0 (drop_below n p) t.1)

zeros_low : (m k : ℕ) → all_at_most m (replicate k 0) ≡ true
zeros_low m k = same_low m k 0 (omega arith)

pub zeros_row : (m n k : ℕ) → is_row m n (replicate k 0) ≡ true
unfolding is_row
zeros_row m n k = rw (zeros_low m k, all_drop 0 n (replicate k 0) (zeros_low 0 k)) refl

-- n numbers up to m, and zeros after them
pub padded_row : (m n k : ℕ) (xs : List ℕ) → all_at_most m xs ≡ true → length xs ≡ n → is_row m n (xs ++ replicate k 0) ≡ true
unfolding is_row
padded_row m n k xs e long =
    let clear : List ℕ = replicate k 0 in
    rw (all_both m xs clear e (zeros_low m k), drop_at xs clear n long) (zeros_low 0 k)

-- m in each of n places
pub full_row : (m n : ℕ) → is_row m n (replicate n m ++ replicate (12 - n) 0) ≡ true
full_row m n = padded_row m n (12 - n) (replicate n m) (same_low m n m (le_refl m)) (length-replicate n m)

-- past n places a row has zeros
pub row_zeros : (m n : ℕ) (xs : List ℕ) → is_row m n xs ≡ true → drop n xs ≡ replicate (length xs - n) 0
unfolding is_row
row_zeros m n xs e = rw (length-drop n xs) at (zeros_only (drop n xs) (both (all_at_most m xs) (all_at_most 0 (drop n xs)) e).1)

-- levels up to 4,095 have risen by no more than that in each place
pub rises_most : (xs ys : List ℕ) → all_at_most 4095 ys ≡ true → rises xs ys ≤ 4095 * length xs
unfolding rises all_at_most
rises_most [] ys h = omega arith
rises_most (x ∷ xs) [] h = omega arith
rises_most (x ∷ xs) (y ∷ ys) h =
    let t = both (leb y 4095) (all_at_most 4095 ys) h in
    omega (arith, leb-true y 4095 t.0, rises_most xs ys t.1)
