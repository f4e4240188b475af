-- The loops over a page's groups: what holds before each turn, that a turn keeps it, and what the answer is at its end or at a refusal.
-- Assumes nothing.
use Prim.Native.Nat.{ℕ, zero, suc, ◌+◌, ◌-◌, ◌≤◌, ◌<◌}
use native.Mathlib.Omega.{arith}
use native.Mathlib.Numerals.{add-one}
use mathlib.Core.Path.{◌≡◌, refl, sym, ap, ◌∙◌}
use mathlib.Core.Bool.{Bool, true, false}
use mathlib.Core.List.{List, [], ◌∷◌}
use lib.Dec.{leb, eqb}
use lib.ListN.{length, get_or, set, take, replicate}
use lib.Seq.{get_or-take}
use borrow.Author.Tests.{leb-true, le-leb}
use Rattle.std.specs.List.{list_all}
use Rattle.std.proofs.lemmas.List.Folds.{list_all_more}
use Rattle.order.specs.declared.Refusal.{Refusal}
use Rattle.order.specs.declared.Refusal.TheVariants.{NoPage}
use Rattle.order.specs.Refusals.{refusal_number, Told}
use Rattle.order.proofs.Cells.{both}
use Rattle.order.proofs.Refusals.{not-zero}
use Rattle.code.specs.Symbols.{Reading, no_reading}
use Rattle.group.specs.declared.Group.{Group}
use Rattle.group.specs.Record.{no_group}
use Rattle.engine.specs.ReadStore.{read_of}
use Rattle.page.specs.declared.Page.{Page}
use Rattle.page.specs.Groups.{all_of, put_each, first_refusing}
use Rattle.page.specs.Pages.{group_at, like_first, is_page, page_answer, number_read, symbol_read, symbols_of, unread, read_page_of}
use Rattle.page.proofs.Groups.{none_next, first_at}

-- ---- elements

-- within a list it does not matter what stands past it
get_d_any : {A : Type 0} (xs : List A) (k : ℕ) (d e : A) → k < length xs → get_or xs k d ≡ get_or xs k e
get_d_any [] k d e l = absurd (omega arith)
get_d_any (x ∷ xs) zero d e l = refl
get_d_any (x ∷ xs) (suc k) d e l = get_d_any xs k d e (omega arith)

pub back_one : (k : ℕ) → suc k - 1 ≡ k
back_one k = omega arith

pub group_at_lem : (p : Page) (k : ℕ) (d : Group) → k < length p.groups → get_or p.groups k d ≡ group_at p (suc k)
group_at_lem p k d l = rw (back_one k) (get_d_any p.groups k d _ l)

-- ---- the answer to a page call

module _ {A : Type 0} (b : Bool) (n : ℕ) (number : ℕ → ℕ) (result : A) (zeros : ℕ → A) where
  pub page_not : b ≡ false → record { number = refusal_number NoPage; value = zeros 0 } ≡ page_answer b n number result zeros
  unfolding page_answer
  page_not e = rw e

  module _ (e : b ≡ true) where
    pub page_done : first_refusing n number ≡ 0 → record { number = 0; value = result } ≡ page_answer b n number result zeros
    unfolding page_answer
    page_done z = rw (e, z)

    -- no group before it refuses, and this one does
    pub page_refused : (k : ℕ) → k < n → first_refusing k number ≡ 0 → (number (suc k) ≡ 0 → ⊥)
        → record { number = number (suc k); value = zeros (suc k) } ≡ page_answer b n number result zeros
    unfolding page_answer
    page_refused k l z r = rw (e, first_at number n k l z r)

-- ---- whether a record is a page

-- the groups are tested in a row
like_all : (p : Page) (k : ℕ) → k ≤ length p.groups → list_all (λ (g : Group). eqb g.n (group_at p 1).n) (take k p.groups) ≡ all_of k (like_first p)
unfolding all_of like_first
like_all p zero l = refl
like_all p (suc k) l =
    let within : k < length p.groups = omega arith in
    ap (λ (j : ℕ). list_all (λ (g : Group). eqb g.n (group_at p 1).n) (take j p.groups)) (sym (add-one k))
    ∙ list_all_more (λ (g : Group). eqb g.n (group_at p 1).n) p.groups k no_group within
    ∙ rw (like_all p k (omega arith), group_at_lem p k no_group within)

pub page_like : (p : Page) (d : Group) → length p.groups ≡ 8 → 1 ≤ p.count → p.count ≤ 8
    → list_all (λ (g : Group). eqb g.n (get_or p.groups 0 d).n) (take p.count p.groups) ≡ is_page p
unfolding is_page
page_like p d w l m =
    rw (group_at_lem p 0 d (omega (arith, w)), le-leb 1 p.count l, le-leb p.count 8 m) (like_all p p.count (omega (arith, w)))

pub page_most : (p : Page) → is_page p ≡ true → p.count ≤ 8
unfolding is_page
page_most p e = leb-true p.count 8 (both (leb p.count 8) _ (both (leb 1 p.count) _ e).1).0

-- ---- page read

-- the first k groups are read, and none of them refused
pub record ReadTo (p : Page) (symbols : List ℕ) (k : ℕ) : Type 0 where
  pub is_page_lem : is_page p ≡ true
  pub long : length p.groups ≡ 8
  pub most : p.count ≤ 8
  pub within : k ≤ p.count
  pub none : first_refusing k (number_read p) ≡ 0
  pub held : symbols ≡ put_each k (symbol_read p) (replicate 8 0)

pub read_start : {p : Page} → length p.groups ≡ 8 → is_page p ≡ true → ReadTo p (replicate 8 0) 0
unfolding first_refusing put_each
read_start {p} w e = record { is_page_lem = e; long = w; most = page_most p e; within = omega arith; none = refl; held = refl }

module _ {p : Page} {symbols : List ℕ} {k : ℕ} (h : ReadTo p symbols k) where
  module _ (l : k < p.count) (d : Group) where
    -- the group that is read next
    read_same : read_of (get_or (take p.count p.groups) k d) ≡ read_of (group_at p (suc k))
    read_same =
        let within : k < length p.groups = omega (arith, h.long, h.most) in
        ap read_of (get_or-take p.count p.groups k d l ∙ group_at_lem p k d within)

    pub read_more : {a : Reading} → record { number = 0; value = a } ≡ read_of (get_or (take p.count p.groups) k d) → ReadTo p (set symbols k a.symbol) (k + 1)
    unfolding put_each number_read symbol_read
    read_more {a} e =
        let read : record { number = 0; value = a } ≡ read_of (group_at p (suc k)) = e ∙ read_same in
        let number : number_read p (suc k) ≡ 0 = sym (ap (λ (t : Told Reading). t.number) read) in
        let symbol : a.symbol ≡ (read_of (group_at p (suc k))).value.symbol = ap (λ (t : Told Reading). t.value.symbol) read in
        record {
          is_page_lem = h.is_page_lem;
          long = h.long;
          most = h.most;
          within = omega arith;
          none = rw (add-one k) (none_next (number_read p) k h.none number);
          held = rw (add-one k, h.held, symbol);
        }

    pub read_refused_at : (r : Refusal) → record { number = refusal_number r; value = no_reading } ≡ read_of (get_or (take p.count p.groups) k d) → (named : ℕ) → named ≡ k + 1
        → record { number = refusal_number r; value = unread named } ≡ read_page_of p
    unfolding read_page_of number_read
    read_refused_at r e named one =
        let number : number_read p (suc k) ≡ refusal_number r = ap (λ (t : Told Reading). t.number) (sym (e ∙ read_same)) in
        rw (← number, one, add-one k)
        (page_refused (is_page p) p.count (number_read p) (symbols_of p) unread h.is_page_lem k l h.none (λ z. not-zero r (sym number ∙ z)))

  pub read_end : p.count ≤ k → record { number = 0; value = record { group = 0; count = p.count; symbols = symbols } } ≡ read_page_of p
  unfolding read_page_of
  read_end m =
      let e : k ≡ p.count = omega (arith, h.within) in
      rw (h.held, e) (page_done (is_page p) p.count (number_read p) (symbols_of p) unread h.is_page_lem (rw e at h.none))

pub read_not : (p : Page) → is_page p ≡ false → record { number = refusal_number NoPage; value = unread 0 } ≡ read_page_of p
unfolding read_page_of
read_not p e = page_not (is_page p) p.count (number_read p) (symbols_of p) unread e
