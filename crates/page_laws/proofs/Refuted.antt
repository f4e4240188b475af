-- Wrong page stores that fail the claim. Each is caught on a page of two groups of three cells, neither of them written: one in which symbol 1 is
-- refused as worn, and a new one; the one that takes different n on a page of three cells and four; those that mistake the endurance where symbol 1 is refused
-- as spent by the second group.
-- Assumes nothing.
use Prim.Native.Nat.{ℕ, zero, suc, ◌+◌, ◌-◌, ◌<◌}
use mathlib.Core.Path.{◌≡◌, refl, ap}
use mathlib.Core.Logic.{◌≢◌}
use mathlib.Core.Bool.{true, cond}
use mathlib.Core.List.{List, [], ◌∷◌}
use native.Mathlib.Omega.{arith}
use lib.Dec.{eqb, ltb}
use lib.ListN.{take, replicate}
use Rattle.order.specs.Refusals as refusals
use Rattle.order.specs.Refusals.{if_done, number_of}
use Rattle.coordinates.specs.Coordinates.{weight, order_from}
use Rattle.decoder.specs.Decoding.{leaves}
use Rattle.code.specs.Words.{joined, select, vectors_from, vectors, words, K, word_at}
use Rattle.code.specs.Symbols.{word_of}
use Rattle.group.specs.declared.Group.{Group}
use Rattle.group.specs.Levels.{level, put, at_most, tallied}
use Rattle.group.specs.Record.{all_at_most, is_row, IsGroup, with_used}
use Rattle.push_up.specs.PushUp.{singles, top, floor_over, lift, raise, push_of, rank_pushes, pushes, pulses_in}
use Rattle.push_up.specs.WriteAnswer.{raised, fits, lasts, pushed}
use Rattle.engine.specs.ReadStore.{store_of}
use Rattle.plain_machine.specs.Machine.{apply_of}
use Rattle.rivals.specs.Rivals.{after, pulses_of}
use Rattle.page.specs.declared.Page.{Page}
use Rattle.page.specs.Groups.{total, all_of, put_each, first_refusing}
use Rattle.page.specs.Pages.{group_at, like_first, is_page, page_answer}
use Rattle.page_store.specs.StoreAnswer.{symbol_at, takes, number_stored, group_stored, pulses_stored, all_stored, none_stored, store_page_of}
use Rattle.page_laws.specs.PageLists.{PageCall, store_page, PageMachine, among, stands, HoldsGroups, page_step, page_pulses, own_call, after_calls, pulses_of_calls, calls_of, PageDemand3, MeetsPageDemand3}
use Rattle.page_laws.proofs.Groups.{of_among}
use Rattle.page_laws.proofs.Bench.{page, blank, low, used_up, four}

-- ---- pages of two groups

new_group : IsGroup blank
unfolding number_of is_row all_at_most
new_group = record { passes = refl; levels = refl; caps = refl; used = refl }

low_group : IsGroup low
unfolding number_of is_row all_at_most
low_group = record { passes = refl; levels = refl; caps = refl; used = refl }

used_up_group : IsGroup used_up
unfolding number_of is_row all_at_most
used_up_group = record { passes = refl; levels = refl; caps = refl; used = refl }

of_two : (P : ℕ → Type 0) → P 1 → P 2 → (k : ℕ) → among 2 k ≡ true → P k
of_two P a b = of_among 2 P by
  where
    by : (i : ℕ) → i < 2 → P (suc i)
    by zero l = a
    by (suc zero) l = b
    by (suc (suc i)) l = absurd (omega arith)

four_group : IsGroup four
unfolding number_of is_row all_at_most
four_group = record { passes = refl; levels = refl; caps = refl; used = refl }

module _ (g h : Group) where
  abbrev two : Page
  two = page (g ∷ h ∷ [])

  two_held : IsGroup g → IsGroup h → HoldsGroups two
  two_held a b = of_two (λ k. IsGroup (group_at two k)) a b

abbrev first_low : Page
first_low = two low blank

abbrev last_low : Page
last_low = two blank low

abbrev last_used_up : Page
last_used_up = two blank used_up

module _ (store : PageMachine) where
  -- one list of calls on one of these pages is enough
  first_fails : (cs : List PageCall) → ¬ (PageDemand3 store first_low cs) → ¬ (MeetsPageDemand3 store)
  first_fails cs fault meets = fault (meets first_low (two_held low blank low_group new_group) cs)

  last_fails : (cs : List PageCall) → ¬ (PageDemand3 store last_low cs) → ¬ (MeetsPageDemand3 store)
  last_fails cs fault meets = fault (meets last_low (two_held blank low new_group low_group) cs)

  -- where the second group is spent and no group before it refuses, its number is told
  spent_fails : (store last_used_up (1 ∷ 1 ∷ [])).number ≢ 19 → ¬ (MeetsPageDemand3 store)
  unfolding after_calls refusals.answer number_of level put at_most tallied all_at_most is_row singles top floor_over lift raise push_of rank_pushes pushes pulses_in raised fits lasts pushed store_of word_of order_from K word_at words vectors vectors_from joined select leaves weight total all_of put_each first_refusing like_first is_page takes page_answer number_stored group_stored pulses_stored store_page_of
  spent_fails fault meets =
      fault
      ((meets last_used_up (two_held blank used_up new_group used_up_group) []).first_refuses (1 ∷ 1 ∷ []) 2 refl refl (λ e. omega arith)
      (of_among 1 (λ j. number_stored last_used_up (1 ∷ 1 ∷ []) j ≡ 0) by)).0
    where
      by : (i : ℕ) → i < 1 → number_stored last_used_up (1 ∷ 1 ∷ []) (suc i) ≡ 0
      by zero l = refl
      by (suc i) l = absurd (omega arith)

-- ---- such page stores

-- one that says worn to everything, and blames group 1
pub quitter : PageMachine
quitter p ss = record { number = 8; value = none_stored p 1 }

pub quitter_refuted : ¬ (MeetsPageDemand3 quitter)
unfolding quitter after_calls refusals.answer number_of level put at_most tallied all_at_most is_row singles top floor_over lift raise push_of rank_pushes pushes pulses_in raised fits lasts pushed store_of word_of order_from K word_at words vectors vectors_from joined select leaves weight total all_of put_each first_refusing like_first is_page takes page_answer number_stored group_stored pulses_stored store_page_of
quitter_refuted =
    last_fails quitter []
    (λ d. let e : ◌≡◌ {A = ℕ} 8 0 = (d.accepted (0 ∷ 0 ∷ [])).1 (refl, of_two (λ k. number_stored last_low (0 ∷ 0 ∷ []) k ≡ 0) refl refl) in omega arith)

-- one that keeps what it stored before a group refuses
pub half_way : PageMachine
half_way p ss =
    let t = store_page_of p ss in
    let k = t.value.group in
    record {
      number = t.number;
      value =
          record {
            group = k;
            page = if_done k t.value.page (record { count = p.count; groups = put_each (k - 1) (group_stored p ss) p.groups });
            pulses = t.value.pulses;
          };
    }

pub half_way_refuted : ¬ (MeetsPageDemand3 half_way)
unfolding half_way after_calls refusals.answer number_of level put at_most tallied all_at_most is_row singles top floor_over lift raise push_of rank_pushes pushes pulses_in raised fits lasts pushed store_of word_of order_from K word_at words vectors vectors_from joined select leaves weight total all_of put_each first_refusing like_first is_page takes page_answer number_stored group_stored pulses_stored store_page_of
half_way_refuted =
    last_fails half_way []
    (λ d.
    let same = (d.refused (1 ∷ 1 ∷ []) (λ e. omega arith)).0 in
    let e : ◌≡◌ {A = ℕ} 2 0 = ap (λ (p : Page). level (group_at p 1).levels 3) same in
    omega arith)

-- one that asks in all groups whether there is such a symbol before it stores in any, as a row of checks over the whole page would
pub row_first : PageMachine
row_first p ss =
    let k = first_refusing p.count (λ j. cond (ltb (symbol_at ss j) (K (group_at p j).n)) 0 5) in
    if_done k (store_page_of p ss) (record { number = 5; value = none_stored p k })

pub row_first_refuted : ¬ (MeetsPageDemand3 row_first)
unfolding row_first after_calls refusals.answer number_of level put at_most tallied all_at_most is_row singles top floor_over lift raise push_of rank_pushes pushes pulses_in raised fits lasts pushed store_of word_of order_from K word_at words vectors vectors_from joined select leaves weight total all_of put_each first_refusing like_first is_page takes page_answer number_stored group_stored pulses_stored store_page_of
row_first_refuted =
    first_fails row_first []
    (λ d.
    let t = d.first_refuses (1 ∷ 2 ∷ []) 1 refl refl (λ e. omega arith) (of_among 0 (λ j. number_stored first_low (1 ∷ 2 ∷ []) j ≡ 0) (λ i l. absurd (omega arith))) in
    let e : ◌≡◌ {A = ℕ} 5 8 = t.0 in
    omega arith)

-- one that counts the pulses of the last group alone
pub last_counted : PageMachine
last_counted p ss =
    let t = store_page_of p ss in
    record { number = t.number; value = record { group = t.value.group; page = t.value.page; pulses = if_done t.number (pulses_stored p ss p.count) 0 } }

pub last_counted_refuted : ¬ (MeetsPageDemand3 last_counted)
unfolding last_counted after_calls refusals.answer number_of level put at_most tallied all_at_most is_row singles top floor_over lift raise push_of rank_pushes pushes pulses_in raised fits lasts pushed store_of word_of order_from K word_at words vectors vectors_from joined select leaves weight total all_of put_each first_refusing like_first is_page takes page_answer number_stored group_stored pulses_stored store_page_of apply_of after pulses_of stands page_step page_pulses own_call pulses_of_calls calls_of
last_counted_refuted =
    last_fails last_counted (store_page (0 ∷ 0 ∷ []) ∷ []) (λ d. let e : ◌≡◌ {A = ℕ} 3 6 = d.pulses in omega arith)

-- one that stores in the first group alone
pub first_alone : PageMachine
first_alone p ss =
    let t = store_page_of p ss in
    record {
      number = t.number;
      value = record { group = t.value.group; page = if_done t.number (record { count = p.count; groups = put_each 1 (group_stored p ss) p.groups }) p; pulses = t.value.pulses };
    }

pub first_alone_refuted : ¬ (MeetsPageDemand3 first_alone)
unfolding first_alone after_calls refusals.answer number_of level put at_most tallied all_at_most is_row singles top floor_over lift raise push_of rank_pushes pushes pulses_in raised fits lasts pushed store_of word_of order_from K word_at words vectors vectors_from joined select leaves weight total all_of put_each first_refusing like_first is_page takes page_answer number_stored group_stored pulses_stored store_page_of apply_of after stands page_step own_call calls_of
first_alone_refuted =
    last_fails first_alone (store_page (0 ∷ 0 ∷ []) ∷ [])
    (λ d. let e : ◌≡◌ {A = ℕ} 0 2 = ap (λ (g : Group). level g.levels 1) (d.groups 2 refl) in omega arith)

-- one that loses the last group
pub loser : PageMachine
loser p ss =
    let t = store_page_of p ss in
    let q = t.value.page in
    record { number = t.number; value = record { group = t.value.group; page = record { count = if_done t.number (q.count - 1) q.count; groups = q.groups }; pulses = t.value.pulses } }

pub loser_refuted : ¬ (MeetsPageDemand3 loser)
unfolding loser page_step after_calls refusals.answer number_of level put at_most tallied all_at_most is_row singles top floor_over lift raise push_of rank_pushes pushes pulses_in raised fits lasts pushed store_of word_of order_from K word_at words vectors vectors_from joined select leaves weight total all_of put_each first_refusing like_first is_page takes page_answer number_stored group_stored pulses_stored store_page_of
loser_refuted = last_fails loser (store_page (0 ∷ 0 ∷ []) ∷ []) (λ d. let e : ◌≡◌ {A = ℕ} 1 2 = d.as_many in omega arith)

-- one that takes more symbols than there are groups
pub lavish : PageMachine
lavish p ss = store_page_of p (take p.count ss)

pub lavish_refuted : ¬ (MeetsPageDemand3 lavish)
unfolding lavish after_calls refusals.answer number_of level put at_most tallied all_at_most is_row singles top floor_over lift raise push_of rank_pushes pushes pulses_in raised fits lasts pushed store_of word_of order_from K word_at words vectors vectors_from joined select leaves weight total all_of put_each first_refusing like_first is_page takes page_answer number_stored group_stored pulses_stored store_page_of
lavish_refuted = last_fails lavish [] (λ d. let e : ◌≡◌ {A = ℕ} 0 16 = (d.no_page (0 ∷ 0 ∷ 0 ∷ []) refl).0 in omega arith)

-- one that takes groups of different n
pub mixer : PageMachine
mixer p ss = if_done (first_refusing p.count (number_stored p ss)) (record { number = 0; value = all_stored p ss }) (store_page_of p ss)

pub mixer_refuted : ¬ (MeetsPageDemand3 mixer)
unfolding mixer after_calls refusals.answer number_of level put at_most tallied all_at_most is_row singles top floor_over lift raise push_of rank_pushes pushes pulses_in raised fits lasts pushed store_of word_of order_from K word_at words vectors vectors_from joined select leaves weight total all_of put_each first_refusing like_first is_page takes page_answer number_stored group_stored pulses_stored store_page_of
mixer_refuted meets =
    let d = meets (two blank four) (two_held blank four new_group four_group) [] in
    let e : ◌≡◌ {A = ℕ} 0 16 = (d.no_page (0 ∷ 0 ∷ []) refl).0 in
    omega arith

-- one that names the group after the first that refuses
pub misnamer : PageMachine
misnamer p ss = let t = store_page_of p ss in record { number = t.number; value = none_stored t.value.page (t.value.group + 1) }

pub misnamer_refuted : ¬ (MeetsPageDemand3 misnamer)
unfolding misnamer after_calls refusals.answer number_of level put at_most tallied all_at_most is_row singles top floor_over lift raise push_of rank_pushes pushes pulses_in raised fits lasts pushed store_of word_of order_from K word_at words vectors vectors_from joined select leaves weight total all_of put_each first_refusing like_first is_page takes page_answer number_stored group_stored pulses_stored store_page_of
misnamer_refuted =
    first_fails misnamer []
    (λ d.
    let t = d.first_refuses (1 ∷ 1 ∷ []) 1 refl refl (λ e. omega arith) (of_among 0 (λ j. number_stored first_low (1 ∷ 1 ∷ []) j ≡ 0) (λ i l. absurd (omega arith))) in
    let e : ◌≡◌ {A = ℕ} 2 1 = t.1 in
    omega arith)

-- one that counts pulses where it is refused
pub spender : PageMachine
spender p ss =
    let t = store_page_of p ss in
    record { number = t.number; value = record { group = t.value.group; page = t.value.page; pulses = total p.count (pulses_stored p ss) } }

pub spender_refuted : ¬ (MeetsPageDemand3 spender)
unfolding spender after_calls refusals.answer number_of level put at_most tallied all_at_most is_row singles top floor_over lift raise push_of rank_pushes pushes pulses_in raised fits lasts pushed store_of word_of order_from K word_at words vectors vectors_from joined select leaves weight total all_of put_each first_refusing like_first is_page takes page_answer number_stored group_stored pulses_stored store_page_of
spender_refuted = last_fails spender [] (λ d. let e : ◌≡◌ {A = ℕ} 3 0 = (d.refused (1 ∷ 1 ∷ []) (λ e. omega arith)).1 in omega arith)

-- one that stores as if no cell had taken a pulse
pub tireless : PageMachine
tireless p ss =
    store_page_of
    (record { count = p.count; groups = put_each p.count (λ k. with_used (group_at p k) (replicate 12 0)) p.groups })
    ss

pub tireless_refuted : ¬ (MeetsPageDemand3 tireless)
unfolding tireless after_calls refusals.answer number_of level put at_most tallied all_at_most is_row singles top floor_over lift raise push_of rank_pushes pushes pulses_in raised fits lasts pushed store_of word_of order_from K word_at words vectors vectors_from joined select leaves weight total all_of put_each first_refusing like_first is_page takes page_answer number_stored group_stored pulses_stored store_page_of
tireless_refuted = spent_fails tireless (λ e. let z : ◌≡◌ {A = ℕ} 0 19 = e in omega arith)

-- one that says worn where a group is spent
pub wearier : PageMachine
wearier p ss = let t = store_page_of p ss in record { number = cond (eqb t.number 19) 8 t.number; value = t.value }

pub wearier_refuted : ¬ (MeetsPageDemand3 wearier)
unfolding wearier after_calls refusals.answer number_of level put at_most tallied all_at_most is_row singles top floor_over lift raise push_of rank_pushes pushes pulses_in raised fits lasts pushed store_of word_of order_from K word_at words vectors vectors_from joined select leaves weight total all_of put_each first_refusing like_first is_page takes page_answer number_stored group_stored pulses_stored store_page_of
wearier_refuted = spent_fails wearier (λ e. let z : ◌≡◌ {A = ℕ} 8 19 = e in omega arith)
