-- What pages of groups of three and four cells answer, about the definitions of the two calls, and the groups' own lists after some calls, in the records of the
-- table of starred cases (rivals, specs Starred).
-- Assumes nothing.
use Prim.Native.Nat.{ℕ}
use mathlib.Core.Path.{◌≡◌, refl}
use mathlib.Core.Bool.{true, false}
use mathlib.Core.List.{List, [], ◌∷◌}
use lib.ListN.{length}
use Rattle.order.specs.Refusals as refusals
use Rattle.order.specs.Order.{no_order}
use Rattle.coordinates.specs.Coordinates.{coordinate_of, coordinates_to, weight, order_from}
use Rattle.decoder.specs.Decoding.{leaves, is_codeword, first_below, correction}
use Rattle.code.specs.Words.{joined, select, same, index_of, vectors_from, vectors, words, K, word_at, word_number, symbol_of}
use Rattle.code.specs.Symbols.{word_of, reading_at}
use Rattle.group.specs.declared.Group.{Group}
use Rattle.group.specs.Levels.{level, put, at_most, tallied}
use Rattle.group.specs.Record.{all_at_most, is_row, no_group}
use Rattle.changes.specs.Changes.{wear_of, erase_of}
use Rattle.push_up.specs.PushUp.{singles, top, floor_over, lift, raise, push_of, rank_pushes, pushes, pulses_in}
use Rattle.push_up.specs.WriteAnswer.{raised, fits, lasts, pushed}
use Rattle.sensing.specs.Sense.{stands_above, insert, sorted, sensed}
use Rattle.engine.specs.ReadStore.{read_of, store_of}
use Rattle.plain_machine.specs.declared.Kind.TheVariants.{Wear}
use Rattle.sharing.specs.Shared.{plain_target}
use Rattle.plain_machine.specs.declared.Call.{Call}
use Rattle.plain_machine.specs.Machine.{apply_of}
use Rattle.rivals.specs.Starred.{places, cell, capped, group, taken, done, refused}
use Rattle.page.specs.declared.Page.{Page}
use Rattle.page.specs.Groups.{total, all_of, put_each, first_refusing}
use Rattle.page.specs.Pages.{like_first, is_page, page_answer, number_read, symbol_read, ReadSymbols, unread, read_page_of}
use Rattle.page_store.specs.StoreAnswer.{takes, number_stored, group_stored, pulses_stored, none_stored, store_page_of}
use Rattle.page_laws.specs.PageLists.{PageCall, on_group, store_page, read_page, put_group, stands, store_call, page_step, page_pulses, own_call, after_calls, pulses_of_calls, calls_of}
use Rattle.page_laws.proofs.Stuck.{erasing}

abbrev pub page : List Group → Page
page gs = record { count = length gs; groups = places 8 no_group gs }

abbrev pub blank : Group
blank = group false (0 ∷ 0 ∷ 0 ∷ [])

-- cell 3 capped at 1, so that symbol 1 is refused as worn
abbrev pub low : Group
low = capped false (0 ∷ 0 ∷ 0 ∷ []) (4095 ∷ 4095 ∷ 1 ∷ [])

-- cell 3 has taken 999,999 pulses, so that symbol 1 is refused as spent
abbrev pub used_up : Group
used_up = taken (0 ∷ 0 ∷ 999999 ∷ []) blank

-- a level above 4,095: no group
abbrev none : Group
none = group false (4096 ∷ 0 ∷ 0 ∷ [])

-- an order at distance 2 or more from every codeword
abbrev lost : Group
lost = group true (3 ∷ 2 ∷ 1 ∷ 4 ∷ [])

-- what the store of symbol 1, or of symbol 0, makes of an opened group
abbrev one_stored : Group
one_stored = taken (0 ∷ 1 ∷ 2 ∷ []) (group true (0 ∷ 1 ∷ 2 ∷ []))

abbrev zero_stored : Group
zero_stored = taken (2 ∷ 1 ∷ 0 ∷ []) (group true (2 ∷ 1 ∷ 0 ∷ []))

abbrev both : Page
both = page (one_stored ∷ zero_stored ∷ [])

abbrev symbols : List ℕ → ReadSymbols
symbols ss = record { group = 0; count = length ss; symbols = places 8 0 ss }

-- four cells, holding a symbol
abbrev pub four : Group
four = group true (1 ∷ 2 ∷ 3 ∷ 4 ∷ [])

-- nine groups are told of, which no page has
abbrev nine : Page
nine = record { count = 9; groups = places 8 no_group [] }

-- stored in both groups, and read from both
-- refused as worn by the second group, and by the first, though the second is no group; refused 5 by the first, though the second is worn
-- refused as spent by the second group, and by the first, though the second is worn; as worn by the first, though the second is spent
-- read: the second is blank, the second is lost, the first is blank though the second is no group
-- 16: another n in the second; no cells in the second; a symbol too few, and one too many; stored to no group at all, and read from nine
-- no cells in both is 1, group 1
pub pages_answer :
    (store_page_of (page (blank ∷ blank ∷ [])) (1 ∷ 0 ∷ []) ≡ done (record { group = 0; page = both; pulses = 6 }))
    × (read_page_of both ≡ done (symbols (1 ∷ 0 ∷ [])))
    × (store_page_of (page (blank ∷ low ∷ [])) (1 ∷ 1 ∷ []) ≡ refused 8 (none_stored (page (blank ∷ low ∷ [])) 2))
    × (store_page_of (page (low ∷ none ∷ [])) (1 ∷ 1 ∷ []) ≡ refused 8 (none_stored (page (low ∷ none ∷ [])) 1))
    × (store_page_of (page (blank ∷ low ∷ [])) (2 ∷ 1 ∷ []) ≡ refused 5 (none_stored (page (blank ∷ low ∷ [])) 1))
    × (store_page_of (page (blank ∷ used_up ∷ [])) (1 ∷ 1 ∷ []) ≡ refused 19 (none_stored (page (blank ∷ used_up ∷ [])) 2))
    × (store_page_of (page (used_up ∷ low ∷ [])) (1 ∷ 1 ∷ []) ≡ refused 19 (none_stored (page (used_up ∷ low ∷ [])) 1))
    × (store_page_of (page (low ∷ used_up ∷ [])) (1 ∷ 1 ∷ []) ≡ refused 8 (none_stored (page (low ∷ used_up ∷ [])) 1))
    × (read_page_of (page (group true (0 ∷ 1 ∷ 2 ∷ []) ∷ blank ∷ [])) ≡ refused 6 (unread 2))
    × (read_page_of (page (four ∷ lost ∷ [])) ≡ refused 7 (unread 2))
    × (read_page_of (page (blank ∷ none ∷ [])) ≡ refused 6 (unread 1))
    × (store_page_of (page (blank ∷ four ∷ [])) (1 ∷ 1 ∷ []) ≡ refused 16 (none_stored (page (blank ∷ four ∷ [])) 0))
    × (read_page_of (page (blank ∷ no_group ∷ [])) ≡ refused 16 (unread 0))
    × (store_page_of (page (blank ∷ blank ∷ [])) (1 ∷ []) ≡ refused 16 (none_stored (page (blank ∷ blank ∷ [])) 0))
    × (store_page_of (page (blank ∷ blank ∷ [])) (1 ∷ 0 ∷ 0 ∷ []) ≡ refused 16 (none_stored (page (blank ∷ blank ∷ [])) 0))
    × (store_page_of (page []) [] ≡ refused 16 (none_stored (page []) 0))
    × (read_page_of nine ≡ refused 16 (unread 0))
    × (store_page_of (page (no_group ∷ no_group ∷ [])) (1 ∷ 1 ∷ []) ≡ refused 1 (none_stored (page (no_group ∷ no_group ∷ [])) 1))
unfolding refusals.answer refusals.number_of level put at_most tallied all_at_most is_row singles top floor_over lift raise push_of rank_pushes pushes pulses_in raised fits lasts pushed store_of word_of order_from K word_at words vectors vectors_from joined select leaves weight stands_above insert sorted sensed read_of reading_at correction first_below is_codeword symbol_of word_number index_of same coordinates_to coordinate_of total all_of put_each first_refusing like_first is_page takes page_answer number_stored group_stored pulses_stored store_page_of number_read symbol_read read_page_of
pages_answer = (refl, refl, refl, refl, refl, refl, refl, refl, refl, refl, refl, refl, refl, refl, refl, refl, refl, refl)

-- cell 3 of group 2 wears to 1, and of group 3, which the page does not have; then a page store is refused as worn by group 2, one is refused 5 by
-- group 1, a page is read, and a page store goes through: cell 1 of group 2, which had taken 999,998 pulses, comes to the endurance. Group 2 is erased, and a page
-- store is refused as spent by it
abbrev cell_3_wears : Call
cell_3_wears = record { kind = Wear (cell 3) 1; target = plain_target no_order }

abbrev course : List PageCall
course = on_group 2 cell_3_wears ∷ on_group 3 cell_3_wears ∷ store_page (1 ∷ 1 ∷ []) ∷ store_page (2 ∷ 0 ∷ []) ∷ read_page ∷ store_page (1 ∷ 0 ∷ []) ∷ on_group 2 erasing ∷ store_page (1 ∷ 0 ∷ []) ∷ []

abbrev start : Page
start = page (blank ∷ taken (999998 ∷ 0 ∷ 0 ∷ []) blank ∷ [])

pub own_lists :
    (calls_of store_page_of 1 start course ≡ store_call 1 ∷ [])
    × (calls_of store_page_of 2 start course ≡ cell_3_wears ∷ store_call 1 ∷ store_call 0 ∷ erasing ∷ store_call 0 ∷ [])
    × (after_calls store_page_of start course ≡ page (one_stored ∷ taken (1000000 ∷ 1 ∷ 0 ∷ []) low ∷ []))
    × (pulses_of_calls store_page_of start course ≡ 6)
unfolding refusals.answer refusals.number_of level put at_most tallied all_at_most is_row singles top floor_over lift raise push_of rank_pushes pushes pulses_in raised fits lasts pushed wear_of erase_of store_of apply_of word_of order_from K word_at words vectors vectors_from joined select leaves weight total all_of put_each first_refusing like_first is_page takes page_answer number_stored group_stored pulses_stored store_page_of put_group stands page_step page_pulses own_call after_calls pulses_of_calls calls_of
own_lists = (refl, refl, refl, refl)
