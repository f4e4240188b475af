-- Document 01, "Bench orders": the starred cases as one table, case 9 as document 02, request (c), has it. A case is a list of facts; what a
-- fact claims is `IsRight`.
--
--   Fact                a call with its arguments, an order as the list of its cells, and the whole answer; what the documents do not print
--                       is reckoned
--   IsRight f           the definition that the call's contract cites gives that answer
--   EachRight fs        every one of these facts is right
--   places k z xs       the list in k places: z in those after its last
--   cell c              the record of a cell
--   order xs            the record of an order: how many cells, and the cells in twelve places
--   coordinates xs      the record of coordinates: how many, and the coordinates in eleven places
--   displaced ds        displacements in twelve places. `pos k` is the number k, and `negsuc k` is −(k + 1): `negsuc 0` is −1
--   capped w ls cs      the group of these levels and caps, whose cells have taken no pulses, with the endurance 1,000,000; w is its mark "written"
--   group w ls          the same, every cell capped at 4,095
--   taken us g          the group g whose cells have taken these pulses
--   push c start reach  the push of a cell from one level to another
--   program g k ps      what the answer to a write or a store carries: the group after it, k pulses, how many pushes, and the pushes in
--                       eleven places
--   step g s v k ps     what the answer to a scrub carries: the group after it, the symbol, the verdict, pulses and pushes as above
--   done a              the answer with number 0 that carries a
--   refused k z         the answer with number k and the zeros z beside it
--   clean s             the answer to a reading of symbol s that found its codeword
--   mended s k          the answer to a reading of symbol s, put right at place k
--   lost                the answer to a reading refused as lost: symbol 0, no verdict
--   starred             the table: the facts of the cases 1 to 9, in their order, each case under its sentence in the documents
use Rattle.std.specs.Prelude.{ℕ, ◌-◌, ◌≡◌, Bool, true, false, List, [], ◌∷◌, ◌++◌, map, length, replicate, ℤ, pos, negsuc}
use Rattle.std.proofs.Math.Option.{Option, none, some}
use Rattle.order.specs.Refusals.{Told}
use Rattle.order.specs.declared.Cell.{Cell}
use Rattle.order.specs.declared.Order.{Order}
use Rattle.coordinates.specs.declared.Coordinates.{Coordinates}
use Rattle.coordinates.specs.Conversion.{coordinates_of_order}
use Rattle.distance.specs.Distance.{distance_of}
use Rattle.cost.specs.Cost.{displacements_of, cost_of}
use Rattle.code.specs.declared.Verdict.{Verdict}
use Rattle.code.specs.declared.Verdict.TheVariants.{Clean, PutRight}
use Rattle.code.specs.Symbols.{Reading, codeword_of, decode_of}
use Rattle.group.specs.declared.Group.{Group}
use Rattle.group.specs.Record.{with_used}
use Rattle.push_up.specs.declared.Push.{Push}
use Rattle.push_up.specs.WriteAnswer.{Program, write_of}
use Rattle.sensing.specs.Sense.{sense_of}
use Rattle.engine.specs.ReadStore.{read_of, store_of}
use Rattle.engine.specs.Scrub.{Step, scrub_of}

-- ---- records and answers

abbrev pub places : {A : Type 0} → ℕ → A → List A → List A
places k z xs = xs ++ replicate (k - length xs) z

abbrev pub cell : ℕ → Cell
cell c = record { 0 = c }

abbrev pub order : List ℕ → Order
order xs = record { len = length xs; cells = places 12 (cell 0) (map cell xs) }

abbrev pub coordinates : List ℕ → Coordinates
coordinates xs = record { len = length xs; values = places 11 0 xs }

abbrev pub displaced : List ℤ → List ℤ
displaced ds = places 12 (pos 0) ds

abbrev pub capped : Bool → List ℕ → List ℕ → Group
capped w ls cs = record { n = length ls; levels = places 12 0 ls; caps = places 12 0 cs; used = replicate 12 0; endurance = 1000000; written = w }

abbrev pub group : Bool → List ℕ → Group
group w ls = capped w ls (replicate (length ls) 4095)

abbrev pub taken : List ℕ → Group → Group
taken us g = with_used g (places 12 0 us)

abbrev pub push : ℕ → ℕ → ℕ → Push
push c start reach = record { cell = cell c; start = start; reach = reach }

abbrev pub program : Group → ℕ → List Push → Program
program g k ps = record { group = g; pulses = k; count = length ps; pushes = places 11 (push 0 0 0) ps }

abbrev pub step : Group → ℕ → Option Verdict → ℕ → List Push → Step
step g s v k ps = record { group = g; symbol = s; verdict = v; pulses = k; count = length ps; pushes = places 11 (push 0 0 0) ps }

abbrev pub done : {A : Type 0} → A → Told A
done a = record { number = 0; value = a }

abbrev pub refused : {A : Type 0} → ℕ → A → Told A
refused k z = record { number = k; value = z }

abbrev pub clean : ℕ → Told Reading
clean s = done (record { symbol = s; verdict = some Clean })

abbrev pub mended : ℕ → ℕ → Told Reading
mended s k = done (record { symbol = s; verdict = some (PutRight (record { 0 = k })) })

abbrev pub lost : Told Reading
lost = refused 7 (record { symbol = 0; verdict = none })

-- ---- facts

pub data Fact : Type 0 where
  write_gives : Group → List ℕ → Told Program → Fact
  store_gives : Group → ℕ → Told Program → Fact
  sense_gives : Group → Told Order → Fact
  read_gives : Group → Told Reading → Fact
  scrub_gives : Group → Told Step → Fact
  decode_gives : List ℕ → Told Reading → Fact
  codeword_gives : ℕ → ℕ → Told Order → Fact
  coordinates_give : List ℕ → Told Coordinates → Fact
  distance_gives : List ℕ → List ℕ → Told ℕ → Fact
  displacements_give : List ℕ → List ℕ → Told (List ℤ) → Fact
  cost_gives : List ℕ → List ℕ → Told ℤ → Fact

abbrev pub IsRight : Fact → Type 0
IsRight (write_gives g xs t) = write_of g (order xs) ≡ t
IsRight (store_gives g s t) = store_of g s ≡ t
IsRight (sense_gives g t) = sense_of g ≡ t
IsRight (read_gives g t) = read_of g ≡ t
IsRight (scrub_gives g t) = scrub_of g ≡ t
IsRight (decode_gives xs t) = decode_of (order xs) ≡ t
IsRight (codeword_gives n s t) = codeword_of n s ≡ t
IsRight (coordinates_give xs t) = coordinates_of_order (order xs) ≡ t
IsRight (distance_gives u v t) = distance_of (order u) (order v) ≡ t
IsRight (displacements_give u v t) = displacements_of (order u) (order v) ≡ t
IsRight (cost_gives u v t) = cost_of (order u) (order v) ≡ t

abbrev pub EachRight : List Fact → Type 0
EachRight [] = Unit {0}
EachRight (f ∷ fs) = IsRight f × EachRight fs

-- ---- the table

abbrev pub starred : List Fact
starred =
    -- 1. "Levels (3,4,2,1), write [2,1,4,3]: pushes 4 to 3, 1 to 4, 2 to 5; levels (4,5,2,3); 4 pulses; cost 1."
    write_gives (group false (3 ∷ 4 ∷ 2 ∷ 1 ∷ [])) (2 ∷ 1 ∷ 4 ∷ 3 ∷ []) (done (program (taken (1 ∷ 1 ∷ 0 ∷ 2 ∷ []) (group true (4 ∷ 5 ∷ 2 ∷ 3 ∷ []))) 4 (push 4 1 3 ∷ push 1 3 4 ∷ push 2 4 5 ∷ [])))
    ∷ sense_gives (group false (3 ∷ 4 ∷ 2 ∷ 1 ∷ [])) (done (order (2 ∷ 1 ∷ 3 ∷ 4 ∷ [])))
    ∷ cost_gives (2 ∷ 1 ∷ 3 ∷ 4 ∷ []) (2 ∷ 1 ∷ 4 ∷ 3 ∷ []) (done (pos 1))
    -- 2. "Levels (4,3,2,1), same target: pushes 4 to 3, 2 to 5; 4 pulses; displacements +1, −1, +1, −1."
    ∷ write_gives (group false (4 ∷ 3 ∷ 2 ∷ 1 ∷ [])) (2 ∷ 1 ∷ 4 ∷ 3 ∷ []) (done (program (taken (0 ∷ 2 ∷ 0 ∷ 2 ∷ []) (group true (4 ∷ 5 ∷ 2 ∷ 3 ∷ []))) 4 (push 4 1 3 ∷ push 2 3 5 ∷ [])))
    ∷ sense_gives (group false (4 ∷ 3 ∷ 2 ∷ 1 ∷ [])) (done (order (1 ∷ 2 ∷ 3 ∷ 4 ∷ [])))
    ∷ displacements_give (1 ∷ 2 ∷ 3 ∷ 4 ∷ []) (2 ∷ 1 ∷ 4 ∷ 3 ∷ []) (done (displaced (pos 1 ∷ negsuc 0 ∷ pos 1 ∷ negsuc 0 ∷ [])))
    -- 3. "[3,4,1,2] has coordinates (0,2,2), reads as [3,1,4,2], place 2." It shows in levels (2,1,4,3).
    ∷ coordinates_give (3 ∷ 4 ∷ 1 ∷ 2 ∷ []) (done (coordinates (0 ∷ 2 ∷ 2 ∷ [])))
    ∷ decode_gives (3 ∷ 4 ∷ 1 ∷ 2 ∷ []) (mended 1 2)
    ∷ read_gives (group true (2 ∷ 1 ∷ 4 ∷ 3 ∷ [])) (mended 1 2)
    ∷ codeword_gives 4 1 (done (order (3 ∷ 1 ∷ 4 ∷ 2 ∷ [])))
    -- 4. "[2,3,1,4] and [3,4,1,2]: distance 4."
    ∷ distance_gives (2 ∷ 3 ∷ 1 ∷ 4 ∷ []) (3 ∷ 4 ∷ 1 ∷ 2 ∷ []) (done 4)
    -- 5. "n = 4: words 0 to 3 are [1,2,3,4], [3,1,4,2], [2,4,1,3], [4,3,2,1]; symbol 4 is refused 5."
    ∷ codeword_gives 4 0 (done (order (1 ∷ 2 ∷ 3 ∷ 4 ∷ [])))
    ∷ codeword_gives 4 1 (done (order (3 ∷ 1 ∷ 4 ∷ 2 ∷ [])))
    ∷ codeword_gives 4 2 (done (order (2 ∷ 4 ∷ 1 ∷ 3 ∷ [])))
    ∷ codeword_gives 4 3 (done (order (4 ∷ 3 ∷ 2 ∷ 1 ∷ [])))
    ∷ codeword_gives 4 4 (refused 5 (order []))
    ∷ store_gives (group false (0 ∷ 0 ∷ 0 ∷ 0 ∷ [])) 4 (refused 5 (program (group false (0 ∷ 0 ∷ 0 ∷ 0 ∷ [])) 0 []))
    -- 6. "[4,1,2,3] is lost." It shows in levels (3,2,1,4).
    ∷ decode_gives (4 ∷ 1 ∷ 2 ∷ 3 ∷ []) lost
    ∷ read_gives (group true (3 ∷ 2 ∷ 1 ∷ 4 ∷ [])) lost
    -- 7. "[3,2,4,1] is lost, though its coordinates (1,2,1) differ by one from those of word 1." It shows in levels (1,3,4,2).
    ∷ decode_gives (3 ∷ 2 ∷ 4 ∷ 1 ∷ []) lost
    ∷ read_gives (group true (1 ∷ 3 ∷ 4 ∷ 2 ∷ [])) lost
    ∷ coordinates_give (3 ∷ 2 ∷ 4 ∷ 1 ∷ []) (done (coordinates (1 ∷ 2 ∷ 1 ∷ [])))
    ∷ coordinates_give (3 ∷ 1 ∷ 4 ∷ 2 ∷ []) (done (coordinates (0 ∷ 2 ∷ 1 ∷ [])))
    -- 8. "n = 3, levels 0, store 1: levels (0,1,2). Cell 3 capped at 2: done. Capped at 1: refused 8."
    ∷ store_gives (group false (0 ∷ 0 ∷ 0 ∷ [])) 1 (done (program (taken (0 ∷ 1 ∷ 2 ∷ []) (group true (0 ∷ 1 ∷ 2 ∷ []))) 3 (push 2 0 1 ∷ push 3 0 2 ∷ [])))
    ∷ store_gives (capped false (0 ∷ 0 ∷ 0 ∷ []) (4095 ∷ 4095 ∷ 2 ∷ [])) 1 (done (program (taken (0 ∷ 1 ∷ 2 ∷ []) (capped true (0 ∷ 1 ∷ 2 ∷ []) (4095 ∷ 4095 ∷ 2 ∷ []))) 3 (push 2 0 1 ∷ push 3 0 2 ∷ [])))
    ∷ store_gives (capped false (0 ∷ 0 ∷ 0 ∷ []) (4095 ∷ 4095 ∷ 1 ∷ [])) 1 (refused 8 (program (capped false (0 ∷ 0 ∷ 0 ∷ []) (4095 ∷ 4095 ∷ 1 ∷ [])) 0 []))
    -- 9. "Levels (0,1,1), written"; document 02, request (c): "Case 9 of document 01 then reads [3,2,1], clean." "Pulses of a scrub in that
    -- case stay 1."
    ∷ sense_gives (group true (0 ∷ 1 ∷ 1 ∷ [])) (done (order (3 ∷ 2 ∷ 1 ∷ [])))
    ∷ read_gives (group true (0 ∷ 1 ∷ 1 ∷ [])) (clean 1)
    ∷ scrub_gives (group true (0 ∷ 1 ∷ 1 ∷ [])) (done (step (taken (0 ∷ 0 ∷ 1 ∷ []) (group true (0 ∷ 1 ∷ 2 ∷ []))) 1 (some Clean) 1 (push 3 1 2 ∷ [])))
    ∷ []
