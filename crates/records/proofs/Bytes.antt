-- A record read by pairs of bytes is the record of the definition.
-- Assumes nothing.
use mathlib.Core.Path.{◌≡◌, refl, sym}
use Prim.Native.Nat.{ℕ, ◌+◌, ◌*◌}
use native.Mathlib.Omega.{arith}
use mathlib.Core.List.{List}
use lib.ListN.{get_or}
use Rattle.records.specs.Records.{low_first, record_at}

-- four bytes are two pairs
four : (at : ℕ) (bs : List ℕ) → low_first 2 at bs + 65536 * low_first 2 (at + 2) bs ≡ low_first 4 at bs
four at bs =
    let same : at + 1 + 1 ≡ at + 2 = omega arith in
    rw same (omega arith)

pub from_pairs : (bs : List ℕ) (i : ℕ) {low high zeros : ℕ}
    → low ≡ low_first 2 (8 * i + 4) bs
    → high ≡ low_first 2 (8 * i + 6) bs
    → zeros ≡ low_first 2 (8 * i + 2) bs
    → record { kind = get_or bs (8 * i) 0; cell = record { 0 = get_or bs (8 * i + 1) 0 }; reserved = zeros; value = low + 65536 * high } ≡ record_at bs i
unfolding record_at
from_pairs bs i {low} {high} {zeros} l h z =
    let at : 8 * i + 4 + 2 ≡ 8 * i + 6 = omega arith in
    let value : low + 65536 * high ≡ low_first 4 (8 * i + 4) bs = rw (l, h, sym at) (four (8 * i + 4) bs) in
    rw (z, value) refl
