-- Two orders that pass their checks, and their ranks by place.
-- Assumes nothing.
use Prim.Native.Nat.{ℕ, suc, ◌≤◌, ◌<◌}
use native.Mathlib.Omega.{arith}
use mathlib.Core.Path.{◌≡◌, refl, sym, ap, ◌∙◌}
use mathlib.Core.Logic.{⊎_elim}
use Rattle.std.specs.Prelude.{Result, Ok, Err}
use lib.ListN.{length, get_or, get_or-eq_default}
use Rattle.order.specs.declared.Rank.{Rank}
use Rattle.ranks.specs.declared.Ranks.{Ranks}
use Rattle.order.specs.declared.Order.{Order}
use Rattle.order.specs.declared.Refusal.{Refusal}
use Rattle.order.specs.Refusals.{outcome_number, number_of, Told, told, answer}
use Rattle.order.specs.Cells.{place_of}
use Rattle.order.specs.Order.{listed, order_checks, pair_checks}
use Rattle.ranks.specs.Ranks.{rank_numbers, ranks_of, no_ranks, told_ranks, ranks_of_order}
use Rattle.order.proofs.Cells.{lt_cases}
use Rattle.order.proofs.Places.{rank_high}
use Rattle.order.proofs.Refusals.{accepted, told_done}
use Rattle.order.proofs.Told.{told_lem}
use Rattle.ranks.proofs.RankNumbers.{rank_at_lem, length_ranks}
use Rattle.order.proofs.Tabulate.{length_tabulate, get_d_tabulate}
use Rattle.order.proofs.Records.{passed, passed_order}
use Rattle.order.proofs.Pairs.{passed_first, passed_second, pair_size}
use Rattle.cost.specs.Steps.{told_pair, ranks_of_pair, Low}

-- ---- the ranks

module _ (o : Order) where
  pub rank_place : (k : ℕ) → k < 12 → get_or (rank_numbers (ranks_of o)) k 0 ≡ place_of (listed o) (suc k)
  unfolding ranks_of
  rank_place k l =
      sym (rank_at_lem (ranks_of o) k)
      ∙ ap (λ (r : Rank). r.0) (get_d_tabulate 12 (λ k. record { 0 = place_of (listed o) (suc k) }) k (record { 0 = 0 }) l)

  length_rank_numbers : length (rank_numbers (ranks_of o)) ≡ 12
  unfolding ranks_of
  length_rank_numbers = length_ranks (ranks_of o) (length_tabulate {A = Rank} 12 (λ k. record { 0 = place_of (listed o) (suc k) }))

  pub ranks_low : number_of (order_checks o) ≡ 0 → Low (ranks_of o)
  ranks_low d = record {
    low = λ k.
        ⊎_elim (λ t. omega (arith, rank_place k t.0, rank_high o.len (listed o) (passed_order o d) k, passed o d))
        (λ t. omega (arith, get_or-eq_default (rank_numbers (ranks_of o)) 0 {n = k} (omega (arith, length_rank_numbers))))
        (lt_cases k 12);
  }

  -- an order that passes its checks is answered its ranks
  module _ (a : Result Ranks Refusal) (e : told_ranks a ≡ ranks_of_order o) (d : number_of (order_checks o) ≡ 0) where
    answered : a ≡ Ok (ranks_of o)
    unfolding ranks_of_order
    answered = told_lem no_ranks a (Ok (ranks_of o)) (e ∙ sym (told_done (order_checks o) (ranks_of o) no_ranks d))

    pub ranks_found : (r : Ranks) → a ≡ Ok r → r ≡ ranks_of o
    ranks_found r q = let p = answered in cc

    pub not_refused : (r : Refusal) → a ≡ Err r → ⊥
    not_refused r q = let p = answered in cc

told_number : {A : Type 0} (z : A) (a : Result A Refusal) → outcome_number a ≡ (told z a).number
told_number z (Ok x) = refl
told_number z (Err r) = refl

-- ---- both ranks

module _ (u v : Order) (a : Result (Ranks × Ranks) Refusal) (e : told_pair a ≡ ranks_of_pair u v) where
  pub pair_number : outcome_number a ≡ number_of (pair_checks u v)
  unfolding ranks_of_pair answer
  pair_number = told_number (no_ranks, no_ranks) a ∙ ap (λ (t : Told (Ranks × Ranks)). t.number) e

  module _ {from to : Ranks} (q : a ≡ Ok (from, to)) where
    pub pair_done : (number_of (pair_checks u v) ≡ 0) × (from ≡ ranks_of u) × (to ≡ ranks_of v)
    unfolding ranks_of_pair
    pair_done =
        let d = accepted pair_number q in
        let t : a ≡ Ok (ranks_of u, ranks_of v) = told_lem _ a _ (e ∙ sym (told_done (pair_checks u v) _ (no_ranks, no_ranks) d)) in
        let f : ◌≡◌ {A = Ranks × Ranks} (from, to) (ranks_of u, ranks_of v) = cc in
        (d, ap (λ p. p.0) f, ap (λ p. p.1) f)

    -- the ranks are what the loops ask
    pub pair_low : (from.len ≤ 12) × Low from × Low to
    unfolding ranks_of
    pair_low =
        let p = pair_done in
        (rw p.1 (pair_size u v p.0).1, rw p.1 (ranks_low u (passed_first u v p.0)), rw p.2 (ranks_low v (passed_second u v p.0)))
