-- What private contracts say of a push-up that is made cell by cell. No public contract rests on it.
--
--   push_up_to k rs old   the push-up of the ranks rs with gap k: levels, the floor of the next rank, pulses and pushes
--   cell_up k f c l p    one cell more, from level l, on a rank whose floor is f: the floor of p is the one over this rank's cells so far
use Rattle.std.specs.Prelude.{ℕ, ◌+◌, ◌-◌, max, cond, List, length, nat_lt, slice_set}
use Rattle.order.specs.declared.Cell.{Cell}
use Rattle.group.specs.Levels.{put}
use Rattle.push_up.specs.declared.PushUp.{PushUp}
use Rattle.push_up.specs.PushUp.{floor_over, raise, pushes, pulses_in}
use Rattle.push_up.specs.WriteAnswer.{push_array}

unfoldable pub push_up_to : ℕ → List (List ℕ) → List ℕ → PushUp
push_up_to k rs old =
    let new = raise k rs old in
    let program = pushes k rs old in
    record {
      levels = new;
      floor = floor_over k rs new;
      pulses = pulses_in program;
      count = length program;
      pushes = push_array program;
    }

unfoldable pub cell_up : ℕ → ℕ → Cell → ℕ → PushUp → PushUp
cell_up k f c l p =
    cond (nat_lt l f)
    (record {
      levels = put p.levels c.0 f;
      floor = max p.floor (f + k);
      pulses = p.pulses + (f - l);
      count = p.count + 1;
      pushes = slice_set p.pushes p.count (record { cell = c; start = l; reach = f });
    })
    (record { levels = p.levels; floor = max p.floor (l + k); pulses = p.pulses; count = p.count; pushes = p.pushes })
