-- `distance::drop_at` meets its contract.
use Rattle.std.proofs.Common.{rules}
use Rattle.distance.proofs.Gap.{closed}
use Rattle.distance.proofs.drop_at.Goals as goal

pub returns : goal.returns
returns c = closed c.args.v c.copy_within.new.self c.requires.0 c.requires.1 c.requires.2 (search rules) c.copy_within.ensures.after
