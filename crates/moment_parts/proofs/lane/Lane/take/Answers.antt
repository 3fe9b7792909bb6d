-- One update more is taken.
use Rattle.v_design.specs.Plain.{update_of}
use Rattle.std.proofs.Common.{map}
use Rattle.moment_parts.proofs.Lists.{drop-rest}
use Rattle.moment_parts.proofs.lane.Lane.take.Goals as goal

pub returns-then-self-len : goal.returns-then-self-len
returns-then-self-len c = drop-rest c.args.self.now.taken (map update_of c.args.self.now.updates.items)
