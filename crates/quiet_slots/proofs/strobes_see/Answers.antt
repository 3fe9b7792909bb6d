-- The law is proved in `Seen`.
use Rattle.quiet_slots.proofs.Seen.{strobes_see_copies}
use Rattle.quiet_slots.proofs.strobes_see.Goals as goal

pub returns : goal.returns
returns c = strobes_see_copies c.runs_stand.ensures
