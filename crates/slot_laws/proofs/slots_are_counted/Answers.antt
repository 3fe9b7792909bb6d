-- The law.
use Rattle.slot_laws.proofs.Ends.{slots_counted}
use Rattle.slot_laws.proofs.slots_are_counted.Goals as goal

pub returns : goal.returns
returns c = slots_counted
