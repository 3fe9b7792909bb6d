-- The laws.
use Rattle.unseen_writes.proofs.Told as laws
use Rattle.unseen_writes.proofs.laws.writes_are_unseen.Goals as goal

pub returns : goal.returns
returns c = laws.writes_are_unseen c.events_are_told.ensures.woken c.events_are_told.ensures.causes
