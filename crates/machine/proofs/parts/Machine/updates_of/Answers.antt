use Rattle.machine.proofs.parts.Machine.updates_of.Goals as goal

pub updates_of-requires-clause-kept : goal.updates_of-requires-clause-kept
updates_of-requires-clause-kept c = c.requires.standing.table
