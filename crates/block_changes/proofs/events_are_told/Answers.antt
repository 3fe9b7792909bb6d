-- The laws are proved in `Woken` and `Told`.
use Rattle.block_changes.proofs.Told.{events_change_parts, causes_are_told}
use Rattle.block_changes.proofs.Woken.{only_woken_change}
use Rattle.block_changes.proofs.events_are_told.Goals as goal

pub returns-clause-woken : goal.returns-clause-woken
returns-clause-woken c = only_woken_change

pub returns-clause-parts : goal.returns-clause-parts
returns-clause-parts c = events_change_parts c.moves.ensures.events

pub returns-clause-causes : goal.returns-clause-causes
returns-clause-causes c = causes_are_told
