-- The laws are proved in `Ends`.
use Rattle.machine_laws.proofs.Ends.{races_go_on, notes_go_on}
use Rattle.machine_laws.proofs.phases_go_on.Goals as goal

pub returns-clause-races : goal.returns-clause-races
returns-clause-races c = races_go_on

pub returns-clause-notes : goal.returns-clause-notes
returns-clause-notes c = notes_go_on
