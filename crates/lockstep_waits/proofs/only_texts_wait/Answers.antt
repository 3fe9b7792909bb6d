-- The laws are proved in `Texts` and `Going`.
use Rattle.lockstep_waits.proofs.Texts.{only_texts_wait}
use Rattle.lockstep_waits.proofs.Going.{waits_go_on}
use Rattle.lockstep_waits.proofs.only_texts_wait.Goals as goal

pub returns-clause-accesses : goal.returns-clause-accesses
returns-clause-accesses c = only_texts_wait c.waits_stay.ensures

pub returns-clause-runs : goal.returns-clause-runs
returns-clause-runs c = waits_go_on c.waits_stay.ensures
