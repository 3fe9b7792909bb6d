-- The law is proved in `Leading`.
use Rattle.present_runs.proofs.Leading.{present_runs_lead}
use Rattle.present_runs.proofs.present_runs_lead.Goals as goal

pub returns : goal.returns
returns c = present_runs_lead
