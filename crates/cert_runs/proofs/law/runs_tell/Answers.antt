-- The laws are proved in `Telling`.
use Rattle.cert_runs.proofs.Telling.{good-runs-tell, faulty-runs-tell}
use Rattle.cert_runs.proofs.law.runs_tell.Goals as goal

pub returns-clause-good : goal.returns-clause-good
returns-clause-good c = good-runs-tell

pub returns-clause-faulty : goal.returns-clause-faulty
returns-clause-faulty c = faulty-runs-tell
