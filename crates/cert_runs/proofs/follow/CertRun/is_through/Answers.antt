-- The last phase of a run that has begun is looked into.
use Rattle.cert_runs.proofs.Looking.{last-looks, last-not}
use Rattle.cert_runs.proofs.follow.CertRun.is_through.Goals as goal

pub returns-then-not-self-clause-looks : goal.returns-then-not-self-clause-looks
returns-then-not-self-clause-looks c = last-not c.args.self.now c.args.search.now

pub returns-clause-looks : goal.returns-clause-looks
returns-clause-looks c = last-looks c.in_ok-through.through c.args.self.now c.args.search.now c.ends_through.new.search c.in_ok-through.ensures.looks
