-- A line of a run that has begun, or the first one.
use Rattle.std.proofs.Common.{refl}
use Rattle.cert_text.specs.Views.{run_line_said}
use Rattle.cert_runs.proofs.Looking.{run-looks, first-looks}
use Rattle.cert_runs.proofs.Taking.{goes-run}
use Rattle.cert_runs.proofs.follow.CertRun.follow.Goals as goal

pub returns-then-self-clause-goes : goal.returns-then-self-clause-goes
returns-then-self-clause-goes g c = goes-run (run_line_said c.args.line) c.in_ok-went.went c.args.self.now _ c.if-self.true refl c.in_ok-went.ensures.goes

pub returns-then-self-clause-looks : goal.returns-then-self-clause-looks
returns-then-self-clause-looks g c =
    run-looks (run_line_said c.args.line) c.in_ok-went.went c.args.self.now c.args.search.now c.go_on.new.search c.if-self.true c.in_ok-went.ensures.looks

pub returns-then-ne-clause-looks : goal.returns-then-ne-clause-looks
returns-then-ne-clause-looks g c = first-looks (run_line_said c.args.line) _ c.args.self.now c.args.search.now c.if-self.false

pub returns-clause-looks : goal.returns-clause-looks
returns-clause-looks g c = first-looks (run_line_said c.args.line) _ c.args.self.now c.args.search.now c.if-self.false
