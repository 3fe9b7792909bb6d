-- The run goes on by the line, or it isn't followed, or it is no line of a run.
use Rattle.std.proofs.Common.{sym, subst}
use Rattle.cert_text.specs.Views.{run_line_said}
use Rattle.cert_laws.specs.Valid.{line_of}
use Rattle.cert_runs.specs.AskedRuns.{FollowsAsked}
use Rattle.cert_runs.proofs.Passing.{line-stops, line-breaks, line-goes}
use Rattle.cert_runs.proofs.lines.take_line.Goals as goal

pub returns-in_default : goal.returns-in_default
returns-in_default g c = line-stops (line_of c.args.line.now) c.args.run.now (sym c.in_default.ensures)

pub returns-then-not-branch : goal.returns-then-not-branch
returns-then-not-branch g c =
    let line = run_line_said c.in-Some.line in
    line-breaks (line_of c.args.line.now) line c.args.run.now c.follow.new.self (sym c.in-Some.ensures)
    (subst (λ b. FollowsAsked line b c.args.run.now c.follow.new.self) c.if-not-branch.true c.in_ok-follow.ensures)

pub returns : goal.returns
returns g c =
    let line = run_line_said c.in-Some.line in
    line-goes (line_of c.args.line.now) line c.args.run.now c.follow.new.self (sym c.in-Some.ensures)
    (subst (λ b. FollowsAsked line b c.args.run.now c.follow.new.self) c.if-not-branch.false c.in_ok-follow.ensures)
