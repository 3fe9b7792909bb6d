-- The phase ends, and is looked into.
use Rattle.std.proofs.Common.{subst}
use Rattle.cert_replay.specs.Kept.{EndsPhase}
use Rattle.cert_runs.proofs.Looking.{looks-not, looks-ended}
use Rattle.cert_runs.proofs.Taking.{at-end}
use Rattle.cert_runs.proofs.turns.end_phase.Goals as goal

pub look-requires : goal.look-requires
look-requires c =
    at-end c.args.replaying.now c.end_phase.new.self c.requires
    (subst (λ b. EndsPhase b c.args.replaying.now c.end_phase.new.self) c.if-not-branch.false c.in_ok-end_phase.ensures)

pub returns-then-not-branch-clause-ends : goal.returns-then-not-branch-clause-ends
returns-then-not-branch-clause-ends c = subst (λ b. EndsPhase b c.args.replaying.now c.end_phase.new.self) c.if-not-branch.true c.in_ok-end_phase.ensures

pub returns-then-not-branch-clause-looks : goal.returns-then-not-branch-clause-looks
returns-then-not-branch-clause-looks c = looks-not c.args.replaying.now c.args.search.now

pub returns-clause-ends : goal.returns-clause-ends
returns-clause-ends c = subst (λ b. EndsPhase b c.args.replaying.now c.end_phase.new.self) c.if-not-branch.false c.in_ok-end_phase.ensures

pub returns-clause-looks : goal.returns-clause-looks
returns-clause-looks c =
    looks-ended c.args.replaying.now c.end_phase.new.self c.args.search.now c.look.new.self
    (subst (λ b. EndsPhase b c.args.replaying.now c.end_phase.new.self) c.if-not-branch.false c.in_ok-end_phase.ensures) c.in_ok-look.ensures
