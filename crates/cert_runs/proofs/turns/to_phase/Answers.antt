-- The next phase begins.
use Rattle.std.proofs.Common.{subst}
use Rattle.cert_replay.specs.Kept.{EndsPhase}
use Rattle.cert_runs.proofs.Looking.{ended-as, phase-not, phase-looks}
use Rattle.cert_runs.proofs.Taking.{phase-stays, phase-turns, at-end}
use Rattle.cert_runs.proofs.turns.to_phase.Goals as goal

pub returns-then-not-branch-clause-goes : goal.returns-then-not-branch-clause-goes
returns-then-not-branch-clause-goes c =
    phase-stays c.args.number c.args.replaying.now c.end_phase.new.replaying
    (subst (λ b. EndsPhase b c.args.replaying.now c.end_phase.new.replaying) c.if-not-branch.true c.in_ok-end_phase.ensures.ends)

pub returns-then-not-branch-clause-looks : goal.returns-then-not-branch-clause-looks
returns-then-not-branch-clause-looks c =
    phase-not c.args.number c.args.replaying.now c.args.search.now c.end_phase.new.search (ended-as _ _ _ _ _ c.if-not-branch.true c.in_ok-end_phase.ensures.looks)

pub turn_to_phase-requires : goal.turn_to_phase-requires
turn_to_phase-requires c =
    at-end c.args.replaying.now c.end_phase.new.replaying c.requires
    (subst (λ b. EndsPhase b c.args.replaying.now c.end_phase.new.replaying) c.if-not-branch.false c.in_ok-end_phase.ensures.ends)

pub returns-clause-goes : goal.returns-clause-goes
returns-clause-goes c =
    phase-turns c.args.number c.in_ok-went.went c.args.replaying.now c.end_phase.new.replaying c.turn_to_phase.new.self
    (subst (λ b. EndsPhase b c.args.replaying.now c.end_phase.new.replaying) c.if-not-branch.false c.in_ok-end_phase.ensures.ends) c.in_ok-went.ensures

pub returns-clause-looks : goal.returns-clause-looks
returns-clause-looks c =
    phase-looks c.args.number c.in_ok-went.went c.args.replaying.now c.args.search.now c.end_phase.new.search
    (ended-as _ _ _ _ _ c.if-not-branch.false c.in_ok-end_phase.ensures.looks)
