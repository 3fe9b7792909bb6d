-- The next slot begins.
use Rattle.std.proofs.Common.{subst}
use Rattle.cert_replay.specs.Kept.{EndsPhase}
use Rattle.cert_runs.proofs.Looking.{ended-as, slot-not, slot-looks}
use Rattle.cert_runs.proofs.Taking.{slot-stays, slot-turns, at-end}
use Rattle.cert_runs.proofs.turns.to_slot.Goals as goal

pub returns-then-not-branch-clause-goes : goal.returns-then-not-branch-clause-goes
returns-then-not-branch-clause-goes c =
    slot-stays c.args.time c.args.replaying.now c.end_phase.new.replaying
    (subst (λ b. EndsPhase b c.args.replaying.now c.end_phase.new.replaying) c.if-not-branch.true c.in_ok-end_phase.ensures.ends)

pub returns-then-not-branch-clause-looks : goal.returns-then-not-branch-clause-looks
returns-then-not-branch-clause-looks c =
    slot-not c.args.time c.args.replaying.now c.args.search.now c.end_phase.new.search (ended-as _ _ _ _ _ c.if-not-branch.true c.in_ok-end_phase.ensures.looks)

pub turn_to_slot-requires : goal.turn_to_slot-requires
turn_to_slot-requires c =
    at-end c.args.replaying.now c.end_phase.new.replaying c.requires
    (subst (λ b. EndsPhase b c.args.replaying.now c.end_phase.new.replaying) c.if-not-branch.false c.in_ok-end_phase.ensures.ends)

pub returns-clause-goes : goal.returns-clause-goes
returns-clause-goes c =
    slot-turns c.args.time c.in_ok-went.went c.args.replaying.now c.end_phase.new.replaying c.turn_to_slot.new.self
    (subst (λ b. EndsPhase b c.args.replaying.now c.end_phase.new.replaying) c.if-not-branch.false c.in_ok-end_phase.ensures.ends) c.in_ok-went.ensures

pub returns-clause-looks : goal.returns-clause-looks
returns-clause-looks c =
    slot-looks c.args.time c.in_ok-went.went c.args.replaying.now c.args.search.now c.end_phase.new.search
    (ended-as _ _ _ _ _ c.if-not-branch.false c.in_ok-end_phase.ensures.looks)
