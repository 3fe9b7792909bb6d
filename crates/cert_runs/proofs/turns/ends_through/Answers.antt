-- A run is through to its bound, or not.
use Rattle.std.proofs.Common.{subst}
use Rattle.cert_replay.specs.Kept.{EndsPhase}
use Rattle.cert_runs.proofs.Looking.{ended-as, through-looks}
use Rattle.cert_runs.proofs.Taking.{through-not, through-told, at-end}
use Rattle.cert_runs.proofs.turns.ends_through.Goals as goal

pub returns-then-not-branch-clause-tells : goal.returns-then-not-branch-clause-tells
returns-then-not-branch-clause-tells c =
    through-not c.args.replaying.now c.end_phase.new.replaying
    (subst (λ b. EndsPhase b c.args.replaying.now c.end_phase.new.replaying) c.if-not-branch.true c.in_ok-end_phase.ensures.ends)

pub returns-then-not-branch-clause-looks : goal.returns-then-not-branch-clause-looks
returns-then-not-branch-clause-looks c = ended-as _ _ _ _ _ c.if-not-branch.true c.in_ok-end_phase.ensures.looks

pub is_through-requires : goal.is_through-requires
is_through-requires c =
    at-end c.args.replaying.now c.end_phase.new.replaying c.requires
    (subst (λ b. EndsPhase b c.args.replaying.now c.end_phase.new.replaying) c.if-not-branch.false c.in_ok-end_phase.ensures.ends)

pub returns-clause-tells : goal.returns-clause-tells
returns-clause-tells c =
    through-told c.is_through.result c.args.replaying.now c.end_phase.new.replaying
    (subst (λ b. EndsPhase b c.args.replaying.now c.end_phase.new.replaying) c.if-not-branch.false c.in_ok-end_phase.ensures.ends) c.is_through.ensures

pub returns-clause-looks : goal.returns-clause-looks
returns-clause-looks c =
    through-looks c.is_through.result c.args.replaying.now c.args.search.now c.end_phase.new.search (ended-as _ _ _ _ _ c.if-not-branch.false c.in_ok-end_phase.ensures.looks)
