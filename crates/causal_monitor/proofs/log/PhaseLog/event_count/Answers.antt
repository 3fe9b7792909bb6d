-- The causes that a log keeps are those that contracts see.
use Rattle.std.proofs.Common.{◌+◌, ◌<◌, subst, arith}
use Rattle.causal_monitor.specs.Phases.{PhaseOfSlot, CausesComeBefore}
use Rattle.causal_monitor.proofs.Kept.{causes_before}
use Rattle.causal_monitor.proofs.log.PhaseLog.event_count.Goals as goal

pub returns-clause-earlier : goal.returns-clause-earlier
returns-clause-earlier c =
    let Earlier : PhaseOfSlot → Type 0 = λ p. CausesComeBefore p.log in
    subst Earlier c.self.view_is
    (λ event cause is. let less : cause < 0 + event = causes_before c.self.inside.held.items c.self.inside.accesses.items 0 c.self.inside.events.items c.self.invariant.causes_are event cause is in
    omega arith)
