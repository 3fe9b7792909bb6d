-- The entry at the number has the cause.
use Rattle.std.proofs.Common.{◌<◌, ◌∙◌, length, ap, sym, subst, arith}
use Rattle.v_design.specs.Logs.{cause_at}
use Rattle.causal_monitor.specs.Phases.{PhaseOfSlot}
use Rattle.causal_monitor.specs.declared.log.Entry.{Entry}
use Rattle.causal_monitor.proofs.Kept.{length-logged, cause_at-entry}
use Rattle.causal_monitor.proofs.log.PhaseLog.cause_of.Goals as goal

pub returns : goal.returns
returns c =
    let l = c.self.inside in
    let Within : PhaseOfSlot → Type 0 = λ p. c.args.event < length p.log.events in
    let within = subst Within (sym c.self.view_is) c.requires in
    let long = length-logged l.accesses.items l.events.items in
    let less : c.args.event < length l.events.items = omega (arith, long, within) in
    ap (λ (e : Entry). e.cause) c.index.ensures ∙ (cause_at-entry l.held.items l.accesses.items l.events.items c.args.event _ less
    ∙ ap (λ (p : PhaseOfSlot). cause_at p.log c.args.event) c.self.view_is)
