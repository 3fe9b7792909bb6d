-- The entry at the number tells where the accesses stand.
use Rattle.std.proofs.Common.{◌<◌, ◌∙◌, length, map, ap, sym, subst, arith}
use Rattle.std.specs.Prelude.{slice_range}
use Rattle.causal_monitor.specs.Notes.{noted_access}
use Rattle.causal_monitor.specs.Phases.{PhaseOfSlot, accesses_at}
use Rattle.causal_monitor.specs.declared.log.Entry.{Entry}
use Rattle.causal_monitor.proofs.Kept.{length-logged, accesses_at-entry}
use Rattle.causal_monitor.proofs.log.PhaseLog.accesses_of.Goals as goal

pub returns-clause-accesses : goal.returns-clause-accesses
returns-clause-accesses c =
    let l = c.self.inside in
    let Within : PhaseOfSlot → Type 0 = λ p. c.args.event < length p.log.events in
    let within = subst Within (sym c.self.view_is) c.requires in
    let long = length-logged l.accesses.items l.events.items in
    let less : c.args.event < length l.events.items = omega (arith, long, within) in
    ap (λ accesses. map noted_access (slice_range accesses c.index-entry.result.now.start c.index-entry.result.now.end)) c.deref.ensures.value
    ∙ ap (λ (e : Entry). map noted_access (slice_range l.accesses.items e.start e.end)) c.index-entry.ensures
    ∙ accesses_at-entry l.held.items l.accesses.items l.events.items c.args.event c.index-entry.result.now less
    ∙ ap (λ (p : PhaseOfSlot). accesses_at p.log c.args.event) c.self.view_is
