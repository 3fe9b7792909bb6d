-- One more entry that is held.
use Rattle.std.proofs.Common.{◌∙◌, sym, ap, map}
use Rattle.std.proofs.lemmas.List.{take_all}
use Rattle.causal_monitor.specs.Notes.{noted_access}
use Rattle.causal_monitor.specs.Phases.{with_held}
use Rattle.slot_record.specs.Records.{held_phase}
use Rattle.slot_record.proofs.RecordLaws.{map_more}
use Rattle.slot_record.proofs.phase.begin_log.Goals as goal

pub entries-preserved : goal.entries-preserved
entries-preserved c =
    c.in_ok-hold.ensures.ok ∙ ap (with_held (noted_access c.entry-item.result)) c.entries.invariant
    ∙ ap (held_phase c.args.time c.args.number) (sym (map_more noted_access c.args.held.now c.entries.entry-index c.entry-item.result c.entries-test.true c.entry-item.is))

pub returns : goal.returns
returns c = c.entries.invariant ∙ ap (λ held. held_phase c.args.time c.args.number (map noted_access held)) (take_all c.entries.entry-index c.args.held.now c.entries-test.false)
