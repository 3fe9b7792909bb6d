-- The causes begin anew, and the log has what the phase holds.
use Rattle.std.proofs.Common.{◌∙◌, [], sym, ap, subst, map}
use Rattle.causal_monitor.specs.Phases.{PhaseOfSlot, IsLogOf}
use Rattle.slot_record.specs.Records.{event_of}
use Rattle.slot_record.proofs.RecordLaws.{names-objects}
use Rattle.slot_record.proofs.phase.PhaseRecord.begin_phase.Goals as goal

pub returns : goal.returns
returns c = λ machine earlier begins causes time held.
    let log = c.in_ok-begin_log.ensures in
    record {
      time = ap (λ (l : PhaseOfSlot). l.time) log ∙ sym time;
      numbered = ap (λ (l : PhaseOfSlot). l.phase) log;
      log = ap (λ (l : PhaseOfSlot). l.log) log ∙ (λ i. record { held = held i; events = [] });
      causes = c.begin_phase.ensures.causes machine earlier causes;
      actors = ap (map event_of) c.clear.ensures.items;
      names = subst (λ (l : PhaseOfSlot). IsLogOf machine.design l.log) (sym log)
          (record { held = names-objects machine earlier c.args.self.now.causes c.args.held.now causes c.requires.objects; noted = tt });
    }
