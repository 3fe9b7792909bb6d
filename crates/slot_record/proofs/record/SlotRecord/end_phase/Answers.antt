-- The phase is logged, and the first race is that of the phases before, else its own.
use Rattle.std.proofs.Common.{◌+◌, ◌∙◌, length, sym, ap, subst}
use Rattle.std.proofs.lemmas.List.{length_push}
use Rattle.std.specs.Option.{option_map}
use Rattle.v_design.specs.PhaseLogs.{noted_events, phase_race}
use Rattle.v_design.specs.Grades.{race_of}
use Rattle.event_causes.specs.Causes.{AreCausesOf}
use Rattle.machine_laws.specs.SlotLoop.{or_race}
use Rattle.slot_record.specs.Records.{same-record}
use Rattle.slot_record.specs.SlotLogs.{slot_log-more}
use Rattle.slot_record.proofs.record.SlotRecord.end_phase.Goals as goal

pub returns : goal.returns
returns c = λ machine first before phase same had.
    let present = same-record machine (length before + 1) phase.begins (noted_events machine phase.begins phase.events) c.args.self.now.phase c.race_or.new.phase c.in_ok-race.ensures.same
    had.present in
    record {
      earlier = noted_events machine phase.begins phase.events;
      causes = subst (λ causes. AreCausesOf machine (noted_events machine phase.begins phase.events) causes) (sym c.in_ok-end_phase.ensures.causes) present.causes;
      logged = slot_log-more machine first before phase c.race_or.new.phase c.args.self.now.turn c.args.log.now _ had.logged present had.turn_is c.in_ok-end_phase.ensures.appends;
      race_is = c.in_ok-race.ensures.race machine (length before + 1) phase.begins phase.events same had.present
          ∙ ap (λ race. or_race race (option_map (race_of phase.begins.time (length before + 1)) (phase_race machine phase.begins phase.events))) had.race_is
          ∙ sym (c.phases_go_on.ensures.races machine before phase);
      numbered = had.numbered ∙ sym (length_push before phase);
    }
