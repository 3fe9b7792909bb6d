-- The events so far are written or stand in the open line.
use Rattle.std.proofs.Common.{◌≡◌, ◌≤◌, ◌++◌, [], drop, map}
use Rattle.vf_base.specs.Lists.{AllHold}
use Rattle.slot_record.specs.Records.{event_of}
use Rattle.cert_text.specs.Fits.{RunFits}
use Rattle.cert_text.specs.Views.{run_line_said}
use Rattle.run_lines.specs.Open.{lines_text, with_events, onto, count_in}
use Rattle.run_lines.specs.Slots.{phase_lines}
use Rattle.run_lines.proofs.slot.append_phase.Given as goal

abbrev pub invariant-events : goal.invariant-events
invariant-events l = record {
  text : l.out.items ++ lines_text (onto (run_line_said l.last) (with_events (map event_of (drop l.actor-index l.actors)) []))
      ≡ l.fn.out.items ++ lines_text (phase_lines l.time l.place (map event_of l.actors));
  fits : AllHold RunFits (onto (run_line_said l.last) (with_events (map event_of (drop l.actor-index l.actors)) [])) → AllHold RunFits (phase_lines l.time l.place (map event_of l.actors));
  count : count_in l.last ≤ l.actor-index;
}
