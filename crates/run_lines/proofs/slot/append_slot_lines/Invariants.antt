-- The phases so far are written.
use Rattle.std.proofs.Common.{◌≡◌, ◌++◌, List, drop, map}
use Rattle.vf_base.specs.Lists.{AllHold}
use Rattle.causal_monitor.specs.declared.slot.Actor.{Actor}
use Rattle.slot_record.specs.Records.{event_of}
use Rattle.cert_text.specs.Fits.{RunFits}
use Rattle.run_lines.specs.Open.{lines_text}
use Rattle.run_lines.specs.Slots.{phases_lines}
use Rattle.run_lines.proofs.slot.append_slot_lines.Given as goal

abbrev pub invariant-phases : goal.invariant-phases
invariant-phases l = record {
  text : l.out.items ++ lines_text (phases_lines l.log.time l.place (map (λ (actors : List Actor). map event_of actors) (drop l.place l.phases)))
      ≡ l.fn.out.items ++ lines_text (phases_lines l.log.time 0 (map (λ (actors : List Actor). map event_of actors) l.log.actors));
  fits : AllHold RunFits (phases_lines l.log.time l.place (map (λ (actors : List Actor). map event_of actors) (drop l.place l.phases))) →
      AllHold RunFits (phases_lines l.log.time 0 (map (λ (actors : List Actor). map event_of actors) l.log.actors));
}
