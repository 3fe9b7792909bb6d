-- Nothing is logged, and no phase has a race.
use Rattle.std.proofs.Common.{List, refl, sym, ap, subst, map}
use Rattle.causal_monitor.specs.declared.slot.Actor.{Actor}
use Rattle.event_causes.specs.Causes.{AreCausesOf}
use Rattle.slot_record.specs.Records.{event_of}
use Rattle.slot_record.proofs.record.SlotRecord.begin_slot.Goals as goal

pub returns-clause-begins : goal.returns-clause-begins
returns-clause-begins c = λ machine first earlier log causes empty.
    record {
      earlier = earlier;
      causes = subst (AreCausesOf machine earlier) (sym c.in_ok-take_back.ensures.causes) causes;
      logged = record { phases_are = empty.phases; actors_are = ap (map (λ (actors : List Actor). map event_of actors)) empty.actors; turns_are = empty.turns };
      race_is = refl;
      numbered = refl;
    }
