-- Logs that stay logs of a design while they grow.
use Rattle.v_design.specs.Designs.{FlatDesign}
use Rattle.v_design.specs.Logs.{LoggedEvent}
use Rattle.causal_monitor.specs.Phases.{PhaseOfSlot, NameObjects, IsLogOf, with_event}
use Rattle.causal_monitor.proofs.Kept.{AllHold-push}

-- one event more
pub IsLogOf-event : (design : FlatDesign) (old : PhaseOfSlot) (event : LoggedEvent) → NameObjects design event.accesses → IsLogOf design old.log → IsLogOf design (with_event event old).log
IsLogOf-event design old event names had = record {
  held = had.held;
  noted = AllHold-push (λ (e : LoggedEvent). NameObjects design e.accesses) old.log.events event had.noted names;
}
