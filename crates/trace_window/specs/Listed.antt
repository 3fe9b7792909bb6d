-- The events of a slot and their accesses, by its log (IEEE 1364-2001, clause 5).
use Rattle.std.specs.Prelude.{◌≡◌, ℕ, List, map, length}
use Rattle.std.specs.List.{AllZip}
use Rattle.vf_base.specs.Lists.{joined}
use Rattle.v_design.specs.Designs.{Machine}
use Rattle.v_design.specs.Accesses.{ObjectAccess, accesses_of}
use Rattle.v_design.specs.Logs.{LoggedEvent}
use Rattle.v_design.specs.States.{Event}
use Rattle.causal_monitor.specs.Phases.{PhaseOfSlot}
use Rattle.causal_monitor.specs.declared.slot.Actor.{Actor}
use Rattle.causal_monitor.specs.declared.slot.SlotLog.{SlotLog}
use Rattle.slot_record.specs.Records.{event_of}
use Rattle.trace_window.specs.Moments.{Seen}

-- the accesses of each event of a phase, and of a slot
abbrev pub phase_accesses : PhaseOfSlot → List (List ObjectAccess)
phase_accesses phase = map (λ (event : LoggedEvent). event.accesses) phase.log.events

abbrev pub log_accesses : SlotLog → List (List ObjectAccess)
log_accesses log = joined (map phase_accesses log.phases)

-- the events themselves, by who acts in each
abbrev pub log_events : SlotLog → List Event
log_events log = joined (map (λ (actors : List Actor). map event_of actors) log.actors)

-- in each event of a phase somebody acts
abbrev pub HasActors : PhaseOfSlot → List Actor → Type 0
HasActors phase actors = length actors ≡ length phase.log.events

-- and in each event of a slot
abbrev pub IsActed : SlotLog → Type 0
IsActed log = AllZip HasActors log.phases log.actors

-- some accesses are those of an event, with whatever process and line a net's write has
pub record AreAccessesOf (machine : Machine) (seen : Seen) (accesses : List ObjectAccess) : Type 0 where
  pub process : ℕ
  pub line : ℕ
  pub are : accesses ≡ accesses_of machine process line seen.before seen.event

-- some lists of accesses are those of some events
abbrev pub AreListed : Machine → List Seen → List (List ObjectAccess) → Type 0
AreListed machine seen accesses = AllZip (AreAccessesOf machine) seen accesses
