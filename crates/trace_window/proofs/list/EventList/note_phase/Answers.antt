use Rattle.std.proofs.Common.{◌≡◌, ℕ, ◌≤◌, ◌<◌, ◌+◌, ◌∷◌, ◌++◌, [], List, length, get_or, map, take, sym, ap, subst, ◌∙◌, arith}
use Rattle.std.proofs.lemmas.List.{take_all}
use Rattle.causal_monitor.specs.Notes.{noted_access}
use Rattle.causal_monitor.specs.Phases.{PhaseOfSlot, accesses_at}
use Rattle.causal_monitor.specs.declared.slot.Actor.{Actor}
use Rattle.v_design.specs.Accesses.{ObjectAccess}
use Rattle.v_design.specs.States.{Event}
use Rattle.slot_record.specs.Records.{event_of}
use Rattle.trace_window.specs.declared.list.EventList.{EventList}
use Rattle.trace_window.specs.declared.sizes.Sizes.{Sizes}
use Rattle.trace_window.specs.Gathered.{Gathers}
use Rattle.trace_window.specs.Listed.{phase_accesses, HasActors}
use Rattle.trace_window.specs.GatherLaws.{Gathers-none, Gathers-more}
use Rattle.trace_window.proofs.Gathering.{phase_accesses-more, phase_accesses-all, actors-more}
use Rattle.trace_window.proofs.list.EventList.note_phase.Goals as goal

-- one event more
one-more : (sizes : Sizes) (log : PhaseOfSlot) (actors : List Actor) (i : ℕ) (d : Actor) (accesses : List ObjectAccess) (old between new : EventList) → HasActors log actors → i < length actors →
    accesses ≡ accesses_at log.log i → Gathers sizes (take i (phase_accesses log)) (map event_of (take i actors)) old between →
    Gathers sizes (accesses ∷ []) (event_of (get_or actors i d) ∷ []) between new →
    Gathers sizes (take (i + 1) (phase_accesses log)) (map event_of (take (i + 1) actors)) old new
one-more sizes log actors i d accesses old between new acted low are had grown =
    subst (λ (l : List (List ObjectAccess)). Gathers sizes l (map event_of (take (i + 1) actors)) old new)
    (ap (λ a. take i (phase_accesses log) ++ a ∷ []) are ∙ sym (phase_accesses-more log i (omega (arith, acted, low))))
    (subst (λ (l : List Event). Gathers sizes (take i (phase_accesses log) ++ accesses ∷ []) l old new) (sym (actors-more actors i d low))
    (Gathers-more sizes (take i (phase_accesses log)) (accesses ∷ []) (map event_of (take i actors)) (event_of (get_or actors i d) ∷ []) old between new had grown))

pub events-init : goal.events-init
events-init c = Gathers-none c.args.sizes c.args.self.now

pub accesses_of-requires : goal.accesses_of-requires
accesses_of-requires c = omega (arith, c.requires, c.events-test.true)

pub events-preserved : goal.events-preserved
events-preserved c =
    one-more c.args.sizes c.args.log.now c.args.actors.now c.events.event _ (map noted_access c.accesses_of.result.now) c.args.self.now c.events.self c.note_event.new.self c.requires
    c.events-test.true c.accesses_of.ensures.accesses c.events.invariant c.in_ok-note_event.ensures

pub returns : goal.returns
returns c =
    let past : length c.args.log.now.log.events ≤ c.events.event = omega (arith, c.requires, c.events-test.false) in
    subst (λ l. Gathers c.args.sizes l (map event_of c.args.actors.now) c.args.self.now c.events.self) (phase_accesses-all c.args.log.now c.events.event past)
    (subst (λ l. Gathers c.args.sizes (take c.events.event (phase_accesses c.args.log.now)) (map event_of l) c.args.self.now c.events.self)
    (take_all c.events.event c.args.actors.now c.events-test.false) c.events.invariant)
