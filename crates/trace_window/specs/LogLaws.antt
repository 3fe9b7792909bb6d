-- The accesses and the events that a slot's log has are those of the slot's events (IEEE 1364-2001, clause 5).
use Rattle.std.proofs.Common.{◌≡◌, ℕ, ◌+◌, List, [], ◌∷◌, ◌++◌, map, length, refl, sym, ap, subst, ◌∙◌, arith, append-nil, append_assoc, length-append}
use Rattle.std.specs.List.{AllZip}
use Rattle.std.proofs.lemmas.List.{length-map, map-append}
use Rattle.vf_base.specs.Lists.{joined}
use Rattle.v_design.specs.Designs.{Machine}
use Rattle.v_design.specs.States.{State, Event, after}
use Rattle.v_design.specs.Accesses.{accesses_of}
use Rattle.v_design.specs.Logs.{LoggedEvent}
use Rattle.v_design.specs.PhaseLogs.{NotedEvent, note_of, noted_from, logged}
use Rattle.v_design.specs.Runs.{FirstSlot}
use Rattle.v_design.specs.Grades.{Phase, phases}
use Rattle.causal_monitor.specs.Phases.{PhaseOfSlot}
use Rattle.causal_monitor.specs.declared.slot.Actor.{Actor}
use Rattle.causal_monitor.specs.declared.slot.SlotLog.{SlotLog}
use Rattle.causal_monitor.specs.declared.slot.Turn.{Turn}
use Rattle.slot_record.specs.Records.{event_of}
use Rattle.slot_record.specs.SlotLogs.{IsSlotLog, logged_phases, logged_phase_of}
use Rattle.trace_window.specs.Moments.{Seen, seen_from, phase_seen, slot_seen}
use Rattle.trace_window.specs.Acted.{events_of}
use Rattle.trace_window.specs.Listed.{phase_accesses, log_accesses, log_events, HasActors, IsActed, AreAccessesOf, AreListed}

pub all_zip-append : {A B : Type 0} (R : A → B → Type 0) (xs : List A) (ys : List B) (more : List A) (others : List B) → AllZip R xs ys → AllZip R more others → AllZip R (xs ++ more) (ys ++ others)
all_zip-append R [] [] more others h k = k
all_zip-append R [] (y ∷ ys) more others h k = absurd h
all_zip-append R (x ∷ xs) [] more others h k = absurd h
all_zip-append R (x ∷ xs) (y ∷ ys) more others h k = (h.0, all_zip-append R xs ys more others h.1 k)

-- an event as it is noted
record IsNote (seen : Seen) (noted : NotedEvent) : Type 0 where
  event : noted.event ≡ seen.event
  before : noted.before ≡ seen.before

-- the notes of some events, behind those of earlier ones
record Notes (machine : Machine) (earlier : List NotedEvent) (state : State) (events : List Event) : Type 0 where
  rest : List NotedEvent
  are : noted_from machine earlier state events ≡ earlier ++ rest
  notes : AllZip IsNote (seen_from machine state events) rest

notes-from : (machine : Machine) (earlier : List NotedEvent) (state : State) (events : List Event) → Notes machine earlier state events
notes-from machine earlier state [] = record { rest = []; are = sym (append-nil earlier); notes = tt }
notes-from machine earlier state (event ∷ events) =
    let more = notes-from machine (earlier ++ note_of machine earlier state event ∷ []) (after machine state event) events in
    record {
      rest = note_of machine earlier state event ∷ more.rest;
      are = more.are ∙ append_assoc earlier (note_of machine earlier state event ∷ []) more.rest;
      notes = (record { event = refl; before = refl }, more.notes);
    }

-- the accesses of notes
notes-listed : (machine : Machine) (seen : List Seen) (notes : List NotedEvent) → AllZip IsNote seen notes → AreListed machine seen (map (λ (e : LoggedEvent). e.accesses) (map (logged machine) notes))
notes-listed machine [] [] h = tt
notes-listed machine [] (n ∷ notes) h = absurd h
notes-listed machine (s ∷ seen) [] h = absurd h
notes-listed machine (s ∷ seen) (n ∷ notes) h =
    (record { process = n.process; line = n.line; are = λ i. accesses_of machine n.process n.line (h.0.before i) (h.0.event i) }, notes-listed machine seen notes h.1)

-- the log of a phase
phase-listed : (machine : Machine) (number : ℕ) (phase : Phase) → AreListed machine (phase_seen machine phase) (phase_accesses (logged_phase_of machine number phase))
phase-listed machine number phase =
    let notes = notes-from machine [] phase.begins phase.events in
    subst (λ (l : List NotedEvent). AreListed machine (phase_seen machine phase) (map (λ (e : LoggedEvent). e.accesses) (map (logged machine) l))) (sym notes.are)
    (notes-listed machine (phase_seen machine phase) notes.rest notes.notes)

phases-listed : (machine : Machine) (number : ℕ) (all : List Phase) → AreListed machine (joined (map (phase_seen machine) all)) (joined (map phase_accesses (logged_phases machine number all)))
phases-listed machine number [] = tt
phases-listed machine number (phase ∷ rest) =
    all_zip-append (AreAccessesOf machine) (phase_seen machine phase) (phase_accesses (logged_phase_of machine number phase)) (joined (map (phase_seen machine) rest))
    (joined (map phase_accesses (logged_phases machine (number + 1) rest))) (phase-listed machine number phase) (phases-listed machine (number + 1) rest)

-- the log of a slot
pub slot-listed : (machine : Machine) (first : Turn) (slot : FirstSlot) (log : SlotLog) → IsSlotLog machine first (phases machine slot) log →
    AreListed machine (slot_seen machine slot) (log_accesses log)
slot-listed machine first slot log is =
    subst (λ (l : List PhaseOfSlot). AreListed machine (slot_seen machine slot) (joined (map phase_accesses l))) (sym is.phases_are) (phases-listed machine 1 (phases machine slot))

-- Who acts

-- in each event of a slot somebody acts
seen-notes : (machine : Machine) (earlier : List NotedEvent) (state : State) (events : List Event) → length (noted_from machine earlier state events) ≡ length earlier + length events
seen-notes machine earlier state [] = omega arith
seen-notes machine earlier state (event ∷ events) =
    let more = seen-notes machine (earlier ++ note_of machine earlier state event ∷ []) (after machine state event) events in
    let long = length-append earlier (note_of machine earlier state event ∷ []) in
    omega (arith, more, long)

phase-acted : (machine : Machine) (number : ℕ) (phase : Phase) (actors : List Actor) → map event_of actors ≡ phase.events → HasActors (logged_phase_of machine number phase) actors
phase-acted machine number phase actors are =
    let noted = length-map (noted_from machine [] phase.begins phase.events) (logged machine) in
    let count = seen-notes machine [] phase.begins phase.events in
    let own = length-map actors event_of in
    let same = ap (λ (l : List Event). length l) are in
    omega (arith, noted, count, own, same)

cons_same : {A : Type 0} (x y : A) (xs ys : List A) → x ∷ xs ≡ y ∷ ys → (x ≡ y) × (xs ≡ ys)
cons_same x y xs ys e = (cc, cc)

phases-acted : (machine : Machine) (number : ℕ) (all : List Phase) (actors : List (List Actor)) →
    map (λ (own : List Actor). map event_of own) actors ≡ map (λ (phase : Phase). phase.events) all → AllZip HasActors (logged_phases machine number all) actors
phases-acted machine number [] [] are = tt
phases-acted machine number [] (own ∷ actors) are = cc
phases-acted machine number (phase ∷ rest) [] are = cc
phases-acted machine number (phase ∷ rest) (own ∷ actors) are =
    let parts = cons_same (map event_of own) phase.events (map (λ (a : List Actor). map event_of a) actors) (map (λ (p : Phase). p.events) rest) are in
    (phase-acted machine number phase own parts.0, phases-acted machine (number + 1) rest actors parts.1)

pub slot-acted : (machine : Machine) (first : Turn) (all : List Phase) (log : SlotLog) → IsSlotLog machine first all log → IsActed log
slot-acted machine first all log is = subst (λ (l : List PhaseOfSlot). AllZip HasActors l log.actors) (sym is.phases_are) (phases-acted machine 1 all log.actors is.actors_are)

-- the events of a slot are those in which they act
seen-events : (machine : Machine) (state : State) (events : List Event) → events_of (seen_from machine state events) ≡ events
seen-events machine state [] = refl
seen-events machine state (event ∷ events) = ap (λ l. event ∷ l) (seen-events machine (after machine state event) events)

phases-events : (machine : Machine) (all : List Phase) → events_of (joined (map (phase_seen machine) all)) ≡ joined (map (λ (phase : Phase). phase.events) all)
phases-events machine [] = refl
phases-events machine (phase ∷ rest) =
    map-append (λ (one : Seen). one.event) (phase_seen machine phase) (joined (map (phase_seen machine) rest))
    ∙ (λ i. seen-events machine phase.begins phase.events i ++ phases-events machine rest i)

-- and of a slot by its log
pub slot-events : (machine : Machine) (first : Turn) (slot : FirstSlot) (log : SlotLog) → IsSlotLog machine first (phases machine slot) log → events_of (slot_seen machine slot) ≡ log_events log
slot-events machine first slot log is = phases-events machine (phases machine slot) ∙ sym (ap joined is.actors_are)
