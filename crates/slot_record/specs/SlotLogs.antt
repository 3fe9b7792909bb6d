-- What the log of a slot stands for: its phases in order, each with its log, who acts in its events, and the turn before it (IEEE 1364-2001, clause 5).
use Rattle.std.proofs.Common.{◌∙◌, refl, sym, ap, append_assoc, arith}
use Rattle.std.proofs.lemmas.List.{map_push}
use Rattle.std.specs.Prelude.{◌≡◌, ℕ, ◌+◌, List, [], ◌∷◌, ◌++◌, map, length, Option, Some, None}
use Rattle.v_design.specs.Designs.{Machine}
use Rattle.v_design.specs.States.{State, Event, TurnKind, PostponedTurn, UpdatesTurn, TimeTurn, after}
use Rattle.v_design.specs.PhaseLogs.{NotedEvent, note_of, noted_from, noted_events, log_of}
use Rattle.v_design.specs.Grades.{Phase}
use Rattle.causal_monitor.specs.Phases.{PhaseOfSlot}
use Rattle.causal_monitor.specs.declared.slot.Actor.{Actor}
use Rattle.causal_monitor.specs.declared.slot.Turn.{Turn}
use Rattle.causal_monitor.specs.declared.slot.Turn.TheVariants.{Zero, Updates, Time}
use Rattle.causal_monitor.specs.declared.slot.SlotLog.{SlotLog}
use Rattle.slot_record.specs.declared.phase.PhaseRecord.{PhaseRecord}
use Rattle.slot_record.specs.Records.{event_of, IsRecordOf}

-- the turn before a phase of a slot; the first phase of the slot comes after a given one
abbrev pub turn_before : Turn → Option TurnKind → Turn
turn_before first None = first
turn_before first (Some PostponedTurn) = Zero
turn_before first (Some UpdatesTurn) = Updates
turn_before first (Some (TimeTurn time)) = Time

-- a phase of a number as it is logged
abbrev pub logged_phase_of : Machine → ℕ → Phase → PhaseOfSlot
logged_phase_of machine number phase = record { time = phase.begins.time; phase = number; log = log_of machine phase.begins phase.events }

-- phases as they are logged, the first with a number
abbrev pub logged_phases : Machine → ℕ → List Phase → List PhaseOfSlot
logged_phases machine number [] = []
logged_phases machine number (phase ∷ rest) = logged_phase_of machine number phase ∷ logged_phases machine (number + 1) rest

-- the log of a slot stands for these phases of it
pub record IsSlotLog (machine : Machine) (first : Turn) (phases : List Phase) (slot : SlotLog) : Type 0 where
  pub phases_are : slot.phases ≡ logged_phases machine 1 phases
  pub actors_are : map (λ (actors : List Actor). map event_of actors) slot.actors ≡ map (λ (phase : Phase). phase.events) phases
  pub turns_are : slot.turns ≡ map (λ (phase : Phase). turn_before first phase.turn) phases

-- one phase more is put at the end
pub record Appends (kept : PhaseRecord) (turn : Turn) (old new : SlotLog) : Type 0 where
  pub phases : new.phases ≡ old.phases ++ kept.log ∷ []
  pub actors : new.actors ≡ old.actors ++ kept.actors.items ∷ []
  pub turns : new.turns ≡ old.turns ++ turn ∷ []
  pub time : new.time ≡ old.time

logged-more : (machine : Machine) (number : ℕ) (before : List Phase) (phase : Phase) → logged_phases machine number (before ++ phase ∷ []) ≡ logged_phases machine number before
    ++ logged_phase_of machine (length before + number) phase ∷ []
logged-more machine number [] phase = let z : number ≡ 0 + number = omega arith in ap (λ n. logged_phase_of machine n phase ∷ []) z
logged-more machine number (first ∷ before) phase =
    ap (λ l. logged_phase_of machine number first ∷ l) (logged-more machine (number + 1) before phase
    ∙ (let z : length before + (number + 1) ≡ length (first ∷ before) + number = omega arith in ap (λ n. logged_phases machine (number + 1) before ++ logged_phase_of machine n phase ∷ []) z))

noted-are : (machine : Machine) (earlier : List NotedEvent) (state : State) (events : List Event) →
    map (λ (n : NotedEvent). n.event) (noted_from machine earlier state events) ≡ map (λ (n : NotedEvent). n.event) earlier ++ events
noted-are machine earlier state [] = sym (append-nothing (map (λ (n : NotedEvent). n.event) earlier))
  where
    append-nothing : (xs : List Event) → xs ++ [] ≡ xs
    append-nothing [] = refl
    append-nothing (x ∷ xs) = ap (λ ys. x ∷ ys) (append-nothing xs)
noted-are machine earlier state (event ∷ events) =
    noted-are machine (earlier ++ note_of machine earlier state event ∷ []) (after machine state event) events
    ∙ ap (λ l. l ++ events) (map_push (λ (n : NotedEvent). n.event) earlier (note_of machine earlier state event))
    ∙ append_assoc (map (λ (n : NotedEvent). n.event) earlier) (event ∷ []) events

-- where the log of a slot stands for its phases so far, and a record for the next one, the log with that phase put at its end stands for one phase more
pub slot_log-more : (machine : Machine) (first : Turn) (before : List Phase) (phase : Phase) (kept : PhaseRecord) (turn : Turn) (old new : SlotLog) → IsSlotLog machine first before old →
    IsRecordOf machine (length before + 1) phase.begins (noted_events machine phase.begins phase.events) kept → turn ≡ turn_before first phase.turn → Appends kept turn old new →
    IsSlotLog machine first (before ++ phase ∷ []) new
slot_log-more machine first before phase kept turn old new had is same more = record {
  phases_are = more.phases ∙ (λ i. had.phases_are i ++ record { time = is.time i; phase = is.numbered i; log = is.log i } ∷ []) ∙ sym (logged-more machine 1 before phase);
  actors_are = ap (map (λ (actors : List Actor). map event_of actors)) more.actors ∙ map_push (λ (actors : List Actor). map event_of actors) old.actors kept.actors.items
      ∙ (λ i. had.actors_are i ++ (is.actors ∙ noted-are machine [] phase.begins phase.events) i ∷ []) ∙ sym (map_push (λ (p : Phase). p.events) before phase);
  turns_are = more.turns ∙ (λ i. had.turns_are i ++ same i ∷ []) ∙ sym (map_push (λ (p : Phase). turn_before first p.turn) before phase);
}
