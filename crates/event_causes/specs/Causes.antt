-- What tells the causes of a phase's events as they happen (the causes of IEEE 1364-2001, clause 5: an event is caused by the one that activated it).
use Rattle.std.specs.Prelude.{◌≡◌, ℕ, ◌+◌, ◌-◌, ◌<◌, ◌≤◌, Bool, not, ◌&&◌, cond, max, List, [], ◌∷◌, ◌++◌, map, length, get_or, Option, Some, None, nat_lt}
use Rattle.vf_base.specs.Base.{process_number}
use Rattle.four_value.specs.Values.{same_value}
use Rattle.vf_base.specs.Lists.{has, last_place}
use Rattle.v_design.specs.Designs.{Machine}
use Rattle.v_design.specs.Assignments.{value_at}
use Rattle.v_design.specs.States.{State, Event, Step, LaneStep, Evaluation, NetUpdate, after, process_at, is_ready}
use Rattle.v_design.specs.Accesses.{is_waiting}
use Rattle.v_design.specs.PhaseLogs.{NotedEvent, state_after, changes_one, may_cause, cause_of, noted_at, writer_process, writer_line, note_of}
use Rattle.event_causes.specs.declared.causes.Writer.{Writer}
use Rattle.event_causes.specs.declared.causes.Causes.{Causes}

-- Numbers of events

-- the place within its phase of the event of a number, where the phase's first event has the number `base`; a lesser number is of no event of the phase
abbrev pub place_within : ℕ → ℕ → Option ℕ
place_within base number = cond (nat_lt number base) None (Some (number - base))

-- a number is that of the latest event of the phase that passes a test, if one does
pub record IsLatest (base next : ℕ) (test : NotedEvent → Bool) (earlier : List NotedEvent) (number : ℕ) : Type 0 where
  pub below : number < next
  pub tells : place_within base number ≡ last_place test earlier

-- the greatest of the numbers that a table has for some objects, 0 of none
abbrev pub greatest_number : List ℕ → List ℕ → ℕ
greatest_number numbers [] = 0
greatest_number numbers (object ∷ objects) = max (get_or numbers object 0) (greatest_number numbers objects)

-- What is kept

-- the process and the line of the write that an event follows
pub record EventWriter : Type 0 where
  pub process : ℕ
  pub line : ℕ

-- the writer as the code keeps it
abbrev pub writer_of : Writer → EventWriter
writer_of w = record { process = process_number w.process; line = w.line }

-- the writer of a noted event
abbrev pub noted_writer : NotedEvent → EventWriter
noted_writer noted = record { process = noted.process; line = noted.line }

-- the writer that a node's event follows: that of its cause
abbrev pub cause_writer : Option NotedEvent → EventWriter
cause_writer None = record { process = 0; line = 0 }
cause_writer (Some noted) = noted_writer noted

-- whether an event changes one of some objects
abbrev pub changes_among : Machine → List ℕ → NotedEvent → Bool
changes_among machine objects noted = changes_one noted.before (state_after machine noted) objects

-- the numbers of processes and objects
pub record HasSizes (processes objects : ℕ) (causes : Causes) : Type 0 where
  pub steps : length causes.steps.items ≡ processes
  pub lanes : length causes.lanes.items ≡ processes
  pub changes : length causes.changes.items ≡ objects

-- as many processes and objects as before
pub record SameSizes (old new : Causes) : Type 0 where
  pub steps : length new.steps.items ≡ length old.steps.items
  pub lanes : length new.lanes.items ≡ length old.lanes.items
  pub changes : length new.changes.items ≡ length old.changes.items

-- what is kept tells the causes of the next event of a phase, after the events so far
pub record AreCausesOf (machine : Machine) (earlier : List NotedEvent) (causes : Causes) : Type 0 where
  pub processes : length causes.steps.items ≡ length machine.design.processes
  pub lane_processes : length causes.lanes.items ≡ length machine.design.processes
  pub objects : length causes.changes.items ≡ length machine.design.objects
  pub some : 1 ≤ causes.base
  pub counted : causes.next ≡ causes.base + length earlier
  -- by process the latest event that may cause its next step, and its next lane step; by object the latest that changed it
  pub steps : (process : ℕ) → process < length causes.steps.items → IsLatest causes.base causes.next (may_cause machine (Step process)) earlier (get_or causes.steps.items process 0)
  pub lanes : (process : ℕ) → process < length causes.lanes.items → IsLatest causes.base causes.next (may_cause machine (LaneStep process)) earlier (get_or causes.lanes.items process 0)
  pub changes : (object : ℕ) → object < length causes.changes.items → IsLatest causes.base causes.next (changes_among machine (object ∷ [])) earlier (get_or causes.changes.items object 0)
  -- by event its process and its line
  pub writers : map writer_of causes.writers.items ≡ map noted_writer earlier

-- Noting an event

-- what an event changed and whose waits it ended
pub record Tells (machine : Machine) (state : State) (event : Event) (changed ended : List ℕ) : Type 0 where
  pub objects : (object : ℕ) → object < length machine.design.objects →
      has changed object ≡ not (same_value (value_at state.values object) (value_at (after machine state event).values object))
  pub waits : (process : ℕ) → process < length machine.design.processes →
      has ended process ≡ (is_waiting (process_at state process).activity && is_ready (process_at (after machine state event) process).activity)

-- a writer is that of an event in a state
pub record IsWriterOf (machine : Machine) (earlier : List NotedEvent) (state : State) (event : Event) (writer : EventWriter) : Type 0 where
  pub process : writer.process ≡ writer_process event (noted_at earlier (cause_of machine earlier event))
  pub line : writer.line ≡ writer_line machine state event (noted_at earlier (cause_of machine earlier event))

-- where what is kept tells the causes after some events, it comes to tell them after one more, of which so much is told
abbrev pub Notes : (event : Event) (writer : EventWriter) (changed ended : List ℕ) (old new : Causes) → Type 0
Notes event writer changed ended old new =
    (machine : Machine) (earlier : List NotedEvent) (state : State) → AreCausesOf machine earlier old → Tells machine state event changed ended → IsWriterOf machine earlier state event writer →
    AreCausesOf machine (earlier ++ note_of machine earlier state event ∷ []) new

-- the same of an evaluation, which follows its cause; it changes nothing and ends no wait
abbrev pub NotesEvaluation : (cause : Option ℕ) (old new : Causes) → Type 0
NotesEvaluation cause old new =
    (machine : Machine) (earlier : List NotedEvent) (state : State) (node : ℕ) → AreCausesOf machine earlier old → cause ≡ cause_of machine earlier (Evaluation node) →
    AreCausesOf machine (earlier ++ note_of machine earlier state (Evaluation node) ∷ []) new

-- the same of an update of a node's nets, which follows its cause
abbrev pub NotesUpdate : (cause : Option ℕ) (changed ended : List ℕ) (old new : Causes) → Type 0
NotesUpdate cause changed ended old new =
    (machine : Machine) (earlier : List NotedEvent) (state : State) (node : ℕ) → AreCausesOf machine earlier old → Tells machine state (NetUpdate node) changed ended →
    cause ≡ cause_of machine earlier (NetUpdate node) →
    AreCausesOf machine (earlier ++ note_of machine earlier state (NetUpdate node) ∷ []) new

-- Tables

-- some places of a table get a number
pub record Marks (places : List ℕ) (number : ℕ) (old new : List ℕ) : Type 0 where
  pub same_length : length new ≡ length old
  pub each : (place : ℕ) → place < length new → get_or new place 0 ≡ cond (has places place) number (get_or old place 0)

-- one event more: the places that get its number, and its writer
pub record Marked (stepped laned changed : List ℕ) (writer : EventWriter) (old new : Causes) : Type 0 where
  pub base : new.base ≡ old.base
  pub next : new.next ≡ old.next + 1
  pub steps : Marks stepped old.next old.steps.items new.steps.items
  pub lanes : Marks laned old.next old.lanes.items new.lanes.items
  pub changes : Marks changed old.next old.changes.items new.changes.items
  pub writers : map writer_of new.writers.items ≡ map writer_of old.writers.items ++ writer ∷ []

-- one event more begins: it has a number, and its writer is kept
pub record Begins (writer : Writer) (number : ℕ) (old new : Causes) : Type 0 where
  pub number_is : number ≡ old.next
  pub base : new.base ≡ old.base
  pub next : new.next ≡ old.next + 1
  pub steps : new.steps.items ≡ old.steps.items
  pub lanes : new.lanes.items ≡ old.lanes.items
  pub changes : new.changes.items ≡ old.changes.items
  pub writers : new.writers.items ≡ old.writers.items ++ writer ∷ []
