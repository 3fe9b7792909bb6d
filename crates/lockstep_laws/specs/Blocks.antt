-- Lockstep behind events that each of two machines took for itself (IEEE 1364-2001, clause 5).
use Rattle.std.specs.Prelude.{◌≡◌, ℕ, true, false, ◌||◌, List, [], ◌∷◌, length, Some, None}
use Rattle.v_design.specs.Designs.{FlatDesign, Machine, StuckAt, good_machine, faulty_machine}
use Rattle.v_design.specs.Assignments.{value_at}
use Rattle.v_design.specs.States.{State, ProcessState, Event, after, process_at, found_or}
use Rattle.v_design.specs.Runs.{happened}
use Rattle.machine_laws.specs.SlotLoop.{NoNodeWorks}
use Rattle.copy_laws.specs.Moves.{Within, Parts, ChangesOnly, SetsAnew, parts_of}
use Rattle.lockstep_laws.specs.Lockstep.{DiffersInWrites, AreInLockstep}

-- what is kept in some parts is such as lockstep allows: no node, and of a process nothing but what its updates write
pub record KeepsWritesAlone (parts : Parts) (good : State) (d : Within) : Type 0 where
  pub nodes : (number : ℕ) → parts.nodes number ≡ true → d.nodes number ≡ None
  pub processes : (process : ℕ) (own : ProcessState) → parts.processes process ≡ true → d.processes process ≡ Some own → DiffersInWrites (process_at good process) own

-- from lockstep each machine takes some events, which change some parts alone: where the differences are set anew in these parts, and are there such as lockstep allows, both are in lockstep again.
-- Nothing is asked of any other part
abbrev pub LockstepBlocks : Type 0
LockstepBlocks =
    (design : FlatDesign) (fault : StuckAt) (parts : Parts) (good faulty : State) (good_events faulty_events : List Event) (old new : Within) → AreInLockstep old good faulty →
    ChangesOnly parts good (happened (good_machine design) good good_events) → ChangesOnly parts faulty (happened (faulty_machine design fault) faulty faulty_events) →
    SetsAnew parts (happened (good_machine design) good good_events) (happened (faulty_machine design fault) faulty faulty_events) old new →
    KeepsWritesAlone parts (happened (good_machine design) good good_events) new →
    AreInLockstep new (happened (good_machine design) good good_events) (happened (faulty_machine design fault) faulty faulty_events)

-- Where no node has work

-- some parts, and all nodes
abbrev pub with_all_nodes : Parts → Parts
with_all_nodes parts = record parts { nodes = λ number. true }

-- differences without nodes, which are set anew in some objects and processes and stay in all others; there each process differs in what its updates write alone
pub record SetsAnewAtRest (parts : Parts) (good faulty : State) (old new : Within) : Type 0 where
  pub nodes : (number : ℕ) → new.nodes number ≡ None
  pub values_stay : (object : ℕ) → parts.objects object ≡ false → new.values object ≡ old.values object
  pub processes_stay : (process : ℕ) → parts.processes process ≡ false → new.processes process ≡ old.processes process
  pub values : (object : ℕ) → parts.objects object ≡ true → value_at faulty.values object ≡ found_or (value_at good.values object) (new.values object)
  pub processes : (process : ℕ) → parts.processes process ≡ true → process_at faulty process ≡ found_or (process_at good process) (new.processes process)
  pub writes : (process : ℕ) (own : ProcessState) → parts.processes process ≡ true → new.processes process ≡ Some own → DiffersInWrites (process_at good process) own

-- the same where no node has work behind the events, in either machine: then nothing has to be known of any node
abbrev pub LockstepRests : Type 0
LockstepRests =
    (design : FlatDesign) (fault : StuckAt) (parts : Parts) (good faulty : State) (good_events faulty_events : List Event) (old new : Within) → AreInLockstep old good faulty →
    ChangesOnly (with_all_nodes parts) good (happened (good_machine design) good good_events) →
    ChangesOnly (with_all_nodes parts) faulty (happened (faulty_machine design fault) faulty faulty_events) →
    NoNodeWorks (happened (good_machine design) good good_events) → NoNodeWorks (happened (faulty_machine design fault) faulty faulty_events) →
    SetsAnewAtRest parts (happened (good_machine design) good good_events) (happened (faulty_machine design fault) faulty faulty_events) old new →
    AreInLockstep new (happened (good_machine design) good good_events) (happened (faulty_machine design fault) faulty faulty_events)

-- Parts that several events change

-- a part of one or of the other
abbrev pub either_parts : Parts → Parts → Parts
either_parts one other = record {
  objects = λ object. one.objects object || other.objects object;
  nodes = λ number. one.nodes number || other.nodes number;
  processes = λ process. one.processes process || other.processes process;
}

-- the parts that some events may change, each in the state that the ones before it lead to
abbrev pub parts_of_all : Machine → State → List Event → Parts
parts_of_all machine state [] = record { objects = λ object. false; nodes = λ number. false; processes = λ process. false }
parts_of_all machine state (event ∷ events) = either_parts (parts_of machine state event) (parts_of_all machine (after machine state event) events)

-- changes add up
pub record ChangesAddUp : Type 0 where
  -- what changes in some parts alone changes in more parts alone
  pub wider : (parts more : Parts) (before later : State) → ChangesOnly parts before later → ((object : ℕ) → more.objects object ≡ false → parts.objects object ≡ false) →
      ((number : ℕ) → more.nodes number ≡ false → parts.nodes number ≡ false) → ((process : ℕ) → more.processes process ≡ false → parts.processes process ≡ false) →
      ChangesOnly more before later
  -- and one change after another does
  pub more : (parts : Parts) (before middle later : State) → ChangesOnly parts before middle → ChangesOnly parts middle later → ChangesOnly parts before later
  -- several events change the parts of each
  pub events : (machine : Machine) (state : State) (events : List Event) → length state.nodes ≡ length machine.design.nodes →
      ChangesOnly (parts_of_all machine state events) state (happened machine state events)
