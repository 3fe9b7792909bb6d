-- In a run the waits are those of the texts: what holds of the accesses of a phase, and of the state at each moment (accesses and phases by IEEE 1364-2001, clause 5; waits by clause 9.7).
use Rattle.std.specs.Prelude.{◌≡◌, ℕ, true, List, Some, slice_get}
use Rattle.vf_base.specs.Lists.{AllHold}
use Rattle.v_design.specs.Designs.{FlatDesign, Machine}
use Rattle.v_design.specs.States.{State, Event, TurnKind, start, turned}
use Rattle.v_design.specs.Runs.{Move, FirstSlot, happened, all_made, first_run}
use Rattle.v_design.specs.Accesses.{AccessAct, Reading, Writing, Awaiting, Ending, Holding, Settling, ObjectAccess, held_accesses}
use Rattle.v_design.specs.PhaseLogs.{log_of}
use Rattle.copy_laws.specs.Windows.{state_at}
use Rattle.machine_laws.specs.SlotLoop.{Moment, ComesTo}
use Rattle.block_filter.specs.Blocks.{all_accesses}
use Rattle.wait_index.specs.Waits.{WaitsAreOfBodies}
use Rattle.lockstep_waits.specs.Awaited.{is_awaited}

-- an access is a read, a write, or of an entry of a wait on an object on which some process of the design may wait
abbrev pub IsOfText : FlatDesign → AccessAct → ℕ → Type 0
IsOfText design Reading object = Unit {0}
IsOfText design (Writing old new) object = Unit {0}
IsOfText design (Awaiting entry) object = (object ≡ entry.object) × (is_awaited design object ≡ true)
IsOfText design (Ending entry) object = (object ≡ entry.object) × (is_awaited design object ≡ true)
IsOfText design (Holding entry) object = (object ≡ entry.object) × (is_awaited design object ≡ true)
IsOfText design Settling object = ⊥

-- several accesses are
abbrev pub AreOfTexts : FlatDesign → List ObjectAccess → Type 0
AreOfTexts design accesses = AllHold (λ (access : ObjectAccess). IsOfText design access.act access.object) accesses

-- The laws

-- where each process waits, and may wait yet, on objects of its body alone, the accesses of whatever events from there on are of the texts, and so are the entries that a phase holds that begins there
pub record OnlyTextsWait : Type 0 where
  pub events : (machine : Machine) (state : State) (events : List Event) → WaitsAreOfBodies machine state → AreOfTexts machine.design (all_accesses (log_of machine state events))
  pub held : (machine : Machine) (state : State) → WaitsAreOfBodies machine state → AreOfTexts machine.design (held_accesses machine state)

-- that each process does so holds at the start of a run, and stays so with events and turns; so each slot of the first run begins, the first run stands so at each time, and within a slot that begins
-- so the present phase began so, and the present state is so
pub record WaitsGoOn : Type 0 where
  pub at_start : (machine : Machine) → WaitsAreOfBodies machine (start machine)
  pub after_events : (machine : Machine) (state : State) (events : List Event) → WaitsAreOfBodies machine state → WaitsAreOfBodies machine (happened machine state events)
  pub after_turn : (machine : Machine) (state : State) (kind : TurnKind) → WaitsAreOfBodies machine state → WaitsAreOfBodies machine (turned kind state)
  pub after_moves : (machine : Machine) (state : State) (moves : List Move) → WaitsAreOfBodies machine state → WaitsAreOfBodies machine (all_made machine state moves)
  pub slots_begin : (machine : Machine) (time number : ℕ) (slot : FirstSlot) → slice_get (first_run machine time) number ≡ Some slot → WaitsAreOfBodies machine slot.begins
  pub states_stand : (machine : Machine) (end time : ℕ) → WaitsAreOfBodies machine (state_at machine end time)
  pub phases_begin : (machine : Machine) (at : Moment) → ComesTo machine at → WaitsAreOfBodies machine at.begins → WaitsAreOfBodies machine at.phase_begins
  pub moments : (machine : Machine) (at : Moment) → ComesTo machine at → WaitsAreOfBodies machine at.begins → WaitsAreOfBodies machine at.state
