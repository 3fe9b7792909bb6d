-- Values, and processes, that are put into a state (nothing of the language).
use Rattle.std.specs.Prelude.{◌≡◌, ℕ, ◌<◌, ◌≤◌, Bool, cond, length, List, [], ◌∷◌, Option, Some, None}
use Rattle.std.specs.Option.{option_map}
use Rattle.four_value.specs.Values.{LogicValue}
use Rattle.vf_base.specs.Base.{process_number}
use Rattle.vf_base.specs.Lists.{AllHold}
use Rattle.vf_base.specs.declared.ids.ProcId.{ProcId}
use Rattle.v_design.specs.Assignments.{value_at}
use Rattle.v_design.specs.Designs.{FlatDesign, width_in}
use Rattle.v_design.specs.States.{State, ProcessState, LaterUpdate, process_at, found_or}
use Rattle.copy_laws.specs.Differences.{own_of}
use Rattle.lockstep_index.specs.Writes.{OwnWrites, with_writes}
use Rattle.lockstep_copy.specs.declared.own.LockstepCopy.{LockstepCopy}

-- What is put

-- objects for which a value is found come to hold it, and nothing else changes
pub record ValuesArePut (found : ℕ → Option LogicValue) (old new : State) : Type 0 where
  pub rest : new ≡ record old { values = new.values }
  pub count : length new.values ≡ length old.values
  pub values : (object : ℕ) → value_at new.values object ≡ found_or (value_at old.values object) (found object)

-- processes for which a state is found come to be in it, and nothing else changes
pub record ProcessesArePut (found : ℕ → Option ProcessState) (old new : State) : Type 0 where
  pub rest : new ≡ record old { processes = new.processes }
  pub count : length new.processes ≡ length old.processes
  pub processes : (process : ℕ) → process_at new process ≡ found_or (process_at old process) (found process)

-- processes for which updates are found come to have these yet to write, and nothing else changes
pub record WritesArePut (found : ℕ → Option OwnWrites) (old new : State) : Type 0 where
  pub rest : new ≡ record old { processes = new.processes }
  pub count : length new.processes ≡ length old.processes
  pub processes : (process : ℕ) → process_at new process ≡ with_writes (found process) (process_at old process)

-- What is found

-- what is found under some numbers
abbrev pub found_among : {A : Type 0} → (ℕ → Bool) → (ℕ → Option A) → ℕ → Option A
found_among parts found number = cond (parts number) (found number) None

-- the process whose lane took a step, if one did
abbrev pub lane_numbers : Option ProcId → List ℕ
lane_numbers None = []
lane_numbers (Some process) = process_number process ∷ []

-- the objects of some values as a state has them
abbrev pub values_restored : List (ℕ × LogicValue) → State → ℕ → Option LogicValue
values_restored values state object = option_map (λ (kept : LogicValue). value_at state.values object) (own_of values object)

-- What may be put

-- a value for an object of a state, as wide as the object
pub record FitsObject (design : FlatDesign) (state : State) (object : ℕ) (value : LogicValue) : Type 0 where
  pub there : object < length state.values
  pub width : length value ≡ width_in design object

-- so does each of some values
abbrev pub ValuesFit : FlatDesign → State → List (ℕ × LogicValue) → Type 0
ValuesFit design state values = (object : ℕ) (value : LogicValue) → own_of values object ≡ Some value → FitsObject design state object value

-- updates for a process of a state, none of them due before its time
pub record FitsProcess (state : State) (process : ℕ) (later : List LaterUpdate) : Type 0 where
  pub there : process < length state.processes
  pub due : AllHold (λ (update : LaterUpdate). state.time ≤ update.time) later

-- what is kept fits a state
pub record KeptFits (design : FlatDesign) (state : State) (own : LockstepCopy) : Type 0 where
  pub values : ValuesFit design state own.copy.values
  pub updates : (process : ℕ) (later : List LaterUpdate) → own_of own.copy.updates process ≡ Some later → FitsProcess state process later

-- in place of some values those of a state that is shown fit another one
pub record ShownFits (design : FlatDesign) (shows : State → Type 0) (now : State) (values : List (ℕ × LogicValue)) : Type 0 where
  pub good : State
  pub shown : shows good
  pub value_count : length good.values ≡ length now.values
  pub each : (object : ℕ) (value : LogicValue) → own_of values object ≡ Some value → FitsObject design now object (value_at good.values object)
