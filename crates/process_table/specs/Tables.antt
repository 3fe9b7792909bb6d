-- The processes of a machine's state as a table keeps them (IEEE 1364-2001, clause 5).
use Rattle.std.specs.Prelude.{◌≡◌, ℕ, Bool, List, slice_get}
use Rattle.v_design.specs.Designs.{FlatDesign, Machine}
use Rattle.v_design.specs.States.{State, ProcessState, found_or, idle_process, some_entry}
use Rattle.v_design.specs.Accesses.{waiting_entries}
use Rattle.value_change.specs.Changes.{ObjectChange, matches_one}

-- what a table stands for: the design, the present time, and what each process does, by the processes' numbers
pub record TableState : Type 0 where
  pub design : FlatDesign
  pub time : ℕ
  pub processes : List ProcessState

-- a table stands for the processes of a machine's state
pub record IsTableOf (machine : Machine) (state : State) (table : TableState) : Type 0 where
  pub design : table.design ≡ machine.design
  pub time : table.time ≡ state.time
  pub processes : table.processes ≡ state.processes

-- the process of a number; a number with nothing behind it stands for a process that is done
abbrev pub process_in : TableState → ℕ → ProcessState
process_in table number = found_or idle_process (slice_get table.processes number)

-- whether some changes end the wait of a process
abbrev pub is_woken : List ObjectChange → ProcessState → Bool
is_woken changes process = some_entry (matches_one changes) (waiting_entries process.activity)
