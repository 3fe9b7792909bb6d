-- A runner that comes into a state that is shown (slots by IEEE 1364-2001, clause 5).
use Rattle.std.specs.Prelude.{◌≡◌, ℕ, false, ◌||◌, cond, nat_lt, List, length, map, Option, Some, None}
use Rattle.four_value.specs.Values.{LogicValue}
use Rattle.vf_base.specs.Lists.{has}
use Rattle.vf_base.specs.declared.ids.ProcId.{ProcId}
use Rattle.v_design.specs.Assignments.{value_at}
use Rattle.v_design.specs.Designs.{FlatDesign, FlatNode}
use Rattle.v_design.specs.States.{State, ProcessState, found_or, idle_node, process_at}
use Rattle.process_code.specs.declared.code.Code.{Code}
use Rattle.process_table.specs.Puts.{MayStand}
use Rattle.run_ends.specs.RunEnds.{AreCodesOf}
use Rattle.copy_laws.specs.Moves.{Parts, ChangesOnly}
use Rattle.lockstep_exchange.specs.Exchange.{AreWide}
use Rattle.lockstep_exchange.specs.Putting.{lane_numbers}
use Rattle.lockstep_room.specs.declared.counts.Counts.{Counts}

-- What is found

-- some objects as a state has them, and some processes
abbrev pub values_among : List ℕ → State → ℕ → Option LogicValue
values_among objects state object = cond (has objects object) (Some (value_at state.values object)) None

abbrev pub processes_among : List ℕ → State → ℕ → Option ProcessState
processes_among processes state process = cond (has processes process) (Some (process_at state process)) None

-- so many first ones
abbrev pub values_below : ℕ → State → ℕ → Option LogicValue
values_below count state object = cond (nat_lt object count) (Some (value_at state.values object)) None

abbrev pub processes_below : ℕ → State → ℕ → Option ProcessState
processes_below count state process = cond (nat_lt process count) (Some (process_at state process)) None

-- objects and processes of a state, and the process whose lane took a step, are as in another one, and all else is as it was
pub record IsBrought (objects actors : List ℕ) (lane : Option ProcId) (good old new : State) : Type 0 where
  pub time_is : new.time ≡ old.time
  pub nodes_are : new.nodes ≡ old.nodes
  pub value_count : length new.values ≡ length old.values
  pub process_count : length new.processes ≡ length old.processes
  pub values : (object : ℕ) → value_at new.values object ≡ found_or (value_at old.values object) (values_among objects good object)
  pub processes : (process : ℕ) →
      process_at new process ≡ found_or (process_at old process) (cond (has actors process || has (lane_numbers lane) process) (Some (process_at good process)) None)

-- the counts of a design's parts
pub record AreCounts (design : FlatDesign) (counts : Counts) : Type 0 where
  pub objects : counts.objects ≡ length design.objects
  pub processes : counts.processes ≡ length design.processes

-- What may be shown

-- a state that is shown is one of a design in which each process may stand where it does, at the time of another one
pub record MayStandSo (design : FlatDesign) (shows : State → Type 0) (now : State) : Type 0 where
  pub good : State
  pub shown : shows good
  pub codes : List Code
  pub codes_are : AreCodesOf design codes
  pub value_count : length good.values ≡ length now.values
  pub process_count : length good.processes ≡ length now.processes
  pub time_is : good.time ≡ now.time
  pub wide : AreWide design good
  pub may : (process : ℕ) → MayStand design now.time process (process_at good process)

-- a state at a time that is shown is one of a design in which no node has work, and each process may stand where it does
pub record MayStandAt (design : FlatDesign) (shows : State → Type 0) (time : ℕ) : Type 0 where
  pub good : State
  pub shown : shows good
  pub codes : List Code
  pub codes_are : AreCodesOf design codes
  pub value_count : length good.values ≡ length design.objects
  pub process_count : length good.processes ≡ length design.processes
  pub nodes : good.nodes ≡ map (λ (node : FlatNode). idle_node) design.nodes
  pub time_is : good.time ≡ time
  pub wide : AreWide design good
  pub may : (process : ℕ) → MayStand design time process (process_at good process)

-- some objects, some processes, and the one whose lane took a step, as parts
abbrev pub parts_listed : List ℕ → List ℕ → Option ProcId → Parts
parts_listed objects processes lane = record { objects = has objects; nodes = λ number. false; processes = λ process. has processes process || has (lane_numbers lane) process }

-- a state that is shown is another one changed in some objects and processes alone
pub record MayFollow (design : FlatDesign) (shows : State → Type 0) (objects processes : List ℕ) (lane : Option ProcId) (now : State) : Type 0 where
  pub stands : MayStandSo design shows now
  pub changes : ChangesOnly (parts_listed objects processes lane) now stands.good
