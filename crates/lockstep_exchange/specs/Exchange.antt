-- What is kept of a faulty machine in lockstep put into the good machine's state, and taken out of the faulty one's (slots by IEEE 1364-2001, clause 5).
use Rattle.std.specs.Prelude.{◌≡◌, ℕ, ◌<◌, ◌||◌, Bool, cond, List, length, Option, Some, None}
use Rattle.four_value.specs.Values.{LogicValue}
use Rattle.vf_base.specs.Lists.{has}
use Rattle.vf_base.specs.declared.ids.ProcId.{ProcId}
use Rattle.v_design.specs.Assignments.{value_at}
use Rattle.v_design.specs.Designs.{FlatDesign, width_in}
use Rattle.v_design.specs.States.{State, node_at, process_at}
use Rattle.copy_laws.specs.Differences.{own_of}
use Rattle.lockstep_laws.specs.Lockstep.{AreInLockstep}
use Rattle.lockstep_laws.specs.Slots.{KeepsNothingSame}
use Rattle.lockstep_copy.specs.lockstep_slots.Kept.{kept_within}
use Rattle.lockstep_copy.specs.Kept.{kept_by}
use Rattle.lockstep_copy.specs.declared.own.LockstepCopy.{LockstepCopy}
use Rattle.lockstep_exchange.specs.Putting.{lane_numbers}

-- each value is as wide as its object
abbrev pub AreWide : FlatDesign → State → Type 0
AreWide design state = (object : ℕ) → object < length state.values → length (value_at state.values object) ≡ width_in design object

-- what is kept makes of a good state one in lockstep with it, and nothing that is kept is the good one's
pub record MakesLockstep (own : LockstepCopy) (good faulty : State) : Type 0 where
  pub lockstep : AreInLockstep (kept_within (kept_by own) good) good faulty
  pub nothing_same : KeepsNothingSame (kept_within (kept_by own) good) good

-- beside a good state there is one in lockstep with it
pub record MayPutIn (design : FlatDesign) (own : LockstepCopy) (good : State) : Type 0 where
  pub faulty : State
  pub wide : AreWide design faulty
  pub makes : MakesLockstep own good faulty

-- of a faulty state beside a good one a state has all values, and the processes that act; its other processes are the good ones
pub record ArePutFor (acts : ℕ → Bool) (good faulty now : State) : Type 0 where
  pub rest : now ≡ record faulty { processes = now.processes }
  pub count : length now.processes ≡ length good.processes
  pub processes : (process : ℕ) → process_at now process ≡ cond (acts process) (process_at faulty process) (process_at good process)

-- some processes act, and the one whose lane takes a step, if one does
abbrev pub acts_among : List ℕ → Option ProcId → ℕ → Bool
acts_among acted lane process = has acted process || has (lane_numbers lane) process

-- a state is another one that is shown but for the objects of which a value is kept
pub record IsButFor (own : LockstepCopy) (good now : State) : Type 0 where
  pub value_count : length now.values ≡ length good.values
  pub node_count : length now.nodes ≡ length good.nodes
  pub process_count : length now.processes ≡ length good.processes
  pub time_is : now.time ≡ good.time
  pub nodes : (number : ℕ) → node_at now number ≡ node_at good number
  pub values : (object : ℕ) → own_of own.copy.values object ≡ None → value_at now.values object ≡ value_at good.values object
  pub processes : (process : ℕ) → process_at now process ≡ process_at good process
  pub objects_there : (object : ℕ) (value : LogicValue) → own_of own.copy.values object ≡ Some value → object < length good.values

pub record MayTakeOut (design : FlatDesign) (shows : State → Type 0) (own : LockstepCopy) (now : State) : Type 0 where
  pub good : State
  pub shown : shows good
  pub wide : AreWide design good
  pub but_for : IsButFor own good now
