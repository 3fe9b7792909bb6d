-- What is kept within a slot, as the laws on lockstep see it (nonblocking updates by IEEE 1364-2001, clause 9.2.2).
use Rattle.std.specs.Prelude.{◌≡◌, ◌≢◌, ℕ, not, List, [], ◌++◌, map, length, filter, Option, Some}
use Rattle.std.specs.Option.{option_map}
use Rattle.v_design.specs.Plain.{due_of, update_of}
use Rattle.v_design.specs.States.{LaterUpdate, UpdatesTurn, found_or, is_due}
use Rattle.v_design.specs.declared.plan.Due.{Due}
use Rattle.v_design.specs.declared.plan.Update.{Update}
use Rattle.copy_laws.specs.Differences.{own_of}
use Rattle.copy_state.specs.Entries.{with_entry, without_entry}
use Rattle.copy_between.specs.Differing.{IsDifference}
use Rattle.lockstep_laws.specs.Lockstep.{due_times}
use Rattle.lockstep_index.specs.Writes.{OwnWrites}
use Rattle.lockstep_slots.specs.Kept.{LockstepKept, turned_writes}
use Rattle.lockstep_copy.specs.declared.own.LockstepCopy.{LockstepCopy}

-- what a process has yet to write, as the code has it
abbrev pub writes_told : List Due → List Update → OwnWrites
writes_told later lane = record { later = map due_of later; lane = map update_of lane }

-- when an update is due
abbrev pub time_of : Due → ℕ
time_of update = update.time

-- own values, and the updates of the processes that have own pending ones, each with its lane
abbrev pub kept_by : LockstepCopy → LockstepKept
kept_by own = record {
  values = own_of own.copy.values;
  writes = λ process. option_map (λ (later : List LaterUpdate). record { later = later; lane = map update_of (found_or [] (own_of own.lanes process)) }) (own_of own.copy.updates process);
}

-- updates of a process are kept, or none
abbrev pub with_writes_kept : ℕ → List LaterUpdate → List Update → LockstepCopy → LockstepCopy
with_writes_kept process later lane own = record {
  copy = record own.copy { updates = with_entry process later own.copy.updates };
  lanes = with_entry process lane own.lanes;
}

abbrev pub without_writes_kept : ℕ → LockstepCopy → LockstepCopy
without_writes_kept process own = record {
  copy = record own.copy { updates = without_entry process own.copy.updates };
  lanes = without_entry process own.lanes;
}

-- what is kept of a process's updates, if some are, tells the own ones beside the good ones, and isn't these; they are due at the same times, and as many are in the lane
pub record TellsWrites (good own : OwnWrites) (found : Option OwnWrites) : Type 0 where
  pub difference : IsDifference good own found
  pub due : (kept : OwnWrites) → found ≡ Some kept → due_times kept.later ≡ due_times good.later
  pub lane : (kept : OwnWrites) → found ≡ Some kept → length kept.lane ≡ length good.lane

-- values and the updates of other processes stay
pub record StaysElsewhere (process : ℕ) (old new : LockstepCopy) : Type 0 where
  pub fault : new.copy.fault ≡ old.copy.fault
  pub values : new.copy.values ≡ old.copy.values
  pub states : new.copy.states ≡ old.copy.states
  pub others : (other : ℕ) → process ≢ other → (kept_by new).writes other ≡ (kept_by old).writes other

-- the updates of a process are kept where they aren't the good ones
pub record WritesAreKept (process : ℕ) (good own : OwnWrites) (old new : LockstepCopy) : Type 0 where
  pub rest : StaysElsewhere process old new
  pub here : TellsWrites good own ((kept_by new).writes process)

-- the updates of a process are kept as they are behind the turn that puts those that are due into lanes
pub record TurnsWrites (now process : ℕ) (old new : LockstepCopy) : Type 0 where
  pub rest : StaysElsewhere process old new
  pub here : (kept_by new).writes process ≡ option_map (turned_writes now UpdatesTurn) ((kept_by old).writes process)

-- those of some updates that are due by a time stand behind others in a lane, and the rest behind others in a list
pub record ArePartedBy (now : ℕ) (updates rest_old rest_new : List Due) (lane_old lane_new : List Update) : Type 0 where
  pub rest : map due_of rest_new ≡ map due_of rest_old ++ filter (λ (later : LaterUpdate). not (is_due now later)) (map due_of updates)
  pub lane : map update_of lane_new ≡ map update_of lane_old ++ map (λ (later : LaterUpdate). later.update) (filter (is_due now) (map due_of updates))
