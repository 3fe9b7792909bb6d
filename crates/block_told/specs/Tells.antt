-- What is told of a block (IEEE 1364-2001, clause 5): its accesses, what it changed, and which later steps may have their causes in it.
use Rattle.std.specs.Prelude.{◌≡◌, ◌||◌, ◌+◌, ◌++◌, ◌∷◌, ℕ, cond, Bool, true, false, List, [], map, Option, Some, None, nat_eq, sum_by}
use Rattle.vf_base.specs.Base.{object_number, process_number}
use Rattle.vf_base.specs.Lists.{has}
use Rattle.vf_base.specs.declared.ids.ProcId.{ProcId}
use Rattle.v_design.specs.Designs.{Machine}
use Rattle.v_design.specs.States.{State, Event, Step, LaneStep}
use Rattle.v_design.specs.Runs.{happened}
use Rattle.v_design.specs.Accesses.{AccessAct, Writing, ObjectAccess}
use Rattle.v_design.specs.PhaseLogs.{log_of}
use Rattle.causal_monitor.specs.Notes.{noted_access}
use Rattle.causal_monitor.specs.declared.noted.Noted.{Noted}
use Rattle.value_change.specs.declared.change.Change.{Change}
use Rattle.machine_laws.specs.SlotLoop.{steps_of}
use Rattle.copy_laws.specs.Moves.{Parts, ChangesOnly}
use Rattle.block_filter.specs.Blocks.{all_accesses, may_cause_later}
use Rattle.machine_events.specs.declared.told.Told.{Told}
use Rattle.block_told.specs.declared.told.BlockTold.{BlockTold}

-- what an access does, and to which object
pub record Seen : Type 0 where
  pub object : ℕ
  pub act : AccessAct

abbrev pub access_seen : ObjectAccess → Seen
access_seen access = record { object = access.object; act = access.act }

-- the same of an access as it is told, and of the change of a net, which is a write of it
abbrev pub noted_seen : Noted → Seen
noted_seen noted = access_seen (noted_access noted)

abbrev pub write_seen : Change → Seen
write_seen change = record { object = object_number change.object; act = Writing change.old change.new }

-- whether a process is the one whose lane took a step
abbrev pub is_lane : Option ProcId → ℕ → Bool
is_lane None process = false
is_lane (Some lane) process = nat_eq process (process_number lane)

-- the objects that are told to have changed, the processes that are told to have gone on, and all nodes
abbrev pub parts_told : BlockTold → Parts
parts_told told = record {
  objects = has (map object_number told.changed.items);
  nodes = λ number. true;
  processes = λ process. has (map process_number told.stepped.items) process || has (map process_number told.ended.items) process || is_lane told.lane process;
}

-- what is told of some events from a state on: all their accesses in order, parts outside which nothing changed, whether a later step or lane step of a process may have its cause among them, and
-- how many process and lane steps they are
pub record TellsBlock (machine : Machine) (state : State) (events : List Event) (told : BlockTold) : Type 0 where
  pub accesses : map noted_seen told.accesses.items ≡ map access_seen (all_accesses (log_of machine state events))
  pub changes : ChangesOnly (parts_told told) state (happened machine state events)
  pub steps : (process : ℕ) →
      may_cause_later machine state events (Step process) ≡ (has (map process_number told.stepped.items) process || has (map process_number told.ended.items) process)
  pub lanes : (process : ℕ) → may_cause_later machine state events (LaneStep process) ≡ is_lane told.lane process
  pub count : told.steps ≡ sum_by steps_of events

-- nothing is told
pub record IsUntold (told : BlockTold) : Type 0 where
  pub accesses : told.accesses.items ≡ []
  pub changed : told.changed.items ≡ []
  pub stepped : told.stepped.items ≡ []
  pub ended : told.ended.items ≡ []
  pub lane : told.lane ≡ None
  pub steps : told.steps ≡ 0

-- One event

-- a step of a process is counted, and the process is told where the step begins a run
pub record CountsStep (process : ProcId) (begins : Bool) (old new : BlockTold) : Type 0 where
  pub stepped : new.stepped.items ≡ cond begins (old.stepped.items ++ process ∷ []) old.stepped.items
  pub steps : new.steps ≡ old.steps + 1
  pub accesses : new.accesses.items ≡ old.accesses.items
  pub changed : new.changed.items ≡ old.changed.items
  pub ended : new.ended.items ≡ old.ended.items
  pub lane : new.lane ≡ old.lane

-- what a process or lane step told of itself is told of the block, too
pub record TellsStepOf (event : Told) (old new : BlockTold) : Type 0 where
  pub accesses : new.accesses.items ≡ old.accesses.items ++ event.accesses.items
  pub changed : new.changed.items ≡ old.changed.items ++ event.changed.items
  pub ended : new.ended.items ≡ old.ended.items ++ event.ended.items
  pub stepped : new.stepped.items ≡ old.stepped.items
  pub lane : new.lane ≡ old.lane
  pub steps : new.steps ≡ old.steps

-- and what work on a node told
pub record TellsNodeOf (event : Told) (old new : BlockTold) : Type 0 where
  pub accesses : map noted_seen new.accesses.items ≡ (map noted_seen old.accesses.items ++ map write_seen event.net_changes.items) ++ map noted_seen event.accesses.items
  pub changed : new.changed.items ≡ old.changed.items ++ map (λ (change : Change). change.object) event.net_changes.items
  pub ended : new.ended.items ≡ old.ended.items ++ event.ended.items
  pub stepped : new.stepped.items ≡ old.stepped.items
  pub lane : new.lane ≡ old.lane
  pub steps : new.steps ≡ old.steps
