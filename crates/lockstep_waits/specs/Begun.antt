-- The wait that a process is in behind some events among which it took a step: one of these began it (waits by IEEE 1364-2001, clause 9.7; accesses by clause 5).
use Rattle.std.specs.Prelude.{◌≡◌, ℕ, Bool, true, List}
use Rattle.v_design.specs.Trees.{Entry}
use Rattle.v_design.specs.Designs.{Machine}
use Rattle.v_design.specs.States.{State, Event, process_at}
use Rattle.v_design.specs.Runs.{happened}
use Rattle.v_design.specs.Accesses.{Awaiting, ObjectAccess, waiting_entries}
use Rattle.v_design.specs.PhaseLogs.{log_of}
use Rattle.copy_laws.specs.Filter.{IsIn}
use Rattle.block_filter.specs.Likes.{HasLikeAmong}
use Rattle.block_filter.specs.Blocks.{all_accesses}
use Rattle.block_changes.specs.Changes.{steps_process}

-- by one of the accesses a process begins to wait on an entry
pub record BeginsToWait (accesses : List ObjectAccess) (process : ℕ) (entry : Entry) : Type 0 where
  pub access : ObjectAccess
  pub is_in : IsIn access accesses
  pub act : access.act ≡ Awaiting entry
  pub object_is : access.object ≡ entry.object
  pub process_is : access.process ≡ process

-- a process took a step among some events, and waits on an entry behind them
pub record WaitsBehind (machine : Machine) (begins : State) (events : List Event) (process : ℕ) (entry : Entry) : Type 0 where
  pub steps : steps_process events process ≡ true
  pub waits : IsIn entry (waiting_entries (process_at (happened machine begins events) process).activity)

-- The laws

-- then it began that wait among them
abbrev pub LastWaitsAreBegun : Type 0
LastWaitsAreBegun =
    (machine : Machine) (begins : State) (events : List Event) (process : ℕ) (entry : Entry) → WaitsBehind machine begins events process entry →
    BeginsToWait (all_accesses (log_of machine begins events)) process entry

-- so an access by which a wait on the entry begins has its like among theirs
abbrev pub LastWaitsAreLike : Type 0
LastWaitsAreLike =
    (awaited : Entry → Bool) (machine : Machine) (begins : State) (events : List Event) (process : ℕ) (entry : Entry) (access : ObjectAccess) → WaitsBehind machine begins events process entry →
    access.act ≡ Awaiting entry → access.object ≡ entry.object → HasLikeAmong awaited (all_accesses (log_of machine begins events)) access
