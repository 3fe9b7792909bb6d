-- What a comparison of two blocks tells of a slot in lockstep (blocks and slots by IEEE 1364-2001, clause 5; nonblocking updates by clause 9.2.2).
use Rattle.std.specs.Prelude.{◌≡◌, ℕ, true, false, List}
use Rattle.v_design.specs.Designs.{FlatDesign, StuckAt, good_machine, faulty_machine}
use Rattle.v_design.specs.Assignments.{value_at}
use Rattle.v_design.specs.States.{State, ProcessState, Event, process_at}
use Rattle.v_design.specs.Runs.{happened}
use Rattle.copy_laws.specs.Moves.{Parts, ChangesOnly}
use Rattle.copy_between.specs.Differing.{IsDifference}
use Rattle.lockstep_laws.specs.Blocks.{with_all_nodes}
use Rattle.lockstep_laws.specs.Slots.{KeepsNothingSame}
use Rattle.lockstep_index.specs.Writes.{OwnWrites}
use Rattle.lockstep_copy.specs.lockstep_slots.Kept.{LockstepKept, kept_within}
use Rattle.lockstep_copy.specs.lockstep_slots.Standing.{BlocksDiffer}
use Rattle.lockstep_copy.specs.Kept.{TellsWrites}

-- what a process has yet to write
abbrev pub writes_in : ProcessState → OwnWrites
writes_in process = record { later = process.later; lane = process.lane }

-- what is kept behind two blocks: in the parts that either changed, the own values and updates where they aren't the good ones, which are due at the times of these, and as many in each lane; elsewhere what
-- was kept; and each process in these parts does the same in both machines
pub record IsKeptBehind (parts : Parts) (good faulty : State) (old new : LockstepKept) : Type 0 where
  pub values : (object : ℕ) → parts.objects object ≡ true → IsDifference (value_at good.values object) (value_at faulty.values object) (new.values object)
  pub values_stay : (object : ℕ) → parts.objects object ≡ false → new.values object ≡ old.values object
  pub activities : (process : ℕ) → parts.processes process ≡ true → (process_at faulty process).activity ≡ (process_at good process).activity
  pub writes : (process : ℕ) → parts.processes process ≡ true → TellsWrites (writes_in (process_at good process)) (writes_in (process_at faulty process)) (new.writes process)
  pub writes_stay : (process : ℕ) → parts.processes process ≡ false → new.writes process ≡ old.writes process

-- The law: so the slot goes on in lockstep behind the blocks
abbrev pub ComparisonsTell : Type 0
ComparisonsTell =
    (design : FlatDesign) (fault : StuckAt) (parts : Parts) (good faulty : State) (ones others : List Event) (old new : LockstepKept) →
    ChangesOnly (with_all_nodes parts) good (happened (good_machine design) good ones) →
    ChangesOnly (with_all_nodes parts) faulty (happened (faulty_machine design fault) faulty others) →
    KeepsNothingSame (kept_within old good) good →
    IsKeptBehind parts (happened (good_machine design) good ones) (happened (faulty_machine design fault) faulty others) old new →
    BlocksDiffer design fault parts good faulty ones others old new
