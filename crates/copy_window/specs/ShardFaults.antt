-- A fault of a shard that has gone through so many slots of the good first run (slots by IEEE 1364-2001, clause 5).
use Rattle.std.specs.Prelude.{◌≡◌, ℕ, ◌<◌, Bool, List, length, take, Option, None, Some, slice_get, option_map}
use Rattle.vf_base.specs.declared.finding.End.{End}
use Rattle.v_design.specs.Designs.{FlatDesign, StuckAt, TestPlan, faulty_machine}
use Rattle.v_design.specs.Plain.{grade_of}
use Rattle.process_code.specs.declared.code.Code.{Code}
use Rattle.run_ends.specs.RunEnds.{AreCodesOf}
use Rattle.copy_laws.specs.Windows.{FaultBeside, IsBesideAt, good_slots, time_at, state_at}
use Rattle.copy_state.specs.Kept.{AreStatesOf}
use Rattle.copy_between.specs.Beside.{KeepsWithin}
use Rattle.grade_laws.specs.Grading.{good_seen, faulty_seen}
use Rattle.beside_laws.specs.GoodRuns.{IsOpenAt}
use Rattle.fault_strobes.specs.Full.{IsFull}
use Rattle.fault_strobes.specs.Said.{IsSaid, Said, keeps, plan_by}
use Rattle.fault_strobes.specs.Shown.{said_of}
use Rattle.copy_room.specs.machine.Standing.{StandsBetween}
use Rattle.copy_window.specs.Copies.{differences_in}
use Rattle.copy_window.specs.declared.fault.ShardFault.{ShardFault}

-- the fault, its copy's differences, and its grade, if its grading ended
abbrev pub beside_by : FlatDesign → StuckAt → ShardFault → FaultBeside
beside_by design fault own = record { fault = fault; differences = differences_in design own.copy; found = option_map grade_of own.end }

-- what the strobes said of it so far, and whether its samples are kept
abbrev pub said_by : ShardFault → Said
said_by own = said_of own.strobed

abbrev pub kept_by : ShardFault → Bool
kept_by own = keeps (said_by own)

-- it is the same fault, and judged or kept as before
pub record SameFault (old new : ShardFault) : Type 0 where
  pub number : new.copy.fault ≡ old.copy.fault
  pub kind : kept_by new ≡ kept_by old

-- at a time at which more slots of the good first run come, a fault of which nothing was found keeps enough for its faulty machine to go on; so many of the plan's strobes come up to then
pub record GoesOnAt (design : FlatDesign) (plan : TestPlan) (gone passed : ℕ) (fault : StuckAt) (time : ℕ) (own : ShardFault) : Type 0 where
  pub runs_on : IsOpenAt design plan gone time
  pub between : StandsBetween (faulty_machine design fault) (state_at (faulty_machine design fault) plan.end time)
  pub time_is : (state_at (faulty_machine design fault) plan.end time).time ≡ own.time
  pub states : (codes : List Code) → AreCodesOf design codes → AreStatesOf codes own.copy.states
  pub so_far : IsSaid (good_seen design plan) (faulty_seen design plan fault) (take passed plan.strobes) (said_by own)

-- a fault of a shard: it is listed, and stands as one does behind so many slots of the good first run, up to which so many strobes come, by the strobes that may end its grading;
-- where its samples are kept and its grading ended, they are those of its full grade
pub record IsShardFault (design : FlatDesign) (plan : TestPlan) (gone passed : ℕ) (own : ShardFault) : Type 0 where
  pub fault : StuckAt
  pub listed : slice_get plan.faults own.copy.fault ≡ Some fault
  pub beside : IsBesideAt design (plan_by (kept_by own) plan) gone (beside_by design fault own)
  pub full : (end : End) → own.end ≡ Some end → IsFull design plan fault (grade_of end) (said_by own)
  pub within : KeepsWithin (length design.objects) (length design.processes) own.copy
  pub goes_on : (time : ℕ) → time_at design plan gone ≡ Some time → gone < length (good_slots design plan) → own.end ≡ None → GoesOnAt design plan gone passed fault time own
