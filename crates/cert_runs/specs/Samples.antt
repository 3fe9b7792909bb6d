-- What the strobes see of a run, as its lines go on (strobes by the plan; runs and slots by IEEE 1364-2001, clause 5).
use Rattle.std.specs.Prelude.{◌≡◌, ℕ, ◌<◌, ◌≤◌, List, ◌++◌, map, drop, length, Option, Some, None}
use Rattle.four_value.specs.declared.logic.Bit.{Bit}
use Rattle.vf_base.specs.Base.{WatchedBit}
use Rattle.vf_base.specs.Lists.{AllHold}
use Rattle.v_design.specs.Designs.{Machine}
use Rattle.v_design.specs.WellFormed.{IsAscending}
use Rattle.v_design.specs.States.{State, start}
use Rattle.v_design.specs.Runs.{Move}
use Rattle.v_design.specs.Grades.{samples_at, state_after_slots}
use Rattle.v_design.specs.Laws.{run_samples}
use Rattle.kept_samples.specs.Plain.{sample_of}
use Rattle.kept_samples.specs.declared.kept.Sample.{Sample}
use Rattle.cert_laws.specs.Replays.{RunLine, SlotAt, PhaseNumber, StepsOf, UpdatesOf, Replay}
use Rattle.cert_laws.specs.Valid.{moves_of}

-- Samples that are kept

-- the next strobes, those before a time, see these bits
pub record KeepsBefore (time : ℕ) (bits : List Bit) (strobes : List ℕ) (old new : List Sample) : Type 0 where
  pub now : List ℕ
  pub left_is : drop (length old) strobes ≡ now ++ drop (length new) strobes
  pub samples_are : map sample_of new ≡ map sample_of old ++ samples_at (λ strobe. bits) now
  pub before : AllHold (λ strobe. strobe < time) now
  pub later : IsAscending strobes → AllHold (λ strobe. time ≤ strobe) (drop (length new) strobes)

-- Samples of a run

-- where a run stands that may have begun
abbrev pub state_of : Machine → Option Replay → State
state_of machine None = start machine
state_of machine (Some replay) = replay.now

-- a strobe is still ahead of a run: whatever moves follow, it sees of them what it sees of them from where the run stands
abbrev pub IsAhead : Machine → Option Replay → ℕ → Type 0
IsAhead machine run strobe =
    (rest : List Move) → state_after_slots machine strobe (start machine) (moves_of run ++ rest) ≡ state_after_slots machine strobe (state_of machine run) rest

-- the samples that are kept are those of the run at the strobes that it has passed, whatever moves follow; all other strobes are ahead
pub record SeenSoFar (machine : Machine) (watched : List WatchedBit) (strobes : List ℕ) (bound : ℕ) (run : Option Replay) (kept : List Sample) : Type 0 where
  pub passed : List ℕ
  pub strobes_are : strobes ≡ passed ++ drop (length kept) strobes
  pub samples_are : (rest : List Move) → map sample_of kept ≡ samples_at (run_samples machine watched (moves_of run ++ rest)) passed
  pub in_time : AllHold (λ strobe. strobe ≤ bound) passed
  pub ahead : AllHold (IsAhead machine run) (drop (length kept) strobes)

-- the time of the slot that a line begins; before it no strobe is passed by any other line
abbrev pub slot_time : RunLine → ℕ
slot_time (SlotAt time) = time
slot_time (PhaseNumber number) = 0
slot_time (StepsOf process count) = 0
slot_time (UpdatesOf process count) = 0
