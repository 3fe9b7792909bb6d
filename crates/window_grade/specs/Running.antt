-- A faulty machine in its first run (slots by IEEE 1364-2001, clause 5).
use Rattle.std.specs.Prelude.{◌≡◌, ℕ, ◌≤◌, ◌^◌, Bool, Option, Some, None}
use Rattle.vf_base.specs.declared.finding.End.{End}
use Rattle.v_design.specs.Designs.{FlatDesign, StuckAt, TestPlan, faulty_machine}
use Rattle.v_design.specs.Grades.{Fine, Stop, faulty_ending}
use Rattle.v_design.specs.Plain.{grade_of}
use Rattle.v_design.specs.WellFormed.{KeepsRules}
use Rattle.grade_laws.specs.Grading.{faulty_stop}
use Rattle.machine.specs.Standing.{IsStanding, machine_kept, state_kept, notes_runs, begins_next, begun_within, outcome_of}
use Rattle.machine.specs.declared.end.SlotEnd.{SlotEnd}
use Rattle.machine.specs.declared.parts.Stage.TheVariants.{Between}
use Rattle.machine.specs.declared.parts.Machine.{Machine as Simulated}
use Rattle.fault_grade.specs.Reached.{next_of}
use Rattle.beside_laws.specs.Stands.{IsSince, HasRun}
use Rattle.graded_steps.specs.Ahead.{SlotsAhead}
use Rattle.fault_strobes.specs.Said.{plan_by}
use Rattle.window_grade.specs.Beside.{GoesUpTo, IsKnownBeside, TicksTo}
use Rattle.window_grade.specs.declared.beside.RunBeside.{RunBeside}

-- a machine that ran no slot yet has one at time 0, and one that ran some stands between two slots
abbrev pub IsAtStage : Option ℕ → Simulated → Type 0
IsAtStage None m = next_of m ≡ Some 0
IsAtStage (Some now) m = m.stage ≡ Between

-- the faulty machine ran the slots of its first run up to a time, all fine, or none yet; it stands there, and the others are ahead
pub record IsRunningAt (design : FlatDesign) (plan : TestPlan) (fault : StuckAt) (now : Option ℕ) (m : Simulated) : Type 0 where
  pub rules : KeepsRules design
  pub same_machine : machine_kept m ≡ faulty_machine design fault
  pub standing : IsStanding m
  pub stage : IsAtStage now m
  pub run : HasRun (faulty_machine design fault) plan.end now (begun_within plan.end (begins_next m)) (state_kept m)
  pub ahead : SlotsAhead (faulty_machine design fault) plan.end now (begun_within plan.end (begins_next m))

-- the first run of the faulty machine stops at a time or before it, and this ends the grading so
pub record StopsWith (design : FlatDesign) (plan : TestPlan) (fault : StuckAt) (time : ℕ) (end : End) : Type 0 where
  pub stop : Stop
  pub stop_is : faulty_stop design plan fault ≡ Some stop
  pub by_then : stop.time ≤ time
  pub ends : faulty_ending stop.time stop.outcome ≡ Some (grade_of end)

-- a machine was run on: it is the same machine, stands somewhere in its run, and notes the ends of its process runs or not as before
pub record StaysOn (old new : Simulated) : Type 0 where
  pub same_machine : machine_kept new ≡ machine_kept old
  pub standing : IsStanding new
  pub notes : notes_runs new ≡ notes_runs old

-- A slot

-- a slot of the faulty machine at a time is fine, or ends the grading so
abbrev pub EndsSo : ℕ → SlotEnd → Option End → Type 0
EndsSo time end None = outcome_of end ≡ Fine
EndsSo time end (Some ended) = faulty_ending time (outcome_of end) ≡ Some (grade_of ended)

-- the machine stands at a time, or its run stopped by then
abbrev pub RunLeads : FlatDesign → TestPlan → StuckAt → ℕ → Option End → Simulated → Type 0
RunLeads design plan fault time None m = IsRunningAt design plan fault (Some time) m
RunLeads design plan fault time (Some end) m = StopsWith design plan fault time end

-- the next slot of a machine, at a time, was run
abbrev pub RunsSlotAt : ℕ → Simulated → Option End → Simulated → Type 0
RunsSlotAt time old end new =
    (design : FlatDesign) (plan : TestPlan) (fault : StuckAt) (now : Option ℕ) → IsRunningAt design plan fault now old → time ≤ plan.end → RunLeads design plan fault time end new

-- and a counter rose by at most its own steps, but for those that were taken before
abbrev pub TicksSlotAt : ℕ → Simulated → RunBeside → ℕ → ℕ → Type 0
TicksSlotAt time old beside before after =
    (design : FlatDesign) (plan : TestPlan) (fault : StuckAt) (now : Option ℕ) (kept : Bool) → IsRunningAt design plan fault now old → time ≤ plan.end →
    IsKnownBeside design (plan_by kept plan) fault now time beside → GoesUpTo design (plan_by kept plan) fault time → TicksTo design (plan_by kept plan) fault beside now (Some time) before after

-- a slot of the faulty machine may be run beside the good machine's
pub record CanRunSlot (time : ℕ) (beside : RunBeside) (m : Simulated) : Type 0 where
  pub design : FlatDesign
  pub plan : TestPlan
  pub fault : StuckAt
  pub now : Option ℕ
  pub kept : Bool
  pub at : IsRunningAt design plan fault now m
  pub early : time ≤ plan.end
  pub known : IsKnownBeside design (plan_by kept plan) fault now time beside

-- Slots up to a time

-- a faulty machine may be run to a time; by the strobes that may end its grading this goes on, but for a stop of the machine
pub record CanRunTo (until : ℕ) (beside : RunBeside) (m : Simulated) : Type 0 where
  pub design : FlatDesign
  pub plan : TestPlan
  pub fault : StuckAt
  pub now : Option ℕ
  pub kept : Bool
  pub at : IsRunningAt design plan fault now m
  pub known : IsKnownBeside design (plan_by kept plan) fault now until beside
  pub goes : GoesUpTo design (plan_by kept plan) fault until
  pub since : IsSince now until
  pub within : until ≤ plan.end
  pub early : until ≤ 2 ^ 63

-- it went on towards that time
pub record IsOnWayTo (design : FlatDesign) (plan : TestPlan) (fault : StuckAt) (until : ℕ) (m : Simulated) : Type 0 where
  pub now : Option ℕ
  pub at : IsRunningAt design plan fault now m
  pub since : IsSince now until
