-- Where the good machine stands, and how its first run goes on from there (slots by IEEE 1364-2001, clause 5).
use Rattle.std.specs.Prelude.{◌≡◌, ℕ, ◌+◌, ◌≤◌, ◌^◌, Bool, true, false, List, ◌++◌, length, Option, Some, None}
use Rattle.std.specs.Option.{option_map}
use Rattle.v_design.specs.Designs.{FlatDesign, TestPlan, good_machine}
use Rattle.v_design.specs.States.{State, start}
use Rattle.v_design.specs.Runs.{FirstSlot}
use Rattle.v_design.specs.Grades.{first_stop}
use Rattle.v_design.specs.OwnSteps.{slots_through_stop}
use Rattle.order_laws.specs.FirstRuns.{Follow}
use Rattle.causal_monitor.specs.declared.slot.Turn.TheVariants.{Start}
use Rattle.run_ends.specs.RunEnds.{AreCodesOf}
use Rattle.copy_laws.specs.Windows.{good_slots}
use Rattle.grade_laws.specs.Grading.{good_stop}
use Rattle.machine.specs.Standing.{IsStanding, machine_kept, begins_next, begun_within, notes_runs, first_turn as turn_next}
use Rattle.machine.specs.declared.parts.Machine.{Machine as Simulated}
use Rattle.good_trace.specs.declared.ending.GoodEnd.{GoodEnd}
use Rattle.good_trace.specs.declared.ending.GoodEnd.TheVariants as ends
use Rattle.good_trace.specs.Slots.{first_turn}
use Rattle.good_trace.specs.Traces.{TraceKept}
use Rattle.run_trace.specs.Windows.{AreBeside}
use Rattle.run_trace.specs.declared.trace.RunTrace.{RunTrace}
use Rattle.good_windows.specs.declared.stage.Stage.{Stage}
use Rattle.good_windows.specs.declared.stage.Stage.TheVariants.{Open, Through, Raced, Looped, Spent}
use Rattle.good_windows.specs.Next.{AllStand, LoopsBehind}

-- Stages

-- how a window ends after which the run goes on so
abbrev pub ending : Stage → GoodEnd
ending Open = ends.Open
ending Through = ends.Through
ending (Raced pair) = ends.Raced pair
ending (Looped time) = ends.Open
ending Spent = ends.Open

-- how the run goes on whose slots so far are fine
abbrev pub stage_by : Option ℕ → Stage
stage_by None = Through
stage_by (Some time) = Open

-- whether the run may be used
abbrev pub is_usable : Stage → Bool
is_usable Open = true
is_usable Through = true
is_usable (Raced pair) = true
is_usable (Looped time) = true
is_usable Spent = false

-- how many slots were run where so many stand in the trace: one more, where that one is hyperactive
abbrev pub run_through : ℕ → Stage → ℕ
run_through pushed Open = pushed
run_through pushed Through = pushed
run_through pushed (Raced pair) = pushed
run_through pushed (Looped time) = pushed + 1
run_through pushed Spent = pushed

-- Where the machine stands

-- the time of the slot that comes next, up to an end
abbrev pub next_by : ℕ → Simulated → Option ℕ
next_by end m = option_map (λ (begins : State). begins.time) (begun_within end (begins_next m))

-- the good machine at its start, which notes its process runs
pub record IsAtStart (design : FlatDesign) (m : Simulated) : Type 0 where
  pub machine_is : machine_kept m ≡ good_machine design
  pub begins : begins_next m ≡ Some (start (good_machine design))
  pub standing : IsStanding m
  pub notes : notes_runs m ≡ true
  pub turn_is : turn_next m.stage ≡ Start

-- so many slots of the good first run are behind the machine, all of them fine, and the others are ahead of it
pub record StandsAfter (design : FlatDesign) (plan : TestPlan) (number : ℕ) (m : Simulated) : Type 0 where
  pub machine_is : machine_kept m ≡ good_machine design
  pub standing : IsStanding m
  pub notes : notes_runs m ≡ true
  pub turn_is : turn_next m.stage ≡ first_turn number
  pub behind : List FirstSlot
  pub count : length behind ≡ number
  pub ahead : List FirstSlot
  pub follow : Follow (good_machine design) plan.end (begun_within plan.end (begins_next m)) ahead
  pub slots_are : good_slots design plan ≡ behind ++ slots_through_stop (good_machine design) ahead
  pub stop_is : good_stop design plan ≡ first_stop (good_machine design) ahead

-- no slot comes that a window may have
abbrev pub IsLast : FlatDesign → TestPlan → ℕ → Stage → Type 0
IsLast design plan number Open = ⊥
IsLast design plan number Through = AllStand design plan number
IsLast design plan number (Raced pair) = AllStand design plan number
IsLast design plan number (Looped time) = LoopsBehind design plan number time
IsLast design plan number Spent = ⊥

-- the run goes on so after so many slots
abbrev pub GoesOnSo : FlatDesign → TestPlan → ℕ → Simulated → Stage → Type 0
GoesOnSo design plan number m Open = StandsAfter design plan number m
GoesOnSo design plan number m Through = IsLast design plan number Through
GoesOnSo design plan number m (Raced pair) = IsLast design plan number (Raced pair)
GoesOnSo design plan number m (Looped time) = IsLast design plan number (Looped time)
GoesOnSo design plan number m Spent = ⊥

-- the run goes on from its last window
pub record IsUsable (design : FlatDesign) (plan : TestPlan) (m : Simulated) (trace : TraceKept) (stage : Stage) : Type 0 where
  pub codes : AreCodesOf design trace.codes
  pub all_closed : trace.pushed ≡ trace.closed
  pub goes_on : GoesOnSo design plan trace.closed m stage

-- the same, as long as the run may be used, with the blocks and the wakes beside the trace; and its end is the plan's
module _ {N : Type 0} where
  pub record IsGoodRun (design : FlatDesign) (plan : TestPlan) (end : ℕ) (m : Simulated) (run : RunTrace N) (stage : Stage) : Type 0 where
    pub end_is : plan.end ≡ end
    pub early : plan.end ≤ 2 ^ 63
    pub usable : is_usable stage ≡ true → IsUsable design plan m run.trace stage
    pub beside : is_usable stage ≡ true → AreBeside run
