-- What is known of a faulty machine's slots beside those of a window (slots by IEEE 1364-2001, clause 5; steps by clause 9).
use Rattle.std.proofs.Common.{◌≡◌, ℕ, ◌<◌, ◌≤◌, Bool, refl, sym, ◌∙◌, arith}
use Rattle.std.specs.Prelude.{Option, None, Some, slice_get}
use Rattle.v_design.specs.Designs.{FlatDesign, StuckAt, TestPlan, good_machine}
use Rattle.v_design.specs.Grades.{Stop}
use Rattle.v_design.specs.Runs.{FirstSlot, first_run}
use Rattle.v_design.specs.WellFormed.{KeepsRules}
use Rattle.order_laws.specs.FirstRuns.{FirstRunsGoOn}
use Rattle.machine_laws.specs.SlotLoop.{SlotsBegin}
use Rattle.copy_laws.specs.Windows.{WindowEnd, good_slots, time_at, window_slots}
use Rattle.grade_laws.specs.Ahead.{StopsAfter}
use Rattle.grade_laws.specs.Grading.{good_stop}
use Rattle.good_trace.specs.BesideSlots.{TellsSlots}
use Rattle.own_counts.specs.Counts.{OwnStepsCount}
use Rattle.own_slots.specs.Slots.{TriedStepsGoOn}
use Rattle.beside_laws.specs.GoodRuns.{GoodRunGoesOn}
use Rattle.beside_laws.specs.Stands.{IsAfter}
use Rattle.fault_strobes.specs.Said.{plan_by}
use Rattle.window_strobes.specs.Leading.{LeadsTo}
use Rattle.window_grade.specs.Beside.{IsKnownBeside, WereTaken, slot_at}
use Rattle.window_grade.specs.declared.beside.RunBeside.{RunBeside}
use Rattle.window_beside.specs.Known.{SlotsAreKnown}
use Rattle.window_beside.proofs.Finding.{slot-in-window}
use Rattle.window_beside.proofs.Taken.{all-in, none-taken, nothing-in, taken}
use Rattle.window_beside.proofs.Times.{after-all, after-until, behind}

stops-earlier : (low time : ℕ) (stop : Option Stop) → low ≤ time → StopsAfter time stop → StopsAfter low stop
stops-earlier low time None h a = tt
stops-earlier low time (Some stop) h a = omega (arith, h, a)

are-known : FirstRunsGoOn → GoodRunGoesOn → (design : FlatDesign) (plan : TestPlan) (fault : StuckAt) (kept : Bool) (beside : RunBeside) (before through from end until : ℕ) (ending : WindowEnd) →
    KeepsRules design → TellsSlots design (window_slots design plan before through) beside.slots → before ≤ from → end ≤ through → LeadsTo design plan from end ending (Some until) →
    WereTaken design (plan_by kept plan) fault beside → IsKnownBeside design (plan_by kept plan) fault (time_at design plan from) until beside
are-known law run design plan fault kept beside before through from end until ending rules tells low high leads were = record {
  slots = window_slots design plan before through;
  tells = tells;
  found = λ time after by.
      slot-in-window law design plan rules time before through (stops-earlier time until (good_stop design plan) by (leads.led until refl).goes_on)
      (λ k slot less here. after-all law run design plan rules from time after k slot (omega (arith, less, low)) here)
      (λ k slot more here. (let late = after-until law run design plan rules from end until ending leads k slot (omega (arith, more, high)) here in omega (arith, late, by)));
  taken = were;
}

-- The law

pub slots_are_known : FirstRunsGoOn → GoodRunGoesOn → SlotsBegin → OwnStepsCount → TriedStepsGoOn → SlotsAreKnown
slots_are_known law run begin count go = record {
  known = are-known law run;
  none = λ design plan fault beside rules none. none-taken law run begin count go design plan fault beside 0 rules none;
  nothing = nothing-in;
  taken = λ design plan fault beside gone rules may time. taken law run begin count go design plan fault beside gone rules may time;
  all = λ design plan fault beside gone end rules may time more. all-in law run begin count go design plan fault beside gone rules end may time more;
  behind = λ design plan before through ending until rules leads. behind law run design plan rules before through ending until leads;
}
