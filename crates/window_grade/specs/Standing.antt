-- Where a faulty machine stands in its first run (slots by IEEE 1364-2001, clause 5).
use Rattle.std.specs.Prelude.{◌≡◌, ℕ, ◌≤◌, Some, None}
use Rattle.v_design.specs.Designs.{FlatDesign, StuckAt, TestPlan, faulty_machine}
use Rattle.v_design.specs.States.{start, turn_of}
use Rattle.v_design.specs.WellFormed.{KeepsRules}
use Rattle.copy_laws.specs.Windows.{state_at}
use Rattle.grade_laws.specs.Ahead.{StopsAfter}
use Rattle.grade_laws.specs.Grading.{faulty_stop}
use Rattle.causal_monitor.specs.declared.slot.Turn.TheVariants.{Start}
use Rattle.machine.specs.Standing.{IsStanding, machine_kept, state_kept, begins_next, first_turn, slot_after}
use Rattle.machine.specs.declared.parts.Stage.TheVariants.{Between}
use Rattle.machine.specs.declared.parts.Machine.{Machine as Simulated}
use Rattle.window_grade.specs.Running.{IsRunningAt}

pub record MachinesStand : Type 0 where
  -- a faulty machine at its start ran no slot
  pub begins : (design : FlatDesign) (plan : TestPlan) (fault : StuckAt) (m : Simulated) → KeepsRules design → machine_kept m ≡ faulty_machine design fault → IsStanding m →
      first_turn m.stage ≡ Start → begins_next m ≡ Some (start (faulty_machine design fault)) → IsRunningAt design plan fault None m
  -- one that was put into the faulty machine's state at a time up to which that doesn't stop, and stands between two slots there, ran its slots up to then
  pub again : (design : FlatDesign) (plan : TestPlan) (fault : StuckAt) (time : ℕ) (m : Simulated) → KeepsRules design → time ≤ plan.end → StopsAfter time (faulty_stop design plan fault) →
      machine_kept m ≡ faulty_machine design fault → IsStanding m → state_kept m ≡ state_at (faulty_machine design fault) plan.end time → m.stage ≡ Between →
      begins_next m ≡ slot_after (state_kept m) (turn_of (state_kept m)) → IsRunningAt design plan fault (Some time) m
