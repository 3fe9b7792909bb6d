-- The slots so far are written, and those behind them are left.
use Rattle.std.proofs.Common.{◌≡◌, List}
use Rattle.v_design.specs.Runs.{FirstSlot, first_run}
use Rattle.order_laws.specs.EveryRun.{slots_by}
use Rattle.machine.specs.Standing.{machine_kept}
use Rattle.fault_grade.specs.Reached.{next_of}
use Rattle.cert_laws.specs.Written.{run_lines}
use Rattle.vf_certify.specs.Runs.{IsLeft}
use Rattle.vf_certify.proofs.SlotsLeft.{Whole, time_left}
use Rattle.vf_certify.proofs.run.append_slots.Given as goal

abbrev pub invariant-slots : goal.invariant-slots
invariant-slots g l = record {
  next_is : l.next ≡ next_of l.machine;
  left : (slots : List FirstSlot) × IsLeft (machine_kept l.fn.machine) l.end l.machine slots
      × Whole (run_lines (slots_by l.bound (first_run (machine_kept l.fn.machine) l.end))) (run_lines (slots_by l.bound slots)) l.fn.out.items l.out.items;
}

abbrev pub decreases-slots : goal.decreases-slots
decreases-slots g l = time_left l.until l.next
