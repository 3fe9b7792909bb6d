-- A fault that was graded through a window (slots by IEEE 1364-2001, clause 5).
use Rattle.std.proofs.Common.{◌≡◌, ℕ, List, true, false, subst}
use Rattle.std.specs.Prelude.{Option, Some, None, is_some}
use Rattle.vf_base.specs.Base.{WatchedBit}
use Rattle.vf_base.specs.declared.finding.End.{End}
use Rattle.v_design.specs.Designs.{FlatDesign, TestPlan}
use Rattle.v_design.specs.Plain.{grade_of}
use Rattle.fault_strobes.specs.Full.{IsFull}
use Rattle.fault_strobes.specs.Shown.{said_of}
use Rattle.fault_strobes.specs.declared.strobed.Strobed.{Strobed}
use Rattle.copy_room.specs.machine.declared.parts.Machine.{Machine as Simulated}
use Rattle.window_strobes.specs.Strobes.{passed_behind, strobes_left}
use Rattle.window_grade.specs.declared.beside.RunBeside.{RunBeside}
use Rattle.window_strobes.specs.declared.strobes.WindowStrobes.{WindowStrobes}
use Rattle.copy_window.specs.Copies.{differences_in}
use Rattle.copy_window.specs.Passing.{CanGradeWindow, CanSettle, PassesWindow, StaysOpen}
use Rattle.copy_window.specs.ShardFaults.{IsShardFault, said_by}
use Rattle.copy_window.specs.declared.fault.ShardFault.{ShardFault}

some-end : (one other : End) → Some one ≡ Some other → one ≡ other
some-end one other e = cc

module _ (design : FlatDesign) (plan : TestPlan) (before through : ℕ) (strobes : WindowStrobes) (beside : RunBeside) (m : Simulated) (own : ShardFault)
    (of : CanSettle design plan before through strobes beside m own) where
  abbrev pub can-grade-window : (watched : List WatchedBit) → plan.watched ≡ watched → CanGradeWindow watched strobes beside m (said_by own)
  can-grade-window watched watched_are = record {
    design = design;
    plan = plan;
    fault = of.fault;
    before = before;
    through = through;
    watched_are = watched_are;
    are = of.are;
    at = of.at;
    known = of.known;
    taken = of.taken;
  }

  -- its grading ended, with this end
  pub settles-found : (end : Option End) (new : Simulated) (strobed : Strobed) → is_some end ≡ true →
      PassesWindow design plan of.fault through (strobes_left plan strobes) end new (said_of strobed) →
      IsShardFault design plan through (passed_behind strobes) (record own { strobed = strobed; end = end })
  settles-found None new strobed some passes = cc
  settles-found (Some end) new strobed some passes = record {
    fault = of.fault;
    listed = of.listed;
    beside = passes.0 (differences_in design own.copy);
    full = λ other e. subst (λ (o : End). IsFull design plan of.fault (grade_of o) (said_of strobed)) (some-end end other e) passes.1;
    within = of.within;
    goes_on = λ time e more none. cc;
  }

  -- its grading goes on
  pub stays-open : (end : Option End) (new : Simulated) (strobed : Strobed) → is_some end ≡ false →
      PassesWindow design plan of.fault through (strobes_left plan strobes) end new (said_of strobed) →
      StaysOpen design plan through (passed_behind strobes) new (record own { strobed = strobed })
  stays-open None new strobed none passes =
      record { fault = of.fault; listed = of.listed; none = of.none; within = of.within; goes = passes }
  stays-open (Some end) new strobed none passes = cc
