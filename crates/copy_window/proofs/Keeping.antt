-- A fault whose grading goes on behind a window is kept by its copy (slots by IEEE 1364-2001, clause 5).
use Rattle.std.proofs.Common.{◌≡◌, ℕ, ◌+◌, ◌<◌, List, [], length, take, drop, sym, ap, subst, ◌∙◌}
use Rattle.std.specs.Prelude.{Option, Some, None, option_map, slice_get}
use Rattle.vf_base.specs.declared.finding.End.{End}
use Rattle.v_design.specs.Designs.{FlatDesign, Machine, StuckAt, TestPlan, good_machine, faulty_machine}
use Rattle.v_design.specs.Plain.{grade_of}
use Rattle.v_design.specs.States.{State}
use Rattle.process_code.specs.OneCode.{CodesReadAlike}
use Rattle.process_code.specs.declared.code.Code.{Code}
use Rattle.run_ends.specs.RunEnds.{AreCodesOf}
use Rattle.between_slots.specs.Between.{state_through}
use Rattle.copy_laws.specs.Differences.{Differences, StandsFor, KeepsNothingEqual}
use Rattle.copy_laws.specs.Windows.{IsBesideAt, IsCopyAt, good_slots, time_at, state_at}
use Rattle.copy_state.specs.Kept.{differences_of}
use Rattle.copy_between.specs.Beside.{IsCopyOf, KeepsWithin}
use Rattle.grade_laws.specs.Grading.{good_seen, faulty_seen}
use Rattle.copy_room.specs.machine.Standing.{StandsBetween, machine_kept, state_kept, begins_next, begun_within}
use Rattle.copy_room.specs.machine.declared.parts.Machine.{Machine as Simulated}
use Rattle.beside_laws.specs.Stands.{RunsGoOn}
use Rattle.beside_laws.specs.GoodRuns.{IsOpenAt}
use Rattle.fault_strobes.specs.Said.{IsSaid, keeps, plan_by}
use Rattle.fault_strobes.specs.Shown.{said_of}
use Rattle.fault_strobes.specs.Strobes.{StrobedFaultsGoOn}
use Rattle.fault_strobes.specs.declared.strobed.Strobed.{Strobed}
use Rattle.window_grade.specs.Grading.{IsGradingAt}
use Rattle.copy_window.specs.Copies.{differences_in}
use Rattle.copy_window.specs.Passing.{StaysOpen}
use Rattle.copy_window.specs.ShardFaults.{GoesOnAt, IsShardFault, beside_by, kept_by, said_by}
use Rattle.copy_window.specs.declared.fault.ShardFault.{ShardFault}
use Rattle.copy_window.proofs.Codes.{differences-are, states-alike}
use Rattle.copy_window.proofs.Windows.{passed-take}

some-is : {A : Type 0} (one other : A) → Some one ≡ Some other → one ≡ other
some-is one other e = cc

-- what was kept of a fault behind a window
pub record IsKeptOpen (codes : List Code) (design : FlatDesign) (plan : TestPlan) (through : ℕ) (m : Simulated) (old new : ShardFault) : Type 0 where
  pub copy : IsCopyOf codes (state_through design plan through) (state_kept m) new.copy
  pub within : KeepsWithin (length design.objects) (length design.processes) new.copy
  pub place : new.copy.fault ≡ old.copy.fault
  pub between : StandsBetween (machine_kept m) (state_kept m)
  pub time_is : new.time ≡ (state_kept m).time
  pub strobed_is : new.strobed ≡ old.strobed
  pub end_is : new.end ≡ old.end

module _ (runs : RunsGoOn) (faults : StrobedFaultsGoOn) (read : CodesReadAlike) (codes : List Code) (design : FlatDesign) (plan : TestPlan) (through passed : ℕ) (m : Simulated)
    (old new : ShardFault) (are : AreCodesOf design codes) (of : StaysOpen design plan through passed m old) (kept : IsKeptOpen codes design plan through m old new) where
  abbrev pub time : ℕ
  time = of.goes.time

  at : IsGradingAt design plan of.fault (Some time) m [] (drop passed plan.strobes) (said_by old)
  at = of.goes.at

  state_is : state_at (faulty_machine design of.fault) plan.end time ≡ state_kept m
  state_is = (runs.stands (faulty_machine design of.fault) plan.end time (begun_within plan.end (begins_next m)) (state_kept m) at.at.run).0

  good_is : state_at (good_machine design) plan.end time ≡ state_through design plan through
  good_is = of.goes.runs_on.state_is

  copy-at : IsCopyAt design plan of.fault time (differences_in design new.copy)
  copy-at = record {
    stands =
        subst (λ (d : Differences). StandsFor d (state_at (good_machine design) plan.end time) (state_at (faulty_machine design of.fault) plan.end time)) (differences-are design codes new.copy are)
        (subst (λ (s : State). StandsFor (differences_of codes new.copy) s (state_at (faulty_machine design of.fault) plan.end time)) (sym good_is)
        (subst (λ (s : State). StandsFor (differences_of codes new.copy) (state_through design plan through) s) (sym state_is) kept.copy.stands));
    nothing_equal =
        subst (λ (d : Differences). KeepsNothingEqual d (state_at (good_machine design) plan.end time)) (differences-are design codes new.copy are)
        (subst (λ (s : State). KeepsNothingEqual (differences_of codes new.copy) s) (sym good_is) kept.copy.nothing_equal);
  }

  beside : IsBesideAt design (plan_by (kept_by new) plan) through (beside_by design of.fault new)
  beside =
      subst (λ (strobed : Strobed). IsBesideAt design (plan_by (keeps (said_of strobed)) plan) through (beside_by design of.fault new)) (sym kept.strobed_is)
      (subst
      (λ (end : Option End). IsBesideAt design (plan_by (kept_by old) plan) through
      (record { fault = of.fault; differences = differences_in design new.copy; found = option_map grade_of end }))
      (sym (kept.end_is ∙ of.none))
      (faults.goes_on design plan of.fault through time at.passed (drop passed plan.strobes) (said_by old) (differences_in design new.copy) of.goes.runs_on at.grading copy-at))

  passed_is : at.passed ≡ take passed plan.strobes
  passed_is = passed-take plan.strobes at.passed passed at.grading.strobes

  goes-on : GoesOnAt design plan through passed of.fault time new
  goes-on = record {
    runs_on = of.goes.runs_on;
    between =
        subst (λ (machine : Machine). StandsBetween machine (state_at (faulty_machine design of.fault) plan.end time)) at.at.same_machine
        (subst (λ (s : State). StandsBetween (machine_kept m) s) (sym state_is) kept.between);
    time_is = ap (λ (s : State). s.time) state_is ∙ sym kept.time_is;
    states = λ others also. states-alike read design codes others new.copy.states are also kept.copy.states;
    so_far =
        subst (λ (strobed : Strobed). IsSaid (good_seen design plan) (faulty_seen design plan of.fault) (take passed plan.strobes) (said_of strobed)) (sym kept.strobed_is)
        (subst (λ (l : List ℕ). IsSaid (good_seen design plan) (faulty_seen design plan of.fault) l (said_by old)) passed_is at.grading.so_far);
  }

  pub keeps-open : IsShardFault design plan through passed new
  keeps-open = record {
    fault = of.fault;
    listed = ap (slice_get plan.faults) kept.place ∙ of.listed;
    beside = beside;
    full = λ end some. (let none : new.end ≡ None = kept.end_is ∙ of.none in cc);
    within = kept.within;
    goes_on = λ other e more none. subst (λ t. GoesOnAt design plan through passed of.fault t new) (some-is time other (sym of.goes.runs_on.time_is ∙ e)) goes-on;
  }
