-- A counter behind a window through which a fault was graded (steps by IEEE 1364-2001, clause 9; slots by clause 5).
use Rattle.std.proofs.Common.{◌≡◌, ℕ, ◌+◌, ◌≤◌, Bool, List, [], ◌∷◌, ◌++◌, append-nil, length, sym, subst, ◌∙◌, arith}
use Rattle.std.specs.Prelude.{Option, Some, None, sum}
use Rattle.std.specs.List.{AllZip}
use Rattle.vf_base.specs.Base.{WatchedBit}
use Rattle.v_design.specs.Designs.{FlatDesign, StuckAt, TestPlan}
use Rattle.v_design.specs.OwnSteps.{CountsOwn, ProcessRun}
use Rattle.kept_samples.specs.declared.kept.Sample.{Sample as Kept}
use Rattle.copy_laws.specs.Windows.{RiseAtMostOwn, runs_between, time_at}
use Rattle.copy_room.specs.machine.declared.parts.Machine.{Machine as Simulated}
use Rattle.good_trace.specs.Slots.{end_of}
use Rattle.fault_strobes.specs.Said.{Said, keeps, plan_by}
use Rattle.fault_strobes.proofs.Faults.{time-same}
use Rattle.window_grade.specs.Beside.{TicksTo, tried_in}
use Rattle.window_grade.specs.Grading.{CanGrade}
use Rattle.window_grade.specs.Rises.{OwnStepsRise}
use Rattle.window_grade.specs.declared.beside.RunBeside.{RunBeside}
use Rattle.window_beside.specs.Known.{SlotsAreKnown, led_to}
use Rattle.window_strobes.specs.declared.strobes.WindowStrobes.{WindowStrobes}
use Rattle.copy_window.specs.Passing.{CanGradeWindow}
use Rattle.copy_window.proofs.Windows.{can-grade}

module _ (rises : OwnStepsRise) (watched : List WatchedBit) (strobes : WindowStrobes) (beside : RunBeside) (old : Simulated) (start : Said) (of : CanGradeWindow watched strobes beside old start) where
  abbrev now : Option ℕ
  now = time_at of.design of.plan of.before

  abbrev P : TestPlan
  P = plan_by (keeps start) of.plan

  -- there is no time to which the window leads
  pub ticks-none : strobes.until ≡ None → (counter : ℕ) → TicksTo of.design P of.fault beside now (led_to now strobes.until) counter counter
  ticks-none e counter =
      subst (λ (o : Option ℕ). TicksTo of.design P of.fault beside now (led_to now o) counter counter) (sym e) (rises.stays of.design P of.fault beside now counter)

  -- it was run to that time
  pub ticks-some : (until : ℕ) → (e : strobes.until ≡ Some until) → (samples : List Kept) → samples ≡ strobes.samples.items → (before after : ℕ) →
      ((own : CanGrade watched samples until beside old start) → TicksTo own.design (plan_by (keeps start) own.plan) own.fault beside own.now (Some until) before after) →
      TicksTo of.design P of.fault beside now (led_to now strobes.until) before after
  ticks-some until e samples same before after ticks =
      subst (λ (o : Option ℕ). TicksTo of.design P of.fault beside now (led_to now o) before after) (sym e)
      (subst (λ (l : List Kept). ((own : CanGrade watched l until beside old start) → TicksTo own.design (plan_by (keeps start) own.plan) own.fault beside own.now (Some until) before after) →
      TicksTo of.design P of.fault beside now (Some until) before after) (sym same) (λ given. given (can-grade watched strobes beside old start until of e)) ticks)

  -- behind it no slot of the window is run
  pub ticks-behind : SlotsAreKnown → (before after : ℕ) → TicksTo of.design P of.fault beside now (led_to now strobes.until) before after →
      TicksTo of.design P of.fault beside now (time_at of.design of.plan of.through) before after
  ticks-behind law before after ticks =
      let by = law.behind of.design of.plan of.before of.through (end_of strobes.ending) strobes.until of.at.design_rules of.are.leads in
      rises.joins of.design P of.fault beside now (led_to now strobes.until) (time_at of.design of.plan of.through) before after after by.0 by.1 ticks
      (rises.taken of.design P of.fault beside (led_to now strobes.until) (time_at of.design of.plan of.through) after of.taken)

-- with all that was taken before, a counter rose by at most the own steps
pub rises-most : (design : FlatDesign) (plan : TestPlan) (fault : StuckAt) (kept : Bool) (beside : RunBeside) (before through old new : ℕ) →
    TicksTo design (plan_by kept plan) fault beside (time_at design plan before) (time_at design plan through) old new →
    tried_in beside (time_at design plan before) (time_at design plan through) ≡ length beside.tried.now →
    RiseAtMostOwn design (plan_by kept plan) before through (fault ∷ []) old (new + length beside.tried.now)
rises-most design plan fault kept beside before through old new ticks all = λ counts zip.
    let P : TestPlan = plan_by kept plan in
    let runs : List (Option ProcessRun × ProcessRun) = runs_between design P (time_at design P before) (time_at design P through) fault in
    let same : runs ++ [] ≡ runs_between design P (time_at design plan before) (time_at design plan through) fault =
    append-nil runs ∙ (λ i. runs_between design P (time-same design plan kept before i) (time-same design plan kept through i) fault) in
    let most : new + tried_in beside (time_at design plan before) (time_at design plan through) ≤ old + sum counts =
    ticks counts (subst (λ (l : List (Option ProcessRun × ProcessRun)). AllZip CountsOwn l counts) same zip) in
    omega (arith, most, all)
