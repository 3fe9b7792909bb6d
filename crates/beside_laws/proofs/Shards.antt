-- A fault of a shard from window to window (slots by IEEE 1364-2001, clause 5).
use Rattle.std.proofs.Common.{◌≡◌, ℕ, zero, suc, ◌<◌, ◌≤◌, List, true, false, length, refl, sym, ap, subst, ◌∙◌, arith}
use Rattle.std.specs.Prelude.{Option, Some, None, is_some, slice_get}
use Rattle.v_design.specs.Designs.{FlatDesign, StuckAt, TestPlan}
use Rattle.v_design.specs.Runs.{FirstSlot}
use Rattle.v_design.specs.Grades.{FaultGrade, grade}
use Rattle.v_design.specs.WellFormed.{KeepsRules}
use Rattle.order_laws.specs.FirstRuns.{FirstRunsGoOn}
use Rattle.strobe_detect.specs.Graders.{GraderState}
use Rattle.copy_laws.specs.Differences.{Differences}
use Rattle.copy_laws.specs.Windows.{IsCopyAt, FaultBeside, IsBesideAt, HasEnded, good_slots, time_at}
use Rattle.beside_laws.specs.Gradings.{GradingGoesOn, HasNotEnded}
use Rattle.beside_laws.specs.GoodRuns.{IsOpenAt}
use Rattle.beside_laws.specs.Shards.{open_fault, found_fault, FaultsGoOn}
use Rattle.beside_laws.proofs.Gradings.{not-ended, ended-by-end}
use Rattle.beside_laws.proofs.GoodRuns.{some-slots, times-rise}

some-is : {A : Type 0} (one other : A) → Some one ≡ Some other → one ≡ other
some-is one other e = cc

-- so many slots lead to no other time
one-time : (design : FlatDesign) (plan : TestPlan) (at time other : ℕ) → time_at design plan at ≡ Some time → time_at design plan at ≡ Some other → time ≡ other
one-time design plan at time other e f = some-is time other (sym e ∙ f)

fault-begins : FirstRunsGoOn → (design : FlatDesign) (plan : TestPlan) (fault : StuckAt) (d : Differences) → KeepsRules design → IsBesideAt design plan 0 (open_fault fault d)
fault-begins law design plan fault d rules =
    let some : 0 < length (good_slots design plan) = some-slots law design plan rules in
    record {
      none_before = λ zero. refl;
      is_grade = λ found e. cc;
      found_where = λ time e. cc;
      all_at_end = λ e. absurd (omega (arith, some, e));
      copy = λ time e. cc;
    }

fault-is-open : (design : FlatDesign) (plan : TestPlan) (at time : ℕ) (fault : FaultBeside) → IsBesideAt design plan at fault → fault.found ≡ None → time_at design plan at ≡ Some time →
    HasNotEnded design plan fault.fault time
fault-is-open design plan at time fault b none is ended =
    let found : is_some fault.found ≡ true = (b.found_where time is).1 ended in
    let none_found : is_some fault.found ≡ false = ap is_some none in
    cc

fault-goes-on : (design : FlatDesign) (plan : TestPlan) (fault : StuckAt) (through time : ℕ) (passed next : List ℕ) (grader : GraderState) (d : Differences) → IsOpenAt design plan through time →
    GradingGoesOn design plan fault (Some time) passed next grader → IsCopyAt design plan fault time d → IsBesideAt design plan through (open_fault fault d)
fault-goes-on design plan fault through time passed next grader d runs_on g copy = record {
  none_before = λ zero. refl;
  is_grade = λ found e. cc;
  found_where = λ other e. (
    λ some. cc,
    λ ended. absurd (not-ended design plan fault time passed next grader g runs_on.early (subst (HasEnded design plan fault) (one-time design plan through other time e runs_on.time_is) ended)),
  );
  all_at_end = λ e. (let more : through < length (good_slots design plan) = runs_on.more in absurd (omega (arith, more, e)));
  copy = λ other e none. subst (λ t. IsCopyAt design plan fault t d) (one-time design plan through time other runs_on.time_is e) copy;
}

-- a finding that came by then
has-found : (design : FlatDesign) (plan : TestPlan) (fault : StuckAt) (through time : ℕ) (found : FaultGrade) (d : Differences) → time_at design plan through ≡ Some time →
    grade design plan fault ≡ Some found → HasEnded design plan fault time → IsBesideAt design plan through (found_fault fault d found)
has-found design plan fault through time found d time_is grade_is ended = record {
  none_before = λ zero. (let e : time_at design plan 0 ≡ Some time = subst (λ n. time_at design plan n ≡ Some time) zero time_is in cc);
  is_grade = λ other e. grade_is ∙ e;
  found_where = λ other e. (λ some. subst (HasEnded design plan fault) (one-time design plan through time other time_is e) ended, λ by. refl);
  all_at_end = λ e. refl;
  copy = λ other e none. cc;
}

ended-later : (design : FlatDesign) (plan : TestPlan) (fault : StuckAt) (time later : ℕ) → time ≤ later → HasEnded design plan fault time → HasEnded design plan fault later
ended-later design plan fault time later low ended = omega (arith, low, ended)

-- so many slots lead to a time
some-time : (design : FlatDesign) (plan : TestPlan) (count : ℕ) → (time : ℕ) × (time_at design plan (suc count) ≡ Some time)
some-time design plan count = go (slice_get (good_slots design plan) (suc count)) (slice_get (good_slots design plan) count)
  where
    go : (next last : Option FirstSlot) → (time : ℕ) × (elim next as (λ _. Option ℕ) [
      | None ↦ Some plan.end
      | Some later ↦ elim last as (λ _. Option ℕ) [ None ↦ Some plan.end | Some slot ↦ Some slot.begins.time ]
    ] ≡ Some time)
    go None last = (plan.end, refl)
    go (Some next) None = (plan.end, refl)
    go (Some next) (Some last) = (last.begins.time, refl)

-- what ended by the time of fewer slots ended by that of more
ended-through : FirstRunsGoOn → (design : FlatDesign) (plan : TestPlan) (at through time : ℕ) (fault : FaultBeside) (found : FaultGrade) → KeepsRules design → at ≤ through →
    IsBesideAt design plan at fault → fault.found ≡ Some found → time_at design plan through ≡ Some time → HasEnded design plan fault.fault time
ended-through law design plan zero through time fault found rules low b is e =
    let none : fault.found ≡ None = b.none_before refl in
    cc
ended-through law design plan (suc at) through time fault found rules low b is e =
    let before = some-time design plan at in
    ended-later design plan fault.fault before.0 time (times-rise law design plan rules (suc at) through before.0 time low before.1 e) ((b.found_where before.0 before.1).0 (ap is_some is))

fault-stays : FirstRunsGoOn → (design : FlatDesign) (plan : TestPlan) (at through : ℕ) (fault : FaultBeside) (found : FaultGrade) → KeepsRules design → at ≤ through →
    IsBesideAt design plan at fault → fault.found ≡ Some found → IsBesideAt design plan through fault
fault-stays law design plan at through fault found rules low b is = record {
  none_before = λ none. b.none_before (omega (arith, low, none));
  is_grade = b.is_grade;
  found_where = λ time e. (λ some. ended-through law design plan at through time fault found rules low b is e, λ by. ap is_some is);
  all_at_end = λ e. ap is_some is;
  copy = λ time e none. cc;
}

-- The laws

pub faults_go_on : FirstRunsGoOn → FaultsGoOn
faults_go_on law = record {
  begins = fault-begins law;
  is_open = fault-is-open;
  goes_on = fault-goes-on;
  ends = λ design plan fault through time ended found d runs_on e early.
      has-found design plan fault through time found d runs_on.time_is e.grade_is (ended-later design plan fault ended time early e.ended);
  ends_all = λ design plan fault through ended found d rules of_plan all e.
      has-found design plan fault through plan.end found d all.time_is e.grade_is (ended-by-end law design plan fault rules of_plan);
  stays = fault-stays law;
}
