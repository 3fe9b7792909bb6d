-- How the grading of a fault goes through a window (strobes and slots by IEEE 1364-2001, clause 5).
use Rattle.std.proofs.Common.{◌≡◌, ℕ, zero, suc, ◌<◌, ◌≤◌, Bool, true, false, List, [], ◌∷◌, ◌++◌, map, drop, refl, sym, ap, subst, ◌∙◌, arith}
use Rattle.std.specs.Prelude.{Option, Some, None, is_some}
use Rattle.vf_base.specs.Base.{ReportedPair, WatchedBit}
use Rattle.vf_base.specs.Lists.{AllHold}
use Rattle.vf_base.specs.declared.finding.End.{End}
use Rattle.vf_base.specs.declared.finding.Side.TheVariants.{Good}
use Rattle.v_design.specs.Designs.{FlatDesign, StuckAt, TestPlan, faulty_machine}
use Rattle.v_design.specs.Grades.{FaultGrade, Judged, Raced, Race, Stop}
use Rattle.v_design.specs.Plain.{grade_of}
use Rattle.v_design.specs.WellFormed.{IsPlan, KeepsRules}
use Rattle.kept_samples.specs.Plain.{sample_of}
use Rattle.kept_samples.specs.declared.kept.Sample.{Sample as Kept}
use Rattle.copy_laws.specs.Differences.{Differences}
use Rattle.copy_laws.specs.Windows.{WindowEnd, IsOpen, IsThrough, IsRaced, IsBesideAt, time_at}
use Rattle.copy_room.specs.machine.declared.parts.Machine.{Machine as Simulated}
use Rattle.good_trace.specs.Slots.{end_of}
use Rattle.grade_laws.specs.Ahead.{StopsAfter}
use Rattle.grade_laws.specs.Decisions.{NotBefore}
use Rattle.grade_laws.specs.Grading.{faulty_stop, good_stop}
use Rattle.beside_laws.specs.Stands.{RunsStand}
use Rattle.beside_laws.specs.GoodRuns.{IsAllAt}
use Rattle.beside_laws.specs.Shards.{found_fault}
use Rattle.fault_strobes.specs.Full.{IsFull}
use Rattle.fault_strobes.specs.Said.{Said, keeps, plan_by, verdict_said}
use Rattle.fault_strobes.specs.Strobes.{EndsWith, StrobesGoOn, StrobedFaultsGoOn, StrobedGradingsEnd}
use Rattle.window_grade.specs.Grading.{CanGrade, GradesThrough, IsGradingAt}
use Rattle.window_grade.specs.Running.{StaysOn}
use Rattle.window_strobes.specs.Leading.{EndsSo, last_before}
use Rattle.window_strobes.specs.Seen.{AreSeenIf}
use Rattle.window_strobes.specs.Strobes.{strobes_left}
use Rattle.window_grade.specs.declared.beside.RunBeside.{RunBeside}
use Rattle.window_strobes.specs.declared.strobes.WindowStrobes.{WindowStrobes}
use Rattle.copy_window.specs.Passing.{CanGradeWindow, ComesToTime, EndsBehind, PassesWindow}
use Rattle.copy_window.proofs.Windows.{can-grade, left-after}

some-is : {A : Type 0} (one other : A) → Some one ≡ Some other → one ≡ other
some-is one other e = cc

-- all come by the end, and all after it: there are none
none-left : (end : ℕ) (strobes : List ℕ) → AllHold (λ strobe. strobe ≤ end) strobes → AllHold (λ strobe. end < strobe) strobes → strobes ≡ []
none-left end [] all after = refl
none-left end (strobe ∷ strobes) all after = (let low : strobe ≤ end = all.0 in let high : end < strobe = after.0 in absurd (omega (arith, low, high)))

all-right : (P : ℕ → Type 0) (xs ys : List ℕ) → AllHold P (xs ++ ys) → AllHold P ys
all-right P [] ys all = all
all-right P (x ∷ xs) ys all = all-right P xs ys all.1

-- the next strobes come no earlier than the time behind another
since-next : (time : ℕ) (strobes : List ℕ) → AllHold (λ strobe. time < strobe) strobes → AllHold (λ strobe. suc time ≤ strobe) strobes
since-next time [] all = tt
since-next time (strobe ∷ strobes) all = (let high : time < strobe = all.0 in omega (arith, high), since-next time strobes all.1)

since-zero : (strobes : List ℕ) → AllHold (λ strobe. 0 ≤ strobe) strobes
since-zero [] = tt
since-zero (strobe ∷ strobes) = (omega arith, since-zero strobes)

not-before-next : (time : ℕ) (stop : Option Stop) → StopsAfter time stop → NotBefore (suc time) stop
not-before-next time None after = tt
not-before-next time (Some stop) after = omega (arith, after)

not-before-zero : (stop : Option Stop) → NotBefore 0 stop
not-before-zero None = tt
not-before-zero (Some stop) = omega arith

module _ (stand : RunsStand) (ends : StrobedGradingsEnd) (faults : StrobedFaultsGoOn) (watched : List WatchedBit) (strobes : WindowStrobes) (beside : RunBeside) (old : Simulated) (start : Said)
    (of : CanGradeWindow watched strobes beside old start) where
  rules : KeepsRules of.design
  rules = of.at.design_rules

  of_plan : IsPlan of.plan
  of_plan = of.at.rules

  abbrev pub later : List ℕ
  later = strobes_left of.plan strobes

  -- a grading that ended by the time to which the window leads
  found-by : (ending : WindowEnd) (until : ℕ) (found : FaultGrade) (said : Said) (d : Differences) → EndsSo of.design of.plan of.through ending (Some until) →
      EndsWith of.design of.plan of.fault until found said → IsBesideAt of.design (plan_by (keeps said) of.plan) of.through (found_fault of.fault d found)
  found-by IsOpen until found said d so ended =
      let same : until ≡ so.0 = some-is until so.0 so.1 in
      faults.ends of.design of.plan of.fault (keeps said) of.through so.0 until found d so.2 ended.ends (omega (arith, same))
  found-by IsThrough until found said d so ended = faults.ends_all of.design of.plan of.fault (keeps said) of.through until found d rules of_plan so.0 ended.ends
  found-by (IsRaced pair) until found said d so ended = faults.ends_all of.design of.plan of.fault (keeps said) of.through until found d rules of_plan so.0 ended.ends

  -- one that ended with the good first run
  found-all : (found : FaultGrade) (own : End) (ended : ℕ) (m : Simulated) (said : Said) → grade_of own ≡ found → IsAllAt of.design of.plan of.through →
      EndsWith of.design of.plan of.fault ended found said → PassesWindow of.design of.plan of.fault of.through later (Some own) m said
  found-all found own ended m said is all e =
      subst
      (λ (f : FaultGrade). ((d : Differences) → IsBesideAt of.design (plan_by (keeps said) of.plan) of.through (found_fault of.fault d f)) × IsFull of.design of.plan of.fault f said)
      (sym is) (λ d. faults.ends_all of.design of.plan of.fault (keeps said) of.through ended found d rules of_plan all e.ends, e.full)

  passes-early : (until : Option ℕ) (end : End) (m : Simulated) (said : Said) → EndsSo of.design of.plan of.through (end_of strobes.ending) until →
      ComesToTime of.design of.plan of.fault of.before later until (Some end) m said → PassesWindow of.design of.plan of.fault of.through later (Some end) m said
  passes-early None end m said so comes = (let none : Some end ≡ None = comes.0 in cc)
  passes-early (Some until) end m said so comes = (λ d. found-by (end_of strobes.ending) until (grade_of end) said d so comes, comes.full)

  -- it ended by then
  pub passes-found : (end : Option End) (m : Simulated) (said : Said) → is_some end ≡ true →
      ComesToTime of.design of.plan of.fault of.before later strobes.until end m said → PassesWindow of.design of.plan of.fault of.through later end m said
  passes-found None m said some comes = cc
  passes-found (Some end) m said some comes = passes-early strobes.until end m said of.are.leads.ends comes

  -- slots come after the window
  behind-open : (until : Option ℕ) (end : Option End) (m : Simulated) (said : Said) → EndsSo of.design of.plan of.through IsOpen until →
      ComesToTime of.design of.plan of.fault of.before later until None m said → EndsBehind IsOpen said end → PassesWindow of.design of.plan of.fault of.through later end m said
  behind-open until end m said so comes behind =
      subst (λ (o : Option End). PassesWindow of.design of.plan of.fault of.through later o m said) (sym behind)
      (record { time = so.0; runs_on = so.2; at = subst (λ (o : Option ℕ). ComesToTime of.design of.plan of.fault of.before later o None m said) so.1 comes })

  -- the good first run is through: the verdict of the strobes
  behind-through : (end : Option End) (m : Simulated) (said : Said) → strobes.until ≡ Some of.plan.end → EndsSo of.design of.plan of.through IsThrough strobes.until →
      ComesToTime of.design of.plan of.fault of.before later strobes.until None m said → EndsBehind IsThrough said end → PassesWindow of.design of.plan of.fault of.through later end m said
  behind-through end m said e so comes behind =
      subst (λ (o : Option End). PassesWindow of.design of.plan of.fault of.through later o m said) (sym behind.1)
      (found-all (Judged (verdict_said said)) behind.0 of.plan.end m said behind.2 so.0 verdict)
    where
      at : IsGradingAt of.design of.plan of.fault (Some of.plan.end) m [] later said
      at = subst (λ (o : Option ℕ). ComesToTime of.design of.plan of.fault of.before later o None m said) e comes

      none : later ≡ []
      none =
          none-left of.plan.end later
          (all-right (λ strobe. strobe ≤ of.plan.end) at.passed later (subst (AllHold (λ strobe. strobe ≤ of.plan.end)) at.grading.strobes of_plan.in_time))
          (left-after of.design of.plan of.before of.through strobes of.are of.plan.end e)

      verdict : EndsWith of.design of.plan of.fault of.plan.end (Judged (verdict_said said)) said
      verdict =
          let goes : StrobesGoOn of.design of.plan of.fault (Some of.plan.end) at.passed [] said =
          subst (λ next. StrobesGoOn of.design of.plan of.fault (Some of.plan.end) at.passed next said) none at.grading in
          ends.verdict of.design of.plan of.fault (Some of.plan.end) at.passed said rules of_plan goes so.1
          (stand.never (faulty_machine of.design of.fault) of.plan.end rules at.grading.faulty)

  -- the good machine has a race behind the time, or at time 0
  behind-raced : (pair : ReportedPair) (end : Option End) (m : Simulated) (said : Said) → EndsSo of.design of.plan of.through (IsRaced pair) strobes.until →
      ComesToTime of.design of.plan of.fault of.before later strobes.until None m said → EndsBehind (IsRaced pair) said end →
      PassesWindow of.design of.plan of.fault of.through later end m said
  behind-raced pair end m said so comes behind =
      subst (λ (o : Option End). PassesWindow of.design of.plan of.fault of.through later o m said) (sym behind.1)
      (found-all (Raced Good pair) behind.0 pair.time m said behind.2 so.0 (go pair.time refl))
    where
      by : (now : Option ℕ) → IsGradingAt of.design of.plan of.fault now m [] later said → AllHold (λ strobe. pair.time ≤ strobe) later →
          NotBefore pair.time (faulty_stop of.design of.plan of.fault) → EndsWith of.design of.plan of.fault pair.time (Raced Good pair) said
      by now at since before =
          ends.good of.design of.plan of.fault now at.passed later said (record { time = pair.time; outcome = Race pair }) (Raced Good pair) at.grading so.1 since before refl

      go : (time : ℕ) → pair.time ≡ time → EndsWith of.design of.plan of.fault pair.time (Raced Good pair) said
      go zero e =
          let none : strobes.until ≡ None = so.2 ∙ ap last_before e in
          let at = subst (λ (o : Option ℕ). ComesToTime of.design of.plan of.fault of.before later o None m said) none comes in
          by (time_at of.design of.plan of.before) at.1 (subst (λ t. AllHold (λ strobe. t ≤ strobe) later) (sym e) (since-zero later))
          (subst (λ t. NotBefore t (faulty_stop of.design of.plan of.fault)) (sym e) (not-before-zero (faulty_stop of.design of.plan of.fault)))
      go (suc time) e =
          let some : strobes.until ≡ Some time = so.2 ∙ ap last_before e in
          let at : IsGradingAt of.design of.plan of.fault (Some time) m [] later said =
          subst (λ (o : Option ℕ). ComesToTime of.design of.plan of.fault of.before later o None m said) some comes in
          by (Some time) at
          (subst (λ t. AllHold (λ strobe. t ≤ strobe) later) (sym e) (since-next time later (left-after of.design of.plan of.before of.through strobes of.are time some)))
          (subst (λ t. NotBefore t (faulty_stop of.design of.plan of.fault)) (sym e) (not-before-next time (faulty_stop of.design of.plan of.fault) at.grading.faulty))

  behind : (ending : WindowEnd) (end : Option End) (m : Simulated) (said : Said) → EndsSo of.design of.plan of.through ending strobes.until →
      ComesToTime of.design of.plan of.fault of.before later strobes.until None m said → EndsBehind ending said end → PassesWindow of.design of.plan of.fault of.through later end m said
  behind IsOpen end m said so comes ended = behind-open strobes.until end m said so comes ended
  behind IsThrough end m said so comes ended = behind-through end m said so.2 so comes ended
  behind (IsRaced pair) end m said so comes ended = behind-raced pair end m said so comes ended

  -- it came to that time: how the window ends tells
  pub passes-on : (early end : Option End) (m : Simulated) (said : Said) → is_some early ≡ false →
      ComesToTime of.design of.plan of.fault of.before later strobes.until early m said → EndsBehind (end_of strobes.ending) said end →
      PassesWindow of.design of.plan of.fault of.through later end m said
  passes-on None end m said none comes ended = behind (end_of strobes.ending) end m said of.are.leads.ends comes ended
  passes-on (Some found) end m said none comes ended = cc

-- To the time to which a window leads

module _ (watched : List WatchedBit) (strobes : WindowStrobes) (beside : RunBeside) (m : Simulated) (said : Said) (of : CanGradeWindow watched strobes beside m said) where
  -- there is no such time, and no sample is next
  pub comes-none : strobes.until ≡ None → ComesToTime of.design of.plan of.fault of.before (strobes_left of.plan strobes) strobes.until None m said
  comes-none e =
      subst (λ (o : Option ℕ). ComesToTime of.design of.plan of.fault of.before (strobes_left of.plan strobes) o None m said) (sym e) (refl, at strobes.samples.items none of.at)
    where
      none : strobes.samples.items ≡ []
      none = subst (λ (o : Option ℕ). AreSeenIf of.design of.plan o (drop strobes.passed of.plan.strobes) strobes.samples.items) e of.are.seen

      at : (samples : List Kept) → samples ≡ [] → IsGradingAt of.design of.plan of.fault (time_at of.design of.plan of.before) m (map sample_of samples) (strobes_left of.plan strobes) said →
          IsGradingAt of.design of.plan of.fault (time_at of.design of.plan of.before) m [] (strobes_left of.plan strobes) said
      at [] e a = a
      at (sample ∷ samples) e a = cc

  -- the machine that is not run stands where it stood
  pub stays-same : StaysOn m m
  stays-same = record { same_machine = refl; standing = of.at.at.standing; notes = refl }

  -- it was run to that time
  pub comes-some : (until : ℕ) → (e : strobes.until ≡ Some until) → (samples : List Kept) → samples ≡ strobes.samples.items → (end : Option End) (new : Simulated) (after : Said) →
      ((own : CanGrade watched samples until beside m said) → GradesThrough own.design own.plan own.fault own.later until end new after) →
      ComesToTime of.design of.plan of.fault of.before (strobes_left of.plan strobes) strobes.until end new after
  comes-some until e samples same end new after grades =
      subst (λ (o : Option ℕ). ComesToTime of.design of.plan of.fault of.before (strobes_left of.plan strobes) o end new after) (sym e)
      (read samples same grades)
    where
      read : (samples : List Kept) → samples ≡ strobes.samples.items → ((own : CanGrade watched samples until beside m said) → GradesThrough own.design own.plan own.fault own.later until end new after) →
          GradesThrough of.design of.plan of.fault (strobes_left of.plan strobes) until end new after
      read samples same grades =
          (subst (λ (l : List Kept). ((own : CanGrade watched l until beside m said) → GradesThrough own.design own.plan own.fault own.later until end new after) →
          GradesThrough of.design of.plan of.fault (strobes_left of.plan strobes) until end new after) (sym same)
          (λ given. given (can-grade watched strobes beside m said until of e))) grades
