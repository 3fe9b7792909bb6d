-- A faulty machine from strobe to strobe (strobes and slots by IEEE 1364-2001, clause 5).
use Rattle.std.proofs.Common.{◌≡◌, ℕ, ◌<◌, ◌≤◌, min, Bool, List, [], ◌∷◌, ◌++◌, length, refl, sym, ap, subst, ◌∙◌, arith}
use Rattle.std.specs.Prelude.{Option, Some, None, true, false, find}
use Rattle.std.proofs.lemmas.Bool.{le-leb, leb-true}
use Rattle.std.proofs.lemmas.List.{length-map}
use Rattle.vf_base.specs.Base.{WatchedBit}
use Rattle.vf_base.specs.Lists.{AllHold}
use Rattle.vf_base.specs.declared.finding.End.{End}
use Rattle.v_design.specs.Designs.{FlatDesign, Machine, StuckAt, TestPlan, faulty_machine}
use Rattle.v_design.specs.States.{State, found_or, least_of}
use Rattle.v_design.specs.Grades.{Sample, Stop, Judged, Detected, FaultGrade, by_then, first_strobe, is_hard, samples, some_sample, stop_time}
use Rattle.v_design.specs.Plain.{grade_of}
use Rattle.v_design.specs.WellFormed.{IsAscending}
use Rattle.strobe_detect.specs.Graders.{IsWatched}
use Rattle.copy_laws.specs.Windows.{state_at}
use Rattle.grade_laws.specs.Ahead.{StopsAfter}
use Rattle.grade_laws.specs.Decisions.{NotBefore, none-before}
use Rattle.grade_laws.specs.Strobes.{ascending-later, all-since}
use Rattle.grade_laws.specs.Grading.{good_seen, good_stop, faulty_seen, faulty_stop, times}
use Rattle.machine.specs.Standing.{state_kept}
use Rattle.machine.specs.declared.parts.Machine.{Machine as Simulated}
use Rattle.fault_grade.specs.Benches.{IsObjectOf}
use Rattle.fault_grade.specs.Beside.{early, values-watched}
use Rattle.beside_laws.specs.Stands.{IsAfter, IsSince, RunsGoOn, RunsStand}
use Rattle.fault_strobes.specs.Said.{IsSaid, Judging, Keeping, Said, ending_strobes, ends_there, keeps, plan_by, said_at}
use Rattle.fault_strobes.specs.Strobes.{EndsWith, StrobesGoOn, StrobedGradingsEnd, StrobedGradingsGoOn}
use Rattle.window_grade.specs.Beside.{GoesUpTo}
use Rattle.window_grade.specs.Running.{IsRunningAt, StopsWith, CanRunTo, RunLeads}
use Rattle.window_grade.specs.Grading.{IsGradingAt, CanPass, GradingLeads}
use Rattle.window_grade.specs.declared.beside.RunBeside.{RunBeside}

-- Times and lists

pub after-since : (now : Option ℕ) (time : ℕ) → IsAfter now time → IsSince now time
after-since None time h = tt
after-since (Some now) time h = omega (arith, h)

pub hold-at : (P : ℕ → Type 0) (before : List ℕ) (time : ℕ) (later : List ℕ) → AllHold P (before ++ time ∷ later) → P time
hold-at P [] time later h = h.0
hold-at P (x ∷ before) time later h = hold-at P before time later h.1

stops-earlier : (low time : ℕ) (stop : Option Stop) → low ≤ time → StopsAfter time stop → StopsAfter low stop
stops-earlier low time None h a = tt
stops-earlier low time (Some stop) h a = omega (arith, h, a)

-- a grading that ended by a time ended by a later one
pub ends-later : (design : FlatDesign) (plan : TestPlan) (fault : StuckAt) (time later : ℕ) (found : FaultGrade) (said : Said) → time ≤ later → EndsWith design plan fault time found said →
    EndsWith design plan fault later found said
ends-later design plan fault time later found said h e = record {
  ends = record { grade_is = e.ends.grade_is; ended = (let by = e.ends.ended in omega (arith, h, by)) };
  full = e.full;
}

since-all : (low time : ℕ) (strobes : List ℕ) → low ≤ time → AllHold (λ strobe. time ≤ strobe) strobes → AllHold (λ strobe. low ≤ strobe) strobes
since-all low time [] h a = tt
since-all low time (x ∷ strobes) h a = (let y : time ≤ x = a.0 in omega (arith, h, y), since-all low time strobes h a.1)

-- the faulty machine stops by a time that isn't after the next strobes
pub ends-stopped : StrobedGradingsEnd → (design : FlatDesign) (plan : TestPlan) (fault : StuckAt) (now : Option ℕ) (passed next : List ℕ) (said : Said) (time : ℕ) (end : End) →
    StrobesGoOn design plan fault now passed next said → StopsWith design plan fault time end → AllHold (λ strobe. time ≤ strobe) next → StopsAfter time (good_stop design plan) →
    EndsWith design plan fault time (grade_of end) said
ends-stopped law design plan fault now passed next said time end g s since good =
    let by : s.stop.time ≤ time = s.by_then in
    ends-later design plan fault s.stop.time time (grade_of end) said by
    (law.faulty design plan fault now passed next said s.stop (grade_of end) g s.stop_is (since-all s.stop.time time next by since)
    (stops-earlier s.stop.time time (good_stop design plan) by good) s.ends)

-- what is watched are objects of the machine
pub watched-there : (design : FlatDesign) (plan : TestPlan) (fault : StuckAt) (now : Option ℕ) (m : Simulated) (watched : List WatchedBit) → IsRunningAt design plan fault now m →
    plan.watched ≡ watched → AllHold (IsObjectOf design) plan.watched → AllHold (IsWatched (state_kept m).values) watched
watched-there design plan fault now m watched at is all =
    values-watched m watched at.standing.values
    (subst (λ (machine : Machine). AllHold (IsObjectOf machine.design) watched) (sym at.same_machine) (subst (AllHold (IsObjectOf design)) is all))

-- The end of a grading that goes on

two-least : (time : ℕ) (one other : Option ℕ) → by_then time one ≡ true → by_then time other ≡ true → by_then time (least_of one other) ≡ true
two-least time None other a b = b
two-least time (Some one) None a b = a
two-least time (Some one) (Some other) a b =
    let first : time ≤ one = leb-true time one a in
    let second : time ≤ other = leb-true time other b in
    le-leb time (min one other) (omega (arith, first, second))

by-end : (time end : ℕ) (found : Option ℕ) → time ≤ end → by_then time found ≡ true → time ≤ found_or end found
by-end time end None h e = h
by-end time end (Some found) h e = leb-true time found e

stop-not-before : (time until : ℕ) (stop : Option Stop) → time ≤ until → StopsAfter until stop → NotBefore time stop
stop-not-before time until None h a = tt
stop-not-before time until (Some stop) h a = omega (arith, h, a)

not-before : (time : ℕ) (stop : Option Stop) → NotBefore time stop → by_then time (stop_time stop) ≡ true
not-before time None h = refl
not-before time (Some stop) h = le-leb time stop.time h

-- no strobe up to a time may have ended it
hard-since : (design : FlatDesign) (plan : TestPlan) (fault : StuckAt) (passed next : List ℕ) (said : Said) (time : ℕ) → plan.strobes ≡ passed ++ next →
    IsSaid (good_seen design plan) (faulty_seen design plan fault) passed said → AllHold (λ strobe. time ≤ strobe) next →
    by_then time (first_strobe is_hard (good_seen design plan) (faulty_seen design plan fault) (ending_strobes (keeps said) plan.strobes)) ≡ true
hard-since design plan fault passed next (Judging possible) time parts said since =
    let test : ℕ → Bool = λ strobe. some_sample is_hard (good_seen design plan strobe) (faulty_seen design plan fault strobe) in
    ap (λ l. by_then time (find test l)) parts ∙ none-before test time passed next said.0 since
hard-since design plan fault passed next (Keeping differs) time parts said since = refl

-- up to a time before which no strobe is left it ends at most by a stop of its machine
pub goes-on : (design : FlatDesign) (plan : TestPlan) (fault : StuckAt) (now : Option ℕ) (passed next : List ℕ) (said : Said) (until : ℕ) → StrobesGoOn design plan fault now passed next said →
    AllHold (λ strobe. until ≤ strobe) next → StopsAfter until (good_stop design plan) → until ≤ plan.end → GoesUpTo design (plan_by (keeps said) plan) fault until
goes-on design plan fault now passed next said until g since good within = λ time low stop.
    by-end time plan.end
    (least_of (stop_time (good_stop design plan))
    (least_of (stop_time (faulty_stop design plan fault)) (first_strobe is_hard (good_seen design plan) (faulty_seen design plan fault) (ending_strobes (keeps said) plan.strobes))))
    (omega (arith, low, within))
    (two-least time (stop_time (good_stop design plan))
    (least_of (stop_time (faulty_stop design plan fault)) (first_strobe is_hard (good_seen design plan) (faulty_seen design plan fault) (ending_strobes (keeps said) plan.strobes)))
    (not-before time (good_stop design plan) (stop-not-before time until (good_stop design plan) low good))
    (two-least time (stop_time (faulty_stop design plan fault)) (first_strobe is_hard (good_seen design plan) (faulty_seen design plan fault) (ending_strobes (keeps said) plan.strobes))
    (not-before time (faulty_stop design plan fault) stop)
    (hard-since design plan fault passed next said time g.strobes g.so_far (since-all time until next low since))))

-- At a strobe

module _ (watched : List WatchedBit) (sample : Sample) (beside : RunBeside) (m : Simulated) (said : Said) (of : CanPass watched sample beside m said) where
  abbrev rest : List ℕ
  rest = times of.next ++ of.later

  pub grading-here : StrobesGoOn of.design of.plan of.fault of.now of.at.passed (sample.time ∷ rest) said
  grading-here = of.at.grading

  pub others-later : AllHold (λ strobe. sample.time < strobe) rest
  others-later = ascending-later of.at.passed sample.time rest (subst IsAscending grading-here.strobes of.at.rules.ascending)

  pub sample-within : sample.time ≤ of.plan.end
  sample-within = hold-at (λ strobe. strobe ≤ of.plan.end) of.at.passed sample.time rest (subst (AllHold (λ strobe. strobe ≤ of.plan.end)) grading-here.strobes of.at.rules.in_time)

  -- the machine may be run to it
  abbrev pub can-run : CanRunTo sample.time beside m
  can-run = record {
    design = of.design;
    plan = of.plan;
    fault = of.fault;
    now = of.now;
    kept = keeps said;
    at = of.at.at;
    known = of.known;
    goes =
        goes-on of.design of.plan of.fault of.now of.at.passed (sample.time ∷ rest) said sample.time grading-here
        (omega arith, all-since sample.time sample.time rest (omega arith) others-later) of.at.before.0 sample-within;
    since = after-since of.now sample.time grading-here.later.0;
    within = sample-within;
    early = early of.plan sample.time of.at.rules sample-within;
  }

  pub sized : length sample.bits ≡ length watched
  sized = ap length of.at.bits.0 ∙ length-map of.plan.watched _ ∙ ap length of.watched_are

  pub pass-stopped : (end : End) → StopsWith of.design of.plan of.fault sample.time end → StrobedGradingsEnd → EndsWith of.design of.plan of.fault sample.time (grade_of end) said
  pass-stopped end s law =
      ends-stopped law of.design of.plan of.fault of.now of.at.passed (sample.time ∷ rest) said sample.time end grading-here s
      (omega arith, all-since sample.time sample.time rest (omega arith) others-later) of.at.before.0

  -- the machine went on to the strobe and is compared
  module _ (runs : RunsGoOn) (stand : RunsStand) (new : Simulated) (running : IsRunningAt of.design of.plan of.fault (Some sample.time) new) (after : Said)
      (is : after ≡ said_at sample.time sample.bits (samples watched (state_kept new).values) said) where
    here : (state_at (faulty_machine of.design of.fault) of.plan.end sample.time ≡ state_kept new) × StopsAfter sample.time (faulty_stop of.design of.plan of.fault)
    here = runs.stands (faulty_machine of.design of.fault) of.plan.end sample.time _ (state_kept new) running.run

    seen : samples watched (state_kept new).values ≡ faulty_seen of.design of.plan of.fault sample.time
    seen =
        ap (λ w. samples w (state_kept new).values) (sym of.watched_are)
        ∙ ap (λ (s : State). samples of.plan.watched s.values) (sym here.0)
        ∙ sym (stand.sees (faulty_machine of.design of.fault) of.plan.watched of.plan.end sample.time of.at.design_rules)

    pub pass-hard : StrobedGradingsEnd → ends_there sample.bits (samples watched (state_kept new).values) said ≡ true →
        EndsWith of.design of.plan of.fault sample.time (Judged (Detected sample.time)) after
    pass-hard law ends =
        law.hard of.design of.plan of.fault of.now of.at.passed rest sample.time said after sample.bits (samples watched (state_kept new).values) grading-here of.at.before.0 here.1
        of.at.bits.0 seen ends is

    pub pass-on : StrobedGradingsGoOn → ends_there sample.bits (samples watched (state_kept new).values) said ≡ false →
        IsGradingAt of.design of.plan of.fault (Some sample.time) new of.next of.later after
    pass-on law none = record {
      design_rules = of.at.design_rules;
      rules = of.at.rules;
      watched = of.at.watched;
      passed = of.at.passed ++ sample.time ∷ [];
      at = running;
      grading =
          law.strobe of.design of.plan of.fault of.now of.at.passed rest sample.time said after sample.bits (samples watched (state_kept new).values) of.at.rules grading-here of.at.before.0
          here.1 of.at.bits.0 seen none is;
      bits = of.at.bits.1;
      before = of.at.before.1;
    }

-- After the window's strobes

module _ (runs : RunsGoOn) (law : StrobedGradingsGoOn) (ends : StrobedGradingsEnd) (design : FlatDesign) (plan : TestPlan) (fault : StuckAt) (now : Option ℕ) (m new : Simulated) (later : List ℕ)
    (said : Said) (until : ℕ) (at : IsGradingAt design plan fault now m [] later said) (after : AllHold (λ strobe. until < strobe) later)
    (good : StopsAfter until (good_stop design plan)) where
  pub window-leads : (end : Option End) → RunLeads design plan fault until end new → GradingLeads design plan fault until [] later end new said
  window-leads None running = record {
    design_rules = at.design_rules;
    rules = at.rules;
    watched = at.watched;
    passed = at.passed;
    at = running;
    grading =
        law.passes design plan fault now at.passed later said until at.grading after good
        (runs.stands (faulty_machine design fault) plan.end until _ (state_kept new) running.run).1;
    bits = tt;
    before = tt;
  }
  window-leads (Some end) s =
      ends-stopped ends design plan fault now at.passed later said until end at.grading s (all-since until until later (omega arith) after) good
