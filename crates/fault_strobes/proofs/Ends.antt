-- Where the grading of a fault ends, by the strobes that may end it, and with which samples (strobes and slots by IEEE 1364-2001, clause 5).
use Rattle.std.proofs.Common.{◌≡◌, ℕ, ◌<◌, ◌≤◌, List, [], ◌∷◌, Bool, true, false, append-nil, refl, sym, ap, subst, ◌∙◌, arith}
use Rattle.std.specs.Prelude.{Option, Some, None}
use Rattle.four_value.specs.declared.logic.Bit.{Bit}
use Rattle.vf_base.specs.Base.{ReportedPair}
use Rattle.vf_base.specs.Lists.{AllHold}
use Rattle.vf_base.specs.declared.finding.Side.TheVariants.{Good}
use Rattle.v_design.specs.Designs.{FlatDesign, StuckAt, TestPlan}
use Rattle.v_design.specs.Grades.{samples_at, SlotOutcome, Fine, Race, Hyper, Stop, Detected, FaultGrade, Judged, Raced, good_ending, faulty_ending}
use Rattle.v_design.specs.WellFormed.{IsPlan, KeepsRules}
use Rattle.dict_laws.specs.Filled.{FullGradesAre}
use Rattle.dict_laws.specs.Filled.{NotBefore as ComesNotBefore, StopsAfter as ComesAfter}
use Rattle.kept_samples.specs.Plain.{differing}
use Rattle.strobe_detect.specs.Firsts.{first_time}
use Rattle.strobe_detect.specs.Graders.{shown_at}
use Rattle.grade_laws.specs.Ahead.{StopsAfter}
use Rattle.grade_laws.specs.Decisions.{NotBefore}
use Rattle.grade_laws.specs.Grading.{good_seen, faulty_seen, good_stop, faulty_stop}
use Rattle.beside_laws.specs.Gradings.{GradingsEnd}
use Rattle.fault_strobes.specs.Said.{Said, Judging, Keeping, ending_strobes, ends_there, keeps, plan_by, said_at, verdict_said}
use Rattle.fault_strobes.specs.Full.{IsFull, end_in_full}
use Rattle.fault_strobes.specs.Strobes.{EndsWith, StrobesGoOn, StrobedGradingsEnd}
use Rattle.fault_strobes.proofs.Strobes.{as-graded, grader_for}

some-is : {A : Type 0} (one other : A) → Some one ≡ Some other → one ≡ other
some-is one other e = cc

-- of some strobes those that may end a grading
pub ending-hold : (P : ℕ → Type 0) (kept : Bool) (strobes : List ℕ) → AllHold P strobes → AllHold P (ending_strobes kept strobes)
ending-hold P false strobes all = all
ending-hold P true strobes all = tt

ending-none : (kept : Bool) → ending_strobes kept [] ≡ []
ending-none false = refl
ending-none true = refl

pub is-plan : (kept : Bool) (plan : TestPlan) → IsPlan plan → IsPlan (plan_by kept plan)
is-plan false plan p = record {
  end = p.end;
  ascending = p.ascending;
  in_time = p.in_time;
  few_strobes = p.few_strobes;
  few_watched = p.few_watched;
  few_faults = p.few_faults;
}
is-plan true plan p = record {
  end = p.end;
  ascending = tt;
  in_time = tt;
  few_strobes = omega arith;
  few_watched = p.few_watched;
  few_faults = p.few_faults;
}

-- Stops

comes-after : (time : ℕ) (stop : Option Stop) → StopsAfter time stop → ComesAfter time stop
comes-after time None h = tt
comes-after time (Some stop) h = h

comes-not-before : (time : ℕ) (stop : Option Stop) → NotBefore time stop → ComesNotBefore time stop
comes-not-before time None h = tt
comes-not-before time (Some stop) h = h

-- strobes before a stop that is known
before-stop : (found : Option Stop) (stop : Stop) (passed : List ℕ) → found ≡ Some stop → AllHold (λ strobe. StopsAfter strobe found) passed → AllHold (λ strobe. strobe < stop.time) passed
before-stop found stop passed e h = subst (λ (o : Option Stop). AllHold (λ strobe. StopsAfter strobe o) passed) e h

-- what ends a grading by a stop is an end of the full grade
faulty-end : (time : ℕ) (outcome : SlotOutcome) (found : FaultGrade) → faulty_ending time outcome ≡ Some found → faulty_ending time outcome ≡ end_in_full found
faulty-end time Fine found e = cc
faulty-end time (Race pair) found e = ap end_in_full (some-is _ found e)
faulty-end time Hyper found e = ap end_in_full (some-is _ found e)

record IsRace (outcome : SlotOutcome) (found : FaultGrade) : Type 0 where
  pub pair : ReportedPair
  pub race : outcome ≡ Race pair
  pub found_is : Some (Raced Good pair) ≡ end_in_full found

good-end : (outcome : SlotOutcome) (found : FaultGrade) → good_ending outcome ≡ Some found → IsRace outcome found
good-end Fine found e = cc
good-end (Race pair) found e = record { pair = pair; race = refl; found_is = ap end_in_full (some-is (Raced Good pair) found e) }
good-end Hyper found e = cc

-- A hard detection

ends-hard : GradingsEnd → (design : FlatDesign) (plan : TestPlan) (fault : StuckAt) (now : Option ℕ) (passed next : List ℕ) (strobe : ℕ) (said new : Said) (good faulty : List Bit) →
    StrobesGoOn design plan fault now passed (strobe ∷ next) said → StopsAfter strobe (good_stop design plan) → StopsAfter strobe (faulty_stop design plan fault) →
    good ≡ good_seen design plan strobe → faulty ≡ faulty_seen design plan fault strobe → ends_there good faulty said ≡ true → new ≡ said_at strobe good faulty said →
    EndsWith design plan fault strobe (Judged (Detected strobe)) new
ends-hard law design plan fault now passed next strobe (Judging possible) new good faulty g good_on own_on eg ef found is =
    subst (EndsWith design plan fault strobe (Judged (Detected strobe))) (sym is) (record {
      ends =
          law.hard design (plan_by false plan) fault now passed next strobe strobe (grader_for plan (Judging possible)) (shown_at strobe good faulty (grader_for plan (Judging possible))) good faulty
          (as-graded design plan fault now passed (strobe ∷ next) (Judging possible) g) good_on own_on eg ef refl (ap (λ (b : Bool). first_time None b strobe) found);
      full = tt;
    })
ends-hard law design plan fault now passed next strobe (Keeping differs) new good faulty g good_on own_on eg ef found is = cc

-- what a judged fault was told so far doesn't matter
pub judged-alike : (design : FlatDesign) (plan : TestPlan) (fault : StuckAt) (time : ℕ) (found : FaultGrade) (said other : Said) → keeps said ≡ false → keeps other ≡ false →
    EndsWith design plan fault time found said → EndsWith design plan fault time found other
judged-alike design plan fault time found (Judging possible) (Judging more) one two e = record { ends = e.ends; full = tt }
judged-alike design plan fault time found (Keeping differs) other one two e = cc
judged-alike design plan fault time found (Judging possible) (Keeping differs) one two e = cc

-- A stop

module _ (ends : GradingsEnd) (fulls : FullGradesAre) (design : FlatDesign) (plan : TestPlan) (fault : StuckAt) (now : Option ℕ) (passed next : List ℕ) where
  ends-faulty : (said : Said) (stop : Stop) (found : FaultGrade) → StrobesGoOn design plan fault now passed next said → faulty_stop design plan fault ≡ Some stop →
      AllHold (λ strobe. stop.time ≤ strobe) next → StopsAfter stop.time (good_stop design plan) → faulty_ending stop.time stop.outcome ≡ Some found →
      EndsWith design plan fault stop.time found said
  ends-faulty said stop found g e since after is = record {
    ends = ends.faulty design (plan_by (keeps said) plan) fault now (ending_strobes (keeps said) passed) (ending_strobes (keeps said) next) (grader_for plan said) stop found
        (as-graded design plan fault now passed next said g) e (ending-hold (λ strobe. stop.time ≤ strobe) (keeps said) next since) after is;
    full = full said g;
  }
    where
      full : (said : Said) → StrobesGoOn design plan fault now passed next said → IsFull design plan fault found said
      full (Judging possible) g = tt
      full (Keeping differs) g = record {
        full = record { end = faulty_ending stop.time stop.outcome; samples = samples_at (faulty_seen design plan fault) passed };
        full_is = fulls.stopped design plan fault stop passed next e (comes-after stop.time (good_stop design plan) after) (record {
          strobes_are = g.strobes;
          before = before-stop (faulty_stop design plan fault) stop passed e g.faulty_later;
          since = since;
        });
        end_is = faulty-end stop.time stop.outcome found is;
        differs_are = g.so_far;
      }

  ends-good : (said : Said) (stop : Stop) (found : FaultGrade) → StrobesGoOn design plan fault now passed next said → good_stop design plan ≡ Some stop →
      AllHold (λ strobe. stop.time ≤ strobe) next → NotBefore stop.time (faulty_stop design plan fault) → good_ending stop.outcome ≡ Some found →
      EndsWith design plan fault stop.time found said
  ends-good said stop found g e since before is = record {
    ends = ends.good design (plan_by (keeps said) plan) fault now (ending_strobes (keeps said) passed) (ending_strobes (keeps said) next) (grader_for plan said) stop found
        (as-graded design plan fault now passed next said g) e (ending-hold (λ strobe. stop.time ≤ strobe) (keeps said) next since) before is;
    full = full said g;
  }
    where
      race : IsRace stop.outcome found
      race = good-end stop.outcome found is

      full : (said : Said) → StrobesGoOn design plan fault now passed next said → IsFull design plan fault found said
      full (Judging possible) g = tt
      full (Keeping differs) g = record {
        full = record { end = Some (Raced Good race.pair); samples = samples_at (faulty_seen design plan fault) passed };
        full_is =
            fulls.raced design plan fault stop race.pair passed next e race.race (comes-not-before stop.time (faulty_stop design plan fault) before) (record {
              strobes_are = g.strobes;
              before = before-stop (good_stop design plan) stop passed e g.good_later;
              since = since;
            });
        end_is = race.found_is;
        differs_are = g.so_far;
      }

-- The plan's end

ends-verdict : GradingsEnd → FullGradesAre → (design : FlatDesign) (plan : TestPlan) (fault : StuckAt) (now : Option ℕ) (passed : List ℕ) (said : Said) → KeepsRules design → IsPlan plan →
    StrobesGoOn design plan fault now passed [] said → good_stop design plan ≡ None → faulty_stop design plan fault ≡ None → EndsWith design plan fault plan.end (Judged (verdict_said said)) said
ends-verdict law fulls design plan fault now passed (Judging possible) rules of_plan g good faulty = record {
  ends = law.verdict design (plan_by false plan) fault now passed (grader_for plan (Judging possible)) rules (is-plan false plan of_plan)
      (as-graded design plan fault now passed [] (Judging possible) g) good faulty;
  full = tt;
}
ends-verdict law fulls design plan fault now passed (Keeping differs) rules of_plan g good faulty = record {
  ends = law.verdict design (plan_by true plan) fault now [] (grader_for plan (Keeping differs)) rules (is-plan true plan of_plan)
      (as-graded design plan fault now passed [] (Keeping differs) g) good faulty;
  full = record {
    full = record { end = None; samples = samples_at (faulty_seen design plan fault) plan.strobes };
    full_is = fulls.whole design plan fault good faulty;
    end_is = refl;
    differs_are =
        g.so_far ∙ ap (λ (strobes : List ℕ). differing (good_seen design plan) (samples_at (faulty_seen design plan fault) strobes)) (sym (g.strobes ∙ append-nil passed));
  };
}

pub strobed-ends : GradingsEnd → FullGradesAre → StrobedGradingsEnd
strobed-ends ends fulls = record {
  hard = ends-hard ends;
  faulty = λ design plan fault now passed next said stop found g e since after is. ends-faulty ends fulls design plan fault now passed next said stop found g e since after is;
  good = λ design plan fault now passed next said stop found g e since before is. ends-good ends fulls design plan fault now passed next said stop found g e since before is;
  verdict = ends-verdict ends fulls;
}
