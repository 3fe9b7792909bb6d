-- The grading of a fault from strobe to strobe, by the strobes that may end it (strobes and slots by IEEE 1364-2001, clause 5).
use Rattle.std.proofs.Common.{◌≡◌, ℕ, ◌<◌, ◌≤◌, List, [], ◌∷◌, ◌++◌, true, false, refl, sym, subst, ◌∙◌, arith, append_assoc}
use Rattle.std.specs.Prelude.{Option, Some, None}
use Rattle.four_value.specs.declared.logic.Bit.{Bit}
use Rattle.vf_base.specs.Lists.{AllHold}
use Rattle.v_design.specs.Designs.{FlatDesign, StuckAt, TestPlan}
use Rattle.v_design.specs.Grades.{Stop}
use Rattle.v_design.specs.WellFormed.{IsAscending, IsPlan}
use Rattle.strobe_detect.specs.Graders.{GraderState}
use Rattle.grade_laws.specs.Ahead.{StopsAfter}
use Rattle.grade_laws.specs.Grading.{good_seen, faulty_seen, good_stop, faulty_stop}
use Rattle.grade_laws.specs.Strobes.{ascending-later}
use Rattle.beside_laws.specs.Stands.{IsAfter}
use Rattle.beside_laws.specs.Gradings.{GradingGoesOn, GradingsGoOn, HasNotEnded}
use Rattle.fault_strobes.specs.Said.{IsSaid, Said, SaysNothing, Judging, Keeping, ending_strobes, ends_there, keeps, plan_by, said_at}
use Rattle.fault_strobes.specs.Strobes.{StrobesGoOn, StrobedGradingsGoOn}
use Rattle.fault_strobes.proofs.Samples.{said-more}

-- the grader that was shown the strobes that may end a grading
abbrev pub grader_for : TestPlan → Said → GraderState
grader_for plan (Judging possible) = record { watched = plan.watched; hard = None; possible = possible }
grader_for plan (Keeping differs) = record { watched = plan.watched; hard = None; possible = None }

-- so it goes on by the strobes that may end it
pub as-graded : (design : FlatDesign) (plan : TestPlan) (fault : StuckAt) (now : Option ℕ) (passed next : List ℕ) (said : Said) → StrobesGoOn design plan fault now passed next said →
    GradingGoesOn design (plan_by (keeps said) plan) fault now (ending_strobes (keeps said) passed) (ending_strobes (keeps said) next) (grader_for plan said)
as-graded design plan fault now passed next (Judging possible) g = record {
  strobes = g.strobes;
  later = g.later;
  good = g.good;
  faulty = g.faulty;
  watched = refl;
  shown = record { hard_is = sym g.so_far.0; possible_is = g.so_far.1 };
  none_hard = refl;
}
as-graded design plan fault now passed next (Keeping differs) g = record {
  strobes = refl;
  later = tt;
  good = g.good;
  faulty = g.faulty;
  watched = refl;
  shown = record { hard_is = refl; possible_is = refl };
  none_hard = refl;
}

-- Times and lists

hold-push : (P : ℕ → Type 0) (xs : List ℕ) (x : ℕ) → AllHold P xs → P x → AllHold P (xs ++ x ∷ [])
hold-push P [] x all here = (here, tt)
hold-push P (y ∷ xs) x all here = (all.0, hold-push P xs x all.1 here)

stops-earlier : (low time : ℕ) (stop : Option Stop) → low ≤ time → StopsAfter time stop → StopsAfter low stop
stops-earlier low time None h a = tt
stops-earlier low time (Some stop) h a = omega (arith, h, a)

stops-all : (time : ℕ) (stop : Option Stop) (strobes : List ℕ) → AllHold (λ strobe. strobe ≤ time) strobes → StopsAfter time stop → AllHold (λ strobe. StopsAfter strobe stop) strobes
stops-all time stop [] all after = tt
stops-all time stop (strobe ∷ strobes) all after = (stops-earlier strobe time stop all.0 after, stops-all time stop strobes all.1 after)

-- At the start

goes-begins : (design : FlatDesign) (plan : TestPlan) (fault : StuckAt) (said : Said) → SaysNothing said → StrobesGoOn design plan fault None [] plan.strobes said
goes-begins design plan fault said none = record {
  strobes = refl;
  later = after-none plan.strobes;
  good = tt;
  faulty = tt;
  good_later = tt;
  faulty_later = tt;
  so_far = nothing said none;
}
  where
    after-none : (strobes : List ℕ) → AllHold (λ strobe. IsAfter None strobe) strobes
    after-none [] = tt
    after-none (strobe ∷ strobes) = (tt, after-none strobes)

    nothing : (said : Said) → SaysNothing said → IsSaid (good_seen design plan) (faulty_seen design plan fault) [] said
    nothing (Judging possible) e = (refl, e)
    nothing (Keeping differs) e = e

-- On its way

module _ (design : FlatDesign) (plan : TestPlan) (fault : StuckAt) (now : Option ℕ) (passed : List ℕ) (said : Said) where
  strobe-on : (next : List ℕ) (strobe : ℕ) (new : Said) (good faulty : List Bit) → IsPlan plan → StrobesGoOn design plan fault now passed (strobe ∷ next) said →
      StopsAfter strobe (good_stop design plan) → StopsAfter strobe (faulty_stop design plan fault) → good ≡ good_seen design plan strobe →
      faulty ≡ faulty_seen design plan fault strobe → ends_there good faulty said ≡ false → new ≡ said_at strobe good faulty said →
      StrobesGoOn design plan fault (Some strobe) (passed ++ strobe ∷ []) next new
  strobe-on next strobe new good faulty of_plan g good_on own_on eg ef none is = record {
    strobes = g.strobes ∙ sym (append_assoc passed (strobe ∷ []) next);
    later = ascending-later passed strobe next (subst IsAscending g.strobes of_plan.ascending);
    good = good_on;
    faulty = own_on;
    good_later = hold-push (λ s. StopsAfter s (good_stop design plan)) passed strobe g.good_later good_on;
    faulty_later = hold-push (λ s. StopsAfter s (faulty_stop design plan fault)) passed strobe g.faulty_later own_on;
    so_far =
        subst (IsSaid (good_seen design plan) (faulty_seen design plan fault) (passed ++ strobe ∷ [])) (sym is)
        (said-more (good_seen design plan) (faulty_seen design plan fault) passed strobe good faulty said g.so_far eg ef none);
  }

  module _ (next : List ℕ) (time : ℕ) where
    goes-passes : StrobesGoOn design plan fault now passed next said → AllHold (λ strobe. time < strobe) next → StopsAfter time (good_stop design plan) →
        StopsAfter time (faulty_stop design plan fault) → StrobesGoOn design plan fault (Some time) passed next said
    goes-passes g later good faulty = record {
      strobes = g.strobes;
      later = later;
      good = good;
      faulty = faulty;
      good_later = g.good_later;
      faulty_later = g.faulty_later;
      so_far = g.so_far;
    }

-- both machines went on to a time up to which the grading hasn't ended
both-on : GradingsGoOn → (design : FlatDesign) (plan : TestPlan) (fault : StuckAt) (time : ℕ) (passed next : List ℕ) (said : Said) → HasNotEnded design (plan_by (keeps said) plan) fault time →
    plan.strobes ≡ passed ++ next → AllHold (λ strobe. strobe ≤ time) passed → AllHold (λ strobe. time < strobe) next →
    IsSaid (good_seen design plan) (faulty_seen design plan fault) passed said → StopsAfter time (good_stop design plan) × StopsAfter time (faulty_stop design plan fault)
both-on law design plan fault time passed next (Judging possible) open_now are early later said =
    let g : GradingGoesOn design (plan_by false plan) fault (Some time) passed next (grader_for plan (Judging possible)) =
    law.again design (plan_by false plan) fault time passed next (grader_for plan (Judging possible)) open_now are early later refl
    (record { hard_is = sym said.0; possible_is = said.1 }) in
    (g.good, g.faulty)
both-on law design plan fault time passed next (Keeping differs) open_now are early later said =
    let g : GradingGoesOn design (plan_by true plan) fault (Some time) [] [] (grader_for plan (Keeping differs)) =
    law.again design (plan_by true plan) fault time [] [] (grader_for plan (Keeping differs)) open_now refl tt tt refl (record { hard_is = refl; possible_is = refl }) in
    (g.good, g.faulty)

goes-again : GradingsGoOn → (design : FlatDesign) (plan : TestPlan) (fault : StuckAt) (time : ℕ) (passed next : List ℕ) (said : Said) → HasNotEnded design (plan_by (keeps said) plan) fault time →
    plan.strobes ≡ passed ++ next → AllHold (λ strobe. strobe ≤ time) passed → AllHold (λ strobe. time < strobe) next →
    IsSaid (good_seen design plan) (faulty_seen design plan fault) passed said → StrobesGoOn design plan fault (Some time) passed next said
goes-again law design plan fault time passed next said open_now are early later said_is =
    let on = both-on law design plan fault time passed next said open_now are early later said_is in
    record {
      strobes = are;
      later = later;
      good = on.0;
      faulty = on.1;
      good_later = stops-all time (good_stop design plan) passed early on.0;
      faulty_later = stops-all time (faulty_stop design plan fault) passed early on.1;
      so_far = said_is;
    }

pub strobed-on : GradingsGoOn → StrobedGradingsGoOn
strobed-on law = record {
  begins = goes-begins;
  strobe = λ design plan fault now passed next strobe said new good faulty of_plan g good_on own_on eg ef none is.
      strobe-on design plan fault now passed said next strobe new good faulty of_plan g good_on own_on eg ef none is;
  passes = λ design plan fault now passed next said time g later good faulty. goes-passes design plan fault now passed said next time g later good faulty;
  not_ended = λ design plan fault time passed next said g early.
      law.not_ended design (plan_by (keeps said) plan) fault time (ending_strobes (keeps said) passed) (ending_strobes (keeps said) next) (grader_for plan said)
      (as-graded design plan fault (Some time) passed next said g) early;
  again = goes-again law;
}
