-- What ends a full grade is the grade that the fault has without strobes.
use Rattle.std.proofs.Common.{◌≡◌, ℕ, List, [], Bool, true, false, ◌&&◌, ap, sym, subst, ◌∙◌, arith}
use Rattle.std.specs.Prelude.{Option, Some, None}
use Rattle.v_design.specs.Designs.{FlatDesign, StuckAt, TestPlan}
use Rattle.v_design.specs.Grades.{Samples, SlotOutcome, Fine, Race, Hyper, Undetected, Stop, stop_time, by_then, good_ending, faulty_ending, good_or, graded_faulty, graded}
use Rattle.v_design.specs.Grades.{FaultGrade, Judged, Raced, Looped, FullGrade, ended_by_good, full_faulty, full_of, full_grade}
use Rattle.v_design.specs.WellFormed.{KeepsRules, IsPlan}
use Rattle.v_design.specs.Laws.{LineHolds, GradesHold}
use Rattle.dict_laws.specs.Filled.{good_stop, faulty_stop, faulty_seen}
use Rattle.dict_report.specs.Orders.{EndHolds}

-- no verdict
abbrev IsFlag : FaultGrade → Type 0
IsFlag (Judged verdict) = ⊥
IsFlag (Raced side pair) = Unit {0}
IsFlag (Looped time) = Unit {0}

some-grade : (one other : FaultGrade) → Some one ≡ Some other → one ≡ other
some-grade one other e = cc

some-full : (one other : FullGrade) → Some one ≡ Some other → one ≡ other
some-full one other e = cc

faulty-flag : (time : ℕ) (outcome : SlotOutcome) (end : FaultGrade) → faulty_ending time outcome ≡ Some end → IsFlag end
faulty-flag time Fine end e = cc
faulty-flag time (Race pair) end e = subst IsFlag (some-grade _ end e) tt
faulty-flag time Hyper end e = subst IsFlag (some-grade _ end e) tt

good-flag : (outcome : SlotOutcome) (end : FaultGrade) → good_ending outcome ≡ Some end → IsFlag end
good-flag Fine end e = cc
good-flag (Race pair) end e = subst IsFlag (some-grade _ end e) tt
good-flag Hyper end e = cc

-- the grade without strobes, which is no verdict
abbrev Flags : Option Stop → Option Stop → FaultGrade → Type 0
Flags good faulty end = (graded good faulty None Undetected ≡ Some end) × IsFlag end

faulty-flags : (faulty : Option Stop) (seen : Samples) (strobes : List ℕ) (full : FullGrade) (end : FaultGrade) → full_faulty faulty seen strobes ≡ full → full.end ≡ Some end →
    (graded_faulty faulty None Undetected ≡ Some end) × IsFlag end
faulty-flags None seen strobes full end e n = let no : Some end ≡ None = sym (ap (λ (f : FullGrade). f.end) e ∙ n) in absurd (cc)
faulty-flags (Some stop) seen strobes full end e n =
    let told : faulty_ending stop.time stop.outcome ≡ Some end = ap (λ (f : FullGrade). f.end) e ∙ n in (told, faulty-flag stop.time stop.outcome end told)

flags : (good faulty : Option Stop) (seen : Samples) (strobes : List ℕ) (full : FullGrade) (end : FaultGrade) → full_of good faulty seen strobes ≡ Some full → full.end ≡ Some end →
    Flags good faulty end
flags None faulty seen strobes full end e n = faulty-flags faulty seen strobes full end (some-full (full_faulty faulty seen strobes) full e) n
flags (Some stop) faulty seen strobes full end e n = go (by_then stop.time (stop_time faulty)) e
  where
    ended : (by : Option FaultGrade) → ended_by_good stop.time by seen strobes ≡ Some full → by ≡ Some end
    ended None f = cc
    ended (Some by) f = ap (λ (x : FullGrade). x.end) (some-full _ full f) ∙ n

    go : (b : Bool) → elim b [ true ↦ ended_by_good stop.time (good_ending stop.outcome) seen strobes | false ↦ Some (full_faulty faulty seen strobes) ] ≡ Some full →
        (good_or (b && true) stop (graded_faulty faulty None Undetected) ≡ Some end) × IsFlag end
    go true f = let told = ended (good_ending stop.outcome) f in (told, good-flag stop.outcome end told)
    go false f = faulty-flags faulty seen strobes full end (some-full (full_faulty faulty seen strobes) full f) n

end-holds : (design : FlatDesign) (plan : TestPlan) (fault : StuckAt) (end : FaultGrade) → IsFlag end → LineHolds design plan fault end → EndHolds design fault end
end-holds design plan fault (Judged verdict) flag holds = absurd flag
end-holds design plan fault (Raced side pair) flag holds = holds
end-holds design plan fault (Looped time) flag holds = holds

bare-plan : (plan : TestPlan) → IsPlan plan → IsPlan (record plan { strobes = [] })
bare-plan plan rules = record { end = rules.end; ascending = tt; in_time = tt; few_strobes = omega arith; few_watched = rules.few_watched; few_faults = rules.few_faults }

-- what ends a full grade
pub ends-hold : GradesHold → (design : FlatDesign) (plan : TestPlan) (fault : StuckAt) (full : FullGrade) (end : FaultGrade) → KeepsRules design → IsPlan plan →
    full_grade design plan fault ≡ Some full → full.end ≡ Some end → EndHolds design fault end
ends-hold holds design plan fault full end rules planned e n =
    let bare : TestPlan = record plan { strobes = [] } in
    let is = flags (good_stop design plan) (faulty_stop design plan fault) (faulty_seen design plan fault) plan.strobes full end e n in
    end-holds design bare fault end is.1 (holds design bare fault end rules (bare-plan plan planned) is.0)
