-- The end of a grading that no strobe ends, and the good first run at the time of so many slots (slots by IEEE 1364-2001, clause 5).
use Rattle.std.proofs.Common.{◌≡◌, ℕ, zero, suc, ◌<◌, ◌≤◌, Bool, true, false, ◌&&◌, length, refl, sym, ap, subst, ◌∙◌, arith, inl, inr}
use Rattle.std.specs.Prelude.{Option, None, Some, is_some, option_map, slice_get}
use Rattle.std.proofs.lemmas.Option.{same_Some, slice_get_cases, slice_get_past}
use Rattle.vf_base.specs.declared.finding.End.{End}
use Rattle.vf_base.specs.declared.finding.End.TheVariants.{Detected as End_detected, Possible as End_possible, Undetected as End_undetected, Race as End_race, Hyper as End_hyper}
use Rattle.v_design.specs.Designs.{FlatDesign, StuckAt, TestPlan}
use Rattle.v_design.specs.Grades.{FaultGrade, Judged, Looped, Raced, SlotOutcome, Fine, Race, Hyper, Stop, Undetected, Verdict, by_then, faulty_ending, good_ending, good_or, grade, graded, graded_faulty, stop_time}
use Rattle.v_design.specs.Plain.{grade_of}
use Rattle.v_design.specs.Runs.{FirstSlot}
use Rattle.v_design.specs.States.{found_or, least_of}
use Rattle.v_design.specs.WellFormed.{KeepsRules}
use Rattle.copy_laws.specs.Windows.{HasEnded, good_slots, time_at}
use Rattle.grade_laws.specs.Ahead.{StopsAfter}
use Rattle.grade_laws.specs.Grading.{faulty_stop, good_stop}
use Rattle.beside_laws.specs.GoodRuns.{GoodRunGoesOn}
use Rattle.fault_strobes.specs.Full.{end_in_full}
use Rattle.fault_strobes.specs.Said.{plan_by}
use Rattle.kept_shard.specs.Kept.{end_kept}

-- Ends

-- the end that is kept is that of the full grade
pub full-end : (end : End) → option_map grade_of (end_kept (Some end)) ≡ end_in_full (grade_of end)
full-end (End_detected time) = refl
full-end (End_possible time) = refl
full-end End_undetected = refl
full-end (End_race side pair) = refl
full-end (End_hyper time) = refl

pub none-found : (end : Option End) → option_map grade_of end ≡ None → end ≡ None
none-found None none = refl
none-found (Some end) none = cc

pub some-found : (end : Option End) → is_some (option_map grade_of end) ≡ true → (found : End) × (end ≡ Some found)
some-found None some = cc
some-found (Some end) some = (end, refl)

-- A verdict

good-not : (outcome : SlotOutcome) (verdict : Verdict) → good_ending outcome ≡ Some (Judged verdict) → ⊥
good-not Fine verdict e = cc
good-not (Race pair) verdict e = cc
good-not Hyper verdict e = cc

faulty-not : (time : ℕ) (outcome : SlotOutcome) (verdict : Verdict) → faulty_ending time outcome ≡ Some (Judged verdict) → ⊥
faulty-not time Fine verdict e = cc
faulty-not time (Race pair) verdict e = cc
faulty-not time Hyper verdict e = cc

abbrev verdict_in : FaultGrade → Verdict
verdict_in (Judged verdict) = verdict
verdict_in (Raced side pair) = Undetected
verdict_in (Looped time) = Undetected

-- where no strobe ends a grading it is judged only if neither machine stops, and nothing is detected then
judged-none : (good faulty : Option Stop) (verdict : Verdict) → graded good faulty None Undetected ≡ Some (Judged verdict) → (good ≡ None) × (faulty ≡ None) × (verdict ≡ Undetected)
judged-none None None verdict e = (refl, refl, sym (ap verdict_in (same_Some (Judged Undetected) (Judged verdict) e)))
judged-none None (Some stop) verdict e = absurd (faulty-not stop.time stop.outcome verdict e)
judged-none (Some stop) None verdict e = absurd (good-not stop.outcome verdict e)
judged-none (Some stop) (Some other) verdict e = absurd (go (by_then stop.time (stop_time (Some other)) && by_then stop.time None) e)
  where
    go : (b : Bool) → good_or b stop (graded_faulty (Some other) None Undetected) ≡ Some (Judged verdict) → ⊥
    go true f = good-not stop.outcome verdict f
    go false f = faulty-not other.time other.outcome verdict f

module _ (design : FlatDesign) (plan : TestPlan) (fault : StuckAt) where
  pub is-undetected : (verdict : Verdict) → grade design (plan_by true plan) fault ≡ Some (Judged verdict) → verdict ≡ Undetected
  is-undetected verdict e = (judged-none (good_stop design plan) (faulty_stop design plan fault) verdict e).2

  -- it ends no earlier than at the plan's end
  pub judged-late : (verdict : Verdict) (time : ℕ) → grade design (plan_by true plan) fault ≡ Some (Judged verdict) → HasEnded design (plan_by true plan) fault time → plan.end ≤ time
  judged-late verdict time e ended =
      let none = judged-none (good_stop design plan) (faulty_stop design plan fault) verdict e in
      let ended_is : found_or plan.end (least_of (stop_time (good_stop design plan)) (least_of (stop_time (faulty_stop design plan fault)) None)) ≤ time = ended in
      subst (λ (stop : Option Stop). found_or plan.end (least_of (stop_time None) (least_of (stop_time stop) None)) ≤ time) none.1
      (subst (λ (stop : Option Stop). found_or plan.end (least_of (stop_time stop) (least_of (stop_time (faulty_stop design plan fault)) None)) ≤ time) none.0 ended_is)

-- The good first run

-- the time to which so many slots lead, by the next one and the last one
abbrev time_by : TestPlan → Option FirstSlot → Option FirstSlot → Option ℕ
time_by plan next last = elim next [ None ↦ Some plan.end | Some later ↦ elim last [ None ↦ Some plan.end | Some slot ↦ Some slot.begins.time ] ]

module _ (law : GoodRunGoesOn) (design : FlatDesign) (plan : TestPlan) (rules : KeepsRules design) where
  -- behind a slot there is a time, no later than the plan's end
  pub has-time : (count : ℕ) → (time : ℕ) × (time_at design plan (suc count) ≡ Some time)
  has-time count = go (slice_get (good_slots design plan) (suc count)) (slice_get (good_slots design plan) count)
    where
      go : (next last : Option FirstSlot) → (time : ℕ) × (time_by plan next last ≡ Some time)
      go None last = (plan.end, refl)
      go (Some later) None = (plan.end, refl)
      go (Some later) (Some slot) = (slot.begins.time, refl)

  pub time-within : (gone time : ℕ) → time_at design plan gone ≡ Some time → time ≤ plan.end
  time-within zero time e = cc
  time-within (suc count) time e = go (slice_get (good_slots design plan) (suc count)) (slice_get (good_slots design plan) count) refl e
    where
      go : (next last : Option FirstSlot) → slice_get (good_slots design plan) count ≡ last → time_by plan next last ≡ Some time → time ≤ plan.end
      go None last is f = (let same : plan.end ≡ time = same_Some plan.end time f in omega (arith, same))
      go (Some later) None is f = (let same : plan.end ≡ time = same_Some plan.end time f in omega (arith, same))
      go (Some later) (Some slot) is f =
          let same : slot.begins.time ≡ time = same_Some slot.begins.time time f in
          let low : slot.begins.time ≤ plan.end = law.within design plan count slot rules is in
          omega (arith, same, low)

  -- where more slots come the good machine doesn't stop by then, and the time is before the plan's end
  pub goes-past : (gone time : ℕ) → time_at design plan gone ≡ Some time → gone < length (good_slots design plan) → (time < plan.end) × StopsAfter time (good_stop design plan)
  goes-past zero time e more = cc
  goes-past (suc count) time e more = elim (slice_get_cases (good_slots design plan) (suc count)).1 [
    | inl later ↦ elim (slice_get_cases (good_slots design plan) count).1 [
      | inl last ↦
          let fine = law.fine design plan count last.0 later.0 rules last.2 later.2 in
          let high : later.0.begins.time ≤ plan.end = law.within design plan (suc count) later.0 rules later.2 in
          let low : last.0.begins.time < later.0.begins.time = fine.1 in
          let same : last.0.begins.time ≡ time =
          same_Some last.0.begins.time time ((λ i. time_by plan (sym later.2 i) (sym last.2 i)) ∙ e) in
          (omega (arith, high, low, same), subst (λ t. StopsAfter t (good_stop design plan)) same fine.2)
      | inr past ↦ absurd (omega (arith, past.0, more))
    ]
    | inr past ↦ absurd (omega (arith, past.0, more))
  ]

  -- behind all slots it is the plan's end
  pub at-end : (gone time : ℕ) → time_at design plan gone ≡ Some time → length (good_slots design plan) ≤ gone → time ≡ plan.end
  at-end zero time e all = cc
  at-end (suc count) time e all =
      let none = slice_get_past (good_slots design plan) (suc count) all in
      same_Some time plan.end (sym e ∙ ap (λ (next : Option FirstSlot). time_by plan next (slice_get (good_slots design plan) count)) none)
