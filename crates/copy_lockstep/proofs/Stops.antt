-- Slots of the good first run that aren't its stop (slots by IEEE 1364-2001, clause 5).
use Rattle.std.proofs.Common.{◌≡◌, ℕ, zero, suc, ◌+◌, ◌<◌, ◌≤◌, List, ◌∷◌, length, take, refl, sym, ap, subst, ◌∙◌, arith, inl, inr, []}
use Rattle.std.specs.Prelude.{Option, Some, None, option_map, slice_get}
use Rattle.std.proofs.lemmas.Bool.{cases_lt}
use Rattle.std.proofs.lemmas.List.{drop_all}
use Rattle.std.proofs.lemmas.Option.{slice_get_cases, slice_get_within}
use Rattle.vf_base.specs.Lists.{AllHold}
use Rattle.vf_base.specs.declared.finding.End.{End}
use Rattle.v_design.specs.Designs.{FlatDesign, Machine, StuckAt, TestPlan, good_machine}
use Rattle.v_design.specs.Grades.{Fine, Hyper, Judged, Race, SlotOutcome, Stop, first_stop, slot_outcome}
use Rattle.v_design.specs.OwnSteps.{slots_through_stop}
use Rattle.v_design.specs.Plain.{grade_of}
use Rattle.v_design.specs.Runs.{FirstSlot, first_run}
use Rattle.v_design.specs.WellFormed.{IsPlan, KeepsRules}
use Rattle.copy_laws.specs.Windows.{IsBesideAt, IsOpen, IsRaced, IsThrough, IsWindow, WindowEnd, good_slots}
use Rattle.copy_between.specs.Beside.{KeepsWithin}
use Rattle.grade_laws.specs.Ahead.{StopsAfter}
use Rattle.grade_laws.specs.Grading.{good_stop}
use Rattle.beside_laws.specs.GoodRuns.{GoodRunGoesOn, IsAllAt}
use Rattle.fault_strobes.specs.Full.{IsFull}
use Rattle.fault_strobes.specs.Said.{Said, plan_by, verdict_said}
use Rattle.fault_strobes.specs.Strobes.{EndsWith, StrobedFaultsGoOn, StrobedGradingsEnd, StrobesGoOn}
use Rattle.lockstep_due.specs.lockstep_copies.Copies.{CopiesGoInLockstep, IsCopyInLockstep}
use Rattle.lockstep_due.specs.lockstep_shards.Shards.{ShardsGoInLockstep}
use Rattle.lockstep_due.proofs.lockstep_shards.Laws.{fine-there, last, last-there, slot-there, some-is, stops-later, time-there}
use Rattle.lockstep_due.specs.copy_window.Copies.{differences_in}
use Rattle.lockstep_due.specs.copy_window.ShardFaults.{IsShardFault, kept_by, said_by}
use Rattle.lockstep_due.specs.copy_window.declared.fault.ShardFault.{ShardFault}
use Rattle.lockstep_due.specs.slot_strobes.Counts.{CountsBy}
use Rattle.lockstep_due.specs.slot_strobes.Strobes.{ComeBefore, IsGradingBehind, StandsBeforeSlot}
use Rattle.lockstep_due.proofs.slot_strobes.Lists.{at-read}
use Rattle.copy_lockstep.specs.Stops.{EndsWithoutStop, NoStopThrough}

-- fewer slots have no stop either
pub fewer : (design : FlatDesign) (plan : TestPlan) (gone until : ℕ) → gone ≤ until → NoStopThrough design plan until → NoStopThrough design plan gone
fewer design plan gone until low none = elim none [
  | inl more ↦ inl (omega (arith, low, more))
  | inr over ↦ elim (cases_lt gone until) [
    | inl less ↦ inl (let all : length (good_slots design plan) ≡ until = over.all.all in omega (arith, less, all))
    | inr past ↦
        let same : until ≡ gone = omega (arith, low, past) in
        inr (subst (EndsWithoutStop design plan) same over)
  ]
]

pub none-next : (design : FlatDesign) (plan : TestPlan) (gone : ℕ) → NoStopThrough design plan (gone + 1) → NoStopThrough design plan (suc gone)
none-next design plan gone none = (let next : gone + 1 ≡ suc gone = omega arith in subst (NoStopThrough design plan) next none)

-- where no slot comes behind them they are all
pub last-ends : (design : FlatDesign) (plan : TestPlan) (gone : ℕ) → (gone < length (good_slots design plan) → ⊥) → NoStopThrough design plan gone → EndsWithoutStop design plan gone
last-ends design plan gone past none = elim none [ inl more ↦ absurd (past more) | inr over ↦ over ]

-- a run that doesn't stop has fine slots alone
fine-through : (machine : Machine) (slots : List FirstSlot) (number : ℕ) (slot : FirstSlot) → first_stop machine slots ≡ None →
    slice_get (slots_through_stop machine slots) number ≡ Some slot → slot_outcome machine slot ≡ Fine
fine-through machine [] number slot never here = cc
fine-through machine (first ∷ slots) number slot never here =
    go (slot_outcome machine first) refl number never here (λ place none there. fine-through machine slots place slot none there)
  where
    go : (outcome : SlotOutcome) → slot_outcome machine first ≡ outcome → (number : ℕ) →
        elim outcome as (λ _. Option Stop) [
          | Fine ↦ first_stop machine slots
          | Race pair ↦ Some (record { time = first.begins.time; outcome = Race pair })
          | Hyper ↦ Some (record { time = first.begins.time; outcome = Hyper })
        ] ≡ None →
        slice_get (first ∷ elim outcome as (λ _. List FirstSlot) [ Fine ↦ slots_through_stop machine slots | Race pair ↦ [] | Hyper ↦ [] ]) number ≡ Some slot →
        ((place : ℕ) → first_stop machine slots ≡ None → slice_get (slots_through_stop machine slots) place ≡ Some slot → slot_outcome machine slot ≡ Fine) →
        slot_outcome machine slot ≡ Fine
    go Fine is zero never here rest = subst (λ (s : FirstSlot). slot_outcome machine s ≡ Fine) (some-is first slot here) is
    go Fine is (suc number) never here rest = rest number never here
    go (Race pair) is number never here rest = cc
    go Hyper is number never here rest = cc

-- a slot of the good first run that isn't its stop
pub record IsNoStop (design : FlatDesign) (plan : TestPlan) (gone : ℕ) : Type 0 where
  pub slot : FirstSlot
  pub there : slice_get (good_slots design plan) gone ≡ Some slot
  pub fine : slot_outcome (good_machine design) slot ≡ Fine
  pub on : StopsAfter slot.begins.time (good_stop design plan)

pub no-stop : GoodRunGoesOn → (design : FlatDesign) (plan : TestPlan) → KeepsRules design → (gone : ℕ) → NoStopThrough design plan (suc gone) → IsNoStop design plan gone
no-stop good design plan rules gone none = elim none [
  | inl more ↦ record {
    slot = last good design plan rules gone more;
    there = last-there good design plan rules gone more;
    fine = fine-there good design plan rules gone more;
    on = stops-later good design plan rules gone more;
  }
  | inr over ↦
      let at = slot-there (good_slots design plan) gone (let all : length (good_slots design plan) ≡ suc gone = over.all.all in omega (arith, all)) in
      record {
        slot = at.0;
        there = at.1;
        fine = fine-through (good_machine design) (first_run (good_machine design) plan.end) gone at.0 over.never at.1;
        on = subst (StopsAfter at.0.begins.time) (sym over.never) tt;
      }
]

-- the window that ends with the good first run through has no slot behind it
abbrev end-by : Option FirstSlot → SlotOutcome → WindowEnd
end-by next outcome = elim outcome as (λ _. WindowEnd) [ Fine ↦ elim next as (λ _. WindowEnd) [ None ↦ IsThrough | Some later ↦ IsOpen ] | Race pair ↦ IsRaced pair | Hyper ↦ IsThrough ]

pub none-behind : GoodRunGoesOn → (design : FlatDesign) (plan : TestPlan) → KeepsRules design → (before through : ℕ) → IsWindow design plan before through IsThrough →
    through < length (good_slots design plan) → ⊥
none-behind good design plan rules before through window more = go through refl
  where
    go : (number : ℕ) → through ≡ number → ⊥
    go zero e = (let some : before < through = window.some in omega (arith, some, e))
    go (suc number) e =
        let next = slot-there (good_slots design plan) through more in
        let behind : slice_get (good_slots design plan) (suc number) ≡ Some next.0 = ap (slice_get (good_slots design plan)) (sym e) ∙ next.1 in
        let fine : slot_outcome (good_machine design) window.last ≡ Fine = (good.fine design plan number window.last next.0 rules (window.stands number e) behind).0 in
        let both : IsThrough ≡ IsOpen = window.end_is ∙ (λ i. end-by (next.1 i) (fine i)) in
        cc

-- Where the grading ended

-- the good first run is through
pub ends-through : StrobedFaultsGoOn → (design : FlatDesign) (plan : TestPlan) (fault : StuckAt) (gone count ended : ℕ) (end : End) (own : ShardFault) → KeepsRules design → IsPlan plan →
    IsAllAt design plan gone → EndsWith design plan fault ended (grade_of end) (said_by own) → slice_get plan.faults own.copy.fault ≡ Some fault → own.end ≡ Some end →
    KeepsWithin (length design.objects) (length design.processes) own.copy → IsShardFault design plan gone count own
ends-through faults design plan fault gone count ended end own rules of_plan all ends listed is within = record {
  fault = fault;
  listed = listed;
  beside = subst (λ (o : Option End). IsBesideAt design (plan_by (kept_by own) plan) gone (record { fault = fault; differences = differences_in design own.copy; found = option_map grade_of o })) (sym is)
      (faults.ends_all design plan fault (kept_by own) gone ended (grade_of end) (differences_in design own.copy) rules of_plan all ends.ends);
  full = λ other e. subst (λ (o : End). IsFull design plan fault (grade_of o) (said_by own)) (some-is end other (sym is ∙ e)) ends.full;
  within = within;
  goes_on = λ other e further none. (let no : Some end ≡ None = sym is ∙ none in cc);
}

-- or more slots come
pub ends-there : ShardsGoInLockstep → StrobedFaultsGoOn → GoodRunGoesOn → (design : FlatDesign) (plan : TestPlan) (fault : StuckAt) (gone count ended : ℕ) (end : End) (own : ShardFault) →
    KeepsRules design → IsPlan plan → NoStopThrough design plan (suc gone) → (one : IsNoStop design plan gone) → EndsWith design plan fault ended (grade_of end) (said_by own) →
    ended ≤ one.slot.begins.time → slice_get plan.faults own.copy.fault ≡ Some fault → own.end ≡ Some end → KeepsWithin (length design.objects) (length design.processes) own.copy →
    IsShardFault design plan (suc gone) count own
ends-there law faults good design plan fault gone count ended end own rules of_plan none one ends low listed is within = elim none [
  | inl more ↦
      let same : last good design plan rules gone more ≡ one.slot = some-is (last good design plan rules gone more) one.slot (sym (last-there good design plan rules gone more) ∙ one.there) in
      law.found design plan fault gone one.slot.begins.time count ended end own rules ends low listed is within more
      (time-there good design plan rules gone more ∙ ap (λ (s : FirstSlot). Some s.begins.time) same)
  | inr over ↦ ends-through faults design plan fault (suc gone) count ended end own rules of_plan over.all ends listed is within
]

-- Behind the last slot

module _ (design : FlatDesign) (plan : TestPlan) (fault : StuckAt) (gone : ℕ) (over : EndsWithoutStop design plan (suc gone)) (one : IsNoStop design plan gone) (passed : ℕ) (own : ShardFault)
    (c : IsCopyInLockstep design plan fault gone one.slot.begins.time (differences_in design own.copy)) (come : ComeBefore plan.strobes passed one.slot.begins.time) where
  no-next : (other : FirstSlot) → slice_get (good_slots design plan) (suc gone) ≡ Some other → ⊥
  no-next other there =
      let low : suc gone < length (good_slots design plan) = slice_get_within (good_slots design plan) (suc gone) other there in
      let all : length (good_slots design plan) ≡ suc gone = over.all.all in
      omega (arith, low, all)

  -- the copy stands at all strobes
  pub stands-on : ShardsGoInLockstep → GoodRunGoesOn → (place strobe : ℕ) → passed ≤ place → slice_get plan.strobes place ≡ Some strobe →
      StandsBeforeSlot design plan fault (differences_in design own.copy) (suc gone) strobe
  stands-on law good place strobe low at =
      let since : one.slot.begins.time ≤ strobe = come.since place strobe low at in
      record {
        stands = law.strobes design plan fault gone one.slot.begins.time (differences_in design own.copy) strobe c since (λ other there. absurd (no-next other there))
            (subst (StopsAfter strobe) (sym over.never) tt);
        state_is = good.stands design plan gone strobe one.slot c.rules one.there one.fine since (λ other there. absurd (no-next other there));
      }

  no-slot : slice_get (good_slots design plan) (suc gone) ≡ None
  no-slot = elim (slice_get_cases (good_slots design plan) (suc gone)).1 [ inl next ↦ absurd (no-next next.0 next.2) | inr past ↦ past.1 ]

  -- behind all of them its grading ends with their verdict
  pub verdict-ends : CopiesGoInLockstep → StrobedGradingsEnd → IsPlan plan → (count : ℕ) → CountsBy plan.strobes passed count plan.end → (said : Said) →
      IsGradingBehind design plan fault count said → EndsWith design plan fault plan.end (Judged (verdict_said said)) said
  verdict-ends copies ends of_plan count counts said grading =
      ends.verdict design plan fault grading.now (take count plan.strobes) said c.rules of_plan
      (subst (λ (l : List ℕ). StrobesGoOn design plan fault grading.now (take count plan.strobes) l said) (drop_all count plan.strobes all) grading.goes) over.never
      (copies.over design plan fault gone one.slot.begins.time (differences_in design own.copy) c no-slot)
    where
      at-all : (P : ℕ → Type 0) (xs : List ℕ) (place x : ℕ) → AllHold P xs → slice_get xs place ≡ Some x → P x
      at-all P [] place x all here = cc
      at-all P (w ∷ xs) zero x all here = subst P (some-is w x here) all.0
      at-all P (w ∷ xs) (suc place) x all here = at-all P xs place x all.1 here

      all : length plan.strobes ≤ count
      all = elim (cases_lt count (length plan.strobes)) [
        | inl less ↦
            let here = at-read plan.strobes count less in
            let by = at-all (λ strobe. strobe ≤ plan.end) plan.strobes count _ of_plan.in_time here in
            let late = counts.later count _ (omega arith) here in
            absurd (omega (arith, by, late))
        | inr past ↦ past
      ]
