-- The faults of a shard within a window (strobes by the plan; slots by IEEE 1364-2001, clause 5).
use Rattle.std.proofs.Common.{◌≡◌, ℕ, zero, suc, ◌+◌, ◌<◌, ◌≤◌, true, false, List, [], ◌∷◌, length, take, drop, refl, sym, ap, subst, ◌∙◌, arith, inl, inr}
use Rattle.std.specs.Prelude.{Option, Some, None, is_some, option_map, slice_get}
use Rattle.std.specs.List.{AllZip}
use Rattle.std.proofs.lemmas.Bool.{cases_lt}
use Rattle.std.proofs.lemmas.Option.{same_Some, slice_get_cases, slice_get_within}
use Rattle.std.proofs.lemmas.List.{length-map}
use Rattle.vf_base.specs.Lists.{AllHold}
use Rattle.vf_base.specs.declared.finding.End.{End}
use Rattle.v_design.specs.Designs.{FlatDesign, StuckAt, TestPlan}
use Rattle.v_design.specs.Plain.{fault_of, grade_of}
use Rattle.v_design.specs.PlainDesigns.{plan_of}
use Rattle.v_design.specs.WellFormed.{KeepsRules}
use Rattle.v_design.specs.declared.plan.Fault.{Fault}
use Rattle.v_design.specs.declared.plan.Plan.{Plan}
use Rattle.copy_laws.specs.Windows.{good_slots, time_at}
use Rattle.beside_laws.specs.Shards.{FaultsGoOn}
use Rattle.slot_strobes.specs.window_strobes.Passed.{HasPassed}
use Rattle.slot_strobes.specs.window_strobes.Strobes.{AreStrobesOf}
use Rattle.slot_strobes.specs.window_strobes.declared.strobes.WindowStrobes.{WindowStrobes}
use Rattle.slot_strobes.proofs.Lists.{at-drop, at-take}
use Rattle.slot_strobes.specs.copy_window.Passing.{CanResume}
use Rattle.fault_strobes.specs.Said.{plan_by}
use Rattle.slot_strobes.specs.copy_window.ShardFaults.{GoesOnAt, IsShardFault, beside_by, kept_by}
use Rattle.slot_strobes.specs.copy_window.declared.fault.ShardFault.{ShardFault}
use Rattle.window_faults.specs.Steps.{StaysFault}
use Rattle.window_faults.specs.Within.{AreWithin, ComesThrough, HasComeTo, IsWithin, StandsAfter}
use Rattle.window_faults.specs.declared.at.FaultAt.{FaultAt}
use Rattle.window_faults.proofs.Lists.{zip-at, zip-back, zip-length}

-- Ends

pub none-end : (end : Option End) → is_some end ≡ false → end ≡ None
none-end None none = refl
none-end (Some found) none = cc

-- One fault

-- its fault is listed
pub is-listed : (design : FlatDesign) (plan : TestPlan) (gone passed : ℕ) (own : ShardFault) → IsShardFault design plan gone passed own → own.copy.fault < length plan.faults
is-listed design plan gone passed own stands = slice_get_within plan.faults own.copy.fault stands.fault stands.listed

-- its place in the plan's list
pub listed-within : (plan : TestPlan) (own : Plan) (faults : List Fault) (place number : ℕ) → plan ≡ plan_of own → faults ≡ own.faults → number ≡ place → number < length plan.faults →
    place < length faults
listed-within plan own faults place number is are same low =
    let there : number < length plan.faults = low in
    let count : length plan.faults ≡ length own.faults = ap (λ (p : TestPlan). length p.faults) is ∙ length-map own.faults fault_of in
    subst (λ (l : List Fault). place < length l) (sym are) (omega (arith, there, count, same))

-- an end that is there
some-end : (end : Option End) → is_some end ≡ true → (found : End) × (end ≡ Some found)
some-end None some = cc
some-end (Some found) some = (found, refl)

-- one whose grading ended stands so behind all later slots
pub ended-later : FaultsGoOn → (design : FlatDesign) (plan : TestPlan) → KeepsRules design → (gone later passed count : ℕ) (own : ShardFault) → gone ≤ later → is_some own.end ≡ true →
    IsShardFault design plan gone passed own → IsShardFault design plan later count own
ended-later law design plan rules gone later passed count own low some stands =
    let found = some-end own.end some in
    record {
      fault = stands.fault;
      listed = stands.listed;
      beside =
          law.stays design (plan_by (kept_by own) plan) gone later (beside_by design stands.fault own) (grade_of found.0) rules low stands.beside
          (ap (λ (end : Option End). option_map grade_of end) found.1);
      full = stands.full;
      within = stands.within;
      goes_on = λ time e more none. (let no : is_some own.end ≡ false = ap (λ (end : Option End). is_some end) none in cc);
    }

-- Strobes counted

-- as many strobes come up to a time, however they are counted
module _ (strobes : List ℕ) (time one other : ℕ) (within : other ≤ length strobes) (early : AllHold (λ strobe. strobe ≤ time) (take other strobes))
    (later : AllHold (λ strobe. time < strobe) (drop one strobes)) where
  no-fewer : other ≤ one
  no-fewer = elim (cases_lt one other) [
    | inl less ↦ elim (slice_get_cases strobes one).1 [
      | inl found ↦
          let low : found.0 ≤ time = at-take (λ strobe. strobe ≤ time) strobes other one found.0 early less found.2 in
          let high : time < found.0 = at-drop (λ strobe. time < strobe) strobes one one found.0 later (omega arith) found.2 in
          absurd (omega (arith, low, high))
      | inr past ↦ absurd (omega (arith, past.0, within, less))
    ]
    | inr more ↦ more
  ]

module _ (design : FlatDesign) (plan : TestPlan) (gone one other : ℕ) (has : HasPassed design plan gone one) (also : HasPassed design plan gone other) where
  same-passed : (time : ℕ) → time_at design plan gone ≡ Some time → gone < length (good_slots design plan) → one ≡ other
  same-passed time is more =
      let low = no-fewer plan.strobes time one other also.within (also.early time is more) (has.later time is more) in
      let high = no-fewer plan.strobes time other one has.within (has.early time is more) (also.later time is more) in
      omega (arith, low, high)

  -- so a fault stands behind so many slots with each count of strobes passed there
  pub same-count : (own : ShardFault) → IsShardFault design plan gone one own → IsShardFault design plan gone other own
  same-count own stands = record {
    fault = stands.fault;
    listed = stands.listed;
    beside = stands.beside;
    full = stands.full;
    within = stands.within;
    goes_on = λ time is more none. subst (λ n. GoesOnAt design plan gone n stands.fault time own) (same-passed time is more) (stands.goes_on time is more none);
  }

-- a fault that has come so far stands there with each count
pub stands-after : (design : FlatDesign) (plan : TestPlan) (fault : StuckAt) (gone passed before : ℕ) (own : ShardFault) → HasComeTo design plan fault gone passed own →
    StandsAfter design plan gone before fault own
stands-after design plan fault gone passed before own come = record {
  listed = come.listed;
  none = come.none;
  stands = λ other low has. same-count design plan gone passed other come.has_passed has own come.stands;
}

-- it may be run on behind so many slots
pub can-go-on : (design : FlatDesign) (plan : TestPlan) (gone through before : ℕ) (strobes : WindowStrobes) (fault : StuckAt) (own : ShardFault) → 0 < gone → before ≤ strobes.passed →
    StandsAfter design plan gone before fault own → AreStrobesOf design plan gone through strobes → CanResume design plan gone through strobes fault own
can-go-on design plan gone through before strobes fault own some low stands are = record {
  some = some;
  stands = stands.stands strobes.passed low are.has_passed;
  listed = stands.listed;
  none = stands.none;
  are = are;
}

-- a fault that was passed over the first slots of a window, or over none of them, stands behind them
pub passed-to : (design : FlatDesign) (plan : TestPlan) (before slots passed count : ℕ) (old own : ShardFault) → IsShardFault design plan before passed old → HasPassed design plan before passed →
    (slots ≡ 0 → own ≡ old) → HasPassed design plan (before + slots) count → (0 < slots → IsShardFault design plan (before + slots) count own) → IsShardFault design plan (before + slots) count own
passed-to design plan before zero passed count old own stands has stays also part =
    let same : before ≡ before + 0 = omega arith in
    subst (IsShardFault design plan (before + 0) count) (sym (stays refl))
    (same-count design plan (before + 0) passed count (subst (λ n. HasPassed design plan n passed) same has) also old (subst (λ n. IsShardFault design plan n passed old) same stands))
passed-to design plan before (suc slots) passed count old own stands has stays also part = part (omega arith)

-- In a window

module _ (design : FlatDesign) (plan : TestPlan) (before through : ℕ) where
  -- a fault that stands behind so many slots of it has come there
  pub within-there : (slot passed : ℕ) (own : ShardFault) (at : FaultAt) → at.slot ≡ slot → at.passed ≡ passed → before + slot ≤ through → IsShardFault design plan (before + slot) passed own →
      (own.end ≡ None → HasPassed design plan (before + slot) passed) → IsWithin design plan before through own at
  within-there slot passed own at slot_is passed_is low stands has = record {
    within = omega (arith, low, slot_is);
    stands = subst (λ (n : ℕ). IsShardFault design plan (before + n) at.passed own) (sym slot_is) (subst (λ (n : ℕ). IsShardFault design plan (before + slot) n own) (sym passed_is) stands);
    has_passed = λ none.
        subst (λ (n : ℕ). HasPassed design plan (before + n) at.passed) (sym slot_is) (subst (λ (n : ℕ). HasPassed design plan (before + slot) n) (sym passed_is) (has none));
  }

  -- an open fault that has come to a slot
  pub has-come : (fault : StuckAt) (own : ShardFault) (at : FaultAt) → IsWithin design plan before through own at → slice_get plan.faults own.copy.fault ≡ Some fault → own.end ≡ None →
      HasComeTo design plan fault (before + at.slot) at.passed own
  has-come fault own at within listed none = record { stands = within.stands; has_passed = within.has_passed none; listed = listed; none = none }

  -- behind the window all faults stand
  pub comes-through : (law : FaultsGoOn) (rules : KeepsRules design) (slots behind : ℕ) (old own : ShardFault) (at : FaultAt) → before + slots ≡ through →
      HasPassed design plan through behind → IsWithin design plan before through own at → (own.end ≡ None → slots ≤ at.slot) → StaysFault old own → ComesThrough design plan through behind old own
  comes-through law rules slots behind old own at all has within come stays = record { stands = go own.end refl; place = stays.place; ended = stays.ended }
    where
      go : (end : Option End) → own.end ≡ end → IsShardFault design plan through behind own
      go None none =
          let low = come none in
          let most = within.within in
          let same : before + at.slot ≡ through = omega (arith, all, low, most) in
          same-count design plan through at.passed behind (subst (λ n. HasPassed design plan n at.passed) same (within.has_passed none)) has own
          (subst (λ n. IsShardFault design plan n at.passed own) same within.stands)
      go (Some found) some = ended-later law design plan rules (before + at.slot) through at.passed behind own within.within (ap is_some some) within.stands

  -- Lists of faults, and how far they have come

  pub are-within-all : (law : FaultsGoOn) (rules : KeepsRules design) (slots behind : ℕ) (olds owns : List ShardFault) (ats : List FaultAt) → before + slots ≡ through →
      HasPassed design plan through behind → AreWithin design plan before through slots owns ats → AllZip StaysFault olds owns → AllZip (ComesThrough design plan through behind) olds owns
  are-within-all law rules slots behind olds owns ats all has are zip =
      zip-at (ComesThrough design plan through behind) olds owns (zip-length StaysFault olds owns zip) (λ i old own one two.
      let at = at-there ats i (omega (arith, are.count, slice_get_within owns i own two)) in
      let back = zip-back StaysFault olds owns i own zip two in
      comes-through law rules slots behind old own at.0 all has (are.each i own at.0 two at.1) (are.come i own at.0 two at.1)
      (subst (λ (o : ShardFault). StaysFault o own) (same_Some back.0 old (sym back.1 ∙ one)) back.2))
    where
      at-there : (ats : List FaultAt) (i : ℕ) → i < length ats → (at : FaultAt) × (slice_get ats i ≡ Some at)
      at-there [] i low = absurd (omega (arith, low))
      at-there (at ∷ ats) zero low = (at, refl)
      at-there (at ∷ ats) (suc i) low = at-there ats i (omega (arith, low))
