-- The phase of a moment among those of a window.
use Rattle.std.proofs.Common.{◌≡◌, ℕ, suc, ◌+◌, ◌<◌, ◌≤◌, List, [], ◌∷◌, ◌++◌, length, take, refl, sym, ap, subst, ◌∙◌, inl, inr, arith, append_assoc}
use Rattle.std.specs.Prelude.{sum_by}
use Rattle.std.proofs.Math.Seq.{take-append-add}
use Rattle.std.proofs.lemmas.List.{length-append}
use Rattle.std.proofs.lemmas.List.Sums.{sum_by-append, sum_by-cons}
use Rattle.v_design.specs.Designs.{FlatDesign, Machine, TestPlan, good_machine}
use Rattle.v_design.specs.Runs.{FirstSlot}
use Rattle.v_design.specs.Grades.{Phase}
use Rattle.between_slots.specs.Between.{window_phases}
use Rattle.phase_blocks.specs.Blocks.{IsBetweenRuns}
use Rattle.trace_window.specs.Moments.{window_events}
use Rattle.window_blocks.specs.Blocks.{BlockBeginsAt, BlockBeginsIn}
use Rattle.lockstep_slots.specs.Places.{Place}
use Rattle.window_places.specs.Windows.{PlacesInWindows}
use Rattle.block_places.specs.Places.{IsPlaceIn, moment_of, BlocksAtPlaces}

abbrev phase_length : Phase → ℕ
phase_length phase = length phase.events

-- blocks begin with no moment before the first
begins-since : (machine : Machine) (first : ℕ) (parts : List Phase) (moment : ℕ) → BlockBeginsIn machine first parts moment → first ≤ moment
begins-since machine first [] moment b = absurd b
begins-since machine first (phase ∷ parts) moment (inl here) = let e : moment ≡ first + here.0 = here.1 in omega (arith, e)
begins-since machine first (phase ∷ parts) moment (inr later) =
    let low : first + length phase.events ≤ moment = begins-since machine (first + length phase.events) parts moment later in omega (arith, low)

-- the phase of a moment is the one among whose events it is
found : (machine : Machine) (first : ℕ) (front : List Phase) (phase : Phase) (back : List Phase) (number : ℕ) → number < length phase.events →
    BlockBeginsIn machine first (front ++ phase ∷ back) (first + sum_by phase_length front + number) → BlockBeginsAt machine phase number
found machine first [] phase back number low (inl here) =
    let none : sum_by phase_length [] ≡ 0 = refl in
    let e : first + sum_by phase_length [] + number ≡ first + here.0 = here.1 in
    subst (BlockBeginsAt machine phase) (omega (arith, none, e)) here.2
found machine first [] phase back number low (inr later) =
    let none : sum_by phase_length [] ≡ 0 = refl in
    let since : first + length phase.events ≤ first + sum_by phase_length [] + number =
    begins-since machine (first + length phase.events) back (first + sum_by phase_length [] + number) later in
    absurd (omega (arith, none, since, low))
found machine first (p ∷ front) phase back number low (inl here) =
    let some : sum_by phase_length (p ∷ front) ≡ length p.events + sum_by phase_length front = sum_by-cons phase_length p front in
    let e : first + sum_by phase_length (p ∷ front) + number ≡ first + here.0 = here.1 in
    let within : here.0 < length p.events = here.2.within in
    absurd (omega (arith, some, e, within))
found machine first (p ∷ front) phase back number low (inr later) =
    let some : sum_by phase_length (p ∷ front) ≡ length p.events + sum_by phase_length front = sum_by-cons phase_length p front in
    let same : first + sum_by phase_length (p ∷ front) + number ≡ first + length p.events + sum_by phase_length front + number = omega (arith, some) in
    found machine (first + length p.events) front phase back number low (subst (BlockBeginsIn machine (first + length p.events) (front ++ phase ∷ back)) same later)

told : (machine : Machine) (first : ℕ) (front : List Phase) (phase : Phase) (back : List Phase) (number : ℕ) → BlockBeginsAt machine phase number →
    BlockBeginsIn machine first (front ++ phase ∷ back) (first + sum_by phase_length front + number)
told machine first [] phase back number at =
    let none : sum_by phase_length [] ≡ 0 = refl in
    let same : first + sum_by phase_length [] + number ≡ first + number = omega (arith, none) in
    inl (number, same, at)
told machine first (p ∷ front) phase back number at =
    let some : sum_by phase_length (p ∷ front) ≡ length p.events + sum_by phase_length front = sum_by-cons phase_length p front in
    let same : first + length p.events + sum_by phase_length front + number ≡ first + sum_by phase_length (p ∷ front) + number = omega (arith, some) in
    inr (subst (BlockBeginsIn machine (first + length p.events) (front ++ phase ∷ back)) same (told machine (first + length p.events) front phase back number at))

-- The place

-- the phases before that of a place
abbrev before : FlatDesign → TestPlan → ℕ → ℕ → Place → List Phase
before design plan begins number place = window_phases design plan begins number ++ place.ended

abbrev behind : FlatDesign → TestPlan → ℕ → ℕ → Place → List Phase
behind design plan ends number place = place.later ++ window_phases design plan (suc number) ends

parts-are : PlacesInWindows → (design : FlatDesign) (plan : TestPlan) (begins ends number : ℕ) (slot : FirstSlot) (place : Place) (more : ℕ) →
    IsPlaceIn design plan begins ends number slot place more →
    window_phases design plan begins ends ≡ before design plan begins number place ++ place.phase ∷ behind design plan ends number place
parts-are law design plan begins ends number slot place more s =
    (law.slots design plan begins ends number slot s.low s.high s.stands).0
    ∙ ap (λ (l : List Phase). window_phases design plan begins number ++ (l ++ window_phases design plan (suc number) ends)) s.place_is.phases_are
    ∙ ap (λ (l : List Phase). window_phases design plan begins number ++ l) (append_assoc place.ended (place.phase ∷ place.later) (window_phases design plan (suc number) ends))
    ∙ sym (append_assoc (window_phases design plan begins number) place.ended (place.phase ∷ behind design plan ends number place))

moment-is : PlacesInWindows → (design : FlatDesign) (plan : TestPlan) (begins ends number : ℕ) (slot : FirstSlot) (place : Place) (more : ℕ) →
    IsPlaceIn design plan begins ends number slot place more →
    moment_of design plan begins number place more ≡ 0 + sum_by phase_length (before design plan begins number place) + (length place.passed + more)
moment-is law design plan begins ends number slot place more s =
    let first : length (window_events design plan begins number) ≡ sum_by phase_length (window_phases design plan begins number) =
    (law.slots design plan begins ends number slot s.low s.high s.stands).1 in
    let all : sum_by phase_length (before design plan begins number place) ≡ sum_by phase_length (window_phases design plan begins number) + sum_by phase_length place.ended =
    sum_by-append phase_length (window_phases design plan begins number) place.ended in
    omega (arith, first, all)

within-phase : (design : FlatDesign) (plan : TestPlan) (begins ends number : ℕ) (slot : FirstSlot) (place : Place) (more : ℕ) → IsPlaceIn design plan begins ends number slot place more →
    length place.passed + more < length place.phase.events
within-phase design plan begins ends number slot place more s =
    let all : length place.phase.events ≡ length place.passed + length place.left = ap length s.place_is.events_are ∙ length-append place.passed place.left in
    let low : more < length place.left = s.within in
    omega (arith, all, low)

events-are : (design : FlatDesign) (plan : TestPlan) (begins ends number : ℕ) (slot : FirstSlot) (place : Place) (more : ℕ) → IsPlaceIn design plan begins ends number slot place more →
    take (length place.passed + more) place.phase.events ≡ place.passed ++ take more place.left
events-are design plan begins ends number slot place more s =
    ap (take (length place.passed + more)) s.place_is.events_are ∙ take-append-add place.passed place.left more

pub blocks_at_places : PlacesInWindows → BlocksAtPlaces
blocks_at_places law = record {
  between = λ design plan begins ends number slot place more s b.
      let at : BlockBeginsAt (good_machine design) place.phase (length place.passed + more) =
      found (good_machine design) 0 (before design plan begins number place) place.phase (behind design plan ends number place) (length place.passed + more)
      (within-phase design plan begins ends number slot place more s)
      (subst (BlockBeginsIn (good_machine design) 0 (before design plan begins number place ++ place.phase ∷ behind design plan ends number place))
      (moment-is law design plan begins ends number slot place more s)
      (subst (λ (l : List Phase). BlockBeginsIn (good_machine design) 0 l (moment_of design plan begins number place more)) (parts-are law design plan begins ends number slot place more s) b)) in
      subst (IsBetweenRuns (good_machine design) place.phase.begins) (events-are design plan begins ends number slot place more s) at.between;
  begins = λ design plan begins ends number slot place more s b.
      subst (λ (l : List Phase). BlockBeginsIn (good_machine design) 0 l (moment_of design plan begins number place more))
      (sym (parts-are law design plan begins ends number slot place more s))
      (subst (BlockBeginsIn (good_machine design) 0 (before design plan begins number place ++ place.phase ∷ behind design plan ends number place))
      (sym (moment-is law design plan begins ends number slot place more s))
      (told (good_machine design) 0 (before design plan begins number place) place.phase (behind design plan ends number place) (length place.passed + more)
      (record {
        within = within-phase design plan begins ends number slot place more s;
        between = subst (IsBetweenRuns (good_machine design) place.phase.begins) (sym (events-are design plan begins ends number slot place more s)) b;
      })));
}
