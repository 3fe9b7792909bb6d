-- The block at a place of the good machine's slot (blocks, phases and slots by IEEE 1364-2001, clause 5).
use Rattle.std.proofs.Common.{◌≡◌, ℕ, zero, suc, ◌+◌, ◌-◌, ◌<◌, ◌≤◌, List, [], ◌∷◌, ◌++◌, map, length, get_or, take, drop, refl, sym, ap, subst, ◌∙◌, inl, inr, arith, append-nil, length-append}
use Rattle.std.specs.Prelude.{Some, slice_get}
use Rattle.std.proofs.lemmas.Bool.{cases_lt}
use Rattle.std.proofs.lemmas.List.{take-append-drop, length-take-le}
use Rattle.std.proofs.lemmas.Option.{slice_get-get_or}
use Rattle.vf_base.specs.Lists.{has, joined}
use Rattle.v_design.specs.Designs.{FlatDesign, Machine, TestPlan, good_machine}
use Rattle.v_design.specs.States.{Event}
use Rattle.v_design.specs.Grades.{Phase, phases}
use Rattle.between_slots.specs.Between.{window_phases}
use Rattle.phase_order.specs.Order.{PhasesFollow}
use Rattle.phase_blocks.specs.Blocks.{IsBetweenRuns, IsWholeBlock, PhasesEndBetweenRuns}
use Rattle.slot_record.specs.Records.{event_of}
use Rattle.window_blocks.specs.Blocks.{AreBlockMoments, ArePhaseEnds, BlockBeginsIn, events_in, events_of}
use Rattle.window_blocks.specs.Kept.{BlocksKept}
use Rattle.trace_window.specs.Moments.{window_events}
use Rattle.moment_laws.specs.window_places.Passing.{events_before}
use Rattle.moment_laws.specs.lockstep_slots.Places.{Place, state_there}
use Rattle.moment_laws.proofs.lockstep_slots.Followed.{IsFollowed}
use Rattle.moment_laws.specs.lockstep_places.Places.{IsPlaceIn, PlacesTold}
use Rattle.block_places.specs.Places.{BlocksAtPlaces}
use Rattle.block_places.specs.Places as at_places
use Rattle.causal_monitor.specs.declared.slot.Actor.{Actor}
use Rattle.moment_laws.proofs.Following.{followed}
use Rattle.shown_blocks.specs.Ahead.{IsAhead}
use Rattle.shown_blocks.specs.Blocks.{AreItsBlocks, IsBlockTold, HasBlockTo}
use Rattle.moment_laws.specs.Places.{IsShownAt}
use Rattle.moment_laws.specs.Shown.{MomentKept}

-- The block

-- a block begins there
pub begins-there : BlocksAtPlaces → (design : FlatDesign) (plan : TestPlan) (place : Place) (kept : MomentKept) → IsShownAt design plan place kept → 0 < length place.left →
    BlockBeginsIn (good_machine design) 0 (window_phases design plan kept.before kept.through) kept.moment
begins-there law design plan place kept shown some =
    let at : at_places.moment_of design plan kept.before (kept.before + kept.slot) place 0 ≡ kept.moment =
    (let m : kept.moment ≡ length (window_events design plan kept.before (kept.before + kept.slot)) + events_before place = shown.moment_is in omega (arith, m)) in
    subst (BlockBeginsIn (good_machine design) 0 (window_phases design plan kept.before kept.through)) at
    (law.begins design plan kept.before kept.through (kept.before + kept.slot) shown.slot place 0
    (record { low = omega arith; high = shown.within; stands = shown.stands; place_is = shown.place_is; within = some })
    (subst (IsBetweenRuns (good_machine design) place.phase.begins) (sym (append-nil place.passed)) shown.between))

at-front : (passed : List Event) (first : Event) (more : List Event) → slice_get (passed ++ first ∷ more) (length passed) ≡ Some first
at-front [] first more = refl
at-front (event ∷ passed) first more = at-front passed first more

in-front : (xs ys : List Event) (n : ℕ) → n < length xs → slice_get (xs ++ ys) n ≡ slice_get xs n
in-front [] ys n low = absurd (omega (arith, low))
in-front (x ∷ xs) ys zero low = refl
in-front (x ∷ xs) ys (suc n) low = in-front xs ys n (omega (arith, low))

behind-front : (xs ys : List Event) (n : ℕ) → slice_get (xs ++ ys) (length xs + n) ≡ slice_get ys n
behind-front [] ys n = let e : 0 + n ≡ n = omega arith in ap (λ k. slice_get ys k) e
behind-front (x ∷ xs) ys n = (let e : length (x ∷ xs) + n ≡ suc (length xs + n) = omega arith in ap (λ k. slice_get (x ∷ (xs ++ ys)) k) e) ∙ behind-front xs ys n

-- an event of a phase among those of all phases
event-at : (before : List Phase) (phase : Phase) (rest : List Phase) (number : ℕ) → number < length phase.events →
    slice_get (joined (map (λ (p : Phase). p.events) (before ++ phase ∷ rest))) (events_in before + number) ≡ slice_get phase.events number
event-at [] phase rest number low =
    (let e : 0 + number ≡ number = omega arith in ap (λ k. slice_get (phase.events ++ joined (map (λ (p : Phase). p.events) rest)) k) e)
    ∙ in-front phase.events (joined (map (λ (p : Phase). p.events) rest)) number low
event-at (one ∷ before) phase rest number low =
    (let e : events_in (one ∷ before) + number ≡ length one.events + (events_in before + number) = (let d : events_in (one ∷ before) ≡ length one.events + events_in before = refl in omega (arith, d)) in
    ap (λ k. slice_get (one.events ++ joined (map (λ (p : Phase). p.events) (before ++ phase ∷ rest))) k) e)
    ∙ behind-front one.events (joined (map (λ (p : Phase). p.events) (before ++ phase ∷ rest))) (events_in before + number) ∙ event-at before phase rest number low

same-event : (a b : Event) → Some a ≡ Some b → a ≡ b
same-event a b e = cc

-- the first event that is left is the one of the moment
pub first-event-is : (phases : List Phase) (number moment : ℕ) (place : Place) (event : Event) → IsPlaceIn phases number moment place → 0 < length place.left →
    slice_get (events_of phases) moment ≡ Some event → (more : List Event) × (place.left ≡ event ∷ more)
first-event-is phases number moment place event at some acts = go place.left refl
  where
    go : (left : List Event) → place.left ≡ left → (more : List Event) × (place.left ≡ event ∷ more)
    go [] is = absurd (let e : length place.left ≡ 0 = ap length is in omega (arith, e, some))
    go (first ∷ more) is =
        let events : place.phase.events ≡ place.passed ++ first ∷ more = at.events_are ∙ ap (λ l. place.passed ++ l) is in
        let low : length place.passed < length place.phase.events =
        (let e : length place.phase.events ≡ length place.passed + length (first ∷ more) = ap length events ∙ length-append place.passed (first ∷ more) in
        let l : length (first ∷ more) ≡ suc (length more) = refl in omega (arith, e, l)) in
        let there : Some event ≡ Some first =
        sym acts ∙ (λ i. slice_get (events_of (at.phases_are i)) (at.moment_is i)) ∙ event-at at.before place.phase (place.later ++ at.others) (length place.passed) low
        ∙ ap (λ l. slice_get l (length place.passed)) events ∙ at-front place.passed first more in
        (more, is ∙ ap (λ x. x ∷ more) (sym (same-event event first there)))

-- the phase's end
pub phase-end : PlacesTold → (phases : List Phase) (number moment : ℕ) (place : Place) (ends : List ℕ) → IsPlaceIn phases number moment place → ArePhaseEnds phases ends →
    get_or ends number 0 ≡ moment + length place.left
phase-end law phases number moment place ends at are =
    let low : number < length ends = (let e : length ends ≡ length phases = are.count in let l : number < length phases = law.within phases number moment place at in omega (arith, e, l)) in
    law.ends phases number moment place ends (get_or ends number 0) at are (slice_get-get_or ends number 0 low)

-- where a block begins the tables tell it, and its phase's end
pub block-told : PlacesTold → BlocksAtPlaces → (design : FlatDesign) (plan : TestPlan) (place : Place) (kept : MomentKept) (blocks : BlocksKept) → IsShownAt design plan place kept →
    0 < length place.left → AreItsBlocks design plan kept blocks → IsBlockTold kept blocks
block-told told law design plan place kept blocks shown some its = record {
  begins = its.are.moments.all kept.moment (subst (λ l. BlockBeginsIn machine 0 l kept.moment) (sym same) (begins-there law design plan place kept shown some));
  phase =
      (let e : length blocks.ends ≡ length (window_phases design plan blocks.before blocks.through) = its.are.ends.count in
      let n : length (window_phases design plan blocks.before blocks.through) ≡ length all = ap length same in
      let l : kept.phase < length all = told.within all kept.phase kept.moment place shown.in_window in
      omega (arith, e, n, l));
  within = (let e : get_or blocks.ends kept.phase 0 ≡ kept.moment + length place.left = phase-end told all kept.phase kept.moment place blocks.ends shown.in_window (subst (λ l. ArePhaseEnds l blocks.ends) same its.are.ends) in
      omega (arith, e, some));
}
  where
    machine : Machine
    machine = good_machine design

    all : List Phase
    all = window_phases design plan kept.before kept.through

    same : window_phases design plan blocks.before blocks.through ≡ all
    same = λ i. window_phases design plan (its.before_is i) (its.through_is i)

-- the block that is ahead
pub block-there : PlacesTold → PhasesFollow → PhasesEndBetweenRuns → (design : FlatDesign) (plan : TestPlan) (place : Place) (kept : MomentKept) (blocks : BlocksKept) (limit : ℕ) (actor : Actor) →
    IsShownAt design plan place kept → AreItsBlocks design plan kept blocks →
    IsAhead (window_phases design plan blocks.before blocks.through) blocks.moments (get_or blocks.ends kept.phase 0) kept.moment limit actor →
    HasBlockTo (good_machine design) place kept.moment limit actor
block-there told follow end design plan place kept blocks limit actor shown its is = record {
  block = block;
  rest = rest;
  at = record { parts = sym (take-append-drop count place.left); first = phase.first; between = shown.between; ends = between-end; whole = whole };
  end_is = at-end;
  more = begun.0;
  begins = begun.1;
}
  where
    machine : Machine
    machine = good_machine design

    all : List Phase
    all = window_phases design plan kept.before kept.through

    same : window_phases design plan blocks.before blocks.through ≡ all
    same = λ i. window_phases design plan (its.before_is i) (its.through_is i)

    moments : AreBlockMoments machine all blocks.moments
    moments = subst (λ l. AreBlockMoments machine l blocks.moments) same its.are.moments

    there : get_or blocks.ends kept.phase 0 ≡ kept.moment + length place.left
    there = phase-end told all kept.phase kept.moment place blocks.ends shown.in_window (subst (λ l. ArePhaseEnds l blocks.ends) same its.are.ends)

    count : ℕ
    count = limit - kept.moment

    block : List Event
    block = take count place.left

    rest : List Event
    rest = drop count place.left

    some : kept.moment < limit
    some = is.some

    at : kept.moment + count ≡ limit
    at = omega (arith, some)

    within : count ≤ length place.left
    within = let w : limit ≤ get_or blocks.ends kept.phase 0 = is.within in omega (arith, w, there, at)

    long : length block ≡ count
    long = length-take-le count place.left within

    at-end : limit ≡ kept.moment + length block
    at-end = omega (arith, at, long)

    phase : IsFollowed machine place.phase place.later
    phase = followed follow machine shown.slot place shown.in_order shown.place_is

    whole-take : (xs : List Event) (n : ℕ) → length xs ≤ n → take n xs ≡ xs
    whole-take [] zero low = refl
    whole-take [] (suc n) low = refl
    whole-take (x ∷ xs) zero low = absurd (omega (arith, low))
    whole-take (x ∷ xs) (suc n) low = ap (λ l. x ∷ l) (whole-take xs n (omega (arith, low)))

    at-phase-end : length place.left ≤ count → IsBetweenRuns machine place.phase.begins (place.passed ++ take count place.left)
    at-phase-end high =
        subst (IsBetweenRuns machine place.phase.begins) (shown.place_is.events_are ∙ ap (λ l. place.passed ++ l) (sym (whole-take place.left count high)))
        (end machine place.phase.begins place.phase.events phase.idle)

    between-end : IsBetweenRuns machine place.phase.begins (place.passed ++ take count place.left)
    between-end = elim (cases_lt count (length place.left)) [
      | inr high ↦ at-phase-end high
      | inl less ↦ elim is.stops [
        | inl e ↦ at-phase-end (let f : limit ≡ get_or blocks.ends kept.phase 0 = e in omega (arith, f, there, at))
        | inr next ↦ told.between machine all kept.phase kept.moment place blocks.moments count shown.in_window moments (ap (has blocks.moments) at ∙ next) less
      ]
    ]

    whole : IsWholeBlock machine (state_there machine place) (take count place.left)
    whole =
        told.whole machine all kept.phase kept.moment place blocks.moments count shown.in_window moments phase.first shown.between (omega (arith, at, some)) within between-end
        (λ other more less. is.none other more (omega (arith, less, at)))

    left-some : 0 < length place.left
    left-some = omega (arith, at, some, within)

    begun : (more : List Event) × (take count place.left ≡ event_of actor ∷ more)
    begun =
        let first = first-event-is all kept.phase kept.moment place (event_of actor) shown.in_window left-some (ap (λ l. slice_get (events_of l) kept.moment) (sym same) ∙ is.acts) in
        cut place.left first.0 count (event_of actor) first.1 (omega (arith, at, some))
      where
        cut : (left more : List Event) (n : ℕ) (event : Event) → left ≡ event ∷ more → 0 < n → (others : List Event) × (take n left ≡ event ∷ others)
        cut left more zero event e low = absurd (omega (arith, low))
        cut left more (suc n) event e low = (take n more, ap (take (suc n)) e)
