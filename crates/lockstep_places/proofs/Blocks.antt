-- What the moments with which blocks begin tell at a place.
use Rattle.std.proofs.Common.{◌≡◌, ℕ, suc, ◌+◌, ◌<◌, ◌≤◌, List, [], ◌∷◌, ◌++◌, length, Bool, true, false, refl, sym, ap, subst, ◌∙◌, inl, inr, arith}
use Rattle.std.specs.Prelude.{take, drop}
use Rattle.std.proofs.Math.Seq.{take-append-add}
use Rattle.std.proofs.lemmas.List.{append_assoc, length-append, take-append-drop, take-take, length-take-le}
use Rattle.vf_base.specs.Lists.{has}
use Rattle.v_design.specs.Designs.{Machine}
use Rattle.v_design.specs.States.{Event}
use Rattle.v_design.specs.Grades.{Phase}
use Rattle.copy_laws.specs.Beside.{AreFirst}
use Rattle.phase_blocks.specs.Blocks.{IsBetweenRuns, IsWholeBlock, BlocksStand}
use Rattle.phase_blocks.proofs.Lists.{first-before}
use Rattle.window_blocks.specs.Blocks.{events_in, BlockBeginsAt, BlockBeginsIn, AreBlockMoments}
use Rattle.lockstep_slots.specs.Places.{Place, state_there}
use Rattle.lockstep_places.specs.Places.{IsPlaceIn, PlacesTold}
use Rattle.lockstep_places.proofs.Phases.{slot-begins, goes-on, turns, within, ends}

-- Blocks among phases

begins-late : (machine : Machine) (first : ℕ) (phases : List Phase) (moment : ℕ) → BlockBeginsIn machine first phases moment → first ≤ moment
begins-late machine first [] moment h = absurd h
begins-late machine first (phase ∷ phases) moment (inl here) = let e : moment ≡ first + here.0 = here.1 in omega (arith, e)
begins-late machine first (phase ∷ phases) moment (inr later) =
    let e : first + length phase.events ≤ moment = begins-late machine (first + length phase.events) phases moment later in omega (arith, e)

-- one that begins with an event of a phase begins with that of its number there
begins-here : (machine : Machine) (first : ℕ) (before : List Phase) (phase : Phase) (rest : List Phase) (moment number : ℕ) → moment ≡ (first + events_in before) + number →
    number < length phase.events → BlockBeginsIn machine first (before ++ phase ∷ rest) moment → BlockBeginsAt machine phase number
begins-here machine first [] phase rest moment number at low (inl here) =
    let e : moment ≡ first + here.0 = here.1 in
    let same : here.0 ≡ number = omega (arith, e, at) in
    subst (BlockBeginsAt machine phase) same here.2
begins-here machine first [] phase rest moment number at low (inr later) =
    let e : first + length phase.events ≤ moment = begins-late machine (first + length phase.events) rest moment later in absurd (omega (arith, e, at, low))
begins-here machine first (one ∷ before) phase rest moment number at low (inl here) =
    let e : moment ≡ first + here.0 = here.1 in
    let less : here.0 < length one.events = here.2.within in
    let all : events_in (one ∷ before) ≡ length one.events + events_in before = refl in
    absurd (omega (arith, e, less, all, at))
begins-here machine first (one ∷ before) phase rest moment number at low (inr later) =
    let all : events_in (one ∷ before) ≡ length one.events + events_in before = refl in
    begins-here machine (first + length one.events) before phase rest moment number (omega (arith, at, all)) low later

begins-there : (machine : Machine) (first : ℕ) (before : List Phase) (phase : Phase) (rest : List Phase) (moment number : ℕ) → moment ≡ (first + events_in before) + number →
    BlockBeginsAt machine phase number → BlockBeginsIn machine first (before ++ phase ∷ rest) moment
begins-there machine first [] phase rest moment number at h = inl (number, omega (arith, at), h)
begins-there machine first (one ∷ before) phase rest moment number at h =
    let all : events_in (one ∷ before) ≡ length one.events + events_in before = refl in
    inr (begins-there machine (first + length one.events) before phase rest moment number (omega (arith, at, all)) h)

-- At a place

-- the events of its phase up to some more
taken : (phases : List Phase) (number moment : ℕ) (place : Place) (count : ℕ) → IsPlaceIn phases number moment place →
    take (length place.passed + count) place.phase.events ≡ place.passed ++ take count place.left
taken phases number moment place count at = ap (take (length place.passed + count)) at.events_are ∙ take-append-add place.passed place.left count

-- and how many there are
length-there : (phases : List Phase) (number moment : ℕ) (place : Place) → IsPlaceIn phases number moment place → length place.phase.events ≡ length place.passed + length place.left
length-there phases number moment place at = ap length at.events_are ∙ length-append place.passed place.left

moment-there : (phases : List Phase) (number moment : ℕ) (place : Place) (count : ℕ) (at : IsPlaceIn phases number moment place) →
    moment + count ≡ (0 + events_in at.before) + (length place.passed + count)
moment-there phases number moment place count at = let m : moment ≡ events_in at.before + length place.passed = at.moment_is in omega (arith, m)

between : (machine : Machine) (phases : List Phase) (number moment : ℕ) (place : Place) (moments : List ℕ) (count : ℕ) → IsPlaceIn phases number moment place →
    AreBlockMoments machine phases moments → has moments (moment + count) ≡ true → count < length place.left →
    IsBetweenRuns machine place.phase.begins (place.passed ++ take count place.left)
between machine phases number moment place moments count at are told less =
    subst (IsBetweenRuns machine place.phase.begins) (taken phases number moment place count at)
    (begins-here machine 0 at.before place.phase (place.later ++ at.others) (moment + count) (length place.passed + count) (moment-there phases number moment place count at)
    (let e = length-there phases number moment place at in omega (arith, e, less))
    (subst (λ l. BlockBeginsIn machine 0 l (moment + count)) at.phases_are (are.begins (moment + count) told))).between

-- where no block begins it isn't between runs
not-between : (machine : Machine) (phases : List Phase) (number moment : ℕ) (place : Place) (moments : List ℕ) (count : ℕ) → IsPlaceIn phases number moment place →
    AreBlockMoments machine phases moments → has moments (moment + count) ≡ false → count < length place.left →
    IsBetweenRuns machine place.phase.begins (place.passed ++ take count place.left) → ⊥
not-between machine phases number moment place moments count at are none less ends =
    let e : length place.phase.events ≡ length place.passed + length place.left = length-there phases number moment place at in
    let there : BlockBeginsAt machine place.phase (length place.passed + count) =
    record { within = omega (arith, e, less); between = subst (IsBetweenRuns machine place.phase.begins) (sym (taken phases number moment place count at)) ends } in
    let told : has moments (moment + count) ≡ true =
    are.all (moment + count)
    (subst (λ l. BlockBeginsIn machine 0 l (moment + count)) (sym at.phases_are)
    (begins-there machine 0 at.before place.phase (place.later ++ at.others) (moment + count) (length place.passed + count) (moment-there phases number moment place count at) there)) in
    let no : true ≡ false = sym told ∙ none in
    cc

whole : BlocksStand → (machine : Machine) (phases : List Phase) (number moment : ℕ) (place : Place) (moments : List ℕ) (count : ℕ) → IsPlaceIn phases number moment place →
    AreBlockMoments machine phases moments → AreFirst machine place.phase.begins place.phase.events → IsBetweenRuns machine place.phase.begins place.passed → 0 < count →
    count ≤ length place.left → IsBetweenRuns machine place.phase.begins (place.passed ++ take count place.left) →
    ((other : ℕ) → moment < other → other < moment + count → has moments other ≡ false) → IsWholeBlock machine (state_there machine place) (take count place.left)
whole law machine phases number moment place moments count at are first here some low ends none =
    law machine place.phase.begins place.passed (take count place.left) here
    (first-before machine place.phase.begins (place.passed ++ take count place.left) (drop count place.left)
    (subst (AreFirst machine place.phase.begins)
    (at.events_are ∙ ap (λ l. place.passed ++ l) (sym (take-append-drop count place.left)) ∙ sym (append_assoc place.passed (take count place.left) (drop count place.left))) first))
    (let e = long in omega (arith, e, some))
    ends
    (λ one more less both.
    let e : length (take count place.left) ≡ count = long in
    let shorter : take one (take count place.left) ≡ take one place.left = take-take one count place.left (omega (arith, e, less)) in
    not-between machine phases number moment place moments one at are (none (moment + one) (omega (arith, more)) (omega (arith, e, less))) (omega (arith, e, less, low))
    (subst (λ l. IsBetweenRuns machine place.phase.begins (place.passed ++ l)) shorter both))
  where
    long : length (take count place.left) ≡ count
    long = length-take-le count place.left low

pub places_told : BlocksStand → PlacesTold
places_told law = record { begins = slot-begins; goes_on = goes-on; turns = turns; within = within; ends = ends; between = between; whole = whole law }
