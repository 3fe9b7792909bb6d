-- From place to place at once.
use Rattle.std.proofs.Common.{◌≡◌, ℕ, ◌+◌, ◌<◌, ◌≤◌, List, [], ◌∷◌, ◌++◌, map, filter, length, Bool, true, false, not, ◌||◌, refl, sym, ap, subst, ◌∙◌, inl, inr, arith}
use Rattle.std.specs.Prelude.{Option, Some, None, cond, sum_by}
use Rattle.std.specs.Option.{option_map}
use Rattle.std.proofs.lemmas.List.{append-nil, append_assoc, length-append}
use Rattle.std.proofs.lemmas.List.Sums.{sum_by-append, sum_by-cons}
use Rattle.v_design.specs.Designs.{FlatDesign, StuckAt, TestPlan, good_machine, faulty_machine}
use Rattle.v_design.specs.States.{State, LaterUpdate, Event, TurnKind, PostponedTurn, UpdatesTurn, TimeTurn, is_due, some_in}
use Rattle.v_design.specs.Runs.{Turns, FirstSlot, happened, turn_in_slot}
use Rattle.v_design.specs.Grades.{Phase}
use Rattle.v_design.specs.PhaseLogs.{phase_race}
use Rattle.machine_laws.specs.SlotLoop.{IsIdle, after_events, after_turn}
use Rattle.block_filter.specs.Blocks.{Alike}
use Rattle.phase_blocks.specs.Blocks.{IsBetweenRuns, PhasesEndBetweenRuns}
use Rattle.phase_order.specs.Order.{PhasesFollow, ComeNext}
use Rattle.trace_window.specs.Moments.{window_events}
use Rattle.lockstep_index.specs.Writes.{OwnWrites}
use Rattle.lockstep_slots.specs.Kept.{LockstepKept, turned_writes, turned_kept}
use Rattle.lockstep_slots.specs.Pairs.{no_marks, NoMarksLeaveNone}
use Rattle.lockstep_slots.specs.Places.{Place, IsPlaceOf, behind_events, next_phase}
use Rattle.lockstep_slots.specs.Standing.{StandsInLockstep, SlotsInLockstep}
use Rattle.lockstep_slots.proofs.Followed.{followed}
use Rattle.window_places.specs.Windows.{IsAtMoment, TablesLeave, IsLeftAlone, PlacesInWindows}
use Rattle.window_places.specs.Passing.{events_before, NoneIsDue, StandsUnmarked, PassesOn}

-- the laws on which this stands
pub record PassLaws : Type 0 where
  pub goes : SlotsInLockstep
  pub none : NoMarksLeaveNone
  pub phases : PhasesFollow
  pub rest : PhasesEndBetweenRuns
  pub places : PlacesInWindows

-- Lists in two parts

record Between {A : Type 0} (xs : List A) (x : A) (ys : List A) (other : List A) (o : A) (more : List A) : Type 0 where
  between : List A
  front : other ≡ xs ++ x ∷ between
  back : ys ≡ between ++ o ∷ more

head-is : {A : Type 0} (x y : A) (xs ys : List A) → x ∷ xs ≡ y ∷ ys → x ≡ y
head-is x y xs ys e = cc

tail-is : {A : Type 0} (x y : A) (xs ys : List A) → x ∷ xs ≡ y ∷ ys → xs ≡ ys
tail-is x y xs ys e = cc

-- a list cut at two elements, one behind the other
split-later : {A : Type 0} (xs : List A) (x : A) (ys other : List A) (o : A) (more : List A) → xs ++ x ∷ ys ≡ other ++ o ∷ more → length xs < length other → Between xs x ys other o more
split-later [] x ys [] o more e low = absurd (omega (arith, low))
split-later [] x ys (z ∷ other) o more e low = record {
  between = other;
  front = ap (λ a. a ∷ other) (sym (head-is x z ys (other ++ o ∷ more) e));
  back = tail-is x z ys (other ++ o ∷ more) e;
}
split-later (w ∷ xs) x ys [] o more e low = absurd (omega (arith, low))
split-later (w ∷ xs) x ys (z ∷ other) o more e low =
    let rest = split-later xs x ys other o more (tail-is w z (xs ++ x ∷ ys) (other ++ o ∷ more) e) (omega (arith, low)) in
    record {
      between = rest.between;
      front = λ i. head-is z w (other ++ o ∷ more) (xs ++ x ∷ ys) (sym e) i ∷ rest.front i;
      back = rest.back;
    }

record SameCut {A : Type 0} (xs : List A) (x : A) (ys other : List A) (o : A) (more : List A) : Type 0 where
  front : xs ≡ other
  here : x ≡ o
  back : ys ≡ more

-- a list cut at one element
split-same : {A : Type 0} (xs : List A) (x : A) (ys other : List A) (o : A) (more : List A) → xs ++ x ∷ ys ≡ other ++ o ∷ more → length xs ≡ length other → SameCut xs x ys other o more
split-same [] x ys [] o more e same = record { front = refl; here = head-is x o ys more e; back = tail-is x o ys more e }
split-same [] x ys (z ∷ other) o more e same = absurd (omega (arith, same))
split-same (w ∷ xs) x ys [] o more e same = absurd (omega (arith, same))
split-same (w ∷ xs) x ys (z ∷ other) o more e same =
    let rest = split-same xs x ys other o more (tail-is w z (xs ++ x ∷ ys) (other ++ o ∷ more) e) (omega (arith, same)) in
    record { front = λ i. head-is w z (xs ++ x ∷ ys) (other ++ o ∷ more) e i ∷ rest.front i; here = rest.here; back = rest.back }

record Further {A : Type 0} (xs ys other more : List A) : Type 0 where
  between : List A
  front : other ≡ xs ++ between
  back : ys ≡ between ++ more

-- a list in two parts, in two ways
split-further : {A : Type 0} (xs ys other more : List A) → xs ++ ys ≡ other ++ more → length xs ≤ length other → Further xs ys other more
split-further [] ys other more e low = record { between = other; front = refl; back = e }
split-further (x ∷ xs) ys [] more e low = absurd (omega (arith, low))
split-further (x ∷ xs) ys (z ∷ other) more e low =
    let rest = split-further xs ys other more (tail-is x z (xs ++ ys) (other ++ more) e) (omega (arith, low)) in
    record { between = rest.between; front = λ i. head-is z x (other ++ more) (xs ++ ys) (sym e) i ∷ rest.front i; back = rest.back }

-- What is kept over a turn

none-filtered : (now : ℕ) (later : List LaterUpdate) → some_in (is_due now) later ≡ false → (filter (λ update. not (is_due now update)) later ≡ later) × (filter (is_due now) later ≡ [])
none-filtered now [] e = (refl, refl)
none-filtered now (update ∷ later) e = go (is_due now update) refl e (none-filtered now later)
  where
    go : (b : Bool) → is_due now update ≡ b → (b || some_in (is_due now) later) ≡ false →
        (some_in (is_due now) later ≡ false → (filter (λ u. not (is_due now u)) later ≡ later) × (filter (is_due now) later ≡ [])) →
        (filter (λ u. not (is_due now u)) (update ∷ later) ≡ update ∷ later) × (filter (is_due now) (update ∷ later) ≡ [])
    go true d f rest = cc
    go false d f rest =
        let r = rest f in (
          ap (λ (c : Bool). cond (not c) (update ∷ filter (λ u. not (is_due now u)) later) (filter (λ u. not (is_due now u)) later)) d ∙ ap (λ l. update ∷ l) r.0,
          ap (λ (c : Bool). cond c (update ∷ filter (is_due now) later) (filter (is_due now) later)) d ∙ r.1,
        )

writes-stay : (now : ℕ) (turn : TurnKind) (own : OwnWrites) → some_in (is_due now) own.later ≡ false → turned_writes now turn own ≡ own
writes-stay now PostponedTurn own none = refl
writes-stay now UpdatesTurn own none =
    let parts = none-filtered now own.later none in
    let lane : own.lane ++ map (λ (later : LaterUpdate). later.update) (filter (is_due now) own.later) ≡ own.lane =
    ap (λ (l : List LaterUpdate). own.lane ++ map (λ (later : LaterUpdate). later.update) l) parts.1 ∙ append-nil own.lane in
    λ i. record { later = parts.0 i; lane = lane i }
writes-stay now (TimeTurn time) own none = refl

kept-stays : (now : ℕ) (turn : TurnKind) (kept : LockstepKept) → NoneIsDue now kept → turned_kept now turn kept ≡ kept
kept-stays now turn kept none = λ i. record { values = kept.values; writes = λ process. at process (kept.writes process) refl i }
  where
    at : (process : ℕ) (own : Option OwnWrites) → kept.writes process ≡ own → option_map (turned_writes now turn) own ≡ own
    at process None e = refl
    at process (Some own) e = ap Some (writes-stay now turn own (none process own e))

-- A phase

-- the tables tell of part of the moments
narrowed : (design : FlatDesign) (plan : TestPlan) (fault : StuckAt) (begins ends first limit low high : ℕ) (kept : LockstepKept) → first ≤ low → high ≤ limit →
    TablesLeave design fault kept (window_events design plan begins ends) first limit → TablesLeave design fault kept (window_events design plan begins ends) low high
narrowed design plan fault begins ends first limit low high kept since until tables = record {
  touches = λ object moment own l h. tables.touches object moment own (omega (arith, since, l)) (omega (arith, until, h));
  site_object = λ object moment own l h. tables.site_object object moment own (omega (arith, since, l)) (omega (arith, until, h));
  site_node = λ number moment own l h. tables.site_node number moment own (omega (arith, since, l)) (omega (arith, until, h));
  inputs = λ object number moment node own here reads l h. tables.inputs object number moment node own here reads (omega (arith, since, l)) (omega (arith, until, h));
  steps = λ process moment own l h. tables.steps process moment own (omega (arith, since, l)) (omega (arith, until, h));
}

-- both machines at a place that has a moment
record StandsAt (design : FlatDesign) (plan : TestPlan) (fault : StuckAt) (begins ends moment : ℕ) (slot : FirstSlot) (own_begins : State) (place : Place) (kept : LockstepKept) : Type 0 where
  stands : StandsUnmarked design fault slot own_begins place kept
  at : IsAtMoment design plan begins ends moment place

-- over some events of the phase
over-events : PassLaws → (design : FlatDesign) (plan : TestPlan) (fault : StuckAt) (begins ends moment : ℕ) (slot : FirstSlot) (own_begins : State) (place : Place) (kept : LockstepKept)
    (events more : List Event) → StandsAt design plan fault begins ends moment slot own_begins place kept → place.left ≡ events ++ more →
    TablesLeave design fault kept (window_events design plan begins ends) moment (moment + length events) → IsBetweenRuns (good_machine design) place.phase.begins (place.passed ++ events) →
    StandsAt design plan fault begins ends (moment + length events) slot own_begins (behind_events events more place) kept
over-events laws design plan fault begins ends moment slot own_begins place kept events more s left tables between = record {
  stands = record {
    own = after_events (faulty_machine design fault) events s.stands.own;
    pairs = s.stands.pairs ++ Alike events ∷ [];
    stands = laws.goes.passes design fault slot own_begins place s.stands.own s.stands.pairs no_marks kept events more s.stands.stands left between alone.values alone.elsewhere;
  };
  at = laws.places.goes_on design plan begins ends moment place events more s.at left;
}
  where
    alone : IsLeftAlone design fault kept place events
    alone = laws.places.tables design plan fault begins ends moment place kept events more s.at left tables

-- no event is left: the phase is between runs, and has no race
phase-end : PassLaws → (design : FlatDesign) (fault : StuckAt) (slot : FirstSlot) (own_begins : State) (place : Place) (kept : LockstepKept) → StandsUnmarked design fault slot own_begins place kept →
    IsBetweenRuns (good_machine design) place.phase.begins (place.passed ++ place.left)
phase-end laws design fault slot own_begins place kept s =
    laws.rest (good_machine design) place.phase.begins (place.passed ++ place.left)
    (subst (λ (events : List Event). IsIdle (happened (good_machine design) place.phase.begins events)) s.stands.place_is.events_are
    (followed laws.phases (good_machine design) slot place s.stands.good_slot s.stands.place_is).idle)

phase-clean : PassLaws →
    (design : FlatDesign) (fault : StuckAt) (slot : FirstSlot) (own_begins : State) (place : Place) (kept : LockstepKept) (s : StandsUnmarked design fault slot own_begins place kept) →
    place.left ≡ [] → phase_race (faulty_machine design fault) s.own.phase_begins s.own.events ≡ None
phase-clean laws design fault slot own_begins place kept s none =
    laws.goes.free design fault slot own_begins place s.own s.pairs no_marks kept s.stands none (laws.none design fault s.own.phase_begins s.pairs)

-- the turn of the next phase
turn-of-next : (turn : Option TurnKind) → turn_in_slot turn ≡ Some Turns → (kind : TurnKind) × (turn ≡ Some kind)
turn-of-next None e = cc
turn-of-next (Some turn) e = (turn, refl)

next-turn : PassLaws → (design : FlatDesign) (fault : StuckAt) (slot : FirstSlot) (own_begins : State) (place : Place) (kept : LockstepKept) (next : Phase) (later : List Phase) →
    StandsUnmarked design fault slot own_begins place kept → place.later ≡ next ∷ later → (kind : TurnKind) × (next.turn ≡ Some kind)
next-turn laws design fault slot own_begins place kept next later s later_is =
    let is = followed laws.phases (good_machine design) slot place s.stands.good_slot s.stands.place_is in
    let come : ComeNext (good_machine design) (happened (good_machine design) place.phase.begins place.phase.events) (next ∷ later) =
    subst (λ (l : List Phase). ComeNext (good_machine design) (happened (good_machine design) place.phase.begins place.phase.events) l) later_is is.next in
    turn-of-next next.turn (ap turn_in_slot come.1.turn_is ∙ come.0)

-- over the turn behind a phase of which no event is left
over-turn : PassLaws → (design : FlatDesign) (plan : TestPlan) (fault : StuckAt) (begins ends moment : ℕ) (slot : FirstSlot) (own_begins : State) (place : Place) (kept : LockstepKept)
    (next : Phase) (later : List Phase) → StandsAt design plan fault begins ends moment slot own_begins place kept → place.left ≡ [] → place.later ≡ next ∷ later →
    NoneIsDue slot.begins.time kept → StandsAt design plan fault begins ends moment slot own_begins (next_phase next later place) kept
over-turn laws design plan fault begins ends moment slot own_begins place kept next later s none later_is due = record {
  stands = record {
    own = after_turn turn.0 s.stands.own;
    pairs = [];
    stands = subst (λ (k : LockstepKept). StandsInLockstep design fault slot own_begins (next_phase next later place) (after_turn turn.0 s.stands.own) [] no_marks k)
        (kept-stays slot.begins.time turn.0 kept due)
        (laws.goes.turns design fault slot own_begins place s.stands.own s.stands.pairs no_marks no_marks kept next later turn.0 s.stands.stands none later_is turn.1
        (phase-clean laws design fault slot own_begins place kept s.stands none));
  };
  at = laws.places.turns design plan begins ends moment place next later s.at none later_is;
}
  where
    turn : (kind : TurnKind) × (next.turn ≡ Some kind)
    turn = next-turn laws design fault slot own_begins place kept next later s.stands later_is

-- over what is left of a phase, and the turn
over-phase : PassLaws → (design : FlatDesign) (plan : TestPlan) (fault : StuckAt) (begins ends moment limit : ℕ) (slot : FirstSlot) (own_begins : State) (place : Place) (kept : LockstepKept)
    (next : Phase) (later : List Phase) → StandsAt design plan fault begins ends moment slot own_begins place kept → place.later ≡ next ∷ later → moment + length place.left ≤ limit →
    TablesLeave design fault kept (window_events design plan begins ends) moment limit → NoneIsDue slot.begins.time kept →
    StandsAt design plan fault begins ends (moment + length place.left) slot own_begins (next_phase next later place) kept
over-phase laws design plan fault begins ends moment limit slot own_begins place kept next later s later_is by tables due =
    over-turn laws design plan fault begins ends (moment + length place.left) slot own_begins (behind_events place.left [] place) kept next later
    (over-events laws design plan fault begins ends moment slot own_begins place kept place.left [] s (sym (append-nil place.left))
    (narrowed design plan fault begins ends moment limit moment (moment + length place.left) kept (omega arith) by tables)
    (phase-end laws design fault slot own_begins place kept s.stands)) refl later_is due

-- Over phases

abbrev phase_length : Phase → ℕ
phase_length phase = length phase.events

-- another place some phases later
record IsLater (place other : Place) (between : List Phase) : Type 0 where
  front : other.ended ≡ place.ended ++ place.phase ∷ between
  back : place.later ≡ between ++ other.phase ∷ other.later
  events : other.phase.events ≡ other.passed ++ other.left

over-phases : PassLaws → (design : FlatDesign) (plan : TestPlan) (fault : StuckAt) (begins ends moment limit : ℕ) (slot : FirstSlot) (own_begins : State) (place other : Place)
    (kept : LockstepKept) (between : List Phase) → StandsAt design plan fault begins ends moment slot own_begins place kept → IsLater place other between →
    limit ≡ moment + length place.left + sum_by phase_length between + length other.passed →
    TablesLeave design fault kept (window_events design plan begins ends) moment limit → NoneIsDue slot.begins.time kept → IsBetweenRuns (good_machine design) other.phase.begins other.passed →
    StandsAt design plan fault begins ends limit slot own_begins other kept
over-phases laws design plan fault begins ends moment limit slot own_begins place other kept [] s is count tables due between =
    let none : sum_by phase_length [] ≡ 0 = refl in
    let there : moment + length place.left + length other.passed ≡ limit = omega (arith, count, none) in
    let next = over-phase laws design plan fault begins ends moment limit slot own_begins place kept other.phase other.later s is.back (omega (arith, there)) tables due in
    subst (λ (x : Place). StandsAt design plan fault begins ends limit slot own_begins x kept)
    (λ i. record { ended = sym is.front i; phase = other.phase; later = other.later; passed = other.passed; left = other.left })
    (subst
    (λ (n : ℕ). StandsAt design plan fault begins ends n slot own_begins (behind_events other.passed other.left (next_phase other.phase other.later place)) kept) there
    (over-events laws design plan fault begins ends (moment + length place.left) slot own_begins (next_phase other.phase other.later place) kept other.passed other.left next is.events
    (narrowed design plan fault begins ends moment limit (moment + length place.left) (moment + length place.left + length other.passed) kept (omega arith) (omega (arith, there)) tables)
    between))
over-phases laws design plan fault begins ends moment limit slot own_begins place other kept (next ∷ more) s is count tables due between =
    let some : sum_by phase_length (next ∷ more) ≡ length next.events + sum_by phase_length more = sum_by-cons phase_length next more in
    let there : limit ≡ moment + length place.left + length next.events + sum_by phase_length more + length other.passed = omega (arith, count, some) in
    over-phases laws design plan fault begins ends (moment + length place.left) limit slot own_begins (next_phase next (more ++ other.phase ∷ other.later) place) other kept more
    (over-phase laws design plan fault begins ends moment limit slot own_begins place kept next (more ++ other.phase ∷ other.later) s is.back (omega (arith, there)) tables due)
    (record { front = is.front ∙ sym (append_assoc place.ended (place.phase ∷ []) (next ∷ more)); back = refl; events = is.events }) there
    (narrowed design plan fault begins ends moment limit (moment + length place.left) limit kept (omega arith) (omega arith) tables) due between

-- The law

in-phase-on : PassLaws → (design : FlatDesign) (plan : TestPlan) (fault : StuckAt) (begins ends moment until : ℕ) (slot : FirstSlot) (own_begins : State) (place other : Place)
    (kept : LockstepKept) → StandsAt design plan fault begins ends moment slot own_begins place kept → IsPlaceOf (good_machine design) slot other → length place.ended ≡ length other.ended →
    length place.passed ≤ length other.passed → moment + events_before other ≡ until + events_before place →
    TablesLeave design fault kept (window_events design plan begins ends) moment until → IsBetweenRuns (good_machine design) other.phase.begins other.passed →
    StandsAt design plan fault begins ends until slot own_begins other kept
in-phase-on laws design plan fault begins ends moment until slot own_begins place other kept s there same low count tables between =
    subst (λ (x : Place). StandsAt design plan fault begins ends until slot own_begins x kept)
    (λ i. record { ended = cut.front i; phase = cut.here i; later = cut.back i; passed = sym part.front i; left = other.left })
    (subst (λ (n : ℕ). StandsAt design plan fault begins ends n slot own_begins (behind_events part.between other.left place) kept) until_is
    (over-events laws design plan fault begins ends moment slot own_begins place kept part.between other.left s part.back
    (narrowed design plan fault begins ends moment until moment (moment + length part.between) kept (omega arith) (omega (arith, until_is)) tables)
    (subst (λ (b : State). IsBetweenRuns (good_machine design) b (place.passed ++ part.between)) (ap (λ (p : Phase). p.begins) (sym cut.here))
    (subst (λ (events : List Event). IsBetweenRuns (good_machine design) other.phase.begins events) part.front between))))
  where
    cut : SameCut place.ended place.phase place.later other.ended other.phase other.later
    cut = split-same place.ended place.phase place.later other.ended other.phase other.later (sym s.stands.stands.place_is.phases_are ∙ there.phases_are) same

    part : Further place.passed place.left other.passed other.left
    part = split-further place.passed place.left other.passed other.left
        (sym s.stands.stands.place_is.events_are ∙ ap (λ (p : Phase). p.events) cut.here ∙ there.events_are) low

    until_is : moment + length part.between ≡ until
    until_is =
        let long : length other.passed ≡ length place.passed + length part.between = ap length part.front ∙ length-append place.passed part.between in
        let before : sum_by phase_length place.ended ≡ sum_by phase_length other.ended = ap (sum_by phase_length) cut.front in
        let all : moment + (sum_by phase_length other.ended + length other.passed) ≡ until + (sum_by phase_length place.ended + length place.passed) = count in
        omega (arith, long, before, all)

later-phase-on : PassLaws → (design : FlatDesign) (plan : TestPlan) (fault : StuckAt) (begins ends moment until : ℕ) (slot : FirstSlot) (own_begins : State) (place other : Place)
    (kept : LockstepKept) → StandsAt design plan fault begins ends moment slot own_begins place kept → IsPlaceOf (good_machine design) slot other → length place.ended < length other.ended →
    moment + events_before other ≡ until + events_before place → TablesLeave design fault kept (window_events design plan begins ends) moment until → NoneIsDue slot.begins.time kept →
    IsBetweenRuns (good_machine design) other.phase.begins other.passed → StandsAt design plan fault begins ends until slot own_begins other kept
later-phase-on laws design plan fault begins ends moment until slot own_begins place other kept s there low count tables due between =
    over-phases laws design plan fault begins ends moment until slot own_begins place other kept cut.between s
    (record { front = cut.front; back = cut.back; events = there.events_are }) until_is tables due between
  where
    cut : Between place.ended place.phase place.later other.ended other.phase other.later
    cut = split-later place.ended place.phase place.later other.ended other.phase other.later (sym s.stands.stands.place_is.phases_are ∙ there.phases_are) low

    until_is : until ≡ moment + length place.left + sum_by phase_length cut.between + length other.passed
    until_is =
        let all : moment + (sum_by phase_length other.ended + length other.passed) ≡ until + (sum_by phase_length place.ended + length place.passed) = count in
        let parts : sum_by phase_length other.ended ≡ sum_by phase_length place.ended + sum_by phase_length (place.phase ∷ cut.between) =
        ap (sum_by phase_length) cut.front ∙ sum_by-append phase_length place.ended (place.phase ∷ cut.between) in
        let one : sum_by phase_length (place.phase ∷ cut.between) ≡ length place.phase.events + sum_by phase_length cut.between = sum_by-cons phase_length place.phase cut.between in
        let here : length place.phase.events ≡ length place.passed + length place.left = ap length s.stands.stands.place_is.events_are ∙ length-append place.passed place.left in
        omega (arith, all, parts, one, here)

pub passes_on : PassLaws → PassesOn
passes_on laws = record {
  places = λ design plan fault begins ends moment until slot own_begins place other kept s at there up count tables due between.
      let gone : StandsAt design plan fault begins ends until slot own_begins other kept =
      elim up [
        | inl low ↦ later-phase-on laws design plan fault begins ends moment until slot own_begins place other kept (record { stands = s; at = at }) there low count tables due between
        | inr same ↦
            in-phase-on laws design plan fault begins ends moment until slot own_begins place other kept (record { stands = s; at = at }) there same.0 same.1 count tables between
      ] in
      (gone.stands, gone.at);
  ends = λ design fault slot own_begins place kept s none last. (
    s.own,
    laws.goes.ends design fault slot own_begins place s.own s.pairs no_marks kept s.stands none last (phase-clean laws design fault slot own_begins place kept s none),
  );
}
