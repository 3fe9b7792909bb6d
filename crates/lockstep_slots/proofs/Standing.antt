-- A slot of both machines from its beginning to its end.
use Rattle.std.proofs.Common.{◌≡◌, ℕ, ◌+◌, ◌≤◌, false, List, [], ◌∷◌, ◌++◌, refl, sym, ap, subst, ◌∙◌, arith}
use Rattle.std.specs.Prelude.{Some, None, IsTrue, sum_by}
use Rattle.std.proofs.lemmas.List.{append-nil, append_assoc}
use Rattle.std.proofs.lemmas.List.Sums.{sum_by-append, sum_by-cons}
use Rattle.vf_base.specs.Lists.{AllHold}
use Rattle.v_design.specs.Designs.{FlatDesign, StuckAt, good_machine, faulty_machine}
use Rattle.v_design.specs.States.{State, Event, TurnKind, turn_of, turned}
use Rattle.v_design.specs.Accesses.{held_accesses}
use Rattle.v_design.specs.PhaseLogs.{phase_race}
use Rattle.v_design.specs.Runs.{FirstSlot, happened, turn_in_slot, turned_by, all_possible, most_steps, slot_end}
use Rattle.v_design.specs.Grades.{Phase, phases, slot_outcome}
use Rattle.v_design.specs.Laws.{BeginsPhase}
use Rattle.machine_laws.specs.SlotLoop.{Moment, ComesTo, EndsAt, IsIdle, NoNodeWorks, slot_from, steps_of, first_moment, after_events, after_turn, present_phase}
use Rattle.copy_laws.specs.Beside.{AreFirst}
use Rattle.copy_laws.specs.Moves.{Within, Parts}
use Rattle.block_filter.specs.Likes.{Marks, AreWider}
use Rattle.block_filter.specs.Blocks.{BlockPair, Alike, good_phase}
use Rattle.phase_blocks.specs.Blocks.{IsBetweenRuns, IsWholeBlock}
use Rattle.phase_order.specs.Order.{IsFirstPhase, ComeNext, phase_steps}
use Rattle.lockstep_laws.specs.Lockstep.{AreInLockstep}
use Rattle.lockstep_laws.specs.Turning.{turned_within}
use Rattle.lockstep_laws.specs.Passing.{AreFree}
use Rattle.lockstep_laws.specs.Phases.{IsInPhase}
use Rattle.lockstep_laws.specs.Slots.{EndsInLockstep, KeepsNothingSame}
use Rattle.lockstep_laws.specs.Moments.{HaveRoom, InLockstepAt}
use Rattle.trace_window.specs.Moments.{seen_from}
use Rattle.lockstep_index.specs.Alone.{LeavesValues, apart_values}
use Rattle.lockstep_index.specs.Writes.{ActsElsewhere, PassWithWrites}
use Rattle.lockstep_slots.specs.Kept.{LockstepKept, kept_within, turned_kept}
use Rattle.lockstep_slots.specs.Pairs.{unlike_pair, TakeIn, LeavesNoConflict}
use Rattle.lockstep_slots.specs.Places.{Place, IsPlaceOf, IsFineSlot, state_there, moment_there, steps_left, first_place, behind_events, next_phase}
use Rattle.lockstep_slots.specs.Standing.{StandsInLockstep, BlocksDiffer, EndInLockstep, SlotsInLockstep}
use Rattle.lockstep_slots.proofs.Kept.{within-turned, sets-anew, stays-other}
use Rattle.lockstep_slots.proofs.Pairs.{AreCaused, IsUnlikePair, whole-caused, unlike-paired, holds-alike}
use Rattle.lockstep_slots.proofs.Followed.{IsFollowed, begun-rests, turned-rests, followed, first-phase, all-passed, no-race, few-there}
use Rattle.lockstep_slots.proofs.Moments.{after-is, first-there, behind-there, turned-there}
use Rattle.lockstep_slots.proofs.Moved.{SlotLaws, in-phase, own-rests, next-first, good-room, moved}

-- The beginning

begins : SlotLaws → (design : FlatDesign) (fault : StuckAt) (slot : FirstSlot) (own : State) (phase : Phase) (later : List Phase) (marks : Marks) (kept : LockstepKept) →
    IsFineSlot (good_machine design) slot → BeginsPhase (faulty_machine design fault) own → AreInLockstep (kept_within kept slot.begins) slot.begins own →
    KeepsNothingSame (kept_within kept slot.begins) slot.begins →
    phases (good_machine design) slot ≡ phase ∷ later → StandsInLockstep design fault slot own (first_place phase later) (first_moment own) [] marks kept
begins laws design fault slot own phase later marks kept fine asked lockstep none parts = record {
  good_slot = fine;
  place_is = place;
  own_begins = refl;
  lockstep = subst (λ (x : State). InLockstepAt design fault (kept_within kept x) (moment_there (good_machine design) slot (first_place phase later)) (first_moment own)) (sym is.begins_is)
      (subst (λ (at : Moment). InLockstepAt design fault (kept_within kept slot.begins) at (first_moment own)) (sym (first-there (good_machine design) slot phase later is.turn_is is.begins_is))
      (laws.goes.begins design fault (kept_within kept slot.begins) slot.begins own fine.asked asked lockstep));
  between = record { nodes = subst (λ (s : State). NoNodeWorks s) (sym is.begins_is) (begun-rests (good_machine design) slot.begins fine.asked); runs = λ process. refl };
  nothing_same = subst (λ (x : State). KeepsNothingSame (kept_within kept x) x) (sym is.begins_is) none;
  room = few;
  held = ap (held_accesses (good_machine design)) is.begins_is ∙ laws.holds design fault (kept_within kept slot.begins) slot.begins own lockstep;
  good_pairs = refl;
  own_pairs = refl;
  blocks = tt;
  clean = tt;
}
  where
    is : IsFirstPhase (good_machine design) None slot.begins phase
    is = first-phase laws.phases (good_machine design) slot phase later fine parts

    place : IsPlaceOf (good_machine design) slot (first_place phase later)
    place = record { phases_are = parts; events_are = refl }

    few : 0 + (sum_by steps_of phase.events + sum_by phase_steps later) ≤ most_steps
    few =
        let all : sum_by phase_steps [] + sum_by steps_of [] + sum_by steps_of phase.events + (sum_by steps_of [] + sum_by phase_steps later) ≤ most_steps =
        few-there laws.phases (good_machine design) slot (first_place phase later) phase.events [] fine place (sym (append-nil phase.events)) in
        omega (arith, all)

-- Blocks

passes : SlotLaws → (design : FlatDesign) (fault : StuckAt) (slot : FirstSlot) (begins : State) (place : Place) (own : Moment) (pairs : List BlockPair) (marks : Marks) (kept : LockstepKept)
    (events more : List Event) → StandsInLockstep design fault slot begins place own pairs marks kept → place.left ≡ events ++ more →
    IsBetweenRuns (good_machine design) place.phase.begins (place.passed ++ events) →
    AllHold (LeavesValues design fault (kept_within kept (state_there (good_machine design) place))) (seen_from (good_machine design) (state_there (good_machine design) place) events) →
    AllHold (ActsElsewhere kept.writes) events →
    StandsInLockstep design fault slot begins (behind_events events more place) (after_events (faulty_machine design fault) events own) (pairs ++ Alike events ∷ []) marks kept
passes laws design fault slot begins place own pairs marks kept events more s left ends alone elsewhere =
    moved laws design fault slot begins place own pairs marks kept kept events more events (Alike events) s left
    (record {
      lockstep = record { good_comes = good_comes; own_comes = own_comes; lockstep = behind };
      between = ends;
      nothing_same = stays-other laws.stay design fault s.good_slot.rules kept (state_there (good_machine design) place) events good_in free elsewhere s.nothing_same;
      is = record {
        alike = laws.alike design fault marks (state_there (good_machine design) place) own.state events pass.alike;
        caused = laws.stretches (good_machine design) place.phase.begins place.passed events
            (record { rules = s.good_slot.rules; asked = s.lockstep.good_comes.phase_asked; possible = possible; rests = s.between.nodes });
      };
      good_is = refl;
      own_is = refl;
    })
    room
  where
    first : AreFirst (good_machine design) (state_there (good_machine design) place) events
    first = next-first laws.phases (good_machine design) slot place events more s.good_slot s.place_is left

    good_in : IsInPhase (good_machine design) (state_there (good_machine design) place)
    good_in = in-phase (good_machine design) (moment_there (good_machine design) slot place) s.lockstep.good_comes

    own_in : IsInPhase (faulty_machine design fault) own.state
    own_in = in-phase (faulty_machine design fault) own s.lockstep.own_comes

    free : AreFree design fault (apart_values kept.values) (state_there (good_machine design) place) events
    free = laws.index design fault (kept_within kept (state_there (good_machine design) place)) (state_there (good_machine design) place) own.state events s.good_slot.rules s.lockstep.lockstep
        s.nothing_same good_in own_in s.between.nodes first alone

    pass : PassWithWrites design fault kept.values kept.writes (state_there (good_machine design) place) own.state events
    pass = laws.writes design fault kept.values kept.writes (state_there (good_machine design) place) own.state events s.good_slot.rules s.lockstep.lockstep good_in own_in first free elsewhere

    room : own.steps + sum_by steps_of events + (sum_by steps_of more + sum_by phase_steps place.later) ≤ most_steps
    room =
        let now : own.steps + (sum_by steps_of place.left + sum_by phase_steps place.later) ≤ most_steps = s.room in
        let rest : sum_by steps_of place.left ≡ sum_by steps_of events + sum_by steps_of more = ap (sum_by steps_of) left ∙ sum_by-append steps_of events more in
        omega (arith, now, rest)

    good_comes : ComesTo (good_machine design) (after_events (good_machine design) events (moment_there (good_machine design) slot place))
    good_comes = laws.stretch (good_machine design) (moment_there (good_machine design) slot place) events s.good_slot.rules s.lockstep.good_comes first
        (good-room laws.phases (good_machine design) slot place events more s.good_slot s.place_is left)

    own_comes : ComesTo (faulty_machine design fault) (after_events (faulty_machine design fault) events own)
    own_comes = laws.stretch (faulty_machine design fault) own events s.good_slot.rules s.lockstep.own_comes pass.first (omega (arith, room))

    behind : AreInLockstep (kept_within kept (happened (good_machine design) (state_there (good_machine design) place) events))
        (after_events (good_machine design) events (moment_there (good_machine design) slot place)).state (after_events (faulty_machine design fault) events own).state
    behind =
        subst (λ (x : State). AreInLockstep (kept_within kept (happened (good_machine design) (state_there (good_machine design) place) events)) x
        (after_events (faulty_machine design fault) events own).state)
        (sym (ap (λ (at : Moment). at.state) (after-is (good_machine design) events (moment_there (good_machine design) slot place))))
        (subst (λ (x : State). AreInLockstep (kept_within kept (happened (good_machine design) (state_there (good_machine design) place) events))
        (happened (good_machine design) (state_there (good_machine design) place) events) x)
        (sym (ap (λ (at : Moment). at.state) (after-is (faulty_machine design fault) events own))) pass.lockstep)

    possible : IsTrue (all_possible (good_machine design) place.phase.begins (place.passed ++ events))
    possible = let there = subst (λ (at : Moment). ComesTo (good_machine design) at) (behind-there (good_machine design) slot place events more) good_comes in there.each_possible

runs : SlotLaws → (design : FlatDesign) (fault : StuckAt) (slot : FirstSlot) (begins : State) (place : Place) (own : Moment) (pairs : List BlockPair) (marks : Marks) (old new : LockstepKept)
    (parts : Parts)
    (ones more others : List Event) → StandsInLockstep design fault slot begins place own pairs marks old → place.left ≡ ones ++ more →
    IsWholeBlock (good_machine design) (state_there (good_machine design) place) ones →
    IsWholeBlock (faulty_machine design fault) own.state others → BlocksDiffer design fault parts (state_there (good_machine design) place) own.state ones others old new →
    TakeIn design fault marks (state_there (good_machine design) place) own.state ones others →
    own.steps + sum_by steps_of others + steps_left (behind_events ones more place) ≤ most_steps →
    StandsInLockstep design fault slot begins (behind_events ones more place) (after_events (faulty_machine design fault) others own) (pairs ++ unlike_pair ones others ∷ []) marks new
runs laws design fault slot begins place own pairs marks old new parts ones more others s left good_whole own_whole compared take room =
    moved laws design fault slot begins place own pairs marks old new ones more others (unlike_pair ones others) s left
    (record {
      lockstep = gone;
      between = (laws.join (good_machine design) place.phase.begins place.passed ones s.between).0 good_whole.ends;
      nothing_same = compared.compared.nothing_same;
      is = pair.is;
      good_is = pair.good_is;
      own_is = pair.own_is;
    })
    room
  where
    both_room : HaveRoom (moment_there (good_machine design) slot place) own ones others
    both_room =
        let few : own.steps + sum_by steps_of others + (sum_by steps_of more + sum_by phase_steps place.later) ≤ most_steps = room in
        record { good_room = good-room laws.phases (good_machine design) slot place ones more s.good_slot s.place_is left; own_room = omega (arith, few) }

    gone : InLockstepAt design fault (kept_within new (happened (good_machine design) (state_there (good_machine design) place) ones))
        (after_events (good_machine design) ones (moment_there (good_machine design) slot place)) (after_events (faulty_machine design fault) others own)
    gone = laws.goes.blocks design fault parts (moment_there (good_machine design) slot place) own ones others (kept_within old (state_there (good_machine design) place))
        (kept_within new (happened (good_machine design) (state_there (good_machine design) place) ones))
        s.good_slot.rules s.lockstep good_whole.first own_whole.first both_room compared.good_changes compared.own_changes good_whole.ends.nodes own_whole.ends.nodes
        (sets-anew design fault parts (state_there (good_machine design) place) own.state ones others old new compared)

    good_caused : AreCaused (good_machine design) (state_there (good_machine design) place) ones
    good_caused =
        let there = subst (λ (at : Moment). ComesTo (good_machine design) at) (behind-there (good_machine design) slot place ones more) gone.good_comes in
        whole-caused laws.follow laws.blocks (good_machine design) place.phase.begins place.passed ones
        (record { rules = s.good_slot.rules; asked = s.lockstep.good_comes.phase_asked; possible = there.each_possible; rests = s.between.nodes }) good_whole

    own_is : own.state ≡ happened (faulty_machine design fault) own.phase_begins own.events
    own_is = s.lockstep.own_comes.happened_so_far

    own_caused : AreCaused (faulty_machine design fault) own.state others
    own_caused =
        let there = subst (λ (at : Moment). ComesTo (faulty_machine design fault) at) (after-is (faulty_machine design fault) others own) gone.own_comes in
        subst (λ (x : State). AreCaused (faulty_machine design fault) x others) (sym own_is)
        (whole-caused laws.follow laws.blocks (faulty_machine design fault) own.phase_begins own.events others
        (record {
          rules = s.good_slot.rules;
          asked = s.lockstep.own_comes.phase_asked;
          possible = there.each_possible;
          rests = subst (λ (x : State). NoNodeWorks x) own_is
              (own-rests laws.side (kept_within old (state_there (good_machine design) place)) (state_there (good_machine design) place) own.state s.lockstep.lockstep s.between.nodes);
        }) (subst (λ (x : State). IsWholeBlock (faulty_machine design fault) x others) own_is own_whole))

    pair : IsUnlikePair design fault marks (state_there (good_machine design) place) own.state ones others
    pair = unlike-paired design fault marks (state_there (good_machine design) place) own.state ones others
        (laws.side (kept_within old (state_there (good_machine design) place)) (state_there (good_machine design) place) own.state s.lockstep.lockstep).first good_whole.some own_whole.some
        good_whole.first
        own_whole.first good_caused own_caused take

-- The end of a phase

-- the good machine's phase is through
record IsThrough (design : FlatDesign) (fault : StuckAt) (slot : FirstSlot) (place : Place) (own : Moment) : Type 0 where
  passed : place.phase.events ≡ place.passed
  idle : IsIdle (state_there (good_machine design) place)
  next : ComeNext (good_machine design) (state_there (good_machine design) place) place.later
  good_few : (moment_there (good_machine design) slot place).steps ≤ most_steps
  own_few : own.steps ≤ most_steps

through : SlotLaws → (design : FlatDesign) (fault : StuckAt) (slot : FirstSlot) (begins : State) (place : Place) (own : Moment) (pairs : List BlockPair) (marks : Marks) (kept : LockstepKept) →
    StandsInLockstep design fault slot begins place own pairs marks kept → place.left ≡ [] → IsThrough design fault slot place own
through laws design fault slot begins place own pairs marks kept s none = record {
  passed = passed;
  idle = subst (λ (events : List Event). IsIdle (happened (good_machine design) place.phase.begins events)) passed is.idle;
  next = subst (λ (events : List Event). ComeNext (good_machine design) (happened (good_machine design) place.phase.begins events) place.later) passed is.next;
  good_few =
      let zero_more : sum_by steps_of [] ≡ 0 = refl in
      let few : sum_by phase_steps place.ended + sum_by steps_of place.passed + sum_by steps_of [] ≤ most_steps =
      good-room laws.phases (good_machine design) slot place [] place.left s.good_slot s.place_is refl in
      omega (arith, few, zero_more);
  own_few = let few : own.steps + (sum_by steps_of place.left + sum_by phase_steps place.later) ≤ most_steps = s.room in omega (arith, few);
}
  where
    passed : place.phase.events ≡ place.passed
    passed = all-passed (good_machine design) slot place s.place_is none

    is : IsFollowed (good_machine design) place.phase place.later
    is = followed laws.phases (good_machine design) slot place s.good_slot s.place_is

good-race : (design : FlatDesign) (fault : StuckAt) (slot : FirstSlot) (begins : State) (place : Place) (own : Moment) (pairs : List BlockPair) (marks : Marks) (kept : LockstepKept) →
    StandsInLockstep design fault slot begins place own pairs marks kept → place.left ≡ [] → phase_race (good_machine design) place.phase.begins (good_phase pairs) ≡ None
good-race design fault slot begins place own pairs marks kept s none =
    ap (phase_race (good_machine design) place.phase.begins) (s.good_pairs ∙ sym (all-passed (good_machine design) slot place s.place_is none))
    ∙ no-race (good_machine design) slot place s.good_slot s.place_is

free : SlotLaws → (design : FlatDesign) (fault : StuckAt) (slot : FirstSlot) (begins : State) (place : Place) (own : Moment) (pairs : List BlockPair) (marks : Marks) (kept : LockstepKept) →
    StandsInLockstep design fault slot begins place own pairs marks kept → place.left ≡ [] → LeavesNoConflict design fault marks own.phase_begins pairs →
    phase_race (faulty_machine design fault) own.phase_begins own.events ≡ None
free laws design fault slot begins place own pairs marks kept s none clear =
    ap (phase_race (faulty_machine design fault) own.phase_begins) (sym s.own_pairs)
    ∙ laws.race design fault marks place.phase.begins own.phase_begins pairs s.blocks
    (holds-alike marks (held_accesses (good_machine design) place.phase.begins) (held_accesses (faulty_machine design fault) own.phase_begins) s.held) clear.waits
    (good-race design fault slot begins place own pairs marks kept s none) clear.suspects clear.others

widens : SlotLaws → (design : FlatDesign) (fault : StuckAt) (slot : FirstSlot) (begins : State) (place : Place) (own : Moment) (pairs : List BlockPair) (marks wider : Marks)
    (kept : LockstepKept) → StandsInLockstep design fault slot begins place own pairs marks kept → AreWider marks wider →
    StandsInLockstep design fault slot begins place own pairs wider kept
widens laws design fault slot begins place own pairs marks wider kept s w = record {
  good_slot = s.good_slot;
  place_is = s.place_is;
  own_begins = s.own_begins;
  lockstep = s.lockstep;
  between = s.between;
  nothing_same = s.nothing_same;
  room = s.room;
  held = s.held;
  good_pairs = s.good_pairs;
  own_pairs = s.own_pairs;
  blocks = laws.wider design fault marks wider place.phase.begins own.phase_begins pairs w s.blocks;
  clean = s.clean;
}

push : {A : Type 0} (P : A → Type 0) (xs : List A) (x : A) → AllHold P xs → P x → AllHold P (xs ++ x ∷ [])
push P [] x all here = (here, tt)
push P (first ∷ xs) x all here = (all.0, push P xs x all.1 here)

-- A turn

turns : SlotLaws → (design : FlatDesign) (fault : StuckAt) (slot : FirstSlot) (begins : State) (place : Place) (own : Moment) (pairs : List BlockPair) (marks other : Marks) (kept : LockstepKept)
    (next : Phase)
    (later : List Phase) (turn : TurnKind) → StandsInLockstep design fault slot begins place own pairs marks kept → place.left ≡ [] → place.later ≡ next ∷ later → next.turn ≡ Some turn →
    phase_race (faulty_machine design fault) own.phase_begins own.events ≡ None →
    StandsInLockstep design fault slot begins (next_phase next later place) (after_turn turn own) [] other (turned_kept slot.begins.time turn kept)
turns laws design fault slot begins place own pairs marks other kept next later turn s none later_is turn_is clean = record {
  good_slot = s.good_slot;
  place_is = record {
    phases_are = s.place_is.phases_are ∙ ap (λ (l : List Phase). place.ended ++ place.phase ∷ l) later_is ∙ sym (append_assoc place.ended (place.phase ∷ []) (next ∷ later));
    events_are = refl;
  };
  own_begins = s.own_begins;
  lockstep = subst (λ (x : State). InLockstepAt design fault (kept_within (turned_kept slot.begins.time turn kept) x) (moment_there (good_machine design) slot (next_phase next later place))
      (after_turn turn own))
      (sym next_begins)
      (subst (λ (at : Moment). InLockstepAt design fault (kept_within (turned_kept slot.begins.time turn kept) (turned turn (state_there (good_machine design) place))) at (after_turn turn own))
      (turned-there (good_machine design) slot place next later turn at_end.passed turn_is next_begins)
      (subst (λ (w : Within). InLockstepAt design fault w (after_turn turn (moment_there (good_machine design) slot place)) (after_turn turn own)) within_is gone.0));
  between = record { nodes = subst (λ (x : State). NoNodeWorks x) (sym next_begins) (turned-rests turn (state_there (good_machine design) place) s.between.nodes); runs = λ process. refl };
  nothing_same = subst (λ (x : State). KeepsNothingSame (kept_within (turned_kept slot.begins.time turn kept) x) x) (sym next_begins)
      (subst (λ (w : Within). KeepsNothingSame w (turned turn (state_there (good_machine design) place))) within_is
      (laws.same.turns (kept_within kept (state_there (good_machine design) place)) (state_there (good_machine design) place) own.state turn s.lockstep.lockstep s.nothing_same));
  room = room;
  held = ap (held_accesses (good_machine design)) next_begins ∙ gone.1;
  good_pairs = refl;
  own_pairs = refl;
  blocks = tt;
  clean = push (λ (phase : Phase). phase_race (faulty_machine design fault) phase.begins phase.events ≡ None) own.ended (present_phase own) s.clean clean;
}
  where
    at_end : IsThrough design fault slot place own
    at_end = through laws design fault slot begins place own pairs marks kept s none

    come : ComeNext (good_machine design) (state_there (good_machine design) place) (next ∷ later)
    come = subst (λ (l : List Phase). ComeNext (good_machine design) (state_there (good_machine design) place) l) later_is at_end.next

    turn_here : turn_of (state_there (good_machine design) place) ≡ Some turn
    turn_here = sym come.1.turn_is ∙ turn_is

    next_begins : next.begins ≡ turned turn (state_there (good_machine design) place)
    next_begins = come.1.begins_is ∙ ap (λ o. turned_by o (state_there (good_machine design) place)) turn_here

    time : (state_there (good_machine design) place).time ≡ slot.begins.time
    time = s.lockstep.good_comes.same_time

    within_is : turned_within (state_there (good_machine design) place).time turn (kept_within kept (state_there (good_machine design) place))
        ≡ kept_within (turned_kept slot.begins.time turn kept) (turned turn (state_there (good_machine design) place))
    within_is = within-turned turn kept (state_there (good_machine design) place) ∙ ap (λ (t : ℕ). kept_within (turned_kept t turn kept) (turned turn (state_there (good_machine design) place))) time

    gone : InLockstepAt design fault (turned_within (state_there (good_machine design) place).time turn (kept_within kept (state_there (good_machine design) place)))
        (after_turn turn (moment_there (good_machine design) slot place)) (after_turn turn own)
        × (held_accesses (good_machine design) (turned turn (state_there (good_machine design) place)) ≡ held_accesses (faulty_machine design fault) (turned turn own.state))
    gone = laws.goes.turns design fault (kept_within kept (state_there (good_machine design) place)) (moment_there (good_machine design) slot place) own turn s.good_slot.rules s.lockstep
        at_end.good_few at_end.own_few at_end.idle turn_here
        (sym (ap turn_in_slot turn_here) ∙ come.0)

    room : own.steps + (sum_by steps_of next.events + sum_by phase_steps later) ≤ most_steps
    room =
        let now : own.steps + (sum_by steps_of place.left + sum_by phase_steps place.later) ≤ most_steps = s.room in
        let rest : sum_by phase_steps place.later ≡ sum_by steps_of next.events + sum_by phase_steps later = ap (sum_by phase_steps) later_is ∙ sum_by-cons phase_steps next later in
        omega (arith, now, rest)

-- The slot's end

ends : SlotLaws → (design : FlatDesign) (fault : StuckAt) (slot : FirstSlot) (begins : State) (place : Place) (own : Moment) (pairs : List BlockPair) (marks : Marks) (kept : LockstepKept) →
    StandsInLockstep design fault slot begins place own pairs marks kept → place.left ≡ [] → place.later ≡ [] → phase_race (faulty_machine design fault) own.phase_begins own.events ≡ None →
    EndInLockstep design fault slot begins own kept
ends laws design fault slot begins place own pairs marks kept s none last clean = record {
  own_end = ap (λ (x : State). slot_end (faulty_machine design fault) (slot_from (faulty_machine design fault) x)) (sym s.own_begins) ∙ gone.1.ends.end_is;
  fine = ap (λ (x : State). slot_outcome (faulty_machine design fault) (slot_from (faulty_machine design fault) x)) (sym s.own_begins)
      ∙ gone.1.fine (push (λ (phase : Phase). phase_race (faulty_machine design fault) phase.begins phase.events ≡ None) own.ended (present_phase own) s.clean clean);
  lockstep = subst (λ (x : State). AreInLockstep (kept_within kept x) x own.state) (sym good_end) s.lockstep.lockstep;
  idle = subst (λ (x : State). IsIdle x) (sym good_end) at_end.idle;
  nothing_same = subst (λ (x : State). KeepsNothingSame (kept_within kept x) x) (sym good_end) s.nothing_same;
}
  where
    at_end : IsThrough design fault slot place own
    at_end = through laws design fault slot begins place own pairs marks kept s none

    no_turn : ComeNext (good_machine design) (state_there (good_machine design) place) []
    no_turn = subst (λ (l : List Phase). ComeNext (good_machine design) (state_there (good_machine design) place) l) last at_end.next

    gone : EndsAt (good_machine design) false (moment_there (good_machine design) slot place) × EndsInLockstep design fault own
    gone = laws.goes.ends design fault (kept_within kept (state_there (good_machine design) place)) (moment_there (good_machine design) slot place) own s.lockstep at_end.good_few at_end.own_few
        at_end.idle no_turn

    good_end : slot_end (good_machine design) slot ≡ state_there (good_machine design) place
    good_end = ap (slot_end (good_machine design)) s.good_slot.is ∙ gone.0.end_is

pub slots_in_lockstep : SlotLaws → SlotsInLockstep
slots_in_lockstep laws = record {
  begins = begins laws;
  passes = passes laws;
  runs = runs laws;
  widens = widens laws;
  free = free laws;
  turns = turns laws;
  ends = ends laws;
}
