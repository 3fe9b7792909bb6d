-- Moments and places behind events.
use Rattle.std.proofs.Common.{◌≡◌, ◌+◌, List, [], ◌∷◌, ◌++◌, refl, sym, ap, subst, ◌∙◌, arith}
use Rattle.std.specs.Prelude.{Option, Some, None, sum_by}
use Rattle.std.proofs.lemmas.List.Sums.{sum_by-append, sum_by-cons}
use Rattle.v_design.specs.Designs.{Machine}
use Rattle.v_design.specs.States.{State, Event, TurnKind, turn_of, turned}
use Rattle.v_design.specs.Runs.{Turns, FirstSlot, happened, turned_by, turn_in_slot}
use Rattle.v_design.specs.Grades.{Phase}
use Rattle.machine_laws.specs.SlotLoop.{Moment, after_event, after_events, steps_of}
use Rattle.copy_laws.specs.Beside.{AreFirst}
use Rattle.phase_order.specs.Order.{ComeNext, FirstEventsSplit, PhasesFollow, phase_steps}
use Rattle.order_laws.proofs.ToFront.{happened-append}
use Rattle.lockstep_notes.specs.lockstep_slots.Places.{Place, IsPlaceOf, IsFineSlot, state_there, steps_left, behind_events, next_phase}
use Rattle.lockstep_notes.proofs.lockstep_slots.Followed.{all-passed, followed}

-- Behind some events

pub behind-begins : (machine : Machine) (events : List Event) (at : Moment) → (after_events machine events at).phase_begins ≡ at.phase_begins
behind-begins machine [] at = refl
behind-begins machine (event ∷ events) at = behind-begins machine events (after_event machine event at)

pub behind-state : (machine : Machine) (events : List Event) (at : Moment) → (after_events machine events at).state ≡ happened machine at.state events
behind-state machine [] at = refl
behind-state machine (event ∷ events) at = behind-state machine events (after_event machine event at)

pub behind-steps : (machine : Machine) (events : List Event) (at : Moment) → (after_events machine events at).steps ≡ at.steps + sum_by steps_of events
behind-steps machine [] at = let none : sum_by steps_of [] ≡ 0 = refl in omega (arith, none)
behind-steps machine (event ∷ events) at =
    let rest = behind-steps machine events (after_event machine event at) in
    let more : sum_by steps_of (event ∷ events) ≡ steps_of event + sum_by steps_of events = sum_by-cons steps_of event events in
    omega (arith, rest, more)

pub place-behind : (machine : Machine) (place : Place) (events more : List Event) → state_there machine (behind_events events more place) ≡ happened machine (state_there machine place) events
place-behind machine place events more = happened-append machine place.phase.begins place.passed events

pub left-behind : (place : Place) (events more : List Event) → place.left ≡ events ++ more → steps_left place ≡ sum_by steps_of events + steps_left (behind_events events more place)
left-behind place events more left =
    let all : sum_by steps_of place.left ≡ sum_by steps_of events + sum_by steps_of more = ap (sum_by steps_of) left ∙ sum_by-append steps_of events more in omega (arith, all)

-- the next events of a place are those of the first order
pub next-first : PhasesFollow → FirstEventsSplit → (machine : Machine) (slot : FirstSlot) (place : Place) (events more : List Event) → IsFineSlot machine slot → IsPlaceOf machine slot place →
    place.left ≡ events ++ more → AreFirst machine (state_there machine place) events
next-first law split machine slot place events more s is left =
    let all = subst (AreFirst machine place.phase.begins) is.events_are (followed law machine slot place s is).first in
    let rest = ((split machine place.phase.begins place.passed place.left).1 all).1 in
    ((split machine (state_there machine place) events more).1 (subst (AreFirst machine (state_there machine place)) left rest)).0

-- A turn

-- the turn of the next phase
pub record TurnsTo (machine : Machine) (place : Place) (next : Phase) : Type 0 where
  pub turn : TurnKind
  pub turn_is : next.turn ≡ Some turn
  pub comes : turn_of (state_there machine place) ≡ Some turn
  pub begins : next.begins ≡ turned turn (state_there machine place)

some-turn : (found : Option TurnKind) → turn_in_slot found ≡ Some Turns → (turn : TurnKind) × (found ≡ Some turn)
some-turn None e = cc
some-turn (Some turn) e = (turn, refl)

pub turns-to : PhasesFollow → (machine : Machine) (slot : FirstSlot) (place : Place) (next : Phase) (later : List Phase) → IsFineSlot machine slot → IsPlaceOf machine slot place →
    place.left ≡ [] → place.later ≡ next ∷ later → TurnsTo machine place next
turns-to law machine slot place next later s is none follows =
    let comes : ComeNext machine (happened machine place.phase.begins place.phase.events) (next ∷ later) = subst (ComeNext machine _) follows (followed law machine slot place s is).next in
    let end : happened machine place.phase.begins place.phase.events ≡ state_there machine place = ap (happened machine place.phase.begins) (all-passed machine slot place is none) in
    let here : turn_in_slot (turn_of (state_there machine place)) ≡ Some Turns = ap (λ (x : State). turn_in_slot (turn_of x)) (sym end) ∙ comes.0 in
    let turn = some-turn (turn_of (state_there machine place)) here in
    record {
      turn = turn.0;
      turn_is = comes.1.turn_is ∙ ap turn_of end ∙ turn.1;
      comes = turn.1;
      begins = comes.1.begins_is ∙ ap (λ (x : State). turned_by (turn_of x) x) end ∙ ap (λ (t : Option TurnKind). turned_by t (state_there machine place)) turn.1;
    }

-- the steps that are left stay over a turn
pub left-turned : (place : Place) (next : Phase) (later : List Phase) → place.left ≡ [] → place.later ≡ next ∷ later → steps_left place ≡ steps_left (next_phase next later place)
left-turned place next later none follows =
    let now : sum_by steps_of place.left ≡ 0 = ap (sum_by steps_of) none in
    let all : sum_by phase_steps place.later ≡ sum_by steps_of next.events + sum_by phase_steps later = ap (sum_by phase_steps) follows ∙ sum_by-cons phase_steps next later in
    omega (arith, now, all)
