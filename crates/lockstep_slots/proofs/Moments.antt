-- The moments at the places of a slot.
use Rattle.std.proofs.Common.{◌≡◌, ◌+◌, List, [], ◌∷◌, ◌++◌, refl, sym, ap, ◌∙◌, arith}
use Rattle.std.specs.Prelude.{Some, None, sum_by}
use Rattle.std.proofs.lemmas.List.{append-nil, append_assoc}
use Rattle.std.proofs.lemmas.List.Sums.{sum_by-append, sum_by-cons}
use Rattle.v_design.specs.Designs.{Machine}
use Rattle.v_design.specs.States.{Event, TurnKind, after, turned}
use Rattle.v_design.specs.Runs.{FirstSlot, happened}
use Rattle.v_design.specs.Grades.{Phase}
use Rattle.machine_laws.specs.SlotLoop.{Moment, steps_of, first_moment, after_event, after_events, after_turn}
use Rattle.phase_order.specs.Order.{phase_steps}
use Rattle.phase_blocks.proofs.Lists.{happened-append}
use Rattle.lockstep_slots.specs.Places.{Place, state_there, moment_there, first_place, behind_events, next_phase}

-- the moment behind some events, part by part
abbrev pub stretched : Machine → List Event → Moment → Moment
stretched machine events at = record {
  begins = at.begins;
  ended = at.ended;
  turn = at.turn;
  phase_begins = at.phase_begins;
  events = at.events ++ events;
  steps = at.steps + sum_by steps_of events;
  state = happened machine at.state events;
}

pub after-is : (machine : Machine) (events : List Event) (at : Moment) → after_events machine events at ≡ stretched machine events at
after-is machine [] at =
    let none : sum_by steps_of [] ≡ 0 = refl in
    let same : at.steps ≡ at.steps + sum_by steps_of [] = omega (arith, none) in
    λ i. record {
      begins = at.begins;
      ended = at.ended;
      turn = at.turn;
      phase_begins = at.phase_begins;
      events = sym (append-nil at.events) i;
      steps = same i;
      state = at.state;
    }
after-is machine (event ∷ events) at =
    let one : sum_by steps_of (event ∷ events) ≡ steps_of event + sum_by steps_of events = sum_by-cons steps_of event events in
    let same : at.steps + steps_of event + sum_by steps_of events ≡ at.steps + sum_by steps_of (event ∷ events) = omega (arith, one) in
    after-is machine events (after_event machine event at)
    ∙ (λ i. record {
      begins = at.begins;
      ended = at.ended;
      turn = at.turn;
      phase_begins = at.phase_begins;
      events = append_assoc at.events (event ∷ []) events i;
      steps = same i;
      state = happened machine (after machine at.state event) events;
    })

pub first-there : (machine : Machine) (slot : FirstSlot) (phase : Phase) (later : List Phase) → phase.turn ≡ None → phase.begins ≡ slot.begins →
    moment_there machine slot (first_place phase later) ≡ first_moment slot.begins
first-there machine slot phase later turn begins =
    let none : sum_by steps_of [] ≡ 0 = refl in
    let no_phase : sum_by phase_steps [] ≡ 0 = refl in
    let same : sum_by phase_steps [] + sum_by steps_of [] ≡ 0 = omega (arith, none, no_phase) in
    λ i. record { begins = slot.begins; ended = []; turn = turn i; phase_begins = begins i; events = []; steps = same i; state = begins i }

pub behind-there : (machine : Machine) (slot : FirstSlot) (place : Place) (events more : List Event) →
    after_events machine events (moment_there machine slot place) ≡ moment_there machine slot (behind_events events more place)
behind-there machine slot place events more =
    let all : sum_by steps_of (place.passed ++ events) ≡ sum_by steps_of place.passed + sum_by steps_of events = sum_by-append steps_of place.passed events in
    let same : sum_by phase_steps place.ended + sum_by steps_of place.passed + sum_by steps_of events ≡ sum_by phase_steps place.ended + sum_by steps_of (place.passed ++ events) =
    omega (arith, all) in
    after-is machine events (moment_there machine slot place)
    ∙ (λ i. record {
      begins = slot.begins;
      ended = place.ended;
      turn = place.phase.turn;
      phase_begins = place.phase.begins;
      events = place.passed ++ events;
      steps = same i;
      state = sym (happened-append machine place.phase.begins place.passed events) i;
    })

pub turned-there : (machine : Machine) (slot : FirstSlot) (place : Place) (next : Phase) (later : List Phase) (turn : TurnKind) → place.phase.events ≡ place.passed → next.turn ≡ Some turn →
    next.begins ≡ turned turn (state_there machine place) → after_turn turn (moment_there machine slot place) ≡ moment_there machine slot (next_phase next later place)
turned-there machine slot place next later turn passed turn_is begins =
    let more : sum_by phase_steps (place.ended ++ place.phase ∷ []) ≡ sum_by phase_steps place.ended + sum_by phase_steps (place.phase ∷ []) =
    sum_by-append phase_steps place.ended (place.phase ∷ []) in
    let one : sum_by phase_steps (place.phase ∷ []) ≡ sum_by steps_of place.phase.events + sum_by phase_steps [] = sum_by-cons phase_steps place.phase [] in
    let no_phase : sum_by phase_steps [] ≡ 0 = refl in
    let none : sum_by steps_of [] ≡ 0 = refl in
    let all : sum_by steps_of place.phase.events ≡ sum_by steps_of place.passed = ap (sum_by steps_of) passed in
    let same : sum_by phase_steps place.ended + sum_by steps_of place.passed ≡ sum_by phase_steps (place.ended ++ place.phase ∷ []) + sum_by steps_of [] =
    omega (arith, more, one, no_phase, none, all) in
    λ i. record {
      begins = slot.begins;
      ended = place.ended ++ record { turn = place.phase.turn; begins = place.phase.begins; events = sym passed i } ∷ [];
      turn = sym turn_is i;
      phase_begins = sym begins i;
      events = [];
      steps = same i;
      state = sym begins i;
    }
