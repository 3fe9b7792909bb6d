-- Each process may stand where it does.
use Rattle.std.proofs.Common.{◌≡◌, ℕ, zero, suc, ◌+◌, ◌≤◌, List, [], ◌∷◌, Bool, true, false, refl, subst, arith}
use Rattle.std.specs.Prelude.{Option, Some, None, slice_get, nat_le}
use Rattle.std.proofs.lemmas.Bool.{leb-true}
use Rattle.v_design.specs.Trees.{Entry}
use Rattle.v_design.specs.Designs.{Machine}
use Rattle.v_design.specs.States.{State, Event, TurnKind, PostponedTurn, UpdatesTurn, TimeTurn, start, after, turn_of, turned, time_turn}
use Rattle.v_design.specs.Runs.{Move, Happens, Turns, FirstSlot, happened, turned_by, made, all_made, only_if, first_moves, slot_end, is_hyper, next_slot_at, next_slot, first_slots, first_run}
use Rattle.v_design.specs.WellFormed.{KeepsRules}
use Rattle.process_table.specs.Waited.{IsWaitable, body_of}
use Rattle.process_table.proofs.Bodies.{bodies-waitable}
use Rattle.moments_stand.specs.Standing.{AllMayStand, MomentsStand}
use Rattle.moments_stand.proofs.Processes.{AllStand, event-stands, start-stands, turn-stands}

-- the entries for which a process may wait
abbrev May : Machine → ℕ → Entry → Type 0
May machine n entry = IsWaitable machine.design (body_of machine.design n) entry

parts-of : (machine : Machine) (state : State) → AllMayStand machine.design state → AllStand (May machine) state.time state.processes
parts-of machine state h n = (((h n).waits, (h n).after.0), (h n).after.1)

whole-of : (machine : Machine) (state : State) → AllStand (May machine) state.time state.processes → AllMayStand machine.design state
whole-of machine state h n = record { waits = (h n).0.0; after = ((h n).0.1, (h n).1) }

turned-stands : (machine : Machine) (state : State) (turn : TurnKind) → turn_of state ≡ Some turn → AllMayStand machine.design state → AllMayStand machine.design (turned turn state)
turned-stands machine state turn e h = whole-of machine (turned turn state) (turn-stands (May machine) state turn e (parts-of machine state h))

-- The slots of a first run

-- what holds as the first one begins, and of each next one, holds as each begins
slots-hold : (P : State → Type 0) (machine : Machine) (time count : ℕ) →
    ((state next : State) → P state → next_slot machine time (record { begins = state; moves = first_moves machine state }) ≡ Some next → P next) → (state : State) → P state →
    (number : ℕ) (slot : FirstSlot) → slice_get (first_slots count machine time state) number ≡ Some slot → P slot.begins
slots-hold P machine time zero leads state h number slot e = cc
slots-hold P machine time (suc count) leads state h zero slot e =
    let same : record { begins = state; moves = first_moves machine state } ≡ slot = cc in subst (λ (s : FirstSlot). P s.begins) same h
slots-hold P machine time (suc count) leads state h (suc number) slot e =
    go (next_slot machine time (record { begins = state; moves = first_moves machine state })) (λ next f. leads state next h f) e
    (λ next i f. slots-hold P machine time count leads next i number slot f)
  where
    go : (found : Option State) → ((next : State) → found ≡ Some next → P next) →
        slice_get (elim found as (λ _. List FirstSlot) [ None ↦ [] | Some next ↦ first_slots count machine time next ]) number ≡ Some slot →
        ((next : State) → P next → slice_get (first_slots count machine time next) number ≡ Some slot → P slot.begins) → P slot.begins
    go None leads f rest = cc
    go (Some next) leads f rest = rest next (leads next refl) f

-- each begins at the end of the run at most
next-within : (time : ℕ) (state next : State) (hyper : Bool) →
    elim hyper as (λ _. Option State) [ true ↦ None | false ↦ next_slot_at time state (turn_of state) ] ≡ Some next → next.time ≤ time
next-within time state next true e = cc
next-within time state next false e = go (turn_of state) e
  where
    within : (later : ℕ) (b : Bool) → nat_le later time ≡ b → only_if b (time_turn later state) ≡ Some next → next.time ≤ time
    within later true low f =
        let same : time_turn later state ≡ next = cc in
        let early : later ≤ time = leb-true later time low in
        subst (λ (s : State). s.time ≤ time) same early
    within later false low f = cc

    go : (turn : Option TurnKind) → next_slot_at time state turn ≡ Some next → next.time ≤ time
    go None f = cc
    go (Some PostponedTurn) f = cc
    go (Some UpdatesTurn) f = cc
    go (Some (TimeTurn later)) f = within later (nat_le later time) refl f

run-within : (machine : Machine) (end number : ℕ) (slot : FirstSlot) → slice_get (first_run machine end) number ≡ Some slot → slot.begins.time ≤ end
run-within machine end number slot e =
    slots-hold (λ (s : State). s.time ≤ end) machine end (end + 1)
    (λ state next h f. next-within end (slot_end machine (record { begins = state; moves = first_moves machine state })) next
    (is_hyper (record { begins = state; moves = first_moves machine state })) f) (start machine) (omega arith) number slot e

-- Events, turns and moves

module _ (machine : Machine) (rules : KeepsRules machine.design) where
  move-stands : (state : State) (move : Move) → AllMayStand machine.design state → AllMayStand machine.design (made machine state move)
  move-stands state (Happens event) h =
      whole-of machine (after machine state event) (event-stands (May machine) machine (bodies-waitable machine.design rules) state event (parts-of machine state h))
  move-stands state Turns h = go (turn_of state) refl
    where
      go : (turn : Option TurnKind) → turn_of state ≡ turn → AllMayStand machine.design (turned_by turn state)
      go None e = h
      go (Some turn) e = turned-stands machine state turn e h

  moves-stand : (state : State) (moves : List Move) → AllMayStand machine.design state → AllMayStand machine.design (all_made machine state moves)
  moves-stand state [] h = h
  moves-stand state (move ∷ moves) h = moves-stand (made machine state move) moves (move-stands state move h)

  events-stand : (state : State) (events : List Event) → AllMayStand machine.design state → AllMayStand machine.design (happened machine state events)
  events-stand state [] h = h
  events-stand state (event ∷ events) h = events-stand (after machine state event) events (move-stands state (Happens event) h)

  only-is : (b : Bool) (x y : State) → only_if b x ≡ Some y → x ≡ y
  only-is true x y e = cc
  only-is false x y e = cc

  next-stands : (time : ℕ) (state next : State) (hyper : Bool) → AllMayStand machine.design state →
      elim hyper as (λ _. Option State) [ true ↦ None | false ↦ next_slot_at time state (turn_of state) ] ≡ Some next → AllMayStand machine.design next
  next-stands time state next true h e = cc
  next-stands time state next false h e = go (turn_of state) refl e
    where
      go : (turn : Option TurnKind) → turn_of state ≡ turn → next_slot_at time state turn ≡ Some next → AllMayStand machine.design next
      go None is f = cc
      go (Some PostponedTurn) is f = cc
      go (Some UpdatesTurn) is f = cc
      go (Some (TimeTurn later)) is f =
          subst (AllMayStand machine.design) (only-is (nat_le later time) (time_turn later state) next f) (turned-stands machine state (TimeTurn later) is h)

  run-stands : (end number : ℕ) (slot : FirstSlot) → slice_get (first_run machine end) number ≡ Some slot → AllMayStand machine.design slot.begins
  run-stands end number slot e =
      slots-hold (AllMayStand machine.design) machine end (end + 1)
      (λ state next h f. next-stands end (slot_end machine (record { begins = state; moves = first_moves machine state })) next
      (is_hyper (record { begins = state; moves = first_moves machine state })) (moves-stand state (first_moves machine state) h) f) (start machine)
      (whole-of machine (start machine) (start-stands (May machine) machine (bodies-waitable machine.design rules))) number slot e

pub moments_stand : MomentsStand
moments_stand = record {
  events = λ machine state events rules h. events-stand machine rules state events h;
  turns = turned-stands;
  moves = λ machine state moves rules h. moves-stand machine rules state moves h;
  slots = λ machine end number slot rules e. run-stands machine rules end number slot e;
  in_time = run-within;
}
