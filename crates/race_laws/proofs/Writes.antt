-- In a run each process is to write objects of the design alone (IEEE 1364-2001, clauses 5 and 9.2).
use Rattle.std.proofs.Common.{◌≡◌, ℕ, zero, suc, ◌+◌, List, [], ◌∷◌, ◌++◌, Bool, true, false, refl, subst}
use Rattle.std.specs.Prelude.{Option, Some, None, slice_get}
use Rattle.vf_base.specs.Lists.{AllHold}
use Rattle.v_design.specs.Designs.{FlatDesign, Machine}
use Rattle.v_design.specs.Assignments.{ValueUpdate}
use Rattle.v_design.specs.Processes.{Action, ReadsObject, WritesObject, AppendsUpdate, TouchesNothing}
use Rattle.v_design.specs.States.{State, Event, TurnKind, PostponedTurn, UpdatesTurn, TimeTurn, start, after, process_at, first_update, step_of, write_of, turn_of, turned, time_turn}
use Rattle.v_design.specs.Runs.{Move, Happens, Turns, FirstSlot, happened, all_made, turned_by, only_if, first_moves, slot_end, is_hyper, next_slot_at, next_slot, first_slots}
use Rattle.v_design.specs.Writers.{activity_objects, later_objects, lane_objects}
use Rattle.race_laws.specs.Writes.{WritesAreOf, WritesStay, NextWritesAreOf}
use Rattle.race_laws.proofs.Lists.{both, left, right}
use Rattle.race_laws.proofs.Writers.{Clear, AreClear, BodiesClear, ActionClear, after-clear, step_of-clear}
use Rattle.race_laws.proofs.Turned.{turned-clear, start-clear}
use Rattle.race_laws.proofs.Named.{IsObject, body-below, bodies-below}

-- In the words of the law

all-clear : (P : ℕ → Type 0) (xs : List ℕ) → Clear P xs → AllHold P xs
all-clear P [] h = tt
all-clear P (x ∷ xs) h = (h.0, all-clear P xs h.1)

clear-all : (P : ℕ → Type 0) (xs : List ℕ) → AllHold P xs → Clear P xs
clear-all P [] h = tt
clear-all P (x ∷ xs) h = (h.0, clear-all P xs h.1)

writes-of : (design : FlatDesign) (state : State) → AreClear (IsObject design) state → WritesAreOf design state
writes-of design state h = record {
  objects = λ number.
      let p = process_at state number in
      both (IsObject design) (activity_objects p.activity) (later_objects p.later ++ lane_objects p.lane) (all-clear (IsObject design) (activity_objects p.activity) (h number).0)
      (both (IsObject design) (later_objects p.later) (lane_objects p.lane) (all-clear (IsObject design) (later_objects p.later) (h number).1.0)
      (all-clear (IsObject design) (lane_objects p.lane) (h number).1.1));
}

clear-of : (design : FlatDesign) (state : State) → WritesAreOf design state → AreClear (IsObject design) state
clear-of design state h number =
    let p = process_at state number in
    let behind = right (IsObject design) (activity_objects p.activity) (later_objects p.later ++ lane_objects p.lane) (h.objects number) in (
      clear-all (IsObject design) (activity_objects p.activity) (left (IsObject design) (activity_objects p.activity) (later_objects p.later ++ lane_objects p.lane) (h.objects number)),
      (
        clear-all (IsObject design) (later_objects p.later) (left (IsObject design) (later_objects p.later) (lane_objects p.lane) behind),
        clear-all (IsObject design) (lane_objects p.lane) (right (IsObject design) (later_objects p.later) (lane_objects p.lane) behind),
      ),
    )

-- Events and turns

events-clear : (P : ℕ → Type 0) (machine : Machine) (state : State) (events : List Event) → BodiesClear P machine → AreClear P state → AreClear P (happened machine state events)
events-clear P machine state [] b h = h
events-clear P machine state (event ∷ events) b h = events-clear P machine (after machine state event) events b (after-clear P machine state event b h)

turned_by-clear : (P : ℕ → Type 0) (turn : Option TurnKind) (state : State) → AreClear P state → AreClear P (turned_by turn state)
turned_by-clear P None state h = h
turned_by-clear P (Some kind) state h = turned-clear P kind state h

moves-clear : (P : ℕ → Type 0) (machine : Machine) (state : State) (moves : List Move) → BodiesClear P machine → AreClear P state → AreClear P (all_made machine state moves)
moves-clear P machine state [] b h = h
moves-clear P machine state (Happens event ∷ moves) b h = moves-clear P machine (after machine state event) moves b (after-clear P machine state event b h)
moves-clear P machine state (Turns ∷ moves) b h = moves-clear P machine (turned_by (turn_of state) state) moves b (turned_by-clear P (turn_of state) state h)

-- The slots of the first run

only-is : (b : Bool) (x y : State) → only_if b x ≡ Some y → x ≡ y
only-is true x y e = cc
only-is false x y e = cc

turn-clear : (P : ℕ → Type 0) (time : ℕ) (state next : State) (turn : Option TurnKind) → AreClear P state → next_slot_at time state turn ≡ Some next → AreClear P next
turn-clear P time state next None h e = cc
turn-clear P time state next (Some PostponedTurn) h e = cc
turn-clear P time state next (Some UpdatesTurn) h e = cc
turn-clear P time state next (Some (TimeTurn later)) h e = subst (AreClear P) (only-is _ (time_turn later state) next e) (turned-clear P (TimeTurn later) state h)

next-clear : (P : ℕ → Type 0) (time : ℕ) (state next : State) (hyper : Bool) → AreClear P state →
    elim hyper [ true ↦ None | false ↦ next_slot_at time state (turn_of state) ] ≡ Some next → AreClear P next
next-clear P time state next true h e = cc
next-clear P time state next false h e = turn-clear P time state next (turn_of state) h e

-- the slots after one
abbrev slots_on : ℕ → Machine → ℕ → Option State → List FirstSlot
slots_on count machine time found = elim found [ None ↦ [] | Some next ↦ first_slots count machine time next ]

slots-clear : (P : ℕ → Type 0) (machine : Machine) (time : ℕ) → BodiesClear P machine → (count : ℕ) (state : State) → AreClear P state → (number : ℕ) (slot : FirstSlot) →
    slice_get (first_slots count machine time state) number ≡ Some slot → AreClear P slot.begins
slots-clear P machine time b zero state h number slot e = cc
slots-clear P machine time b (suc count) state h zero slot e =
    let same : record { begins = state; moves = first_moves machine state } ≡ slot = cc in subst (λ (s : FirstSlot). AreClear P s.begins) same h
slots-clear P machine time b (suc count) state h (suc number) slot e =
    let first : FirstSlot = record { begins = state; moves = first_moves machine state } in
    go (next_slot machine time first) (λ next f. next-clear P time (slot_end machine first) next (is_hyper first) (moves-clear P machine state (first_moves machine state) b h) f) e
    (λ next i f. slots-clear P machine time b count next i number slot f)
  where
    go : (found : Option State) → ((next : State) → found ≡ Some next → AreClear P next) → slice_get (slots_on count machine time found) number ≡ Some slot →
        ((next : State) → AreClear P next → slice_get (first_slots count machine time next) number ≡ Some slot → AreClear P slot.begins) → AreClear P slot.begins
    go None leads f rest = cc
    go (Some next) leads f rest = rest next (leads next refl) f

-- The law

pub writes_stay : WritesStay
writes_stay = record {
  at_start = λ machine rules. writes-of machine.design (start machine) (start-clear (IsObject machine.design) machine.design.processes (body-below machine.design rules));
  after_events = λ machine state events rules h. writes-of machine.design (happened machine state events)
      (events-clear (IsObject machine.design) machine state events (bodies-below machine rules) (clear-of machine.design state h));
  after_turn = λ design state kind h. writes-of design (turned kind state) (turned-clear (IsObject design) kind state (clear-of design state h));
  after_moves = λ machine state moves rules h. writes-of machine.design (all_made machine state moves)
      (moves-clear (IsObject machine.design) machine state moves (bodies-below machine rules) (clear-of machine.design state h));
  slots_begin = λ machine time number slot rules e. writes-of machine.design slot.begins
      (slots-clear (IsObject machine.design) machine time (bodies-below machine rules) (time + 1) (start machine)
      (start-clear (IsObject machine.design) machine.design.processes (body-below machine.design rules)) number slot e);
}

-- The next update

lane-clear : (P : ℕ → Type 0) (lane : List ValueUpdate) (update : ValueUpdate) → Clear P (lane_objects lane) → first_update lane ≡ Some update → P update.object
lane-clear P [] update h e = cc
lane-clear P (first ∷ rest) update h e = let same : first ≡ update = cc in subst (λ (u : ValueUpdate). P u.object) same h.0

write-clear : (P : ℕ → Type 0) (action : Action) (update : ValueUpdate) → ActionClear P action → write_of action ≡ Some update → P update.object
write-clear P (ReadsObject object) update h e = cc
write-clear P (WritesObject written) update h e = let same : written ≡ update = cc in subst (λ (u : ValueUpdate). P u.object) same h
write-clear P (AppendsUpdate delay later) update h e = cc
write-clear P TouchesNothing update h e = cc

pub next_writes : NextWritesAreOf
next_writes = record {
  lane = λ design state number update h e. lane-clear (IsObject design) (process_at state number).lane update (clear-of design state h number).1.1 e;
  step = λ machine state number update rules h e.
      write-clear (IsObject machine.design) (step_of machine state number).action update
      (step_of-clear (IsObject machine.design) machine state number (bodies-below machine rules) (clear-of machine.design state h)).0 e;
}
