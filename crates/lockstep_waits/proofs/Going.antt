-- Each process waits on objects of its body alone, in each state of a run.
use Rattle.std.proofs.Common.{◌≡◌, ℕ, zero, suc, ◌+◌, List, [], ◌∷◌, ◌++◌, Bool, true, false, refl, sym, subst}
use Rattle.std.specs.Prelude.{Option, Some, None, slice_get, nat_le}
use Rattle.vf_base.specs.Lists.{AllHold}
use Rattle.v_design.specs.Designs.{Machine}
use Rattle.v_design.specs.States.{State, Event, TurnKind, PostponedTurn, UpdatesTurn, TimeTurn, start, after, turn_of, time_turn}
use Rattle.v_design.specs.Runs.{Move, Happens, Turns, FirstSlot, happened, turned_by, made, all_made, only_if, first_moves, slot_end, is_hyper, next_slot_at, next_slot, first_slots, first_run}
use Rattle.v_design.specs.Grades.{Phase, cut}
use Rattle.copy_laws.specs.Windows.{state_by}
use Rattle.machine_laws.specs.SlotLoop.{Moment, ComesTo}
use Rattle.race_laws.proofs.Lists.{right}
use Rattle.wait_index.specs.Waits.{WaitsAreOfBodies, WaitsStay}
use Rattle.lockstep_waits.specs.Texts.{WaitsGoOn}

-- Events, turns and moves

pub events-wait : WaitsStay → (machine : Machine) (state : State) (events : List Event) → WaitsAreOfBodies machine state → WaitsAreOfBodies machine (happened machine state events)
events-wait laws machine state [] h = h
events-wait laws machine state (event ∷ events) h = events-wait laws machine (after machine state event) events (laws.events machine state event h)

turned_by-waits : WaitsStay → (machine : Machine) (turn : Option TurnKind) (state : State) → WaitsAreOfBodies machine state → WaitsAreOfBodies machine (turned_by turn state)
turned_by-waits laws machine None state h = h
turned_by-waits laws machine (Some kind) state h = laws.turns machine kind state h

moves-wait : WaitsStay → (machine : Machine) (state : State) (moves : List Move) → WaitsAreOfBodies machine state → WaitsAreOfBodies machine (all_made machine state moves)
moves-wait laws machine state [] h = h
moves-wait laws machine state (Happens event ∷ moves) h = moves-wait laws machine (after machine state event) moves (laws.events machine state event h)
moves-wait laws machine state (Turns ∷ moves) h = moves-wait laws machine (turned_by (turn_of state) state) moves (turned_by-waits laws machine (turn_of state) state h)

-- The slots of a first run

only-is : (b : Bool) (x y : State) → only_if b x ≡ Some y → x ≡ y
only-is true x y e = cc
only-is false x y e = cc

turn-waits : WaitsStay → (machine : Machine) (time : ℕ) (state next : State) (turn : Option TurnKind) → WaitsAreOfBodies machine state → next_slot_at time state turn ≡ Some next →
    WaitsAreOfBodies machine next
turn-waits laws machine time state next None h e = cc
turn-waits laws machine time state next (Some PostponedTurn) h e = cc
turn-waits laws machine time state next (Some UpdatesTurn) h e = cc
turn-waits laws machine time state next (Some (TimeTurn later)) h e =
    subst (WaitsAreOfBodies machine) (only-is (nat_le later time) (time_turn later state) next e) (laws.turns machine (TimeTurn later) state h)

next-waits : WaitsStay → (machine : Machine) (time : ℕ) (state next : State) (hyper : Bool) → WaitsAreOfBodies machine state →
    elim hyper [ true ↦ None | false ↦ next_slot_at time state (turn_of state) ] ≡ Some next → WaitsAreOfBodies machine next
next-waits laws machine time state next true h e = cc
next-waits laws machine time state next false h e = turn-waits laws machine time state next (turn_of state) h e

-- the slots after one
abbrev slots_on : ℕ → Machine → ℕ → Option State → List FirstSlot
slots_on count machine time found = elim found [ None ↦ [] | Some next ↦ first_slots count machine time next ]

slots-wait : WaitsStay → (machine : Machine) (time count : ℕ) (state : State) → WaitsAreOfBodies machine state → (number : ℕ) (slot : FirstSlot) →
    slice_get (first_slots count machine time state) number ≡ Some slot → WaitsAreOfBodies machine slot.begins
slots-wait laws machine time zero state h number slot e = cc
slots-wait laws machine time (suc count) state h zero slot e =
    let same : record { begins = state; moves = first_moves machine state } ≡ slot = cc in subst (λ (s : FirstSlot). WaitsAreOfBodies machine s.begins) same h
slots-wait laws machine time (suc count) state h (suc number) slot e =
    let first : FirstSlot = record { begins = state; moves = first_moves machine state } in
    go (next_slot machine time first)
    (λ next f. next-waits laws machine time (slot_end machine first) next (is_hyper first) (moves-wait laws machine state (first_moves machine state) h) f) e
    (λ next i f. slots-wait laws machine time count next i number slot f)
  where
    go : (found : Option State) → ((next : State) → found ≡ Some next → WaitsAreOfBodies machine next) → slice_get (slots_on count machine time found) number ≡ Some slot →
        ((next : State) → WaitsAreOfBodies machine next → slice_get (first_slots count machine time next) number ≡ Some slot → WaitsAreOfBodies machine slot.begins) →
        WaitsAreOfBodies machine slot.begins
    go None leads f rest = cc
    go (Some next) leads f rest = rest next (leads next refl) f

-- after some slots, up to a time
by-time : WaitsStay → (machine : Machine) (last : State) (slots : List FirstSlot) (time : ℕ) → WaitsAreOfBodies machine last →
    ((number : ℕ) (slot : FirstSlot) → slice_get slots number ≡ Some slot → WaitsAreOfBodies machine slot.begins) → WaitsAreOfBodies machine (state_by machine last slots time)
by-time laws machine last [] time h each = h
by-time laws machine last (slot ∷ slots) time h each =
    go (nat_le slot.begins.time time)
    (by-time laws machine (slot_end machine slot) slots time (moves-wait laws machine slot.begins slot.moves (each 0 slot refl)) (λ number other e. each (suc number) other e))
  where
    go : (b : Bool) → WaitsAreOfBodies machine (state_by machine (slot_end machine slot) slots time) →
        WaitsAreOfBodies machine (elim b [ true ↦ state_by machine (slot_end machine slot) slots time | false ↦ last ])
    go true later = later
    go false later = h

-- The phases of a slot

abbrev BeginsSo : Machine → Phase → Type 0
BeginsSo machine phase = WaitsAreOfBodies machine phase.begins

cut-waits : WaitsStay → (machine : Machine) (turn : Option TurnKind) (begins : State) (events : List Event) (state : State) (moves : List Move) → WaitsAreOfBodies machine begins →
    WaitsAreOfBodies machine state → AllHold (BeginsSo machine) (cut machine turn begins events state moves)
cut-waits laws machine turn begins events state [] b s = (b, tt)
cut-waits laws machine turn begins events state (Happens event ∷ moves) b s =
    cut-waits laws machine turn begins (events ++ event ∷ []) (after machine state event) moves b (laws.events machine state event s)
cut-waits laws machine turn begins events state (Turns ∷ moves) b s =
    let next : WaitsAreOfBodies machine (made machine state Turns) = turned_by-waits laws machine (turn_of state) state s in
    (b, cut-waits laws machine (turn_of state) (made machine state Turns) [] (made machine state Turns) moves next next)

phase-waits : WaitsStay → (machine : Machine) (at : Moment) → ComesTo machine at → WaitsAreOfBodies machine at.begins → WaitsAreOfBodies machine at.phase_begins
phase-waits laws machine at comes h =
    (right (BeginsSo machine) at.ended (cut machine at.turn at.phase_begins at.events at.state [])
    (subst (AllHold (BeginsSo machine)) (comes.cuts []) (cut-waits laws machine None at.begins [] at.begins (comes.moves ++ []) h h))).0

-- The law

pub waits_go_on : WaitsStay → WaitsGoOn
waits_go_on laws = record {
  at_start = laws.starts;
  after_events = events-wait laws;
  after_turn = λ machine state kind h. laws.turns machine kind state h;
  after_moves = moves-wait laws;
  slots_begin = λ machine time number slot e. slots-wait laws machine time (time + 1) (start machine) (laws.starts machine) number slot e;
  states_stand = λ machine end time.
      by-time laws machine (start machine) (first_run machine end) time (laws.starts machine)
      (λ number slot e. slots-wait laws machine end (end + 1) (start machine) (laws.starts machine) number slot e);
  phases_begin = phase-waits laws;
  moments = λ machine at comes h. subst (WaitsAreOfBodies machine) (sym comes.made_so_far) (moves-wait laws machine at.begins comes.moves h);
}
