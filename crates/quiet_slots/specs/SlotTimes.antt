-- A slot takes no time (IEEE 1364-2001, clause 5).
use Rattle.std.proofs.Common.{◌≡◌, ℕ, zero, suc, ◌+◌, List, [], ◌∷◌, refl, ap, ◌∙◌}
use Rattle.std.specs.Prelude.{Option, Some, None}
use Rattle.v_design.specs.Designs.{Machine}
use Rattle.v_design.specs.States.{State, Event, TurnKind, PostponedTurn, UpdatesTurn, TimeTurn, after, turn_of}
use Rattle.v_design.specs.Runs.{Move, Happens, first_event, turn_in_slot, event_or_turn, turned_by, made, all_made, is_counted, less_one_if, slot_moves, most_steps, most_moves, slot_end}
use Rattle.machine_laws.specs.SlotLoop.{slot_from}
use Rattle.copy_laws.specs.OwnRuns.{EventsTakeNoTime}

abbrev moves_from : ℕ → ℕ → Machine → State → Option Move → List Move
moves_from most left machine state None = []
moves_from most left machine state (Some move) = move ∷ slot_moves most (less_one_if (is_counted move) (suc left)) machine (made machine state move)

abbrev TakeNoTime : Machine → ℕ → Type 0
TakeNoTime machine most = (left : ℕ) (state : State) → (all_made machine state (slot_moves most left machine state)).time ≡ state.time

turn-time : (machine : Machine) (most left : ℕ) (state : State) → TakeNoTime machine most → (turn : Option TurnKind) → turn_of state ≡ turn →
    (all_made machine state (moves_from most left machine state (turn_in_slot turn))).time ≡ state.time
turn-time machine most left state rest None t = refl
turn-time machine most left state rest (Some (TimeTurn time)) t = refl
turn-time machine most left state rest (Some PostponedTurn) t = rest (suc left) (turned_by (turn_of state) state) ∙ ap (λ o. (turned_by o state).time) t
turn-time machine most left state rest (Some UpdatesTurn) t = rest (suc left) (turned_by (turn_of state) state) ∙ ap (λ o. (turned_by o state).time) t

move-time : EventsTakeNoTime → (machine : Machine) (most left : ℕ) (state : State) → TakeNoTime machine most → (found : Option Event) →
    (all_made machine state (moves_from most left machine state (event_or_turn found (turn_of state)))).time ≡ state.time
move-time law machine most left state rest (Some event) =
    rest (less_one_if (is_counted (Happens event)) (suc left)) (after machine state event) ∙ law machine state (event ∷ [])
move-time law machine most left state rest None = turn-time machine most left state rest (turn_of state) refl

moves-time : EventsTakeNoTime → (machine : Machine) (most : ℕ) → TakeNoTime machine most
moves-time law machine zero left state = refl
moves-time law machine (suc most) zero state = refl
moves-time law machine (suc most) (suc left) state = move-time law machine most left state (moves-time law machine most) (first_event state)

-- at a slot's end it is the time at which the slot begins
pub slot-time : EventsTakeNoTime → (machine : Machine) (begins : State) → (slot_end machine (slot_from machine begins)).time ≡ begins.time
slot-time law machine begins = moves-time law machine (most_moves machine) (most_steps + 1) begins
