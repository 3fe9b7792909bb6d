-- The phases of moves that follow one another.
use Rattle.std.proofs.Common.{◌≡◌, ℕ, List, [], ◌∷◌, ◌++◌, refl, ap}
use Rattle.std.specs.Prelude.{Option}
use Rattle.vf_base.specs.Lists.{AllHold}
use Rattle.v_design.specs.Designs.{Machine}
use Rattle.v_design.specs.States.{State, Event, TurnKind, after, turn_of}
use Rattle.v_design.specs.Runs.{Move, Happens, Turns, made, all_made}
use Rattle.v_design.specs.Grades.{cut, first_race}
use Rattle.order_laws.proofs.RunsEndAlike.{NoConflicts}

pub hold-append : {A : Type 0} (P : A → Type 0) (xs ys : List A) → AllHold P xs → AllHold P ys → AllHold P (xs ++ ys)
hold-append P [] ys h i = i
hold-append P (x ∷ xs) ys h i = (h.0, hold-append P xs ys h.1 i)

-- the turn that a phase begins with says nothing of its conflicts
pub free_turn : (machine : Machine) (turn other : Option TurnKind) (moves : List Move) (begins : State) (events : List Event) (state : State) →
    NoConflicts machine (cut machine turn begins events state moves) →
    NoConflicts machine (cut machine other begins events state moves)
free_turn machine turn other [] begins events state h = h
free_turn machine turn other (Happens event ∷ moves) begins events state h = free_turn machine turn other moves begins (events ++ event ∷ []) (after machine state event) h
free_turn machine turn other (Turns ∷ moves) begins events state h = h

pub race_turn : (machine : Machine) (turn other : Option TurnKind) (number : ℕ) (moves : List Move) (begins : State) (events : List Event) (state : State) →
    first_race machine number (cut machine turn begins events state moves) ≡ first_race machine number (cut machine other begins events state moves)
race_turn machine turn other number [] begins events state = refl
race_turn machine turn other number (Happens event ∷ moves) begins events state = race_turn machine turn other number moves begins (events ++ event ∷ []) (after machine state event)
race_turn machine turn other number (Turns ∷ moves) begins events state = refl

-- the phases of moves, a turn and more moves
pub cut_on : (machine : Machine) (rest : List Move) (moves : List Move) (turn : Option TurnKind) (begins : State) (events : List Event) (state : State) →
    cut machine turn begins events state (moves ++ Turns ∷ rest)
    ≡ cut machine turn begins events state moves ++ cut machine (turn_of (all_made machine state moves)) (made machine (all_made machine state moves) Turns) []
    (made machine (all_made machine state moves) Turns) rest
cut_on machine rest [] turn begins events state = refl
cut_on machine rest (Happens event ∷ moves) turn begins events state = cut_on machine rest moves turn begins (events ++ event ∷ []) (after machine state event)
cut_on machine rest (Turns ∷ moves) turn begins events state =
    ap (λ phases. record { turn = turn; begins = begins; events = events } ∷ phases) (cut_on machine rest moves (turn_of state) (made machine state Turns) [] (made machine state Turns))
