-- The events of a slot by its moves, and the slots of the good first run among those of its first run (events and slots by IEEE 1364-2001, clause 5).
use Rattle.std.proofs.Common.{◌≡◌, ℕ, zero, suc, List, [], ◌∷◌, ◌++◌, map, refl, sym, ap, ◌∙◌, append_assoc}
use Rattle.std.specs.Prelude.{Option, Some, None, slice_get}
use Rattle.vf_base.specs.Lists.{joined}
use Rattle.v_design.specs.Designs.{Machine}
use Rattle.v_design.specs.States.{State, Event, TurnKind, after, turn_of}
use Rattle.v_design.specs.Runs.{Move, Happens, Turns, FirstSlot, happened, made}
use Rattle.v_design.specs.Grades.{SlotOutcome, Fine, Race, Hyper, cut, slot_outcome}
use Rattle.v_design.specs.OwnSteps.{slots_through_stop}
use Rattle.trace_window.specs.Moments.{Seen, seen_from, phase_seen, slot_seen}

-- the events of some moves
abbrev pub seen_moves : Machine → State → List Move → List Seen
seen_moves machine state [] = []
seen_moves machine state (Happens event ∷ moves) = record { before = state; event = event } ∷ seen_moves machine (after machine state event) moves
seen_moves machine state (Turns ∷ moves) = seen_moves machine (made machine state Turns) moves

seen_from-more : (machine : Machine) (state : State) (events : List Event) (event : Event) →
    seen_from machine state (events ++ event ∷ []) ≡ seen_from machine state events ++ record { before = happened machine state events; event = event } ∷ []
seen_from-more machine state [] event = refl
seen_from-more machine state (first ∷ events) event = ap (λ l. record { before = state; event = first } ∷ l) (seen_from-more machine (after machine state first) events event)

cut-seen : (machine : Machine) (turn : Option TurnKind) (begins : State) (events : List Event) (state : State) (moves : List Move) → state ≡ happened machine begins events →
    joined (map (phase_seen machine) (cut machine turn begins events state moves)) ≡ seen_from machine begins events ++ seen_moves machine state moves
cut-seen machine turn begins events state [] e = refl
cut-seen machine turn begins events state (Happens event ∷ moves) e =
    cut-seen machine turn begins (events ++ event ∷ []) (after machine state event) moves (ap (λ s. after machine s event) e ∙ sym (happened-more events begins))
    ∙ ap (λ l. l ++ seen_moves machine (after machine state event) moves)
    (seen_from-more machine begins events event ∙ ap (λ s. seen_from machine begins events ++ record { before = s; event = event } ∷ []) (sym e))
    ∙ append_assoc (seen_from machine begins events) (record { before = state; event = event } ∷ []) (seen_moves machine (after machine state event) moves)
  where
    happened-more : (events : List Event) (begins : State) → happened machine begins (events ++ event ∷ []) ≡ after machine (happened machine begins events) event
    happened-more [] begins = refl
    happened-more (first ∷ events) begins = happened-more events (after machine begins first)
cut-seen machine turn begins events state (Turns ∷ moves) e =
    ap (λ l. seen_from machine begins events ++ l) (cut-seen machine (turn_of state) (made machine state Turns) [] (made machine state Turns) moves refl)

-- the events of a slot are those of its moves
pub slot-seen : (machine : Machine) (slot : FirstSlot) → slot_seen machine slot ≡ seen_moves machine slot.begins slot.moves
slot-seen machine slot = cut-seen machine None slot.begins [] slot.begins slot.moves refl

-- a slot through the first stop is one of all
pub through-get : (machine : Machine) (slots : List FirstSlot) (number : ℕ) (slot : FirstSlot) → slice_get (slots_through_stop machine slots) number ≡ Some slot → slice_get slots number ≡ Some slot
through-get machine [] number slot here = here
through-get machine (first ∷ slots) zero slot here = here
through-get machine (first ∷ slots) (suc number) slot here = go (slot_outcome machine first) here (through-get machine slots number slot)
  where
    go : (outcome : SlotOutcome) → slice_get (elim outcome as (λ _. List FirstSlot) [ Fine ↦ slots_through_stop machine slots | Race pair ↦ [] | Hyper ↦ [] ]) number ≡ Some slot →
        (slice_get (slots_through_stop machine slots) number ≡ Some slot → slice_get slots number ≡ Some slot) → slice_get slots number ≡ Some slot
    go Fine e rest = rest e
    go (Race pair) e rest = cc
    go Hyper e rest = cc
