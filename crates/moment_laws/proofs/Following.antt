-- A phase among those of a slot that follow the first order (phases by IEEE 1364-2001, clause 5).
use Rattle.std.proofs.Common.{List, [], ◌∷◌, ◌++◌, sym, ap, subst, ◌∙◌}
use Rattle.std.specs.Prelude.{Option, None}
use Rattle.v_design.specs.Designs.{Machine}
use Rattle.v_design.specs.Grades.{Phase, phases}
use Rattle.v_design.specs.Runs.{FirstSlot, Turns, happened, made, is_hyper}
use Rattle.v_design.specs.States.{State, TurnKind, turn_of}
use Rattle.machine_laws.specs.SlotLoop.{IsIdle}
use Rattle.copy_laws.specs.Beside.{AreFirst}
use Rattle.phase_order.specs.Order.{IsFirstPhase, ComeNext, FollowOrder, SlotInOrder, PhasesFollow}
use Rattle.lockstep_slots.specs.Places.{Place, IsPlaceOf}
use Rattle.lockstep_slots.proofs.Followed.{IsFollowed}
use Rattle.moment_laws.specs.Places.{IsSlotInOrder}

first-at : (machine : Machine) (turn : Option TurnKind) (begins : State) (phase : Phase) (later : List Phase) → IsFirstPhase machine turn begins phase →
    ComeNext machine (happened machine begins phase.events) later → IsFollowed machine phase later
first-at machine turn begins phase later is next = record {
  first = subst (λ (s : State). AreFirst machine s phase.events) (sym is.begins_is) is.first;
  idle = subst (λ (s : State). IsIdle (happened machine s phase.events)) (sym is.begins_is) is.idle;
  next = subst (λ (s : State). ComeNext machine (happened machine s phase.events) later) (sym is.begins_is) next;
}

come-at : (machine : Machine) (end : State) (ended : List Phase) (phase : Phase) (later : List Phase) → ComeNext machine end (ended ++ phase ∷ later) → IsFollowed machine phase later
come-at machine end [] phase later c = first-at machine (turn_of end) (made machine end Turns) phase later c.1 c.2
come-at machine end (first ∷ ended) phase later c = come-at machine (happened machine (made machine end Turns) first.events) ended phase later c.2

-- the phase behind some others
follow-at : (machine : Machine) (turn : Option TurnKind) (begins : State) (ended : List Phase) (phase : Phase) (later : List Phase) → FollowOrder machine turn begins (ended ++ phase ∷ later) →
    IsFollowed machine phase later
follow-at machine turn begins [] phase later f = first-at machine turn begins phase later f.0 f.1
follow-at machine turn begins (first ∷ ended) phase later f = come-at machine (happened machine begins first.events) ended phase later f.1

-- The phase at a place of a slot that keeps the order

pub slot-order : PhasesFollow → (machine : Machine) (slot : FirstSlot) → IsSlotInOrder machine slot → SlotInOrder machine slot.begins
slot-order law machine slot s = law machine slot.begins s.rules s.asked (ap is_hyper (sym s.is) ∙ s.few_steps)

pub followed : PhasesFollow → (machine : Machine) (slot : FirstSlot) (place : Place) → IsSlotInOrder machine slot → IsPlaceOf machine slot place → IsFollowed machine place.phase place.later
followed law machine slot place s is =
    follow-at machine None slot.begins place.ended place.phase place.later
    (subst (FollowOrder machine None slot.begins) (ap (phases machine) (sym s.is) ∙ is.phases_are) (slot-order law machine slot s).follow)
