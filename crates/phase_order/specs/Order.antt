-- The phases of a slot of the first order: the events that each takes, and the turns between them (IEEE 1364-2001, clause 5).
use Rattle.std.specs.Prelude.{◌≡◌, ℕ, ◌≤◌, false, List, [], ◌∷◌, ◌++◌, Option, Some, None, sum_by}
use Rattle.v_design.specs.Designs.{Machine}
use Rattle.v_design.specs.States.{State, Event, TurnKind, turn_of}
use Rattle.v_design.specs.Runs.{Turns, happened, turn_in_slot, made, most_steps, slot_end, is_hyper}
use Rattle.v_design.specs.Grades.{Phase, phases}
use Rattle.v_design.specs.Laws.{BeginsPhase}
use Rattle.v_design.specs.WellFormed.{KeepsRules}
use Rattle.machine_laws.specs.SlotLoop.{slot_from, steps_of, IsIdle}
use Rattle.copy_laws.specs.Beside.{AreFirst}

-- a phase begins in a state with a turn, or as the first, and takes the events of the first order until none is possible
pub record IsFirstPhase (machine : Machine) (turn : Option TurnKind) (begins : State) (phase : Phase) : Type 0 where
  pub turn_is : phase.turn ≡ turn
  pub begins_is : phase.begins ≡ begins
  pub first : AreFirst machine begins phase.events
  pub idle : IsIdle (happened machine begins phase.events)

-- behind a state in which a phase ends these phases come, each with a turn within the slot, and then no such turn comes
abbrev pub ComeNext : Machine → State → List Phase → Type 0
ComeNext machine end [] = turn_in_slot (turn_of end) ≡ None
ComeNext machine end (phase ∷ rest) =
    (turn_in_slot (turn_of end) ≡ Some Turns) × IsFirstPhase machine (turn_of end) (made machine end Turns) phase
    × ComeNext machine (happened machine (made machine end Turns) phase.events) rest

-- these are the phases of the first order from one that begins in a state
abbrev pub FollowOrder : Machine → Option TurnKind → State → List Phase → Type 0
FollowOrder machine turn begins [] = ⊥
FollowOrder machine turn begins (phase ∷ rest) = IsFirstPhase machine turn begins phase × ComeNext machine (happened machine begins phase.events) rest

-- the state in which the last of some phases ends
abbrev pub end_of : Machine → State → List Phase → State
end_of machine state [] = state
end_of machine state (phase ∷ rest) = end_of machine (happened machine phase.begins phase.events) rest

-- how many process and lane steps a phase takes
abbrev pub phase_steps : Phase → ℕ
phase_steps phase = sum_by steps_of phase.events

-- the phases of a slot in the first order, its end, and how many steps it takes
pub record SlotInOrder (machine : Machine) (begins : State) : Type 0 where
  pub follow : FollowOrder machine None begins (phases machine (slot_from machine begins))
  pub ends : slot_end machine (slot_from machine begins) ≡ end_of machine begins (phases machine (slot_from machine begins))
  pub few : sum_by phase_steps (phases machine (slot_from machine begins)) ≤ most_steps

-- The laws

-- the phases of a slot that isn't hyperactive are those of the first order
abbrev pub PhasesFollow : Type 0
PhasesFollow = (machine : Machine) (begins : State) → KeepsRules machine.design → BeginsPhase machine begins → is_hyper (slot_from machine begins) ≡ false → SlotInOrder machine begins

-- events of the first order are those of it in any two parts, the second from where the first leads
abbrev pub FirstEventsSplit : Type 0
FirstEventsSplit =
    (machine : Machine) (state : State) (first more : List Event) →
    (happened machine state (first ++ more) ≡ happened machine (happened machine state first) more)
    × (AreFirst machine state (first ++ more) → AreFirst machine state first × AreFirst machine (happened machine state first) more)
