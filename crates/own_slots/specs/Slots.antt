-- The steps that a faulty machine took itself in a slot so far, phase by phase (slots and phases by IEEE 1364-2001, clause 5; steps by clause 9).
use Rattle.std.specs.Prelude.{◌≡◌, ℕ, ◌+◌, List, [], ◌∷◌, ◌++◌, length, Option, nat_eq, find, slice_get}
use Rattle.v_design.specs.Designs.{Machine}
use Rattle.v_design.specs.Grades.{Phase}
use Rattle.v_design.specs.OwnSteps.{good_runs, phases_if, slot_beside}
use Rattle.v_design.specs.Runs.{FirstSlot}
use Rattle.v_design.specs.States.{State, TurnKind, Event}
use Rattle.machine_laws.specs.SlotLoop.{Moment, ComesTo, present_phase, slot_from, first_moment, after_events, after_turn}
use Rattle.own_counts.specs.Counts.{AtMostOwn}
use Rattle.good_runs.specs.Kept.{Keeps}
use Rattle.good_runs.specs.declared.tried.TriedStep.{TriedStep}

-- of some events behind others in a phase of the faulty machine these are the steps that it took itself, beside the good machine's phase of the same number
abbrev pub KeepsBeside : Machine → Machine → Option Phase → Option TurnKind → ℕ → State → List Event → List Event → List TriedStep → Type 0
KeepsBeside good faulty other turn number begins before events tried =
    Keeps (λ process. good_runs good process turn other) (λ process. 0) faulty number begins before events tried

-- these are those of a phase
abbrev pub PhaseKeeps : Machine → Machine → Option Phase → ℕ → Phase → List TriedStep → Type 0
PhaseKeeps good faulty other number phase tried = KeepsBeside good faulty other phase.turn number phase.begins [] phase.events tried

-- some steps come before others
pub record AreJoined (One Rest : List TriedStep → Type 0) (tried : List TriedStep) : Type 0 where
  pub one : List TriedStep
  pub rest : List TriedStep
  pub are : tried ≡ one ++ rest
  pub first : One one
  pub later : Rest rest

-- these are those of some phases, numbered from a number on
abbrev pub PhasesKeep : Machine → Machine → List Phase → ℕ → List Phase → List TriedStep → Type 0
PhasesKeep good faulty others number [] tried = tried ≡ []
PhasesKeep good faulty others number (phase ∷ phases) tried =
    AreJoined (PhaseKeeps good faulty (slice_get others number) number phase) (PhasesKeep good faulty others (number + 1) phases) tried

-- of a slot so far the faulty machine took these steps itself, beside the good machine's phases: in the phases that ended, and in the present one
pub record OwnSoFar (good faulty : Machine) (others : List Phase) (at : Moment) (tried : List TriedStep) : Type 0 where
  pub before : List TriedStep
  pub now : List TriedStep
  pub ended : PhasesKeep good faulty others 0 at.ended before
  pub present : PhaseKeeps good faulty (slice_get others (length at.ended)) (length at.ended) (present_phase at) now
  pub total : tried ≡ before ++ now

-- so it was at some moment of the slot of the first order that a state begins
pub record WereTried (good faulty : Machine) (others : List Phase) (begins : State) (tried : List TriedStep) : Type 0 where
  pub to : Moment
  pub comes : ComesTo faulty to
  pub begins_is : to.begins ≡ begins
  pub own : OwnSoFar good faulty others to tried

-- The laws
pub record TriedStepsGoOn : Type 0 where
  -- a slot begins
  pub begins : (good faulty : Machine) (others : List Phase) (begins : State) → OwnSoFar good faulty others (first_moment begins) []
  -- events, of which these steps are kept
  pub goes : (good faulty : Machine) (others : List Phase) (at : Moment) (events : List Event) (tried more : List TriedStep) → OwnSoFar good faulty others at tried →
      KeepsBeside good faulty (slice_get others (length at.ended)) at.turn (length at.ended) at.phase_begins at.events events more →
      OwnSoFar good faulty others (after_events faulty events at) (tried ++ more)
  -- events, of which none is kept
  pub passes : (good faulty : Machine) (others : List Phase) (at : Moment) (events : List Event) (tried : List TriedStep) → OwnSoFar good faulty others at tried →
      OwnSoFar good faulty others (after_events faulty events at) tried
  -- a turn within the slot
  pub turns : (good faulty : Machine) (others : List Phase) (at : Moment) (turn : TurnKind) (tried : List TriedStep) → OwnSoFar good faulty others at tried →
      OwnSoFar good faulty others (after_turn turn at) tried
  -- in some slot that a state begins, none was tried
  pub none : (good faulty : Machine) (others : List Phase) (begins : State) → ComesTo faulty (first_moment begins) → WereTried good faulty others begins []
  -- wherever the first order is in a slot, these are at most the own steps of the whole slot
  pub within : (good faulty : Machine) (good_slots : List FirstSlot) (found : Option FirstSlot) (begins : State) (tried : List TriedStep) →
      find (λ (other : FirstSlot). nat_eq other.begins.time begins.time) good_slots ≡ found → WereTried good faulty (phases_if good found) begins tried →
      AtMostOwn (slot_beside good faulty good_slots (slot_from faulty begins)) (length tried)
