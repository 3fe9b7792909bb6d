-- Own steps of a slot so far, phase by phase, and how many runs of its present phase ended (slots and phases by IEEE 1364-2001, clause 5; steps by clause 9).
use Rattle.std.specs.Prelude.{◌≡◌, ℕ, ◌+◌, ◌<◌, ◌≤◌, false, List, [], ◌∷◌, ◌++◌, length, Option, nat_eq, find, slice_get}
use Rattle.v_design.specs.Designs.{Machine}
use Rattle.v_design.specs.Grades.{Phase, phases}
use Rattle.v_design.specs.OwnSteps.{good_runs, phase_beside, phases_if, process_runs, slot_beside, steps_in}
use Rattle.v_design.specs.Runs.{FirstSlot, happened}
use Rattle.v_design.specs.States.{State, TurnKind, Event, Step}
use Rattle.machine_laws.specs.SlotLoop.{Moment, ComesTo, present_phase, slot_from, first_moment, after_events, after_turn}
use Rattle.phase_blocks.specs.Blocks.{IsBetweenRuns}
use Rattle.own_counts.specs.Counts.{AtMostOwn, OwnLast, PhaseTicks, behind_event}
use Rattle.own_counts.specs.Joins.{phases_beside}

-- A phase

-- a phase with some events more
abbrev pub behind_events : Phase → List Event → Phase
behind_events phase events = record phase { events = phase.events ++ events }

-- the runs of a phase ticked so, beside those of the good machine's: each of them nothing, or all its steps count as own, however it goes on, and it ticked no more
abbrev pub OwnTicks : Machine → Machine → Option Phase → Phase → ℕ → Type 0
OwnTicks good faulty other phase ticked = PhaseTicks good faulty other phase (λ process. false) ticked

-- A slot

-- of a slot so far a counter ticked no more than counts as own, beside the good machine's phases: in the phases that ended, and in the present one
pub record OwnCountSoFar (good faulty : Machine) (others : List Phase) (at : Moment) (ticked : ℕ) : Type 0 where
  pub before : ℕ
  pub now : ℕ
  pub ended : AtMostOwn (phases_beside good faulty others at.ended) before
  pub present : OwnTicks good faulty (slice_get others (length at.ended)) (present_phase at) now
  pub total : ticked ≤ before + now

-- a slot whose first order comes to a moment goes on from there: its present phase with some more events, and some phases
pub record SlotGoesOn (machine : Machine) (at : Moment) : Type 0 where
  pub more : List Event
  pub later : List Phase
  pub are : phases machine (slot_from machine at.begins) ≡ at.ended ++ behind_events (present_phase at) more ∷ later

-- Numbers of runs

-- in a phase of the faulty machine so far as many runs of each process ended as in one of the good machine, but for so many more of its own and so many more of the good machine's
abbrev pub NumbersAre : Machine → Machine → Phase → Phase → (ℕ → ℕ) → (ℕ → ℕ) → Type 0
NumbersAre good faulty other phase own_more good_more =
    (process : ℕ) → length (process_runs faulty process phase) + good_more process ≡ length (process_runs good process other) + own_more process

-- The laws
pub record OwnStepsOfPhases : Type 0 where
  -- a phase begins
  pub begins : (good faulty : Machine) (other : Option Phase) (turn : Option TurnKind) (begins : State) →
      OwnTicks good faulty other (record { turn = turn; begins = begins; events = [] }) 0
  -- whatever happens next, no tick is taken back
  pub later : (good faulty : Machine) (other : Option Phase) (phase : Phase) (events : List Event) (ticked : ℕ) → OwnTicks good faulty other phase ticked →
      OwnTicks good faulty other (behind_events phase events) ticked
  -- a step of a run whose steps all count as own ticks
  pub own : (good faulty : Machine) (other : Option Phase) (phase : Phase) (process : ℕ) (ticked : ℕ) → process < length faulty.design.processes →
      OwnLast (good_runs good process phase.turn other) (process_runs faulty process (behind_event phase (Step process))) → OwnTicks good faulty other phase ticked →
      OwnTicks good faulty other (behind_event phase (Step process)) (ticked + 1)
  -- a counter may tick less
  pub fewer : (good faulty : Machine) (other : Option Phase) (phase : Phase) (ticked few : ℕ) → few ≤ ticked → OwnTicks good faulty other phase ticked → OwnTicks good faulty other phase few
  -- behind the phase the counter is at most the own steps of its runs
  pub ends : (good faulty : Machine) (other : Option Phase) (phase : Phase) (ticked : ℕ) → OwnTicks good faulty other phase ticked → AtMostOwn (phase_beside good faulty other phase) ticked

pub record OwnStepsOfSlots : Type 0 where
  -- the present phase behind some events, and the phases that ended
  pub present : (machine : Machine) (events : List Event) (at : Moment) → present_phase (after_events machine events at) ≡ behind_events (present_phase at) events
  pub ended : (machine : Machine) (events : List Event) (at : Moment) → (after_events machine events at).ended ≡ at.ended
  -- wherever the first order is in a slot, this goes on from there
  pub goes_on : (machine : Machine) (at : Moment) → ComesTo machine at → SlotGoesOn machine at
  -- a slot begins
  pub begins : (good faulty : Machine) (others : List Phase) (begins : State) → OwnCountSoFar good faulty others (first_moment begins) 0
  -- events with which so many steps more tick, each of a run whose steps all count as own
  pub goes : (good faulty : Machine) (others : List Phase) (at : Moment) (events : List Event) (ticked more : ℕ) →
      ((now : ℕ) → OwnTicks good faulty (slice_get others (length at.ended)) (present_phase at) now →
      OwnTicks good faulty (slice_get others (length at.ended)) (behind_events (present_phase at) events) (now + more)) →
      OwnCountSoFar good faulty others at ticked → OwnCountSoFar good faulty others (after_events faulty events at) (ticked + more)
  -- events with which nothing ticks
  pub passes : (good faulty : Machine) (others : List Phase) (at : Moment) (events : List Event) (ticked : ℕ) → OwnCountSoFar good faulty others at ticked →
      OwnCountSoFar good faulty others (after_events faulty events at) ticked
  -- a turn within the slot
  pub turns : (good faulty : Machine) (others : List Phase) (at : Moment) (turn : TurnKind) (ticked : ℕ) → OwnCountSoFar good faulty others at ticked →
      OwnCountSoFar good faulty others (after_turn turn at) ticked
  -- a counter may tick less
  pub fewer : (good faulty : Machine) (others : List Phase) (at : Moment) (ticked few : ℕ) → few ≤ ticked → OwnCountSoFar good faulty others at ticked → OwnCountSoFar good faulty others at few
  -- wherever the first order is in a slot, the counter is at most the own steps of the whole slot
  pub within : (good faulty : Machine) (good_slots : List FirstSlot) (found : Option FirstSlot) (at : Moment) (ticked : ℕ) → ComesTo faulty at →
      find (λ (other : FirstSlot). nat_eq other.begins.time at.begins.time) good_slots ≡ found → OwnCountSoFar good faulty (phases_if good found) at ticked →
      AtMostOwn (slot_beside good faulty good_slots (slot_from faulty at.begins)) ticked

pub record NumbersGoOn : Type 0 where
  -- both phases begin
  pub begins : (good faulty : Machine) (other_turn turn : Option TurnKind) (other_begins begins : State) →
      NumbersAre good faulty (record { turn = other_turn; begins = other_begins; events = [] }) (record { turn = turn; begins = begins; events = [] }) (λ process. 0) (λ process. 0)
  -- between runs both take events in which each process takes the same steps
  pub passes : (good faulty : Machine) (other phase : Phase) (events : List Event) (own_more good_more : ℕ → ℕ) → IsBetweenRuns good other.begins other.events →
      IsBetweenRuns faulty phase.begins phase.events →
      ((process : ℕ) → steps_in good process (happened good other.begins other.events) events ≡ steps_in faulty process (happened faulty phase.begins phase.events) events) →
      NumbersAre good faulty other phase own_more good_more → NumbersAre good faulty (behind_events other events) (behind_events phase events) own_more good_more
  -- each takes events of its own, in which so many runs of each process end
  pub blocks : (good faulty : Machine) (other phase other_new phase_new : Phase) (own_more good_more own_ended good_ended : ℕ → ℕ) →
      ((process : ℕ) → length (process_runs faulty process phase_new) ≡ length (process_runs faulty process phase) + own_ended process) →
      ((process : ℕ) → length (process_runs good process other_new) ≡ length (process_runs good process other) + good_ended process) →
      NumbersAre good faulty other phase own_more good_more →
      NumbersAre good faulty other_new phase_new (λ process. own_more process + own_ended process) (λ process. good_more process + good_ended process)
  -- as many of both may be left out
  pub same : (good faulty : Machine) (other phase : Phase) (own_more good_more own_less good_less : ℕ → ℕ) →
      ((process : ℕ) → own_more process + good_less process ≡ own_less process + good_more process) → NumbersAre good faulty other phase own_more good_more →
      NumbersAre good faulty other phase own_less good_less
