-- What every legal run has in common with one in which no phase has two conflicting accesses (IEEE 1364-2001, clause 5).
use Rattle.std.specs.Prelude.{◌≡◌, ℕ, ◌+◌, ◌<◌, ◌≤◌, true, false, List, [], ◌∷◌, Option, Some, None, slice_get, nat_le}
use Rattle.vf_base.specs.Base.{ReportedPair}
use Rattle.vf_base.specs.Lists.{AllHold}
use Rattle.v_design.specs.Designs.{Machine}
use Rattle.v_design.specs.States.{State, Event, start, after}
use Rattle.v_design.specs.Runs.{Move, IsLegal, IsPhase, happened, first_event, FirstSlot, first_run}
use Rattle.v_design.specs.Logs.{PhaseAccess}
use Rattle.v_design.specs.PhaseLogs.{phase_race}
use Rattle.v_design.specs.Grades.{Phase, cut, race_of, Race, state_after_slots, values_after, Stop, first_stop}
use Rattle.v_design.specs.WellFormed.{KeepsRules}
use Rattle.v_design.specs.Laws.{BeginsPhase, HasNoConflict, RunsBeside, run_moves, phases_at}

-- Phases

-- every legal order of a phase that has one without conflict has none
abbrev pub PhasesStayFree : Type 0
PhasesStayFree = (machine : Machine) (state : State) (first events : List Event) → RunsBeside machine state first events → HasNoConflict machine state events

-- these are the events that the first order takes, until none is left
abbrev pub FirstOrder : Machine → State → List Event → Type 0
FirstOrder machine state [] = first_event state ≡ None
FirstOrder machine state (event ∷ events) = (first_event state ≡ Some event) × FirstOrder machine (after machine state event) events

-- where some order of a phase is without conflict, the first order is too, and it ends in the same state
abbrev pub AnyOrder : Type 0
AnyOrder =
    (machine : Machine) (state : State) (events first : List Event) → KeepsRules machine.design → BeginsPhase machine state → IsPhase machine state events → HasNoConflict machine state events →
    FirstOrder machine state first → IsPhase machine state first × HasNoConflict machine state first × (happened machine state first ≡ happened machine state events)

-- Runs

-- no phase of a run has two conflicting accesses
abbrev pub IsClear : Machine → List Move → Type 0
IsClear machine moves = AllHold (λ (phase : Phase). HasNoConflict machine phase.begins phase.events) (cut machine None (start machine) [] (start machine) moves)

-- after all slots up to each time every legal run stands where one without conflict does
abbrev pub RunsShowAlike : Type 0
RunsShowAlike =
    (machine : Machine) (time until : ℕ) (one other : List Move) (one_end other_end : State) → KeepsRules machine.design → time ≤ until →
    IsLegal machine until one one_end → IsClear machine one → IsLegal machine until other other_end →
    state_after_slots machine time (start machine) other ≡ state_after_slots machine time (start machine) one

-- a stop comes after a time, or there is none
abbrev pub StopsLater : ℕ → Option Stop → Type 0
StopsLater time None = Unit {0}
StopsLater time (Some stop) = time < stop.time

-- where the first run doesn't stop up to a time, every legal run to that time shows at each time up to it what the first run shows
abbrev pub FirstRunsShow : Type 0
FirstRunsShow =
    (machine : Machine) (time until end : ℕ) → KeepsRules machine.design → time ≤ until → until ≤ end → StopsLater until (first_stop machine (first_run machine end)) →
    (moves : List Move) (final : State) → IsLegal machine until moves final →
    (state_after_slots machine time (start machine) moves).values ≡ values_after machine [] (first_run machine end) time

-- and there is such a run without conflict
abbrev pub ClearRunsExist : Type 0
ClearRunsExist =
    (machine : Machine) (until end : ℕ) → KeepsRules machine.design → until ≤ end → StopsLater until (first_stop machine (first_run machine end)) →
    (moves : List Move) × (final : State) × IsLegal machine until moves final × IsClear machine moves

-- Races

-- the slots up to a time
abbrev pub slots_by : ℕ → List FirstSlot → List FirstSlot
slots_by bound [] = []
slots_by bound (slot ∷ slots) = elim (nat_le slot.begins.time bound) [ true ↦ slot ∷ slots_by bound slots | false ↦ [] ]

-- a run shows a race: the phase of its number, among those of its time, has this least pair
pub record ShowsRace (machine : Machine) (moves : List Move) (pair : ReportedPair) : Type 0 where
  pub number : ℕ
  pub phase : Phase
  pub accesses : PhaseAccess × PhaseAccess
  pub phase_number : pair.phase ≡ number + 1
  pub stands : slice_get (phases_at machine pair.time moves) number ≡ Some phase
  pub races : phase_race machine phase.begins phase.events ≡ Some accesses
  pub named : pair ≡ race_of pair.time pair.phase accesses

-- where a first run stops with a race, its slots up to then show that race
abbrev pub FirstRunsShowRaces : Type 0
FirstRunsShowRaces =
    (machine : Machine) (end : ℕ) (stop : Stop) (pair : ReportedPair) → KeepsRules machine.design → first_stop machine (first_run machine end) ≡ Some stop → stop.outcome ≡ Race pair →
    ShowsRace machine (run_moves (slots_by pair.time (first_run machine end))) pair
