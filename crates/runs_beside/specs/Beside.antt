-- A slot of a faulty machine beside the good machine's slot of its time, event by event (slots and phases by IEEE 1364-2001, clause 5; steps by clause 9).
use Rattle.std.specs.Prelude.{◌≡◌, ℕ, ◌+◌, ◌<◌, ◌≤◌, Bool, true, List, [], ◌∷◌, ◌++◌, length, Option, Some, nat_eq, find, slice_get}
use Rattle.vf_base.specs.Base.{process_number}
use Rattle.vf_base.specs.Lists.{AllHold}
use Rattle.v_design.specs.Designs.{Machine, good_machine}
use Rattle.v_design.specs.Grades.{Phase}
use Rattle.v_design.specs.OwnSteps.{ProcessRun, good_runs, phases_if, process_runs, slot_beside}
use Rattle.v_design.specs.Runs.{FirstSlot, most_steps}
use Rattle.v_design.specs.States.{State, TurnKind, Event, Step, is_ready, process_at}
use Rattle.v_design.specs.WellFormed.{KeepsRules}
use Rattle.process_code.specs.StatesOf.{IsStateOf}
use Rattle.process_code.specs.declared.code.Code.{Code}
use Rattle.run_ends.specs.RunEnds.{IsCodeAt}
use Rattle.machine_laws.specs.SlotLoop.{Moment, ComesTo, EndsAt, present_phase, slot_from, first_moment, after_event, after_events, after_turn}
use Rattle.machine_events.specs.Steps.{raised_by}
use Rattle.net_state.specs.declared.state.NetState.{NetState}
use Rattle.net_state.specs.States.{values_in}
use Rattle.own_counts.specs.Counts.{AtMostOwn, OwnLast, behind_event}
use Rattle.own_slots.specs.Again.{IsAgain, IsNoStep}
use Rattle.own_slots.specs.Slots.{WereTried}
use Rattle.good_runs.specs.declared.tried.TriedStep.{TriedStep}
use Rattle.process_table.specs.Arranged.{table_of}
use Rattle.process_table.specs.Deeds.{IsStepOf}
use Rattle.process_table.specs.Known.{IsKnownStep}
use Rattle.process_table.specs.declared.deed.Stepped.{Stepped}
use Rattle.process_table.specs.Tables.{IsTableOf}
use Rattle.process_table.specs.declared.table.ProcessTable.{ProcessTable}
use Rattle.window_runs.specs.OfSlot.{TellsSlot}
use Rattle.window_runs.specs.declared.slot.SlotRuns.{SlotRuns}
use Rattle.known_steps.specs.Beside.{FollowsSoFar, IsInRun, TellsRunHere, run_behind}
use Rattle.process_code.specs.declared.state.RunEnd.{RunEnd}
use Rattle.known_steps.specs.declared.known.KnownStep.{KnownStep}
use Rattle.runs_beside.specs.Runs.{HasBegun, IsRunSoFar, run_at, runs_in}
use Rattle.runs_beside.specs.declared.beside.RunsBeside.{RunsBeside}
use Rattle.runs_beside.specs.declared.run.RunSoFar.{RunSoFar}

-- A moment of the slot

-- the good machine's runs of a process that may be followed in the present phase, whatever turn began it, and those by which its runs count
abbrev pub followed_at : Machine → List Phase → Moment → ℕ → List ProcessRun
followed_at machine others at process = runs_in (good_machine machine.design) (slice_get others (length at.ended)) process

abbrev pub counted_at : Machine → List Phase → Moment → ℕ → List ProcessRun
counted_at machine others at process = good_runs (good_machine machine.design) process at.turn (slice_get others (length at.ended))

-- so the runs of each process in the present phase go, beside these phases of the good machine; so many steps ticked, and what was tried before came again as far as the slot went
pub record GoesBeside (machine : Machine) (others : List Phase) (at : Moment) (ticked : ℕ) (kept : RunsBeside) : Type 0 where
  pub tells : TellsSlot machine.design at.begins.time others kept.goods
  pub again : IsAgain (good_machine machine.design) machine others kept.tried.now at kept.next ticked
  pub count : length kept.runs.items ≡ length machine.design.processes
  pub early : (process : ℕ) (run : RunSoFar) → slice_get kept.runs.items process ≡ Some run → run.phase ≤ length at.ended
  pub each : (process : ℕ) → process < length machine.design.processes →
      IsRunSoFar (followed_at machine others at process) (counted_at machine others at process) (process_runs machine process (present_phase at)) (run_at (length at.ended) kept.runs.items process)
  pub few : (process : ℕ) → process < length machine.design.processes →
      (run_at (length at.ended) kept.runs.items process).number + (run_at (length at.ended) kept.runs.items process).taken ≤ at.steps

-- these phases may serve a slot that a state begins, and these steps were tried in it
pub record MayServe (machine : Machine) (begins : State) (others : List Phase) (goods : SlotRuns) (tried : List TriedStep) : Type 0 where
  pub tells : TellsSlot machine.design begins.time others goods
  pub were : WereTried (good_machine machine.design) machine others begins tried

-- a counter rose since the slot began: beside whichever phases may serve, it ticked so, and some do
pub record RoseBeside (machine : Machine) (at : Moment) (kept : RunsBeside) (before now : ℕ) : Type 0 where
  pub some : List Phase
  pub may : MayServe machine at.begins some kept.goods kept.tried.now
  pub each : (others : List Phase) → MayServe machine at.begins others kept.goods kept.tried.now → (ticked : ℕ) × (now ≡ raised_by ticked before) × GoesBeside machine others at ticked kept

-- A step

-- a process takes the next step of the first order, and the processes are those of the moment
pub record IsNextHere (machine : Machine) (at : Moment) (table : ProcessTable) (phase process : ℕ) : Type 0 where
  pub table_is : IsTableOf machine at.state (table_of table)
  pub phase_is : phase ≡ length at.ended
  pub there : process < length machine.design.processes
  pub ready : is_ready (process_at at.state process).activity ≡ true
  pub few : at.steps ≤ most_steps
  pub comes : ComesTo machine at
  pub comes_on : ComesTo machine (after_event machine (Step process) at)
  pub rules : KeepsRules machine.design

-- so it is in some slot
pub record IsSomewhere (kept : RunsBeside) (table : ProcessTable) (phase process : ℕ) : Type 0 where
  pub machine : Machine
  pub others : List Phase
  pub at : Moment
  pub ticked : ℕ
  pub goes : GoesBeside machine others at ticked kept
  pub here : IsNextHere machine at table phase process

-- and the values are those of that moment
pub record IsSomewhereAmong (kept : RunsBeside) (table : ProcessTable) (nets : NetState) (phase process : ℕ) : Type 0 where
  pub some : IsSomewhere kept table phase process
  pub values_are : some.at.state.values ≡ values_in nets

-- the process took the step, and a counter rose by so many ticks
pub record HasStepped (machine : Machine) (others : List Phase) (at : Moment) (process ticked before now : ℕ) (kept : RunsBeside) : Type 0 where
  pub more : ℕ
  pub rose : now ≡ raised_by more before
  pub goes : GoesBeside machine others (after_event machine (Step process) at) (ticked + more) kept

-- from wherever the slot was
abbrev pub Steps : (old new : RunsBeside) (table : ProcessTable) (nets : NetState) (phase process before now : ℕ) → Type 0
Steps old new table nets phase process before now =
    (machine : Machine) (others : List Phase) (at : Moment) (ticked : ℕ) → GoesBeside machine others at ticked old → IsNextHere machine at table phase process → at.state.values ≡ values_in nets →
    HasStepped machine others at process ticked before now new

-- without a tick
abbrev pub StepsQuietly : (old new : RunsBeside) (table : ProcessTable) (phase process : ℕ) → Type 0
StepsQuietly old new table phase process =
    (machine : Machine) (others : List Phase) (at : Moment) (ticked : ℕ) → GoesBeside machine others at ticked old → IsNextHere machine at table phase process →
    GoesBeside machine others (after_event machine (Step process) at) ticked new

-- what the process did is the step of each state with these processes and the values of the moment
abbrev pub StepsThere : RunsBeside → ProcessTable → ℕ → ℕ → Stepped → ProcessTable → Type 0
StepsThere kept table phase process stepped behind =
    (machine : Machine) (others : List Phase) (at : Moment) (ticked : ℕ) → GoesBeside machine others at ticked kept → IsNextHere machine at table phase process →
    (own : Machine) (state : State) → IsTableOf own state (table_of table) → state.values ≡ at.state.values → IsStepOf own state process stepped (table_of behind)

-- the good machine's runs and the steps that were tried stay
pub record StaysOf (old new : RunsBeside) : Type 0 where
  pub goods_are : new.goods ≡ old.goods
  pub tried_are : new.tried.now ≡ old.tried.now

-- The runs with the step

-- the last of the runs with the step has this number, so many steps before that one, and goes as the good machine's
pub record FollowsOn (goods runs : List ProcessRun) (kept : RunSoFar) : Type 0 where
  pub before : List ProcessRun
  pub run : ProcessRun
  pub are : runs ≡ before ++ run ∷ []
  pub number : length before ≡ kept.number
  pub taken : length run.steps ≡ kept.taken + 1
  pub follows : FollowsSoFar (slice_get goods kept.number) run

-- the step that a process takes next is known so, and the run follows on; from wherever the slot was
abbrev pub IsKnownHere : RunsBeside → ProcessTable → NetState → ℕ → ℕ → RunSoFar → KnownStep → Type 0
IsKnownHere kept table nets phase process run known =
    (machine : Machine) (others : List Phase) (at : Moment) (ticked : ℕ) → GoesBeside machine others at ticked kept → IsNextHere machine at table phase process → at.state.values ≡ values_in nets →
    IsKnownStep machine at.state process known.line known.act known.next.now × ((code : Code) → IsCodeAt machine.design process code → IsStateOf code known.next.now) ×
    FollowsOn (followed_at machine others at process) (process_runs machine process (behind_event (present_phase at) (Step process))) run

-- or all steps of its run count
abbrev pub IsOwnHere : RunsBeside → ProcessTable → NetState → ℕ → ℕ → Type 0
IsOwnHere kept table nets phase process =
    (machine : Machine) (others : List Phase) (at : Moment) (ticked : ℕ) → GoesBeside machine others at ticked kept → IsNextHere machine at table phase process → at.state.values ≡ values_in nets →
    OwnLast (counted_at machine others at process) (process_runs machine process (behind_event (present_phase at) (Step process)))

-- a run of the good machine beside the present run of a process, which goes as it so far; from wherever the slot was
pub record RunHere (machine : Machine) (others : List Phase) (at : Moment) (process : ℕ) (kept : RunSoFar) (found : RunEnd) : Type 0 where
  pub good : ProcessRun
  pub good_is : slice_get (followed_at machine others at process) kept.number ≡ Some good
  pub tells : TellsRunHere machine at.state process good found
  pub before : List ProcessRun
  pub run : ProcessRun
  pub in_run : IsInRun machine at.state process run
  pub behind : process_runs machine process (behind_event (present_phase at) (Step process)) ≡ before ++ run_behind machine at.state process run ∷ []
  pub number : length before ≡ kept.number
  pub taken : length run.steps ≡ kept.taken
  pub follows : FollowsSoFar (Some good) run

abbrev pub IsBesideHere : RunsBeside → ProcessTable → ℕ → ℕ → RunSoFar → RunEnd → Type 0
IsBesideHere kept table phase process run found =
    (machine : Machine) (others : List Phase) (at : Moment) (ticked : ℕ) → GoesBeside machine others at ticked kept → IsNextHere machine at table phase process →
    RunHere machine others at process run found

-- no run of the good machine does: all steps of its run count
abbrev pub IsAloneHere : RunsBeside → ProcessTable → ℕ → ℕ → Type 0
IsAloneHere kept table phase process =
    (machine : Machine) (others : List Phase) (at : Moment) (ticked : ℕ) → GoesBeside machine others at ticked kept → IsNextHere machine at table phase process →
    OwnLast (counted_at machine others at process) (process_runs machine process (behind_event (present_phase at) (Step process)))

-- a step that was tried has the place of the next step of a process's run
pub record HasPlace (phase process : ℕ) (run : RunSoFar) (one : TriedStep) : Type 0 where
  pub phase_is : one.phase ≡ phase
  pub process_is : process_number one.process ≡ process
  pub number_is : one.number ≡ run.number
  pub taken_is : one.taken ≡ run.taken

-- The laws
pub record RunsGoBeside : Type 0 where
  -- a slot begins
  pub begins : (machine : Machine) (begins : State) (goods : SlotRuns) (tried : List TriedStep) (kept : RunsBeside) (some : List Phase) (counter : ℕ) →
      MayServe machine begins some goods tried → HasBegun (length machine.design.processes) goods tried kept → RoseBeside machine (first_moment begins) kept counter counter
  -- events that are no steps of processes
  pub passes : (machine : Machine) (events : List Event) (at : Moment) (kept : RunsBeside) (before now : ℕ) → AllHold IsNoStep events → ComesTo machine (after_events machine events at) →
      RoseBeside machine at kept before now → RoseBeside machine (after_events machine events at) kept before now
  -- a step
  pub steps : (machine : Machine) (at : Moment) (old new : RunsBeside) (table : ProcessTable) (nets : NetState) (phase process before now after : ℕ) →
      StaysOf old new → Steps old new table nets phase process now after → IsNextHere machine at table phase process → at.state.values ≡ values_in nets →
      RoseBeside machine at old before now → RoseBeside machine (after_event machine (Step process) at) new before after
  -- a turn within the slot
  pub turns : (machine : Machine) (turn : TurnKind) (at : Moment) (kept : RunsBeside) (before now : ℕ) → ComesTo machine (after_turn turn at) → RoseBeside machine at kept before now →
      RoseBeside machine (after_turn turn at) kept before now
  -- at the slot's end
  pub ends : (machine : Machine) (hyper : Bool) (at : Moment) (kept : RunsBeside) (before now : ℕ) (good_slots : List FirstSlot) (found : Option FirstSlot) → ComesTo machine at →
      EndsAt machine hyper at → find (λ (other : FirstSlot). nat_eq other.begins.time at.begins.time) good_slots ≡ found →
      MayServe machine at.begins (phases_if (good_machine machine.design) found) kept.goods kept.tried.now → RoseBeside machine at kept before now →
      (ticked : ℕ) × (now ≡ raised_by ticked before) ×
      AtMostOwn (slot_beside (good_machine machine.design) machine good_slots (slot_from machine at.begins)) (ticked + length kept.tried.now)
