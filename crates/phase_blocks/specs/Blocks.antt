-- A phase of the first order cut into blocks, at the moments at which no node has work and no process is in the midst of a run (events and phases by IEEE 1364-2001, clause 5; processes by clause 9).
use Rattle.std.specs.Prelude.{◌≡◌, ℕ, ◌<◌, Bool, true, false, not, List, [], ◌∷◌, ◌++◌, length, take, nat_le}
use Rattle.vf_base.specs.Lists.{AllHold}
use Rattle.v_design.specs.Designs.{Machine}
use Rattle.v_design.specs.States.{State, Event, Step, LaneStep, Evaluation, NetUpdate, is_process_event, some_in}
use Rattle.v_design.specs.Runs.{happened}
use Rattle.v_design.specs.OwnSteps.{steps_in, runs_of}
use Rattle.copy_laws.specs.Beside.{AreFirst}
use Rattle.copy_laws.specs.OwnRuns.{last_goes_on}
use Rattle.machine_laws.specs.SlotLoop.{NoNodeWorks, IsIdle}
use Rattle.block_causes.specs.Caused.{IsFollowing}

-- Moments between runs

-- whether a process is in the midst of a run after some events from a state on: the last of its runs there has left it ready
abbrev pub run_goes_on : Machine → State → List Event → ℕ → Bool
run_goes_on machine begins events process = last_goes_on (runs_of (steps_in machine process begins events))

-- after some events no node has work, and no process is in the midst of a run
pub record IsBetweenRuns (machine : Machine) (begins : State) (events : List Event) : Type 0 where
  pub nodes : NoNodeWorks (happened machine begins events)
  pub runs : (process : ℕ) → run_goes_on machine begins events process ≡ false

-- Blocks

-- events of the first order, at least one, from a moment between runs to the next one
pub record IsWholeBlock (machine : Machine) (begins : State) (events : List Event) : Type 0 where
  pub some : 0 < length events
  pub first : AreFirst machine begins events
  pub ends : IsBetweenRuns machine begins events
  pub none : (number : ℕ) → 0 < number → number < length events → IsBetweenRuns machine begins (take number events) → ⊥

-- whether an event is a step of a process of at least this number
abbrev pub is_step_from : ℕ → Event → Bool
is_step_from process (Step other) = nat_le process other
is_step_from process (LaneStep other) = false
is_step_from process (Evaluation node) = false
is_step_from process (NetUpdate node) = false

-- whether a block begins with an event of a phase, by the events before it there: it is a step of a lane, or one of a process greater than each that took a step before
abbrev pub begins_block : List Event → Event → Bool
begins_block earlier (Step process) = not (some_in (is_step_from process) earlier)
begins_block earlier (LaneStep process) = true
begins_block earlier (Evaluation node) = false
begins_block earlier (NetUpdate node) = false

-- The laws

-- where the first order takes some events and then one more, they end between runs just where a block begins with that one
abbrev pub BlocksBegin : Type 0
BlocksBegin =
    (machine : Machine) (begins : State) (before : List Event) (event : Event) → AreFirst machine begins (before ++ event ∷ []) →
    (begins_block before event ≡ true → IsBetweenRuns machine begins before) × (IsBetweenRuns machine begins before → begins_block before event ≡ true)

-- where no event is possible no process is in the midst of a run
abbrev pub PhasesEndBetweenRuns : Type 0
PhasesEndBetweenRuns = (machine : Machine) (begins : State) (events : List Event) → IsIdle (happened machine begins events) → IsBetweenRuns machine begins events

-- events behind a moment between runs end between runs just where they do so by themselves
abbrev pub BlocksJoin : Type 0
BlocksJoin =
    (machine : Machine) (begins : State) (before events : List Event) → IsBetweenRuns machine begins before →
    (IsBetweenRuns machine (happened machine begins before) events → IsBetweenRuns machine begins (before ++ events))
    × (IsBetweenRuns machine begins (before ++ events) → IsBetweenRuns machine (happened machine begins before) events)

-- so the events between two moments between runs next to each other are a whole block, from the state at the first
abbrev pub BlocksStand : Type 0
BlocksStand =
    (machine : Machine) (begins : State) (before block : List Event) → IsBetweenRuns machine begins before → AreFirst machine begins (before ++ block) → 0 < length block →
    IsBetweenRuns machine begins (before ++ block) →
    ((number : ℕ) → 0 < number → number < length block → IsBetweenRuns machine begins (before ++ take number block) → ⊥) → IsWholeBlock machine (happened machine begins before) block

-- the runs of a process behind such a moment come behind those before it
abbrev pub RunsOfBlocks : Type 0
RunsOfBlocks =
    (machine : Machine) (process : ℕ) (begins : State) (before events : List Event) → IsBetweenRuns machine begins before →
    runs_of (steps_in machine process begins (before ++ events))
    ≡ runs_of (steps_in machine process begins before) ++ runs_of (steps_in machine process (happened machine begins before) events)

-- a block begins with a step of a process or of a lane, and each further event has its cause with it: it is a further step of that process, a step of one that wasn't ready, or of a node
abbrev pub BlocksFollow : Type 0
BlocksFollow =
    (machine : Machine) (begins : State) (first : Event) (events : List Event) → NoNodeWorks begins → IsWholeBlock machine begins (first ∷ events) →
    (is_process_event first ≡ true) × AllHold (IsFollowing begins first) events
