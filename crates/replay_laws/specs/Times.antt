-- How late the times of a run can be: each delay is less than 2^32 steps (IEEE 1364-2001, clause 9.7 for delays, clause 5 for turns).
use Rattle.std.specs.Prelude.{◌≡◌, ℕ, ◌+◌, ◌*◌, ◌<◌, ◌≤◌, Bool, Some}
use Rattle.vf_base.specs.Lists.{AllHold}
use Rattle.v_design.specs.Sized.{IsSizedStatement, IsDelay}
use Rattle.v_design.specs.Designs.{Machine}
use Rattle.v_design.specs.Processes.{Task, Run, Turns, Writes, Appends, Activity, Ready, Waiting, Asleep, Postponed, Done}
use Rattle.v_design.specs.States.{State, ProcessState, LaterUpdate, Event, TurnKind, TimeTurn, start, after, turn_of, turned}
use Rattle.v_design.specs.WellFormed.{KeepsRules}
use Rattle.cert_laws.specs.Replays.{RunLine, Replay, begun, next_line}

-- the delays of what is left to be done are less than 2^32
abbrev pub HasDelays : Task → Type 0
HasDelays (Run statement) = IsSizedStatement statement
HasDelays (Turns place count body) = IsSizedStatement body
HasDelays (Writes place updates) = Unit {0}
HasDelays (Appends place delay updates) = IsDelay delay

-- a process that sleeps wakes later than now, and by a time at the latest
abbrev pub WakesWithin : ℕ → ℕ → Activity → Type 0
WakesWithin now latest (Ready tasks operands) = AllHold HasDelays tasks
WakesWithin now latest (Waiting place entries tasks) = AllHold HasDelays tasks
WakesWithin now latest (Asleep time tasks) = (now < time) × (time ≤ latest) × AllHold HasDelays tasks
WakesWithin now latest (Postponed tasks) = AllHold HasDelays tasks
WakesWithin now latest Done = Unit {0}

-- and its updates are due by then
pub record IsWithin (now latest : ℕ) (process : ProcessState) : Type 0 where
  pub wakes : WakesWithin now latest process.activity
  pub due : AllHold (λ (later : LaterUpdate). later.time ≤ latest) process.later

-- after so many turns the time is at most 2^32 times as many, and what is to come at most 2^32 later
pub record TimesWithin (turns : ℕ) (state : State) : Type 0 where
  pub now : state.time ≤ turns * 4294967296
  pub processes : AllHold (IsWithin state.time ((turns + 1) * 4294967296)) state.processes

pub record TimesGrow : Type 0 where
  -- in each run
  pub starts : (machine : Machine) → KeepsRules machine.design → TimesWithin 0 (start machine)
  pub happens : (machine : Machine) (turns : ℕ) (state : State) (event : Event) → KeepsRules machine.design → TimesWithin turns state → TimesWithin turns (after machine state event)
  pub turns_on : (turns : ℕ) (state : State) (turn : TurnKind) → turn_of state ≡ Some turn → TimesWithin turns state → TimesWithin (turns + 1) (turned turn state)
  pub more : (turns more : ℕ) (state : State) → turns ≤ more → TimesWithin turns state → TimesWithin more state
  -- a turn to a time leads to a later one, which was to come
  pub rises : (turns later : ℕ) (state : State) → turn_of state ≡ Some (TimeTurn later) → TimesWithin turns state → (state.time < later) × (later ≤ (turns + 1) * 4294967296)
  -- in each replay, line by line
  pub begins : (machine : Machine) → KeepsRules machine.design → TimesWithin 0 (begun machine).now
  pub line : (race : Bool) (machine : Machine) (bound turns : ℕ) (line : RunLine) (replay next : Replay) → KeepsRules machine.design →
      next_line race machine bound line replay ≡ Some next → TimesWithin turns replay.now → TimesWithin (turns + 1) next.now
