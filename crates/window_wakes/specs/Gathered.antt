-- The wakes of a phase, told by the causes of its steps (causes by IEEE 1364-2001, clause 5).
use Rattle.std.specs.Prelude.{ℕ, ◌+◌, Bool, true, false, List, [], ◌∷◌, ◌++◌, map, length, Option, Some, None, slice_get}
use Rattle.v_design.specs.States.{Event, Step, LaneStep, Evaluation, NetUpdate}
use Rattle.v_design.specs.Logs.{LoggedEvent, LoggedPhase}
use Rattle.v_design.specs.PhaseLogs.{is_step_of}
use Rattle.causal_monitor.specs.Phases.{PhaseOfSlot}
use Rattle.window_wakes.specs.Wakes.{WakeTold}

-- the cause of each event of a phase
abbrev pub causes_of : LoggedPhase → List (Option ℕ)
causes_of log = map (λ (event : LoggedEvent). event.cause) log.events

-- whether the event of a number is a step of a process
abbrev pub steps_at : List Event → ℕ → ℕ → Bool
steps_at events process number = elim (slice_get events number) [ None ↦ true | Some event ↦ is_step_of process event ]

-- a wake, unless a test holds
abbrev pub wake_unless : Bool → ℕ → ℕ → List WakeTold
wake_unless true moment process = []
wake_unless false moment process = record { moment = moment; process = process } ∷ []

-- the wake that the cause of a step tells: where it isn't a step of the same process
abbrev pub wake_by : ℕ → List Event → Event → Option ℕ → List WakeTold
wake_by first events (Step process) None = []
wake_by first events (Step process) (Some number) = wake_unless (steps_at events process number) (first + number) process
wake_by first events (LaneStep process) cause = []
wake_by first events (Evaluation node) cause = []
wake_by first events (NetUpdate node) cause = []

-- those that the causes of some events tell, in the order of these
abbrev pub wakes_by : ℕ → List Event → List Event → List (Option ℕ) → List WakeTold
wakes_by first events [] causes = []
wakes_by first events (event ∷ later) [] = []
wakes_by first events (event ∷ later) (cause ∷ causes) = wake_by first events event cause ++ wakes_by first events later causes

-- those of a phase whose first event has a moment
abbrev pub phase_wakes : ℕ → List Event → LoggedPhase → List WakeTold
phase_wakes first events log = wakes_by first events events (causes_of log)

-- those of several phases
abbrev pub all_wakes : ℕ → List (List Event) → List PhaseOfSlot → List WakeTold
all_wakes first [] logs = []
all_wakes first (events ∷ rest) [] = []
all_wakes first (events ∷ rest) (phase ∷ logs) = phase_wakes first events phase.log ++ all_wakes (first + length events) rest logs
