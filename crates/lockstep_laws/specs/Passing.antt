-- Events of the good machine that touch nothing in which a faulty machine in lockstep differs (IEEE 1364-2001, clause 5).
use Rattle.std.specs.Prelude.{List, [], ◌∷◌}
use Rattle.v_design.specs.Designs.{FlatDesign, StuckAt, good_machine, faulty_machine}
use Rattle.v_design.specs.States.{State, Event, after}
use Rattle.v_design.specs.Runs.{happened}
use Rattle.v_design.specs.WellFormed.{KeepsRules}
use Rattle.copy_laws.specs.Beside.{Apart, AreFirst, GoOnBeside}
use Rattle.copy_laws.specs.Moves.{Within, apart_within}
use Rattle.copy_laws.specs.QuietPhases.{AllDoAlike}
use Rattle.copy_laws.specs.Touches.{EventIsFree}
use Rattle.lockstep_laws.specs.Phases.{IsInPhase}
use Rattle.lockstep_laws.specs.Lockstep.{AreInLockstep}

-- none of some events of the good machine touches what differs, each in the state that the ones before it lead to: in lockstep a process waits for the same in both machines, so the good state
-- tells also what the kept processes of the faulty machine wait for
abbrev pub AreFree : FlatDesign → StuckAt → Apart → State → List Event → Type 0
AreFree design fault apart good [] = Unit {0}
AreFree design fault apart good (event ∷ events) = EventIsFree design fault apart good good event × AreFree design fault apart (after (good_machine design) good event) events

-- the faulty machine's first order takes the good one's events, each of which does alike; the differences stay, and so does what each machine has where they are apart
pub record PassTogether (design : FlatDesign) (fault : StuckAt) (d : Within) (good faulty : State) (events : List Event) : Type 0 where
  pub first : AreFirst (faulty_machine design fault) faulty events
  pub lockstep : AreInLockstep d (happened (good_machine design) good events) (happened (faulty_machine design fault) faulty events)
  pub beside : GoOnBeside design fault (apart_within d) good faulty events
  pub alike : AllDoAlike design fault good faulty events

-- in lockstep the faulty machine takes the events that the good one's first order takes without touching a difference, and lockstep stands behind them
abbrev pub LockstepPasses : Type 0
LockstepPasses =
    (design : FlatDesign) (fault : StuckAt) (d : Within) (good faulty : State) (events : List Event) → KeepsRules design → AreInLockstep d good faulty →
    IsInPhase (good_machine design) good → IsInPhase (faulty_machine design fault) faulty → AreFirst (good_machine design) good events → AreFree design fault (apart_within d) good events →
    PassTogether design fault d good faulty events
