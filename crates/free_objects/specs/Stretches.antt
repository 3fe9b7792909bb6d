-- What some events of a phase don't access, judged by themselves: it is told stretch by stretch (accesses by IEEE 1364-2001, clause 5).
use Rattle.std.specs.Prelude.{◌≡◌, ◌&&◌, ℕ, Bool, true, false, not, List, ◌++◌, nat_eq}
use Rattle.vf_base.specs.Lists.{AllHold}
use Rattle.v_design.specs.Designs.{FlatDesign, Machine, StuckAt, good_machine, faulty_machine}
use Rattle.v_design.specs.States.{State, Event}
use Rattle.v_design.specs.Runs.{happened}
use Rattle.v_design.specs.Accesses.{AccessAct, Reading, Writing, Awaiting, Ending, Holding, Settling, ObjectAccess}
use Rattle.v_design.specs.Logs.{is_write}
use Rattle.v_design.specs.PhaseLogs.{log_of}
use Rattle.copy_laws.specs.QuietPhases.{AllDoAlike}
use Rattle.block_filter.specs.Blocks.{all_accesses}

-- no access of some events, from a state on, passes a test of its object and its act
abbrev pub NonePasses : (ℕ → AccessAct → Bool) → Machine → State → List Event → Type 0
NonePasses test machine state events = AllHold (λ (access : ObjectAccess). test access.object access.act ≡ false) (all_accesses (log_of machine state events))

-- they make no access of an object
abbrev pub IsUnused : Machine → State → List Event → ℕ → Type 0
IsUnused machine state events object = NonePasses (λ other act. nat_eq other object) machine state events

-- they make no write of it
abbrev pub IsUnwritten : Machine → State → List Event → ℕ → Type 0
IsUnwritten machine state events object = NonePasses (λ other act. nat_eq other object && is_write act) machine state events

-- whether an access is one with which the settling of a wild net piece conflicts, a held entry aside
abbrev pub is_reading : AccessAct → Bool
is_reading Reading = true
is_reading (Writing old new) = false
is_reading (Awaiting entry) = true
is_reading (Ending entry) = false
is_reading (Holding entry) = false
is_reading Settling = false

-- they make no read of it, nor do they begin to wait on it
abbrev pub IsUnread : Machine → State → List Event → ℕ → Type 0
IsUnread machine state events object = NonePasses (λ other act. nat_eq other object && is_reading act) machine state events

-- they access it by writes alone
abbrev pub IsOnlyWritten : Machine → State → List Event → ℕ → Type 0
IsOnlyWritten machine state events object = NonePasses (λ other act. nat_eq other object && not (is_write act)) machine state events

-- The laws

-- what none of some events does, and none of those behind them, none of all does
abbrev pub StretchesJoin : Type 0
StretchesJoin =
    (test : ℕ → AccessAct → Bool) (machine : Machine) (state : State) (before after : List Event) → NonePasses test machine state before →
    NonePasses test machine (happened machine state before) after → NonePasses test machine state (before ++ after)

-- what none of the good machine's events does, none of the faulty machine's does that do alike
abbrev pub AlikeStretchesDo : Type 0
AlikeStretchesDo =
    (test : ℕ → AccessAct → Bool) (design : FlatDesign) (fault : StuckAt) (good faulty : State) (events : List Event) → AllDoAlike design fault good faulty events →
    NonePasses test (good_machine design) good events → NonePasses test (faulty_machine design fault) faulty events
