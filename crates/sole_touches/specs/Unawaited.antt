-- Objects on which no process may wait: which of them are free in a phase by its reads and writes alone (conflicts by IEEE 1364-2001, clause 5; waits by clause 9.7).
use Rattle.std.specs.Prelude.{◌≡◌, ◌&&◌, ℕ, ◌≤◌, Bool, true, false, List, ◌++◌, nat_eq, IsTrue}
use Rattle.vf_base.specs.Lists.{AllHold, has}
use Rattle.v_design.specs.Paths.{net_pieces}
use Rattle.v_design.specs.Designs.{Machine}
use Rattle.v_design.specs.States.{State, Event}
use Rattle.v_design.specs.Runs.{all_possible, happened}
use Rattle.v_design.specs.Accesses.{AccessAct, Reading, Writing, Awaiting, Ending, Holding, Settling, ObjectAccess, held_accesses}
use Rattle.v_design.specs.PhaseLogs.{log_of}
use Rattle.v_design.specs.WellFormed.{KeepsRules}
use Rattle.v_design.specs.Laws.{BeginsPhase}
use Rattle.trace_window.specs.Moments.{Seen, seen_from}
use Rattle.trace_window.specs.Touched.{is_touching, event_touches, event_writes}
use Rattle.block_filter.specs.Blocks.{all_accesses}
use Rattle.block_filter.specs.Suffice.{ObjectIsFree}
use Rattle.block_changes.specs.Changes.{ends_wait_of, steps_lane}
use Rattle.free_objects.specs.Stretches.{NonePasses, IsUnused}
use Rattle.free_objects.specs.FreeObjects.{is_wild_net}
use Rattle.wait_index.specs.Waits.{WaitsAreOfBodies}
use Rattle.lockstep_waits.specs.Awaited.{is_awaited}
use Rattle.sole_touches.specs.Counts.{count_passing}

-- whether an access reads or writes an object
abbrev pub touches_object : ℕ → ℕ → AccessAct → Bool
touches_object object other act = nat_eq other object && is_touching act

-- whether an access reads its object
abbrev pub is_read : AccessAct → Bool
is_read Reading = true
is_read (Writing old new) = false
is_read (Awaiting entry) = false
is_read (Ending entry) = false
is_read (Holding entry) = false
is_read Settling = false

-- whether an access reads an object
abbrev pub reads_object : ℕ → ℕ → AccessAct → Bool
reads_object object other act = nat_eq other object && is_read act

-- from a state of a run on no process waits on an object
pub record IsUnawaited (machine : Machine) (state : State) (object : ℕ) : Type 0 where
  pub bodies : WaitsAreOfBodies machine state
  pub unawaited : is_awaited machine.design object ≡ false

-- one process alone reads or writes an object among some events, none of which is a step of a lane, and its wait doesn't end among them
pub record AreOneRun (machine : Machine) (state : State) (run : List Event) (object process : ℕ) : Type 0 where
  pub touches : AllHold (λ (access : ObjectAccess). touches_object object access.object access.act ≡ true → access.process ≡ process) (all_accesses (log_of machine state run))
  pub no_lane : (other : ℕ) → steps_lane run other ≡ false
  pub goes_on : ends_wait_of machine state run process ≡ false

-- an event that reads or writes an object writes it, as the tables of a window tell
abbrev pub TouchesByWrites : Machine → ℕ → Seen → Type 0
TouchesByWrites machine object seen = event_touches machine object seen ≡ true → event_writes machine object seen ≡ true

-- The laws

-- where each event that reads or writes an object writes it, none reads it: an event reads or writes, and doesn't both
abbrev pub WritesAloneTouch : Type 0
WritesAloneTouch =
    (machine : Machine) (state : State) (events : List Event) (object : ℕ) → AllHold (TouchesByWrites machine object) (seen_from machine state events) →
    NonePasses (reads_object object) machine state events

-- The laws of an object on which no process waits

-- where no event reads or writes it, it is unused
abbrev pub UntouchedAreUnused : Type 0
UntouchedAreUnused =
    (machine : Machine) (state : State) (events : List Event) (object : ℕ) → IsUnawaited machine state object → NonePasses (touches_object object) machine state events →
    IsUnused machine state events object

-- nothing of it is held
abbrev pub UnawaitedAreUnheld : Type 0
UnawaitedAreUnheld =
    (machine : Machine) (state : State) (object : ℕ) → IsUnawaited machine state object → AllHold (λ (access : ObjectAccess). nat_eq access.object object ≡ false) (held_accesses machine state)

-- where it isn't a wild net piece, and is read or written once at most, it is free
abbrev pub SoleTouchesAreFree : Type 0
SoleTouchesAreFree =
    (machine : Machine) (state : State) (events : List Event) (object : ℕ) → IsUnawaited machine state object → is_wild_net machine.design (log_of machine state events) object ≡ false →
    count_passing (touches_object object) machine state events ≤ 1 → ObjectIsFree machine.design (log_of machine state events) object

-- so is a variable that one run of a process alone reads and writes
abbrev pub SoleRunsTouchFree : Type 0
SoleRunsTouchFree =
    (machine : Machine) (state : State) (before run behind : List Event) (object process : ℕ) → IsUnawaited machine state object → has (net_pieces machine.design) object ≡ false →
    NonePasses (touches_object object) machine state before → AreOneRun machine (happened machine state before) run object process →
    NonePasses (touches_object object) machine (happened machine state (before ++ run)) behind → ObjectIsFree machine.design (log_of machine state (before ++ (run ++ behind))) object

-- a net piece, wild or not, is free in a run of possible events from a phase's beginning that don't read it
abbrev pub UnreadNetsAreFree : Type 0
UnreadNetsAreFree =
    (machine : Machine) (state : State) (events : List Event) (net : ℕ) → KeepsRules machine.design → BeginsPhase machine state → IsTrue (all_possible machine state events) →
    has (net_pieces machine.design) net ≡ true → IsUnawaited machine state net → NonePasses (reads_object net) machine state events →
    ObjectIsFree machine.design (log_of machine state events) net
