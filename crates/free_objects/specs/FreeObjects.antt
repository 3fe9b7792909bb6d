-- When no two accesses of an object conflict in a phase, by what a caller can count: accesses that write nothing, those of one event or of one run of a process, wild net pieces that nothing reads
-- (conflicts by IEEE 1364-2001, clause 5).
use Rattle.std.specs.Prelude.{◌≡◌, ◌&&◌, ℕ, ◌≤◌, Bool, true, false, List, [], ◌∷◌, ◌++◌, length, Some, nat_eq, IsTrue}
use Rattle.vf_base.specs.Lists.{AllHold, has}
use Rattle.v_design.specs.Paths.{net_pieces, is_wild}
use Rattle.v_design.specs.Designs.{FlatDesign, Machine}
use Rattle.v_design.specs.States.{State, Event, some_in}
use Rattle.v_design.specs.Runs.{happened, all_possible}
use Rattle.v_design.specs.Accesses.{ObjectAccess, held_accesses}
use Rattle.v_design.specs.Logs.{LoggedPhase, PhaseAccess, phase_changes, log_accesses, conflict}
use Rattle.v_design.specs.PhaseLogs.{NotedEvent, ends_wait, is_step_of, noted_events, logged, log_of}
use Rattle.v_design.specs.WellFormed.{KeepsRules}
use Rattle.v_design.specs.Laws.{BeginsPhase}
use Rattle.copy_laws.specs.Filter.{IsIn}
use Rattle.block_filter.specs.Suffice.{ObjectIsFree}
use Rattle.free_objects.specs.Stretches.{IsUnused, IsUnwritten, IsUnread, IsOnlyWritten}

-- whether an object is a wild net piece in a phase
abbrev pub is_wild_net : FlatDesign → LoggedPhase → ℕ → Bool
is_wild_net design log object = has (net_pieces design) object && is_wild design (phase_changes design log) object

-- an event that accesses an object is a step of a process, and no event ends a wait of it
pub record IsOfRun (machine : Machine) (object process : ℕ) (noted : NotedEvent) : Type 0 where
  pub steps : some_in (λ (access : ObjectAccess). nat_eq access.object object) (logged machine noted).accesses ≡ true → is_step_of process noted.event ≡ true
  pub goes_on : ends_wait machine process noted ≡ false

-- The laws

-- an object that isn't a wild net piece and that no event writes is free
abbrev pub UnwrittenObjectsAreFree : Type 0
UnwrittenObjectsAreFree =
    (machine : Machine) (state : State) (events : List Event) (object : ℕ) → is_wild_net machine.design (log_of machine state events) object ≡ false →
    IsUnwritten machine state events object → ObjectIsFree machine.design (log_of machine state events) object

-- so is one that one event alone accesses
abbrev pub SoleEventsAreFree : Type 0
SoleEventsAreFree =
    (machine : Machine) (state : State) (before after : List Event) (event : Event) (object : ℕ) →
    is_wild_net machine.design (log_of machine state (before ++ event ∷ after)) object ≡ false → IsUnused machine state before object →
    IsUnused machine (happened machine state (before ++ event ∷ [])) after object → ObjectIsFree machine.design (log_of machine state (before ++ event ∷ after)) object

-- and one that steps of one process alone access, between which no event ends a wait of it
abbrev pub SoleRunsAreFree : Type 0
SoleRunsAreFree =
    (machine : Machine) (state : State) (before run after : List Event) (object process : ℕ) →
    is_wild_net machine.design (log_of machine state (before ++ (run ++ after))) object ≡ false → IsUnused machine state before object →
    AllHold (IsOfRun machine object process) (noted_events machine (happened machine state before) run) →
    IsUnused machine (happened machine state (before ++ run)) after object → ObjectIsFree machine.design (log_of machine state (before ++ (run ++ after))) object

-- a wild net piece is free that nothing reads, begins to wait on, or holds an entry on
abbrev pub UnreadNetsAreFree : Type 0
UnreadNetsAreFree =
    (machine : Machine) (state : State) (events : List Event) (net : ℕ) → is_wild_net machine.design (log_of machine state events) net ≡ true → IsUnread machine state events net →
    AllHold (λ (access : ObjectAccess). nat_eq access.object net ≡ false) (held_accesses machine state) → ObjectIsFree machine.design (log_of machine state events) net

-- a net piece, wild or not, is free in a run of possible events from a phase's beginning that access it by writes alone, where nothing holds an entry on it
abbrev pub WrittenNetsAreFree : Type 0
WrittenNetsAreFree =
    (machine : Machine) (state : State) (events : List Event) (net : ℕ) → KeepsRules machine.design → BeginsPhase machine state → IsTrue (all_possible machine state events) →
    has (net_pieces machine.design) net ≡ true → IsOnlyWritten machine state events net →
    AllHold (λ (access : ObjectAccess). nat_eq access.object net ≡ false) (held_accesses machine state) → ObjectIsFree machine.design (log_of machine state events) net

-- two accesses of an object that isn't a wild net piece don't conflict where nothing writes the object from some event on, and neither is of an earlier event
abbrev pub LaterReadsAreFree : Type 0
LaterReadsAreFree =
    (machine : Machine) (state : State) (before after : List Event) (object : ℕ) → is_wild_net machine.design (log_of machine state (before ++ after)) object ≡ false →
    IsUnwritten machine (happened machine state before) after object →
    (first second : PhaseAccess) (one other : ℕ) → IsIn first (log_accesses machine.design (log_of machine state (before ++ after))) →
    IsIn second (log_accesses machine.design (log_of machine state (before ++ after))) → first.access.object ≡ object → second.access.object ≡ object →
    first.event ≡ Some one → second.event ≡ Some other → length before ≤ one → length before ≤ other → conflict (log_of machine state (before ++ after)) first second ≡ false
