-- When a phase of the faulty machine has no race because the good machine's has none: what is left to look at, once both are cut into blocks (conflicts by IEEE 1364-2001, clause 5).
use Rattle.std.specs.Prelude.{◌≡◌, ℕ, ◌≤◌, Bool, true, false, List, ◌∷◌, map, Some, None, slice_get}
use Rattle.vf_base.specs.Lists.{joined}
use Rattle.v_design.specs.Trees.{Entry}
use Rattle.v_design.specs.Designs.{FlatDesign, StuckAt, good_machine, faulty_machine}
use Rattle.v_design.specs.States.{State}
use Rattle.v_design.specs.Accesses.{AccessAct, Reading, Writing, Awaiting, Ending, Holding, Settling, ObjectAccess, held_accesses}
use Rattle.v_design.specs.Logs.{LoggedPhase, PhaseAccess, log_accesses, conflict}
use Rattle.v_design.specs.PhaseLogs.{log_of, phase_race}
use Rattle.copy_laws.specs.Filter.{IsIn}
use Rattle.block_filter.specs.Likes.{Marks}
use Rattle.block_filter.specs.Blocks.{BlockPair, Alike, Unlike, good_phase, faulty_phase, AreBlocks}

-- no two accesses of an object conflict
abbrev pub ObjectIsFree : FlatDesign → LoggedPhase → ℕ → Type 0
ObjectIsFree design log object =
    (first second : PhaseAccess) → IsIn first (log_accesses design log) → IsIn second (log_accesses design log) → first.access.object ≡ object → second.access.object ≡ object →
    conflict log first second ≡ false

-- what the faulty machine holds from the phase's beginning the good one holds too, suspect objects aside
abbrev pub HoldsAlike : Marks → List ObjectAccess → List ObjectAccess → Type 0
HoldsAlike marks ones others = (access : ObjectAccess) → IsIn access others → marks.suspect access.object ≡ false → IsIn access ones

-- an access of a wait is one of an awaited entry
abbrev pub IsAwaited : (Entry → Bool) → AccessAct → Type 0
IsAwaited awaited Reading = Unit {0}
IsAwaited awaited (Writing old new) = Unit {0}
IsAwaited awaited (Awaiting entry) = awaited entry ≡ true
IsAwaited awaited (Ending entry) = awaited entry ≡ true
IsAwaited awaited (Holding entry) = Unit {0}
IsAwaited awaited Settling = Unit {0}

-- the entries that the log of the faulty machine waits on are awaited ones, suspect objects aside
abbrev pub WaitsAreAwaited : FlatDesign → Marks → LoggedPhase → Type 0
WaitsAreAwaited design marks log =
    (access : PhaseAccess) → IsIn access (log_accesses design log) → marks.suspect access.access.object ≡ false → IsAwaited marks.awaited access.access.act

-- for each of the faulty machine's events of a block, whether the block has events of its own
abbrev pub unlike_flags : BlockPair → List Bool
unlike_flags (Alike events) = map (λ event. false) events
unlike_flags (Unlike first good faulty) = map (λ event. true) (first ∷ faulty)

-- the event of a number in the faulty machine's phase is of a block with events of its own
abbrev pub IsOfUnlike : List BlockPair → ℕ → Type 0
IsOfUnlike blocks number = slice_get (joined (map unlike_flags blocks)) number ≡ Some true

-- two accesses of a met object in the faulty machine's phase, the first in a block with events of its own, and the second of no earlier event
pub record AreLeft (marks : Marks) (blocks : List BlockPair) (first second : PhaseAccess) : Type 0 where
  pub met : marks.met first.access.object ≡ true
  pub same : first.access.object ≡ second.access.object
  pub one : ℕ
  pub other : ℕ
  pub first_event : first.event ≡ Some one
  pub second_event : second.event ≡ Some other
  pub unlike : IsOfUnlike blocks one
  pub not_before : one ≤ other

-- where the good machine's phase has no race, the faulty machine's has none if no two accesses of a suspect object conflict, and no two of a met object that are left
abbrev pub BlocksSuffice : Type 0
BlocksSuffice =
    (design : FlatDesign) (fault : StuckAt) (marks : Marks) (good faulty : State) (blocks : List BlockPair) →
    AreBlocks design fault marks good faulty blocks →
    HoldsAlike marks (held_accesses (good_machine design) good) (held_accesses (faulty_machine design fault) faulty) →
    WaitsAreAwaited design marks (log_of (faulty_machine design fault) faulty (faulty_phase blocks)) →
    phase_race (good_machine design) good (good_phase blocks) ≡ None →
    ((object : ℕ) → marks.suspect object ≡ true → ObjectIsFree design (log_of (faulty_machine design fault) faulty (faulty_phase blocks)) object) →
    ((first second : PhaseAccess) → IsIn first (log_accesses design (log_of (faulty_machine design fault) faulty (faulty_phase blocks))) →
    IsIn second (log_accesses design (log_of (faulty_machine design fault) faulty (faulty_phase blocks))) → AreLeft marks blocks first second →
    conflict (log_of (faulty_machine design fault) faulty (faulty_phase blocks)) first second ≡ false) →
    phase_race (faulty_machine design fault) faulty (faulty_phase blocks) ≡ None

-- whatever entries a log waits on, they are awaited ones where every entry is
abbrev pub AllAreAwaited : Type 0
AllAreAwaited = (design : FlatDesign) (marks : Marks) (log : LoggedPhase) → ((entry : Entry) → marks.awaited entry ≡ true) → WaitsAreAwaited design marks log
