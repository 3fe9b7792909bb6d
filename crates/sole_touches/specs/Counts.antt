-- How often some events of a phase access objects, counted stretch by stretch (accesses by IEEE 1364-2001, clause 5).
use Rattle.std.specs.Prelude.{◌≡◌, ℕ, ◌+◌, Bool, List, [], ◌∷◌, ◌++◌, count_by}
use Rattle.v_design.specs.Designs.{FlatDesign, Machine, StuckAt, good_machine, faulty_machine}
use Rattle.v_design.specs.States.{State, Event}
use Rattle.v_design.specs.Runs.{happened}
use Rattle.v_design.specs.Accesses.{AccessAct, ObjectAccess}
use Rattle.v_design.specs.PhaseLogs.{log_of}
use Rattle.copy_laws.specs.QuietPhases.{AllDoAlike}
use Rattle.block_filter.specs.Blocks.{BlockPair, Alike, Unlike, all_accesses, faulty_phase}
use Rattle.free_objects.specs.Stretches.{NonePasses}
use Rattle.lockstep_race.specs.Alike.{AreAlike}

-- how many accesses of some events, from a state on, pass a test of their object and their act
abbrev pub count_passing : (ℕ → AccessAct → Bool) → Machine → State → List Event → ℕ
count_passing test machine state events = count_by (λ (access : ObjectAccess). test access.object access.act) (all_accesses (log_of machine state events))

-- the same of pairs of blocks: of the good machine in the stretches that both take, and of the faulty machine in its own blocks
abbrev pub count_in_pairs : (ℕ → AccessAct → Bool) → FlatDesign → StuckAt → State → State → List BlockPair → ℕ
count_in_pairs test design fault good faulty [] = 0
count_in_pairs test design fault good faulty (Alike events ∷ blocks) =
    count_passing test (good_machine design) good events
    + count_in_pairs test design fault (happened (good_machine design) good events) (happened (faulty_machine design fault) faulty events) blocks
count_in_pairs test design fault good faulty (Unlike first ones others ∷ blocks) =
    count_passing test (faulty_machine design fault) faulty (first ∷ others)
    + count_in_pairs test design fault (happened (good_machine design) good (first ∷ ones)) (happened (faulty_machine design fault) faulty (first ∷ others)) blocks

-- The laws

-- none passes just where none is counted
pub record NoneAreCounted : Type 0 where
  pub none : (test : ℕ → AccessAct → Bool) (machine : Machine) (state : State) (events : List Event) → NonePasses test machine state events → count_passing test machine state events ≡ 0
  pub counted : (test : ℕ → AccessAct → Bool) (machine : Machine) (state : State) (events : List Event) → count_passing test machine state events ≡ 0 → NonePasses test machine state events

-- events behind others add to the count
abbrev pub CountsJoin : Type 0
CountsJoin =
    (test : ℕ → AccessAct → Bool) (machine : Machine) (state : State) (before behind : List Event) →
    count_passing test machine state (before ++ behind) ≡ count_passing test machine state before + count_passing test machine (happened machine state before) behind

-- events that do alike count alike
abbrev pub AlikeCounts : Type 0
AlikeCounts =
    (test : ℕ → AccessAct → Bool) (design : FlatDesign) (fault : StuckAt) (good faulty : State) (events : List Event) → AllDoAlike design fault good faulty events →
    count_passing test (good_machine design) good events ≡ count_passing test (faulty_machine design fault) faulty events

-- so the faulty machine's phase is counted by the good machine's stretches and its own blocks
abbrev pub PairsAreCounted : Type 0
PairsAreCounted =
    (test : ℕ → AccessAct → Bool) (design : FlatDesign) (fault : StuckAt) (good faulty : State) (blocks : List BlockPair) → AreAlike design fault good faulty blocks →
    count_passing test (faulty_machine design fault) faulty (faulty_phase blocks) ≡ count_in_pairs test design fault good faulty blocks
