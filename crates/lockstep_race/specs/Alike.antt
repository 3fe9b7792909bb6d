-- Pairs of blocks of a phase whose stretches do alike, values and all, and what none of their accesses does (accesses by IEEE 1364-2001, clause 5).
use Rattle.std.specs.Prelude.{ℕ, Bool, List, [], ◌∷◌, ◌++◌}
use Rattle.v_design.specs.Designs.{FlatDesign, StuckAt, good_machine, faulty_machine}
use Rattle.v_design.specs.States.{State, Event}
use Rattle.v_design.specs.Runs.{happened}
use Rattle.v_design.specs.Accesses.{AccessAct}
use Rattle.copy_laws.specs.QuietPhases.{AllDoAlike}
use Rattle.block_filter.specs.Blocks.{BlockPair, Alike, Unlike, good_phase, faulty_phase}
use Rattle.free_objects.specs.Stretches.{NonePasses}

-- each stretch that both machines take does alike, from the states that the blocks before it lead to
abbrev pub AreAlike : FlatDesign → StuckAt → State → State → List BlockPair → Type 0
AreAlike design fault good faulty [] = Unit {0}
AreAlike design fault good faulty (Alike events ∷ blocks) =
    AllDoAlike design fault good faulty events
    × AreAlike design fault (happened (good_machine design) good events) (happened (faulty_machine design fault) faulty events) blocks
AreAlike design fault good faulty (Unlike first ones others ∷ blocks) =
    AreAlike design fault (happened (good_machine design) good (first ∷ ones)) (happened (faulty_machine design fault) faulty (first ∷ others)) blocks

-- no access of the good machine in such a stretch passes a test of its object and its act, and none of the faulty machine in a block of its own
abbrev pub PairsPassNone : (ℕ → AccessAct → Bool) → FlatDesign → StuckAt → State → State → List BlockPair → Type 0
PairsPassNone test design fault good faulty [] = Unit {0}
PairsPassNone test design fault good faulty (Alike events ∷ blocks) =
    NonePasses test (good_machine design) good events
    × PairsPassNone test design fault (happened (good_machine design) good events) (happened (faulty_machine design fault) faulty events) blocks
PairsPassNone test design fault good faulty (Unlike first ones others ∷ blocks) =
    NonePasses test (faulty_machine design fault) faulty (first ∷ others)
    × PairsPassNone test design fault (happened (good_machine design) good (first ∷ ones)) (happened (faulty_machine design fault) faulty (first ∷ others)) blocks

-- The laws

-- so none of the faulty machine's phase does
abbrev pub PairsTell : Type 0
PairsTell =
    (test : ℕ → AccessAct → Bool) (design : FlatDesign) (fault : StuckAt) (good faulty : State) (blocks : List BlockPair) → AreAlike design fault good faulty blocks →
    PairsPassNone test design fault good faulty blocks → NonePasses test (faulty_machine design fault) faulty (faulty_phase blocks)

-- stretches do alike one more, and a block of its own asks nothing
pub record AlikeGoesOn : Type 0 where
  pub stretch : (design : FlatDesign) (fault : StuckAt) (good faulty : State) (blocks : List BlockPair) (events : List Event) → AreAlike design fault good faulty blocks →
      AllDoAlike design fault (happened (good_machine design) good (good_phase blocks)) (happened (faulty_machine design fault) faulty (faulty_phase blocks)) events →
      AreAlike design fault good faulty (blocks ++ Alike events ∷ [])
  pub own : (design : FlatDesign) (fault : StuckAt) (good faulty : State) (blocks : List BlockPair) (first : Event) (ones others : List Event) →
      AreAlike design fault good faulty blocks → AreAlike design fault good faulty (blocks ++ Unlike first ones others ∷ [])
