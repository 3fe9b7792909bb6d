-- The blocks of some phases, whose events are numbered through: the number of an event is its moment (events and phases by IEEE 1364-2001, clause 5).
use Rattle.std.specs.Prelude.{◌≡◌, ◌⊎◌, ℕ, ◌+◌, ◌<◌, ◌≤◌, true, List, [], ◌∷◌, map, length, take, get_or, Option, Some, None, slice_get}
use Rattle.std.specs.List.{AllZip}
use Rattle.vf_base.specs.Lists.{has, joined}
use Rattle.v_design.specs.Designs.{Machine}
use Rattle.v_design.specs.Grades.{Phase}
use Rattle.v_design.specs.States.{Event}
use Rattle.phase_blocks.specs.Blocks.{IsBetweenRuns}

-- how many events some phases have
abbrev pub events_in : List Phase → ℕ
events_in [] = 0
events_in (phase ∷ phases) = length phase.events + events_in phases

-- a block begins with the event of a number of a phase: it comes between runs
pub record BlockBeginsAt (machine : Machine) (phase : Phase) (number : ℕ) : Type 0 where
  pub within : number < length phase.events
  pub between : IsBetweenRuns machine phase.begins (take number phase.events)

-- with the event of a moment of some phases, the first event of which has a moment
abbrev pub BlockBeginsIn : Machine → ℕ → List Phase → ℕ → Type 0
BlockBeginsIn machine first [] moment = ⊥
BlockBeginsIn machine first (phase ∷ phases) moment =
    ((number : ℕ) × (moment ≡ first + number) × BlockBeginsAt machine phase number) ⊎ BlockBeginsIn machine (first + length phase.events) phases moment

-- numbers ascend, each once, from one on
abbrev pub AscendFrom : ℕ → List ℕ → Type 0
AscendFrom least [] = Unit {0}
AscendFrom least (number ∷ numbers) = (least ≤ number) × AscendFrom (number + 1) numbers

-- these are just the moments with which blocks of some phases begin, in ascending order: there is one such list
pub record AreBlockMoments (machine : Machine) (phases : List Phase) (moments : List ℕ) : Type 0 where
  pub ascend : AscendFrom 0 moments
  pub begins : (moment : ℕ) → has moments moment ≡ true → BlockBeginsIn machine 0 phases moment
  pub all : (moment : ℕ) → BlockBeginsIn machine 0 phases moment → has moments moment ≡ true

-- the events of some phases
abbrev pub events_of : List Phase → List Event
events_of phases = joined (map (λ (phase : Phase). phase.events) phases)

-- these are the events of some moments
abbrev pub AreFirstEvents : List Phase → List ℕ → List Event → Type 0
AreFirstEvents phases moments events = AllZip (λ moment event. slice_get (events_of phases) moment ≡ Some event) moments events

-- of each phase how many events there are up to its end: so the first moment of the next one
pub record ArePhaseEnds (phases : List Phase) (ends : List ℕ) : Type 0 where
  pub count : length ends ≡ length phases
  pub each : (place end : ℕ) → slice_get ends place ≡ Some end → end ≡ events_in (take (place + 1) phases)

-- the block of the event of a moment, by the moments with which blocks begin: the last one that doesn't begin behind it; none where all do
abbrev pub IsBlockAt : List ℕ → ℕ → Option ℕ → Type 0
IsBlockAt moments moment None = (block : ℕ) → block < length moments → moment < get_or moments block 0
IsBlockAt moments moment (Some block) =
    (block < length moments) × (get_or moments block 0 ≤ moment) × ((later : ℕ) → block < later → later < length moments → moment < get_or moments later 0)
