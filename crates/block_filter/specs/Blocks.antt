-- A phase of the good machine beside one of the faulty machine, both cut into blocks: stretches of events that both take and that go alike, and blocks in which each machine takes events of its own
-- (events and their causes by IEEE 1364-2001, clause 5).
use Rattle.std.specs.Prelude.{◌≡◌, ◌⊎◌, ◌||◌, ◌<◌, ℕ, true, List, [], ◌∷◌, ◌++◌, Bool, map, is_some}
use Rattle.vf_base.specs.Lists.{AllHold, joined, has}
use Rattle.v_design.specs.Paths.{paths, net_pieces}
use Rattle.v_design.specs.Designs.{FlatDesign, Machine, StuckAt, good_machine, faulty_machine}
use Rattle.v_design.specs.States.{State, Event, Step, LaneStep, is_process_event, some_in}
use Rattle.v_design.specs.Runs.{happened}
use Rattle.v_design.specs.Accesses.{ObjectAccess}
use Rattle.v_design.specs.Logs.{LoggedEvent, LoggedPhase, phase_changes}
use Rattle.v_design.specs.PhaseLogs.{NotedEvent, may_cause, noted_events, log_of}
use Rattle.block_filter.specs.Likes.{Marks, AreWider, HasLikeAmong, AllGoAlike}

-- a block of both phases
pub data BlockPair : Type 0 where
  -- a stretch of events that both machines take
  Alike : (events : List Event) → BlockPair
  -- one event that both machines take, and then the events of each
  Unlike : (first : Event) (good faulty : List Event) → BlockPair

-- the good machine's events of a block
abbrev pub good_events : BlockPair → List Event
good_events (Alike events) = events
good_events (Unlike first good faulty) = first ∷ good

-- the faulty machine's events of a block
abbrev pub faulty_events : BlockPair → List Event
faulty_events (Alike events) = events
faulty_events (Unlike first good faulty) = first ∷ faulty

-- the good machine's events of all blocks
abbrev pub good_phase : List BlockPair → List Event
good_phase blocks = joined (map good_events blocks)

-- the faulty machine's events of all blocks
abbrev pub faulty_phase : List BlockPair → List Event
faulty_phase blocks = joined (map faulty_events blocks)

-- Causes within a block; a block's events are noted by themselves, as if they were a phase

-- an event's cause is in the block
abbrev pub HasCause : NotedEvent → Type 0
HasCause noted = is_some noted.cause ≡ true

-- that of a node event is
abbrev pub HasCauseIfNode : NotedEvent → Type 0
HasCauseIfNode noted = (is_process_event noted.event || is_some noted.cause) ≡ true

-- a fact of each element but the first
abbrev pub AllLaterHold : {A : Type 0} → (A → Type 0) → List A → Type 0
AllLaterHold P [] = Unit {0}
AllLaterHold P (x ∷ xs) = AllHold P xs

-- whether some event of a block may be the cause of a later event
abbrev pub may_cause_later : Machine → State → List Event → Event → Bool
may_cause_later machine state events later = some_in (may_cause machine later) (noted_events machine state events)

-- Stretches

-- a stretch of events that both machines take: they go alike, and each node event has its cause among them
pub record IsStretch (design : FlatDesign) (fault : StuckAt) (marks : Marks) (good faulty : State) (events : List Event) : Type 0 where
  pub alike : AllGoAlike design fault marks good faulty events
  pub caused : AllHold HasCauseIfNode (noted_events (good_machine design) good events)

-- Blocks with events of their own

-- the accesses of a log's events
abbrev pub all_accesses : LoggedPhase → List ObjectAccess
all_accesses log = joined (map (λ (event : LoggedEvent). event.accesses) log.events)

-- each net piece that an object's change reaches is suspect
abbrev pub ReachesSuspects : FlatDesign → Marks → ℕ → Type 0
ReachesSuspects design marks changed = (net : ℕ) → has (net_pieces design) net ≡ true → 0 < paths design changed net → marks.suspect net ≡ true

-- an access of the faulty machine in a block of its own: its object is suspect, or met and the good machine has its like in its block
abbrev pub IsSuspectOrMet : Marks → List ObjectAccess → ObjectAccess → Type 0
IsSuspectOrMet marks ones access = (marks.suspect access.object ≡ true) ⊎ ((marks.met access.object ≡ true) × HasLikeAmong marks.awaited ones access)

-- a block of one machine: a process or lane step, and further events each of which has its cause in the block; what it changes reaches suspect net pieces alone
pub record IsBlock (machine : Machine) (marks : Marks) (state : State) (first : Event) (events : List Event) : Type 0 where
  pub begins : is_process_event first ≡ true
  pub caused : AllLaterHold HasCause (noted_events machine state (first ∷ events))
  pub reaches : AllHold (ReachesSuspects machine.design marks) (phase_changes machine.design (log_of machine state (first ∷ events)))

-- blocks of both machines that begin with one event: later process and lane steps may have their causes in the one just where they may in the other
pub record AreUnlike (design : FlatDesign) (fault : StuckAt) (marks : Marks) (good faulty : State) (first : Event) (ones others : List Event) : Type 0 where
  pub good_block : IsBlock (good_machine design) marks good first ones
  pub faulty_block : IsBlock (faulty_machine design fault) marks faulty first others
  pub steps : (process : ℕ) →
      may_cause_later (good_machine design) good (first ∷ ones) (Step process) ≡ may_cause_later (faulty_machine design fault) faulty (first ∷ others) (Step process)
  pub lanes : (process : ℕ) →
      may_cause_later (good_machine design) good (first ∷ ones) (LaneStep process) ≡ may_cause_later (faulty_machine design fault) faulty (first ∷ others) (LaneStep process)
  pub accesses :
      AllHold (IsSuspectOrMet marks (all_accesses (log_of (good_machine design) good (first ∷ ones)))) (all_accesses (log_of (faulty_machine design fault) faulty (first ∷ others)))

-- a block of both phases, from the states at its beginning
abbrev pub IsBlockPair : FlatDesign → StuckAt → Marks → State → State → BlockPair → Type 0
IsBlockPair design fault marks good faulty (Alike events) = IsStretch design fault marks good faulty events
IsBlockPair design fault marks good faulty (Unlike first ones others) = AreUnlike design fault marks good faulty first ones others

-- the blocks of two phases, each from the states that the ones before it lead to
abbrev pub AreBlocks : FlatDesign → StuckAt → Marks → State → State → List BlockPair → Type 0
AreBlocks design fault marks good faulty [] = Unit {0}
AreBlocks design fault marks good faulty (block ∷ blocks) =
    IsBlockPair design fault marks good faulty block
    × AreBlocks design fault marks (happened (good_machine design) good (good_events block)) (happened (faulty_machine design fault) faulty (faulty_events block)) blocks

-- The laws

-- blocks go on by one more, from the states that they lead to
abbrev pub BlocksGoOn : Type 0
BlocksGoOn =
    (design : FlatDesign) (fault : StuckAt) (marks : Marks) (good faulty : State) (blocks : List BlockPair) (block : BlockPair) → AreBlocks design fault marks good faulty blocks →
    IsBlockPair design fault marks (happened (good_machine design) good (good_phase blocks)) (happened (faulty_machine design fault) faulty (faulty_phase blocks)) block →
    AreBlocks design fault marks good faulty (blocks ++ block ∷ [])

-- blocks are blocks with more objects marked
abbrev pub BlocksWiden : Type 0
BlocksWiden =
    (design : FlatDesign) (fault : StuckAt) (marks wider : Marks) (good faulty : State) (blocks : List BlockPair) → AreWider marks wider → AreBlocks design fault marks good faulty blocks →
    AreBlocks design fault wider good faulty blocks
