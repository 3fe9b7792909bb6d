-- States of compiled code: they stand at a rest of the process; and which have room for what its statements read and write (IEEE 1364-2001, clause 9).
use Rattle.std.specs.Prelude.{◌≡◌, ℕ, ◌+◌, ◌≤◌, ◌<◌, List, length, slice_get, Some, vec_capacity}
use Rattle.vf_base.specs.Lists.{AllHold}
use Rattle.v_design.specs.Trees.{Expression, Target, Statement, Null, Block, If, Case, For, While, Repeat, Forever, Delay, EventControl, Wait, Blocking, Nonblocking, Finish}
use Rattle.v_design.specs.Reads.{named_by}
use Rattle.v_design.specs.Sized.{IsSizedStatement}
use Rattle.process_operands.specs.Bounds.{reads_most, reads_most_items, reads_most_targets}
use Rattle.process_operands.specs.BoundsLaws.{AreBelow}
use Rattle.process_code.specs.Rests.{Part, Runs, TurnsLeft}
use Rattle.process_code.specs.Positions.{part_of_head, StandsAt}
use Rattle.four_value.specs.Values.{LogicValue}
use Rattle.v_design.specs.Plain.{statement_of, process_of}
use Rattle.v_design.specs.Processes.{process_step}
use Rattle.process_code.specs.Codes.{rests_in_code}
use Rattle.process_code.specs.Points.{point_of, said_by, tasks_at, IsStep}
use Rattle.process_code.specs.Reached.{IsReached}
use Rattle.process_code.specs.declared.state.Did.{Did}
use Rattle.process_code.specs.declared.code.Spot.{Spot}
use Rattle.process_code.specs.declared.code.Code.{Code}
use Rattle.process_code.specs.declared.state.ProcState.{ProcState}

-- how many operands an assignment reads at most
abbrev pub most_of_assignment : List Target → Expression → ℕ
most_of_assignment targets value = reads_most value + reads_most_targets targets

-- how many operands are read for a step of a statement at most
abbrev pub most_operands : Statement → ℕ
most_operands Null = 0
most_operands (Block many) = 0
most_operands (If place condition first second) = reads_most condition
most_operands (Case place kind value items default) = reads_most value + reads_most_items items
most_operands (For place first_targets first condition next_targets next body) = most_of_assignment first_targets first
most_operands (While place condition body) = reads_most condition
most_operands (Repeat place count body) = reads_most count
most_operands (Forever place body) = 0
most_operands (Delay place delay body) = 0
most_operands (EventControl place entries body) = 0
most_operands (Wait place condition body) = reads_most condition
most_operands (Blocking place targets delay value) = most_of_assignment targets value
most_operands (Nonblocking place targets delay value) = most_of_assignment targets value
most_operands (Finish place) = 0

-- how many updates a step of a statement leaves at most
abbrev pub most_updates : Statement → ℕ
most_updates Null = 0
most_updates (Block many) = 0
most_updates (If place condition first second) = 0
most_updates (Case place kind value items default) = 0
most_updates (For place first_targets first condition next_targets next body) = length first_targets
most_updates (While place condition body) = 0
most_updates (Repeat place count body) = 0
most_updates (Forever place body) = 0
most_updates (Delay place delay body) = 0
most_updates (EventControl place entries body) = 0
most_updates (Wait place condition body) = 0
most_updates (Blocking place targets delay value) = length targets
most_updates (Nonblocking place targets delay value) = length targets
most_updates (Finish place) = 0

-- there is room for so many operands and updates of a part
abbrev pub HasRoomFor : ℕ → ℕ → Part → Type 0
HasRoomFor operands updates (Runs statement) = (most_operands statement ≤ operands) × (most_updates statement ≤ updates)
HasRoomFor operands updates (TurnsLeft number place body) = Unit {0}

-- there is room in a state for a part
abbrev pub FitsIn : ProcState → Part → Type 0
FitsIn state part = HasRoomFor (vec_capacity state.operands) (vec_capacity state.updates) part

-- a statement is sized, and names no object that the body doesn't
pub record IsWithin (body statement : Statement) : Type 0 where
  pub sized : IsSizedStatement statement
  pub below : (limit : ℕ) → AreBelow limit (named_by body) → AreBelow limit (named_by statement)

-- the statement of a part is within the body
abbrev pub IsPartWithin : Statement → Part → Type 0
IsPartWithin body (Runs statement) = IsWithin body statement
IsPartWithin body (TurnsLeft number place inner) = IsWithin body inner

-- a rest of the body stands at a position
pub record IsRestAt (body : Statement) (rests : List (List Part)) (position : ℕ) : Type 0 where
  pub rest : List Part
  pub stands : StandsAt rests position rest
  pub within : AllHold (IsPartWithin body) rest

-- a state keeps its room, and the number of its counts
pub record KeepsRoom (old new : ProcState) : Type 0 where
  pub operands : vec_capacity old.operands ≤ vec_capacity new.operands
  pub updates : vec_capacity old.updates ≤ vec_capacity new.updates
  pub counts : length new.counts.items ≡ length old.counts.items

-- a state has a count of a repeat's number
abbrev pub CountsRepeat : Statement → ℕ → ProcState → Type 0
CountsRepeat Null number state = Unit {0}
CountsRepeat (Block many) number state = Unit {0}
CountsRepeat (If place condition first second) number state = Unit {0}
CountsRepeat (Case place kind value items default) number state = Unit {0}
CountsRepeat (For place first_targets first condition next_targets next body) number state = Unit {0}
CountsRepeat (While place condition body) number state = Unit {0}
CountsRepeat (Repeat place count body) number state = number < length state.counts.items
CountsRepeat (Forever place body) number state = Unit {0}
CountsRepeat (Delay place delay body) number state = Unit {0}
CountsRepeat (EventControl place entries body) number state = Unit {0}
CountsRepeat (Wait place condition body) number state = Unit {0}
CountsRepeat (Blocking place targets delay value) number state = Unit {0}
CountsRepeat (Nonblocking place targets delay value) number state = Unit {0}
CountsRepeat (Finish place) number state = Unit {0}

-- a state has a count for a part
abbrev pub CountsPart : Part → ℕ → ProcState → Type 0
CountsPart (Runs statement) number state = CountsRepeat statement number state
CountsPart (TurnsLeft own place body) number state = own < length state.counts.items

-- the statement of a part is sized, and names objects below a limit
abbrev pub IsGoodPart : ℕ → Part → Type 0
IsGoodPart limit (Runs statement) = IsSizedStatement statement × AreBelow limit (named_by statement)
IsGoodPart limit (TurnsLeft number place body) = Unit {0}

-- a state of some code: a rest of the body stands at its position, each repeat has a count, and steps lead to it
pub record IsStateOf (code : Code) (state : ProcState) : Type 0 where
  pub rest : IsRestAt (statement_of code.process.now.body) (rests_in_code code) state.position
  pub counts : length state.counts.items ≡ code.repeats
  pub reached : IsReached (rests_in_code code) (point_of state)

-- there is room in a state for each part of some code
abbrev pub HasRoom : Code → ProcState → Type 0
HasRoom code state = (i : ℕ) (spot : Spot) → slice_get code.spots.items i ≡ Some spot → FitsIn state (part_of_head spot.head)

-- a step of code does what the step of the definition does: it leaves the process doing the same, and says the same
abbrev pub StepsAsDefined : ℕ → List LogicValue → Code → ProcState → ProcState → Did → Type 0
StepsAsDefined now values code old new did =
    IsStep now values (rests_in_code code) (process_step (process_of code.process.now) now (tasks_at (rests_in_code code) (point_of old)) old.operands.items) (point_of new) (said_by did)
