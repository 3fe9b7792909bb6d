-- The steps of a process, by cases over the rest of its statement (IEEE 1364-2001, clause 9).
use Rattle.std.specs.Prelude.{ℕ, zero, suc, ◌+◌, Bool, true, false, List, [], ◌∷◌, map, Option, Some, None}
use Rattle.vf_base.specs.Lists.{has}
use Rattle.vf_base.specs.Base.{SourcePlace}
use Rattle.four_value.specs.Values.{LogicValue, natural_number, is_true}
use Rattle.v_design.specs.Trees.{Piece, Expression, Target, Entry, Statement, Null, Block, If, Case, For, While, Repeat, Forever, Delay, EventControl, Wait, Blocking, Nonblocking, Finish}
use Rattle.v_design.specs.Trees.{Statements, no_statements, more_statements, CaseItems, no_items, more_items}
use Rattle.v_design.specs.Expressions.{sign_of, Progress, Needs, Has, then_with, read_expression, read_each, pieces_read}
use Rattle.v_design.specs.Designs.{FlatProcess}
use Rattle.v_design.specs.Assignments.{ValueUpdate, read_assignment, some_label_matches}
use Rattle.four_value.specs.declared.logic.Edge.TheVariants.{Any}
use Rattle.four_value.specs.declared.operator.CaseKind.{CaseKind}

-- what is left to be done: a statement, the turns left of a repeat, or the writes left of an assignment that is evaluated
pub data Task : Type 0 where
  Run : (statement : Statement) → Task
  Turns : (place : SourcePlace) (count : ℕ) (body : Statement) → Task
  Writes : (place : SourcePlace) (updates : List (Option ValueUpdate)) → Task
  Appends : (place : SourcePlace) (delay : ℕ) (updates : List (Option ValueUpdate)) → Task

-- what a process does: it is ready with the tasks left and the operands read for the first of them, waits, sleeps, is postponed, or is done
pub data Activity : Type 0 where
  Ready : (tasks : List Task) (operands : List LogicValue) → Activity
  Waiting : (place : SourcePlace) (entries : List Entry) (tasks : List Task) → Activity
  Asleep : (time : ℕ) (tasks : List Task) → Activity
  Postponed : (tasks : List Task) → Activity
  Done : Activity

-- what a step does besides going on; where it reads, the value of the object becomes the next operand
pub data Action : Type 0 where
  ReadsObject : (object : ℕ) → Action
  WritesObject : (update : ValueUpdate) → Action
  AppendsUpdate : (delay : ℕ) (update : ValueUpdate) → Action
  TouchesNothing : Action

-- a step: the line of its statement, what it does, and what the process does then
pub record ProcessStep : Type 0 where
  pub line : ℕ
  pub action : Action
  pub next : Activity

-- The tasks that a statement stands for: blocks and null statements take no step
abbrev mutual
  pub opened : Statement → List Task → List Task
  opened Null tasks = tasks
  opened (Block statements) tasks = opened_all statements tasks
  opened (If place condition first second) tasks = Run (If place condition first second) ∷ tasks
  opened (Case place kind value items default) tasks = Run (Case place kind value items default) ∷ tasks
  opened (For place first_targets first condition next_targets next body) tasks = Run (For place first_targets first condition next_targets next body) ∷ tasks
  opened (While place condition body) tasks = Run (While place condition body) ∷ tasks
  opened (Repeat place count body) tasks = Run (Repeat place count body) ∷ tasks
  opened (Forever place body) tasks = Run (Forever place body) ∷ tasks
  opened (Delay place delay body) tasks = Run (Delay place delay body) ∷ tasks
  opened (EventControl place entries body) tasks = Run (EventControl place entries body) ∷ tasks
  opened (Wait place condition body) tasks = Run (Wait place condition body) ∷ tasks
  opened (Blocking place targets delay value) tasks = Run (Blocking place targets delay value) ∷ tasks
  opened (Nonblocking place targets delay value) tasks = Run (Nonblocking place targets delay value) ∷ tasks
  opened (Finish place) tasks = Run (Finish place) ∷ tasks

  -- the tasks that several statements stand for, in order
  pub opened_all : Statements → List Task → List Task
  opened_all no_statements tasks = tasks
  opened_all (more_statements first rest) tasks = opened first (opened_all rest tasks)

-- A step that touches no object, and goes on so
abbrev pub goes_on : ℕ → Activity → ProcessStep
goes_on line next = record { line = line; action = TouchesNothing; next = next }

-- to the tasks, with no operand read
abbrev pub turns_to : ℕ → List Task → ProcessStep
turns_to line tasks = goes_on line (Ready tasks [])

-- after a delay: postponed for 0, else asleep
abbrev pub after_delay : ℕ → ℕ → List Task → Activity
after_delay now zero tasks = Postponed tasks
after_delay now (suc delay) tasks = Asleep (now + suc delay) tasks

-- a read of the next operand, if there is one, else what the task does with its operands
abbrev pub reads_or : {A : Type 0} → ℕ → List Task → List LogicValue → Progress A → (A → ProcessStep) → ProcessStep
reads_or line tasks operands (Needs object) act = record { line = line; action = ReadsObject object; next = Ready tasks operands }
reads_or line tasks operands (Has answer left) act = act answer

-- one write for each target, from the left
abbrev pub write_action : Option ValueUpdate → Action
write_action None = TouchesNothing
write_action (Some update) = WritesObject update

-- the writes of an assignment that are left, before other tasks
abbrev pub writes_left : SourcePlace → List (Option ValueUpdate) → List Task → List Task
writes_left place [] tasks = tasks
writes_left place (update ∷ updates) tasks = Writes place (update ∷ updates) ∷ tasks

-- the step of the first write that is left
abbrev pub write_step : SourcePlace → List (Option ValueUpdate) → List Task → ProcessStep
write_step place [] tasks = turns_to place.line tasks
write_step place (update ∷ updates) tasks = record { line = place.line; action = write_action update; next = Ready (writes_left place updates tasks) [] }

-- one update appended for each target, from the left
abbrev pub append_action : ℕ → Option ValueUpdate → Action
append_action delay None = TouchesNothing
append_action delay (Some update) = AppendsUpdate delay update

-- the appends of an assignment that are left, before other tasks
abbrev pub appends_left : SourcePlace → ℕ → List (Option ValueUpdate) → List Task → List Task
appends_left place delay [] tasks = tasks
appends_left place delay (update ∷ updates) tasks = Appends place delay (update ∷ updates) ∷ tasks

-- the step of the first append that is left
abbrev pub append_step : SourcePlace → ℕ → List (Option ValueUpdate) → List Task → ProcessStep
append_step place delay [] tasks = turns_to place.line tasks
append_step place delay (update ∷ updates) tasks =
    record { line = place.line; action = append_action delay update; next = Ready (appends_left place delay updates tasks) [] }

-- an assignment writes at once, or after a delay inside it
abbrev pub assignment_step : SourcePlace → ℕ → Option ℕ → List (Option ValueUpdate) → List Task → ProcessStep
assignment_step place now None updates tasks = write_step place updates tasks
assignment_step place now (Some delay) updates tasks = goes_on place.line (after_delay now delay (writes_left place updates tasks))

-- the one statement or the other
abbrev pub either_statement : Bool → Statement → Statement → Statement
either_statement true first second = first
either_statement false first second = second

-- the statement of the first item with a label that matches, once all labels are read, else the default
abbrev pub read_items : CaseKind → LogicValue → CaseItems → Statement → List LogicValue → Progress Statement
read_items kind value no_items default operands = Has default operands
read_items kind value (more_items labels statement rest) default operands =
    then_with (read_each labels operands)
    (λ read others. then_with (read_items kind value rest default others)
    (λ otherwise left. Has (either_statement (some_label_matches kind value read) statement otherwise) left))

-- the statement that a case goes on with
abbrev pub read_case : CaseKind → Expression → CaseItems → Statement → List LogicValue → Progress Statement
read_case kind value items default operands =
    then_with (read_expression value operands) (λ bits others. read_items kind bits items default others)

-- the turns of a repeat; none where the count holds x or z or is negative
abbrev pub turns_of : Option ℕ → ℕ
turns_of None = 0
turns_of (Some count) = count

-- the step before a turn of a repeat, or the one that ends it
abbrev pub turns_step : SourcePlace → ℕ → Statement → List Task → ProcessStep
turns_step place zero body tasks = turns_to place.line tasks
turns_step place (suc count) body tasks = turns_to place.line (opened body (Turns place count body ∷ tasks))

-- one more piece, where it isn't yet seen
abbrev pub piece_unless : Bool → Piece → List Piece → List Piece
piece_unless true piece rest = rest
piece_unless false piece rest = piece ∷ rest

-- each object once, where it first stands, but for those seen before
abbrev pub pieces_once : List ℕ → List Piece → List Piece
pieces_once seen [] = []
pieces_once seen (piece ∷ pieces) = piece_unless (has seen piece.object) piece (pieces_once (piece.object ∷ seen) pieces)

-- any change of each object that a condition reads
abbrev pub change_entries : Expression → List Entry
change_entries condition =
    map (λ (piece : Piece). record { object = piece.object; low = 0; width = piece.width; edge = Any }) (pieces_once [] (pieces_read condition))

-- a wait goes on where its condition is true, else it waits for a change and then tests again
abbrev pub wait_step : SourcePlace → Expression → Statement → List Task → Bool → ProcessStep
wait_step place condition body tasks true = turns_to place.line (opened body tasks)
wait_step place condition body tasks false =
    goes_on place.line (Waiting place (change_entries condition) (Run (Wait place condition body) ∷ tasks))

-- a for is its first assignment and then a while, whose body ends with the next assignment
abbrev pub loop_of : SourcePlace → Expression → List Target → Expression → Statement → Statement
loop_of place condition next_targets next body =
    While place condition (Block (more_statements body (more_statements (Blocking place next_targets None next) no_statements)))

-- the step of a statement that stands before some tasks, at a time, over the operands that are read
abbrev pub statement_step : ℕ → List LogicValue → Statement → List Task → ProcessStep
statement_step now operands Null tasks = turns_to 0 tasks
statement_step now operands (Block statements) tasks = turns_to 0 (opened_all statements tasks)
statement_step now operands (If place condition first second) tasks =
    reads_or place.line (Run (If place condition first second) ∷ tasks) operands (read_expression condition operands)
    (λ value. turns_to place.line (opened (either_statement (is_true value) first second) tasks))
statement_step now operands (Case place kind value items default) tasks =
    reads_or place.line (Run (Case place kind value items default) ∷ tasks) operands (read_case kind value items default operands)
    (λ statement. turns_to place.line (opened statement tasks))
statement_step now operands (For place first_targets first condition next_targets next body) tasks =
    reads_or place.line (Run (For place first_targets first condition next_targets next body) ∷ tasks) operands (read_assignment place.line first_targets first operands)
    (λ updates. write_step place updates (Run (loop_of place condition next_targets next body) ∷ tasks))
statement_step now operands (While place condition body) tasks =
    reads_or place.line (Run (While place condition body) ∷ tasks) operands (read_expression condition operands)
    (λ value. turns_to place.line (opened (either_statement (is_true value) (Block (more_statements body (more_statements (While place condition body) no_statements))) Null) tasks))
statement_step now operands (Repeat place count body) tasks =
    reads_or place.line (Run (Repeat place count body) ∷ tasks) operands (read_expression count operands)
    (λ value. turns_to place.line (Turns place (turns_of (natural_number (sign_of count) value)) body ∷ tasks))
statement_step now operands (Forever place body) tasks = turns_to place.line (opened body (Run (Forever place body) ∷ tasks))
statement_step now operands (Delay place delay body) tasks = goes_on place.line (after_delay now delay (opened body tasks))
statement_step now operands (EventControl place entries body) tasks = goes_on place.line (Waiting place entries (opened body tasks))
statement_step now operands (Wait place condition body) tasks =
    reads_or place.line (Run (Wait place condition body) ∷ tasks) operands (read_expression condition operands)
    (λ value. wait_step place condition body tasks (is_true value))
statement_step now operands (Blocking place targets delay value) tasks =
    reads_or place.line (Run (Blocking place targets delay value) ∷ tasks) operands (read_assignment place.line targets value operands)
    (λ updates. assignment_step place now delay updates tasks)
statement_step now operands (Nonblocking place targets delay value) tasks =
    reads_or place.line (Run (Nonblocking place targets delay value) ∷ tasks) operands (read_assignment place.line targets value operands)
    (λ updates. append_step place delay updates tasks)
statement_step now operands (Finish place) tasks = goes_on place.line Done

-- the step at the end of the body: an initial is done, an always begins again
abbrev pub end_step : Bool → Statement → ProcessStep
end_step true body = turns_to 0 (opened body [])
end_step false body = goes_on 0 Done

-- the next step of a ready process
abbrev pub process_step : FlatProcess → ℕ → List Task → List LogicValue → ProcessStep
process_step process now [] operands = end_step process.always process.body
process_step process now (Run statement ∷ tasks) operands = statement_step now operands statement tasks
process_step process now (Turns place count body ∷ tasks) operands = turns_step place count body tasks
process_step process now (Writes place updates ∷ tasks) operands = write_step place updates tasks
process_step process now (Appends place delay updates ∷ tasks) operands = append_step place delay updates tasks
