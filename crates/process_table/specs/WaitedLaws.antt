-- In a run a process waits for entries of its body alone (IEEE 1364-2001, clause 9.7).
use Rattle.std.proofs.Common.{ℕ, zero, suc, ◌+◌, List, [], ◌∷◌, ◌++◌, Bool, true, false}
use Rattle.std.specs.Prelude.{Option, Some, None, if◌then◌else◌}
use Rattle.vf_base.specs.Lists.{has, AllHold}
use Rattle.four_value.specs.Values.{LogicValue, natural_number}
use Rattle.vf_base.specs.Base.{SourcePlace}
use Rattle.v_design.specs.Trees.{Piece, Entry, Vector, Expression, Constant, Name, BitSelect, PartSelect, WordSelect, Unary, Binary, Conditional, Concatenation, Replication, Expressions}
use Rattle.v_design.specs.Trees.{no_expressions, more_expressions, Statement, Null, Block, If, Case, For, While, Repeat, Forever, Delay, EventControl, Wait, Blocking, Nonblocking, Finish}
use Rattle.v_design.specs.Trees.{Statements, no_statements, more_statements, CaseItems, no_items, more_items}
use Rattle.v_design.specs.Expressions.{Progress, Needs, Has, then_with, sign_of, read_expression, read_each, pieces_read, parts_read, slice_piece, slice_pieces, slices_at}
use Rattle.v_design.specs.Expressions.{whole_slices, bit_slices, some_place_within, part_places, place_of_number, index_number, is_constant, no_values, memory_pieces}
use Rattle.v_design.specs.Designs.{FlatProcess}
use Rattle.v_design.specs.Assignments.{ValueUpdate, read_assignment, some_label_matches}
use Rattle.v_design.specs.Processes.{Task, Run, Turns, Writes, Appends}
use Rattle.v_design.specs.Processes.{ProcessStep, opened, opened_all, goes_on, after_delay, reads_or, writes_left, write_step, append_step, assignment_step, either_statement, read_items, read_case}
use Rattle.v_design.specs.Processes.{turns_of, turns_step, loop_of, wait_step, statement_step, end_step, process_step, piece_unless, pieces_once, change_entries}
use Rattle.v_design.specs.Reads.{named_in, named_in_parts}
use Rattle.process_table.specs.Waited.{piece_entries, waited_entries, all_entries, items_entries, task_entries, tasks_entries, activity_entries}

-- All entries of a list pass a test

pub hold-append : (P : Entry → Type 0) (xs ys : List Entry) → AllHold P xs → AllHold P ys → AllHold P (xs ++ ys)
hold-append P [] ys h i = i
hold-append P (x ∷ xs) ys h i = (h.0, hold-append P xs ys h.1 i)

pub hold-left : (P : Entry → Type 0) (xs ys : List Entry) → AllHold P (xs ++ ys) → AllHold P xs
hold-left P [] ys h = tt
hold-left P (x ∷ xs) ys h = (h.0, hold-left P xs ys h.1)

pub hold-right : (P : Entry → Type 0) (xs ys : List Entry) → AllHold P (xs ++ ys) → AllHold P ys
hold-right P [] ys h = h
hold-right P (x ∷ xs) ys h = hold-right P xs ys h.1

-- What a condition reads it names

-- any change of each of some pieces passes a test
abbrev Named : (Entry → Type 0) → List Piece → Type 0
Named P pieces = AllHold P (piece_entries pieces)

named-append : (P : Entry → Type 0) (xs ys : List Piece) → Named P xs → Named P ys → Named P (xs ++ ys)
named-append P [] ys h i = i
named-append P (x ∷ xs) ys h i = (h.0, named-append P xs ys h.1 i)

named-left : (P : Entry → Type 0) (xs ys : List Piece) → Named P (xs ++ ys) → Named P xs
named-left P [] ys h = tt
named-left P (x ∷ xs) ys h = (h.0, named-left P xs ys h.1)

named-right : (P : Entry → Type 0) (xs ys : List Piece) → Named P (xs ++ ys) → Named P ys
named-right P [] ys h = h
named-right P (x ∷ xs) ys h = named-right P xs ys h.1

slices-named : (P : Entry → Type 0) (places : List (Option ℕ)) (offset : ℕ) (pieces : List Piece) → Named P pieces → Named P (slice_pieces (slices_at places offset pieces))
slices-named P places offset [] h = tt
slices-named P places offset (piece ∷ pieces) h = go (some_place_within offset (offset + piece.width) places) (slices-named P places (offset + piece.width) pieces h.1)
  where
    go : (b : Bool) → Named P (slice_pieces (slices_at places (offset + piece.width) pieces)) →
        Named P (slice_piece (if b then Some piece.object else None) piece.width ++ slice_pieces (slices_at places (offset + piece.width) pieces))
    go true rest = (h.0, rest)
    go false rest = rest

whole-named : (P : Entry → Type 0) (pieces : List Piece) → Named P pieces → Named P (slice_pieces (whole_slices pieces))
whole-named P [] h = tt
whole-named P (piece ∷ pieces) h = (h.0, whole-named P pieces h.1)

bit-named : (P : Entry → Type 0) (b : Bool) (v : Vector) (index : Option ℕ) → Named P v.pieces → Named P (slice_pieces (bit_slices b v index))
bit-named P true v index h = slices-named P (place_of_number v.high v.low index ∷ []) 0 v.pieces h
bit-named P false v index h = whole-named P v.pieces h

mutual
  read-named : (P : Entry → Type 0) (e : Expression) → Named P (named_in e) → Named P (pieces_read e)
  read-named P (Constant width signed value) h = h
  read-named P (Name width signed v) h = h
  read-named P (BitSelect width signed v index) h =
      named-append P (slice_pieces (bit_slices (is_constant index) v (index_number no_values index))) (pieces_read index)
      (bit-named P (is_constant index) v (index_number no_values index) (named-left P v.pieces (named_in index) h)) (read-named P index (named-right P v.pieces (named_in index) h))
  read-named P (PartSelect width signed v from to) h = slices-named P (part_places v.high v.low from to) 0 v.pieces h
  read-named P (WordSelect width signed m index) h =
      named-append P (pieces_read index) (memory_pieces m) (read-named P index (named-left P (named_in index) (memory_pieces m) h)) (named-right P (named_in index) (memory_pieces m) h)
  read-named P (Unary width signed operator a) h = read-named P a h
  read-named P (Binary width signed operator a b) h =
      named-append P (pieces_read a) (pieces_read b) (read-named P a (named-left P (named_in a) (named_in b) h)) (read-named P b (named-right P (named_in a) (named_in b) h))
  read-named P (Conditional width signed c a b) h =
      named-append P (pieces_read c) (pieces_read a ++ pieces_read b) (read-named P c (named-left P (named_in c) (named_in a ++ named_in b) h))
      (named-append P (pieces_read a) (pieces_read b) (read-named P a (named-left P (named_in a) (named_in b) (named-right P (named_in c) (named_in a ++ named_in b) h)))
      (read-named P b (named-right P (named_in a) (named_in b) (named-right P (named_in c) (named_in a ++ named_in b) h))))
  read-named P (Concatenation width signed parts) h = parts-named P parts h
  read-named P (Replication width signed count parts) h = parts-named P parts h

  parts-named : (P : Entry → Type 0) (parts : Expressions) → Named P (named_in_parts parts) → Named P (parts_read parts)
  parts-named P no_expressions h = h
  parts-named P (more_expressions part rest) h =
      named-append P (pieces_read part) (parts_read rest) (read-named P part (named-left P (named_in part) (named_in_parts rest) h))
      (parts-named P rest (named-right P (named_in part) (named_in_parts rest) h))

once-named : (P : Entry → Type 0) (seen : List ℕ) (pieces : List Piece) → Named P pieces → Named P (pieces_once seen pieces)
once-named P seen [] h = tt
once-named P seen (piece ∷ pieces) h = go (has seen piece.object) (once-named P (piece.object ∷ seen) pieces h.1)
  where
    go : (b : Bool) → Named P (pieces_once (piece.object ∷ seen) pieces) → Named P (piece_unless b piece (pieces_once (piece.object ∷ seen) pieces))
    go true rest = rest
    go false rest = (h.0, rest)

-- a wait of a condition has an entry for some of the pieces that the condition names
pub change_entries-named : (P : Entry → Type 0) (condition : Expression) → AllHold P (piece_entries (named_in condition)) → AllHold P (change_entries condition)
change_entries-named P condition h = once-named P [] (pieces_read condition) (read-named P condition h)

-- What reading gives

abbrev Gives : {A : Type 0} → (A → Type 0) → Progress A → Type 0
Gives Q (Needs object) = Unit {0}
Gives Q (Has answer left) = Q answer

then-gives : {A B : Type 0} (Q : B → Type 0) (p : Progress A) (next : A → List LogicValue → Progress B) → ((a : A) (left : List LogicValue) → Gives Q (next a left)) → Gives Q (then_with p next)
then-gives Q (Needs object) next h = tt
then-gives Q (Has answer left) next h = h answer left

anything : {A : Type 0} (p : Progress A) → Gives (λ (a : A). Unit {0}) p
anything (Needs object) = tt
anything (Has answer left) = tt

-- a statement waits for such entries alone
abbrev Waiter : (Entry → Type 0) → Statement → Type 0
Waiter P statement = AllHold P (waited_entries statement)

either-waits : (P : Entry → Type 0) (b : Bool) (first second : Statement) → Waiter P first → Waiter P second → Waiter P (either_statement b first second)
either-waits P true first second h i = h
either-waits P false first second h i = i

items-give : (P : Entry → Type 0) (kind : _) (value : LogicValue) (items : CaseItems) (default : Statement) (operands : List LogicValue) →
    AllHold P (items_entries items) → Waiter P default → Gives (Waiter P) (read_items kind value items default operands)
items-give P kind value no_items default operands h i = i
items-give P kind value (more_items labels statement rest) default operands h i =
    then-gives (Waiter P) (read_each labels operands) _
    (λ read others. choose read (read_items kind value rest default others) (items-give P kind value rest default others (hold-right P (waited_entries statement) (items_entries rest) h) i))
  where
    choose : (read : List LogicValue) (p : Progress Statement) → Gives (Waiter P) p →
        Gives (Waiter P) (then_with p (λ otherwise left. Has (either_statement (some_label_matches kind value read) statement otherwise) left))
    choose read (Needs object) g = tt
    choose read (Has otherwise left) g = either-waits P (some_label_matches kind value read) statement otherwise (hold-left P (waited_entries statement) (items_entries rest) h) g

-- The tasks of a statement

-- tasks wait for such entries alone
abbrev Tasks : (Entry → Type 0) → List Task → Type 0
Tasks P tasks = AllHold P (tasks_entries tasks)

one-task : (P : Entry → Type 0) (task : Task) (tasks : List Task) → AllHold P (task_entries task) → Tasks P tasks → Tasks P (task ∷ tasks)
one-task P task tasks h i = hold-append P (task_entries task) (tasks_entries tasks) h i

while-waits : (P : Entry → Type 0) (body last : Statement) → Waiter P body → Waiter P last → AllHold P (all_entries (more_statements body (more_statements last no_statements)))
while-waits P body last h i = hold-append P (waited_entries body) (waited_entries last ++ []) h (hold-append P (waited_entries last) [] i tt)

mutual
  -- the tasks that a statement stands for wait for its entries alone
  pub opened-waits : (P : Entry → Type 0) (statement : Statement) (tasks : List Task) → Waiter P statement → Tasks P tasks → Tasks P (opened statement tasks)
  opened-waits P Null tasks h i = i
  opened-waits P (Block statements) tasks h i = opened_all-waits P statements tasks h i
  opened-waits P (If place condition first second) tasks h i = one-task P (Run (If place condition first second)) tasks h i
  opened-waits P (Case place kind value items default) tasks h i = one-task P (Run (Case place kind value items default)) tasks h i
  opened-waits P (For place first_targets first condition next_targets next body) tasks h i = one-task P (Run (For place first_targets first condition next_targets next body)) tasks h i
  opened-waits P (While place condition body) tasks h i = one-task P (Run (While place condition body)) tasks h i
  opened-waits P (Repeat place count body) tasks h i = one-task P (Run (Repeat place count body)) tasks h i
  opened-waits P (Forever place body) tasks h i = one-task P (Run (Forever place body)) tasks h i
  opened-waits P (Delay place delay body) tasks h i = one-task P (Run (Delay place delay body)) tasks h i
  opened-waits P (EventControl place entries body) tasks h i = one-task P (Run (EventControl place entries body)) tasks h i
  opened-waits P (Wait place condition body) tasks h i = one-task P (Run (Wait place condition body)) tasks h i
  opened-waits P (Blocking place targets delay value) tasks h i = i
  opened-waits P (Nonblocking place targets delay value) tasks h i = i
  opened-waits P (Finish place) tasks h i = i

  opened_all-waits : (P : Entry → Type 0) (statements : Statements) (tasks : List Task) → AllHold P (all_entries statements) → Tasks P tasks → Tasks P (opened_all statements tasks)
  opened_all-waits P no_statements tasks h i = i
  opened_all-waits P (more_statements first rest) tasks h i =
      opened-waits P first (opened_all rest tasks) (hold-left P (waited_entries first) (all_entries rest) h)
      (opened_all-waits P rest tasks (hold-right P (waited_entries first) (all_entries rest) h) i)

-- A step

-- what a step leaves to be waited for passes the test
abbrev StepWaits : (Entry → Type 0) → ProcessStep → Type 0
StepWaits P step = AllHold P (activity_entries step.next)

reads-waits : {A : Type 0} (P : Entry → Type 0) (Q : A → Type 0) (line : ℕ) (tasks : List Task) (operands : List LogicValue) (p : Progress A) (act : A → ProcessStep) →
    Tasks P tasks → Gives Q p → ((a : A) → Q a → StepWaits P (act a)) → StepWaits P (reads_or line tasks operands p act)
reads-waits P Q line tasks operands (Needs object) act h g k = h
reads-waits P Q line tasks operands (Has answer left) act h g k = k answer g

write-waits : (P : Entry → Type 0) (place : SourcePlace) (updates : List (Option ValueUpdate)) (tasks : List Task) → Tasks P tasks → StepWaits P (write_step place updates tasks)
write-waits P place [] tasks i = i
write-waits P place (update ∷ []) tasks i = i
write-waits P place (update ∷ (next ∷ updates)) tasks i = i

append-waits : (P : Entry → Type 0) (place : SourcePlace) (delay : ℕ) (updates : List (Option ValueUpdate)) (tasks : List Task) → Tasks P tasks → StepWaits P (append_step place delay updates tasks)
append-waits P place delay [] tasks i = i
append-waits P place delay (update ∷ []) tasks i = i
append-waits P place delay (update ∷ (next ∷ updates)) tasks i = i

delay-waits : (P : Entry → Type 0) (line now delay : ℕ) (tasks : List Task) → Tasks P tasks → StepWaits P (goes_on line (after_delay now delay tasks))
delay-waits P line now zero tasks i = i
delay-waits P line now (suc delay) tasks i = i

left-waits : (P : Entry → Type 0) (place : SourcePlace) (updates : List (Option ValueUpdate)) (tasks : List Task) → Tasks P tasks → Tasks P (writes_left place updates tasks)
left-waits P place [] tasks i = i
left-waits P place (update ∷ updates) tasks i = i

assigns-waits : (P : Entry → Type 0) (place : SourcePlace) (now : ℕ) (delay : Option ℕ) (updates : List (Option ValueUpdate)) (tasks : List Task) → Tasks P tasks →
    StepWaits P (assignment_step place now delay updates tasks)
assigns-waits P place now None updates tasks i = write-waits P place updates tasks i
assigns-waits P place now (Some delay) updates tasks i = delay-waits P place.line now delay (writes_left place updates tasks) (left-waits P place updates tasks i)

wait-waits : (P : Entry → Type 0) (place : SourcePlace) (condition : Expression) (body : Statement) (tasks : List Task) (b : Bool) →
    AllHold P (piece_entries (named_in condition) ++ waited_entries body) → Tasks P tasks → StepWaits P (wait_step place condition body tasks b)
wait-waits P place condition body tasks true h i = opened-waits P body tasks (hold-right P (piece_entries (named_in condition)) (waited_entries body) h) i
wait-waits P place condition body tasks false h i =
    hold-append P (change_entries condition) (tasks_entries (Run (Wait place condition body) ∷ tasks))
    (change_entries-named P condition (hold-left P (piece_entries (named_in condition)) (waited_entries body) h)) (one-task P (Run (Wait place condition body)) tasks h i)

statement-waits : (P : Entry → Type 0) (now : ℕ) (operands : List LogicValue) (statement : Statement) (tasks : List Task) →
    Waiter P statement → Tasks P tasks → StepWaits P (statement_step now operands statement tasks)
statement-waits P now operands Null tasks h i = i
statement-waits P now operands (Block statements) tasks h i = opened_all-waits P statements tasks h i
statement-waits P now operands (If place condition first second) tasks h i =
    reads-waits P (λ v. Unit {0}) place.line (Run (If place condition first second) ∷ tasks) operands (read_expression condition operands) _
    (one-task P (Run (If place condition first second)) tasks h i) (anything (read_expression condition operands))
    (λ value u. opened-waits P (either_statement _ first second) tasks (either-waits P _ first second (hold-left P (waited_entries first) (waited_entries second) h)
    (hold-right P (waited_entries first) (waited_entries second) h)) i)
statement-waits P now operands (Case place kind value items default) tasks h i =
    reads-waits P (Waiter P) place.line (Run (Case place kind value items default) ∷ tasks) operands (read_case kind value items default operands) _
    (one-task P (Run (Case place kind value items default)) tasks h i)
    (then-gives (Waiter P) (read_expression value operands) _
    (λ bits others. items-give P kind bits items default others (hold-left P (items_entries items) (waited_entries default) h) (hold-right P (items_entries items) (waited_entries default) h)))
    (λ statement g. opened-waits P statement tasks g i)
statement-waits P now operands (For place first_targets first condition next_targets next body) tasks h i =
    reads-waits P (λ v. Unit {0}) place.line (Run (For place first_targets first condition next_targets next body) ∷ tasks) operands (read_assignment place.line first_targets first operands) _
    (one-task P (Run (For place first_targets first condition next_targets next body)) tasks h i) (anything (read_assignment place.line first_targets first operands))
    (λ updates u. write-waits P place updates (Run (loop_of place condition next_targets next body) ∷ tasks)
    (one-task P (Run (loop_of place condition next_targets next body)) tasks (while-waits P body (Blocking place next_targets None next) h tt) i))
statement-waits P now operands (While place condition body) tasks h i =
    reads-waits P (λ v. Unit {0}) place.line (Run (While place condition body) ∷ tasks) operands (read_expression condition operands) _
    (one-task P (Run (While place condition body)) tasks h i) (anything (read_expression condition operands))
    (λ value u. opened-waits P (either_statement _ (Block (more_statements body (more_statements (While place condition body) no_statements))) Null) tasks
    (either-waits P _ (Block (more_statements body (more_statements (While place condition body) no_statements))) Null (while-waits P body (While place condition body) h h) tt) i)
statement-waits P now operands (Repeat place count body) tasks h i =
    reads-waits P (λ v. Unit {0}) place.line (Run (Repeat place count body) ∷ tasks) operands (read_expression count operands) _
    (one-task P (Run (Repeat place count body)) tasks h i) (anything (read_expression count operands))
    (λ value u. one-task P (Turns place (turns_of (natural_number (sign_of count) value)) body) tasks h i)
statement-waits P now operands (Forever place body) tasks h i = opened-waits P body (Run (Forever place body) ∷ tasks) h (one-task P (Run (Forever place body)) tasks h i)
statement-waits P now operands (Delay place delay body) tasks h i = delay-waits P place.line now delay (opened body tasks) (opened-waits P body tasks h i)
statement-waits P now operands (EventControl place entries body) tasks h i =
    hold-append P entries (tasks_entries (opened body tasks)) (hold-left P entries (waited_entries body) h)
    (opened-waits P body tasks (hold-right P entries (waited_entries body) h) i)
statement-waits P now operands (Wait place condition body) tasks h i =
    reads-waits P (λ v. Unit {0}) place.line (Run (Wait place condition body) ∷ tasks) operands (read_expression condition operands) _
    (one-task P (Run (Wait place condition body)) tasks h i) (anything (read_expression condition operands))
    (λ value u. wait-waits P place condition body tasks _ h i)
statement-waits P now operands (Blocking place targets delay value) tasks h i =
    reads-waits P (λ v. Unit {0}) place.line (Run (Blocking place targets delay value) ∷ tasks) operands (read_assignment place.line targets value operands) _
    i (anything (read_assignment place.line targets value operands)) (λ updates u. assigns-waits P place now delay updates tasks i)
statement-waits P now operands (Nonblocking place targets delay value) tasks h i =
    reads-waits P (λ v. Unit {0}) place.line (Run (Nonblocking place targets delay value) ∷ tasks) operands (read_assignment place.line targets value operands) _
    i (anything (read_assignment place.line targets value operands)) (λ updates u. append-waits P place delay updates tasks i)
statement-waits P now operands (Finish place) tasks h i = tt

end-waits : (P : Entry → Type 0) (always : Bool) (body : Statement) → Waiter P body → StepWaits P (end_step always body)
end-waits P true body h = opened-waits P body [] h tt
end-waits P false body h = tt

turns-waits : (P : Entry → Type 0) (place : SourcePlace) (count : ℕ) (body : Statement) (tasks : List Task) → Waiter P body → Tasks P tasks → StepWaits P (turns_step place count body tasks)
turns-waits P place zero body tasks h i = i
turns-waits P place (suc count) body tasks h i = opened-waits P body (Turns place count body ∷ tasks) h (one-task P (Turns place count body) tasks h i)

-- where the body and the tasks wait for such entries alone, so do the entries and the tasks that a step leads to
pub step-waits : (P : Entry → Type 0) (process : FlatProcess) (now : ℕ) (tasks : List Task) (operands : List LogicValue) →
    AllHold P (waited_entries process.body) → AllHold P (tasks_entries tasks) → AllHold P (activity_entries (process_step process now tasks operands).next)
step-waits P process now [] operands b h = end-waits P process.always process.body b
step-waits P process now (Run statement ∷ tasks) operands b h =
    statement-waits P now operands statement tasks (hold-left P (waited_entries statement) (tasks_entries tasks) h) (hold-right P (waited_entries statement) (tasks_entries tasks) h)
step-waits P process now (Turns place count body ∷ tasks) operands b h =
    turns-waits P place count body tasks (hold-left P (waited_entries body) (tasks_entries tasks) h) (hold-right P (waited_entries body) (tasks_entries tasks) h)
step-waits P process now (Writes place updates ∷ tasks) operands b h = write-waits P place updates tasks h
step-waits P process now (Appends place delay updates ∷ tasks) operands b h = append-waits P place delay updates tasks h
