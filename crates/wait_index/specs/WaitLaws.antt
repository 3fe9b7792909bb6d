-- In a run a process waits on objects of its body alone, so that a change wakes no process but those that may wait on its object (IEEE 1364-2001, clause 9.7).
use Rattle.std.proofs.Common.{◌≡◌, ℕ, zero, suc, ◌+◌, List, [], ◌∷◌, ◌++◌, map, Bool, true, false, refl, ap, sym, subst, inl, inr, arith, ◌∙◌}
use Rattle.std.specs.Prelude.{Option, Some, None, slice_get, nat_eq, nat_le, nat_lt, min, ◌-◌, ◌&&◌, ◌||◌, cond, if◌then◌else◌, IsTrue, is_some}
use Rattle.std.proofs.lemmas.Bool.{eqb-true, eq-eqb, or_cases, or_right, or_left, and_parts}
use Rattle.vf_base.specs.Lists.{has, change_at, AllHold}
use Rattle.four_value.specs.Values.{LogicValue, natural_number, edge_matches, part_of}
use Rattle.vf_base.specs.Base.{SourcePlace}
use Rattle.v_design.specs.Trees.{Piece, Entry, Vector, Expression, Constant, Name, BitSelect, PartSelect, WordSelect, Unary, Binary, Conditional, Concatenation, Replication, Expressions}
use Rattle.v_design.specs.Trees.{no_expressions, more_expressions, Statement, Null, Block, If, Case, For, While, Repeat, Forever, Delay, EventControl, Wait, Blocking, Nonblocking, Finish}
use Rattle.v_design.specs.Trees.{Statements, no_statements, more_statements, CaseItems, no_items, more_items}
use Rattle.v_design.specs.Expressions.{Progress, Needs, Has, then_with, sign_of, read_expression, read_each, pieces_read, parts_read, piece_objects, Slice, slice_piece, slice_pieces, slices_at}
use Rattle.v_design.specs.Expressions.{whole_slices, bit_slices, some_place_within, part_places, place_of_number, index_number, is_constant, no_values, memory_pieces}
use Rattle.v_design.specs.Designs.{FlatProcess, FlatNode, FlatDesign, Machine}
use Rattle.v_design.specs.Assignments.{ValueUpdate, value_at, read_assignment, some_label_matches}
use Rattle.v_design.specs.Processes.{Task, Run, Turns, Writes, Appends, Activity, Ready, Waiting, Asleep, Postponed, Done, Action, ReadsObject, WritesObject, AppendsUpdate, TouchesNothing}
use Rattle.v_design.specs.Processes.{ProcessStep, opened, opened_all, goes_on, after_delay, reads_or, writes_left, write_step, append_step, assignment_step, either_statement, read_items, read_case}
use Rattle.v_design.specs.Processes.{turns_of, turns_step, loop_of, wait_step, statement_step, end_step, process_step, piece_unless, pieces_once, change_entries}
use Rattle.v_design.specs.States.{State, ProcessState, Event, Step, LaneStep, Evaluation, NetUpdate, TurnKind, PostponedTurn, UpdatesTurn, TimeTurn, found_or, idle_process, process_at, source_at}
use Rattle.v_design.specs.States.{start, next_activity, write_of, activity_step, step_of, after_step, first_update, after_lane_step, after, entry_matches, some_entry, ready_if, woken, woken_process}
use Rattle.v_design.specs.States.{with_value, with_values, written_if, value_written, with_process, evaluated, nets_updated, resumed, awake_at, is_due, turned, turn_of}
use Rattle.v_design.specs.Accesses.{waiting_entries}
use Rattle.v_design.specs.Runs.{Move, Happens, turned_by, made, all_made}
use Rattle.v_design.specs.Runs as runs
use Rattle.v_design.specs.Reads.{named_in, named_in_parts}
use Rattle.graph_order.specs.ListLaws.{AllHold-has}
use Rattle.wait_index.specs.Waits.{entry_objects, waited_objects, all_waited, items_waited, before_if, waiters_from, waiters_of, task_waits, tasks_waits, activity_waits, WaitsAreOfBodies, WaitsStay}

-- All numbers of a list pass a test

hold-append : (P : ℕ → Type 0) (xs ys : List ℕ) → AllHold P xs → AllHold P ys → AllHold P (xs ++ ys)
hold-append P [] ys h i = i
hold-append P (x ∷ xs) ys h i = (h.0, hold-append P xs ys h.1 i)

hold-left : (P : ℕ → Type 0) (xs ys : List ℕ) → AllHold P (xs ++ ys) → AllHold P xs
hold-left P [] ys h = tt
hold-left P (x ∷ xs) ys h = (h.0, hold-left P xs ys h.1)

hold-right : (P : ℕ → Type 0) (xs ys : List ℕ) → AllHold P (xs ++ ys) → AllHold P ys
hold-right P [] ys h = h
hold-right P (x ∷ xs) ys h = hold-right P xs ys h.1

has-all : (xs ys : List ℕ) → ((x : ℕ) → has ys x ≡ true → has xs x ≡ true) → AllHold (λ x. IsTrue (has xs x)) ys
has-all xs [] h = tt
has-all xs (y ∷ ys) h = (h y (or_left (nat_eq y y) (has ys y) (eq-eqb y y refl)), has-all xs ys (λ x i. h x (or_right (nat_eq y x) (has ys x) i)))

-- What a condition reads it names

-- the objects of some pieces pass a test
abbrev Named : (ℕ → Type 0) → List Piece → Type 0
Named P pieces = AllHold P (piece_objects pieces)

named-append : (P : ℕ → Type 0) (xs ys : List Piece) → Named P xs → Named P ys → Named P (xs ++ ys)
named-append P [] ys h i = i
named-append P (x ∷ xs) ys h i = (h.0, named-append P xs ys h.1 i)

named-left : (P : ℕ → Type 0) (xs ys : List Piece) → Named P (xs ++ ys) → Named P xs
named-left P [] ys h = tt
named-left P (x ∷ xs) ys h = (h.0, named-left P xs ys h.1)

named-right : (P : ℕ → Type 0) (xs ys : List Piece) → Named P (xs ++ ys) → Named P ys
named-right P [] ys h = h
named-right P (x ∷ xs) ys h = named-right P xs ys h.1

slices-named : (P : ℕ → Type 0) (places : List (Option ℕ)) (offset : ℕ) (pieces : List Piece) → Named P pieces → Named P (slice_pieces (slices_at places offset pieces))
slices-named P places offset [] h = tt
slices-named P places offset (piece ∷ pieces) h = go (some_place_within offset (offset + piece.width) places) (slices-named P places (offset + piece.width) pieces h.1)
  where
    go : (b : Bool) → Named P (slice_pieces (slices_at places (offset + piece.width) pieces)) →
        Named P (slice_piece (if b then Some piece.object else None) piece.width ++ slice_pieces (slices_at places (offset + piece.width) pieces))
    go true rest = (h.0, rest)
    go false rest = rest

whole-named : (P : ℕ → Type 0) (pieces : List Piece) → Named P pieces → Named P (slice_pieces (whole_slices pieces))
whole-named P [] h = tt
whole-named P (piece ∷ pieces) h = (h.0, whole-named P pieces h.1)

bit-named : (P : ℕ → Type 0) (b : Bool) (v : Vector) (index : Option ℕ) → Named P v.pieces → Named P (slice_pieces (bit_slices b v index))
bit-named P true v index h = slices-named P (place_of_number v.high v.low index ∷ []) 0 v.pieces h
bit-named P false v index h = whole-named P v.pieces h

mutual
  read-named : (P : ℕ → Type 0) (e : Expression) → Named P (named_in e) → Named P (pieces_read e)
  read-named P (Constant width signed value) h = h
  read-named P (Name width signed v) h = h
  read-named P (BitSelect width signed v index) h =
      named-append P (slice_pieces (bit_slices (is_constant index) v (index_number no_values index))) (pieces_read index)
      (bit-named P (is_constant index) v (index_number no_values index) (named-left P v.pieces (named_in index) h)) (read-named P index (named-right P v.pieces (named_in index) h))
  read-named P (PartSelect width signed v from to) h = slices-named P (part_places v.high v.low from to) 0 v.pieces h
  read-named P (WordSelect width signed m index) h =
      named-append P (pieces_read index) (memory_pieces m) (read-named P index (named-left P (named_in index) (memory_pieces m) h)) (named-right P (named_in index) (memory_pieces m) h)
  read-named P (Unary width signed operator a) h = read-named P a h
  read-named P (Binary width signed operator a b) h =
      named-append P (pieces_read a) (pieces_read b) (read-named P a (named-left P (named_in a) (named_in b) h)) (read-named P b (named-right P (named_in a) (named_in b) h))
  read-named P (Conditional width signed c a b) h =
      named-append P (pieces_read c) (pieces_read a ++ pieces_read b) (read-named P c (named-left P (named_in c) (named_in a ++ named_in b) h))
      (named-append P (pieces_read a) (pieces_read b) (read-named P a (named-left P (named_in a) (named_in b) (named-right P (named_in c) (named_in a ++ named_in b) h)))
      (read-named P b (named-right P (named_in a) (named_in b) (named-right P (named_in c) (named_in a ++ named_in b) h))))
  read-named P (Concatenation width signed parts) h = parts-named P parts h
  read-named P (Replication width signed count parts) h = parts-named P parts h

  parts-named : (P : ℕ → Type 0) (parts : Expressions) → Named P (named_in_parts parts) → Named P (parts_read parts)
  parts-named P no_expressions h = h
  parts-named P (more_expressions part rest) h =
      named-append P (pieces_read part) (parts_read rest) (read-named P part (named-left P (named_in part) (named_in_parts rest) h))
      (parts-named P rest (named-right P (named_in part) (named_in_parts rest) h))

once-named : (P : ℕ → Type 0) (seen : List ℕ) (pieces : List Piece) → Named P pieces → Named P (pieces_once seen pieces)
once-named P seen [] h = tt
once-named P seen (piece ∷ pieces) h = go (has seen piece.object) (once-named P (piece.object ∷ seen) pieces h.1)
  where
    go : (b : Bool) → Named P (pieces_once (piece.object ∷ seen) pieces) → Named P (piece_unless b piece (pieces_once (piece.object ∷ seen) pieces))
    go true rest = rest
    go false rest = (h.0, rest)

entries-of-pieces : (P : ℕ → Type 0) (pieces : List Piece) (entry : Piece → Entry) → ((piece : Piece) → (entry piece).object ≡ piece.object) → Named P pieces →
    AllHold P (entry_objects (map entry pieces))
entries-of-pieces P [] entry same h = tt
entries-of-pieces P (piece ∷ pieces) entry same h = (subst P (sym (same piece)) h.0, entries-of-pieces P pieces entry same h.1)

-- a wait of a condition has entries on objects that the condition names
pub change_entries-named : (P : ℕ → Type 0) (condition : Expression) → AllHold P (piece_objects (named_in condition)) → AllHold P (entry_objects (change_entries condition))
change_entries-named P condition h = entries-of-pieces P (pieces_once [] (pieces_read condition)) _ (λ piece. refl) (once-named P [] (pieces_read condition) (read-named P condition h))

-- What reading gives

abbrev Gives : {A : Type 0} → (A → Type 0) → Progress A → Type 0
Gives Q (Needs object) = Unit {0}
Gives Q (Has answer left) = Q answer

then-gives : {A B : Type 0} (Q : B → Type 0) (p : Progress A) (next : A → List LogicValue → Progress B) → ((a : A) (left : List LogicValue) → Gives Q (next a left)) → Gives Q (then_with p next)
then-gives Q (Needs object) next h = tt
then-gives Q (Has answer left) next h = h answer left

anything : {A : Type 0} (p : Progress A) → Gives (λ (a : A). Unit {0}) p
anything (Needs object) = tt
anything (Has answer left) = tt

-- a statement waits on such objects alone
abbrev Waiter : (ℕ → Type 0) → Statement → Type 0
Waiter P statement = AllHold P (waited_objects statement)

either-waits : (P : ℕ → Type 0) (b : Bool) (first second : Statement) → Waiter P first → Waiter P second → Waiter P (either_statement b first second)
either-waits P true first second h i = h
either-waits P false first second h i = i

items-give : (P : ℕ → Type 0) (kind : _) (value : LogicValue) (items : CaseItems) (default : Statement) (operands : List LogicValue) →
    AllHold P (items_waited items) → Waiter P default → Gives (Waiter P) (read_items kind value items default operands)
items-give P kind value no_items default operands h i = i
items-give P kind value (more_items labels statement rest) default operands h i =
    then-gives (Waiter P) (read_each labels operands) _
    (λ read others. choose read (read_items kind value rest default others) (items-give P kind value rest default others (hold-right P (waited_objects statement) (items_waited rest) h) i))
  where
    choose : (read : List LogicValue) (p : Progress Statement) → Gives (Waiter P) p →
        Gives (Waiter P) (then_with p (λ otherwise left. Has (either_statement (some_label_matches kind value read) statement otherwise) left))
    choose read (Needs object) g = tt
    choose read (Has otherwise left) g = either-waits P (some_label_matches kind value read) statement otherwise (hold-left P (waited_objects statement) (items_waited rest) h) g

-- The tasks of a statement

-- tasks wait on such objects alone
abbrev Tasks : (ℕ → Type 0) → List Task → Type 0
Tasks P tasks = AllHold P (tasks_waits tasks)

one-task : (P : ℕ → Type 0) (task : Task) (tasks : List Task) → AllHold P (task_waits task) → Tasks P tasks → Tasks P (task ∷ tasks)
one-task P task tasks h i = hold-append P (task_waits task) (tasks_waits tasks) h i

while-waits : (P : ℕ → Type 0) (body last : Statement) → Waiter P body → Waiter P last → AllHold P (all_waited (more_statements body (more_statements last no_statements)))
while-waits P body last h i = hold-append P (waited_objects body) (waited_objects last ++ []) h (hold-append P (waited_objects last) [] i tt)

mutual
  -- the tasks that a statement stands for wait on its objects alone
  opened-waits : (P : ℕ → Type 0) (statement : Statement) (tasks : List Task) → Waiter P statement → Tasks P tasks → Tasks P (opened statement tasks)
  opened-waits P Null tasks h i = i
  opened-waits P (Block statements) tasks h i = opened_all-waits P statements tasks h i
  opened-waits P (If place condition first second) tasks h i = one-task P (Run (If place condition first second)) tasks h i
  opened-waits P (Case place kind value items default) tasks h i = one-task P (Run (Case place kind value items default)) tasks h i
  opened-waits P (For place first_targets first condition next_targets next body) tasks h i = one-task P (Run (For place first_targets first condition next_targets next body)) tasks h i
  opened-waits P (While place condition body) tasks h i = one-task P (Run (While place condition body)) tasks h i
  opened-waits P (Repeat place count body) tasks h i = one-task P (Run (Repeat place count body)) tasks h i
  opened-waits P (Forever place body) tasks h i = one-task P (Run (Forever place body)) tasks h i
  opened-waits P (Delay place delay body) tasks h i = one-task P (Run (Delay place delay body)) tasks h i
  opened-waits P (EventControl place entries body) tasks h i = one-task P (Run (EventControl place entries body)) tasks h i
  opened-waits P (Wait place condition body) tasks h i = one-task P (Run (Wait place condition body)) tasks h i
  opened-waits P (Blocking place targets delay value) tasks h i = i
  opened-waits P (Nonblocking place targets delay value) tasks h i = i
  opened-waits P (Finish place) tasks h i = i

  opened_all-waits : (P : ℕ → Type 0) (statements : Statements) (tasks : List Task) → AllHold P (all_waited statements) → Tasks P tasks → Tasks P (opened_all statements tasks)
  opened_all-waits P no_statements tasks h i = i
  opened_all-waits P (more_statements first rest) tasks h i =
      opened-waits P first (opened_all rest tasks) (hold-left P (waited_objects first) (all_waited rest) h)
      (opened_all-waits P rest tasks (hold-right P (waited_objects first) (all_waited rest) h) i)

-- A step

-- what a step leaves to be waited for passes the test
abbrev StepWaits : (ℕ → Type 0) → ProcessStep → Type 0
StepWaits P step = AllHold P (activity_waits step.next)

reads-waits : {A : Type 0} (P : ℕ → Type 0) (Q : A → Type 0) (line : ℕ) (tasks : List Task) (operands : List LogicValue) (p : Progress A) (act : A → ProcessStep) →
    Tasks P tasks → Gives Q p → ((a : A) → Q a → StepWaits P (act a)) → StepWaits P (reads_or line tasks operands p act)
reads-waits P Q line tasks operands (Needs object) act h g k = h
reads-waits P Q line tasks operands (Has answer left) act h g k = k answer g

write-waits : (P : ℕ → Type 0) (place : SourcePlace) (updates : List (Option ValueUpdate)) (tasks : List Task) → Tasks P tasks → StepWaits P (write_step place updates tasks)
write-waits P place [] tasks i = i
write-waits P place (update ∷ []) tasks i = i
write-waits P place (update ∷ (next ∷ updates)) tasks i = i

append-waits : (P : ℕ → Type 0) (place : SourcePlace) (delay : ℕ) (updates : List (Option ValueUpdate)) (tasks : List Task) → Tasks P tasks → StepWaits P (append_step place delay updates tasks)
append-waits P place delay [] tasks i = i
append-waits P place delay (update ∷ []) tasks i = i
append-waits P place delay (update ∷ (next ∷ updates)) tasks i = i

delay-waits : (P : ℕ → Type 0) (line now delay : ℕ) (tasks : List Task) → Tasks P tasks → StepWaits P (goes_on line (after_delay now delay tasks))
delay-waits P line now zero tasks i = i
delay-waits P line now (suc delay) tasks i = i

left-waits : (P : ℕ → Type 0) (place : SourcePlace) (updates : List (Option ValueUpdate)) (tasks : List Task) → Tasks P tasks → Tasks P (writes_left place updates tasks)
left-waits P place [] tasks i = i
left-waits P place (update ∷ updates) tasks i = i

assigns-waits : (P : ℕ → Type 0) (place : SourcePlace) (now : ℕ) (delay : Option ℕ) (updates : List (Option ValueUpdate)) (tasks : List Task) → Tasks P tasks →
    StepWaits P (assignment_step place now delay updates tasks)
assigns-waits P place now None updates tasks i = write-waits P place updates tasks i
assigns-waits P place now (Some delay) updates tasks i = delay-waits P place.line now delay (writes_left place updates tasks) (left-waits P place updates tasks i)

wait-waits : (P : ℕ → Type 0) (place : SourcePlace) (condition : Expression) (body : Statement) (tasks : List Task) (b : Bool) →
    AllHold P (piece_objects (named_in condition) ++ waited_objects body) → Tasks P tasks → StepWaits P (wait_step place condition body tasks b)
wait-waits P place condition body tasks true h i = opened-waits P body tasks (hold-right P (piece_objects (named_in condition)) (waited_objects body) h) i
wait-waits P place condition body tasks false h i =
    hold-append P (entry_objects (change_entries condition)) (tasks_waits (Run (Wait place condition body) ∷ tasks))
    (change_entries-named P condition (hold-left P (piece_objects (named_in condition)) (waited_objects body) h)) (one-task P (Run (Wait place condition body)) tasks h i)

statement-waits : (P : ℕ → Type 0) (now : ℕ) (operands : List LogicValue) (statement : Statement) (tasks : List Task) →
    Waiter P statement → Tasks P tasks → StepWaits P (statement_step now operands statement tasks)
statement-waits P now operands Null tasks h i = i
statement-waits P now operands (Block statements) tasks h i = opened_all-waits P statements tasks h i
statement-waits P now operands (If place condition first second) tasks h i =
    reads-waits P (λ v. Unit {0}) place.line (Run (If place condition first second) ∷ tasks) operands (read_expression condition operands) _
    (one-task P (Run (If place condition first second)) tasks h i) (anything (read_expression condition operands))
    (λ value u. opened-waits P (either_statement _ first second) tasks (either-waits P _ first second (hold-left P (waited_objects first) (waited_objects second) h)
    (hold-right P (waited_objects first) (waited_objects second) h)) i)
statement-waits P now operands (Case place kind value items default) tasks h i =
    reads-waits P (Waiter P) place.line (Run (Case place kind value items default) ∷ tasks) operands (read_case kind value items default operands) _
    (one-task P (Run (Case place kind value items default)) tasks h i)
    (then-gives (Waiter P) (read_expression value operands) _
    (λ bits others. items-give P kind bits items default others (hold-left P (items_waited items) (waited_objects default) h) (hold-right P (items_waited items) (waited_objects default) h)))
    (λ statement g. opened-waits P statement tasks g i)
statement-waits P now operands (For place first_targets first condition next_targets next body) tasks h i =
    reads-waits P (λ v. Unit {0}) place.line (Run (For place first_targets first condition next_targets next body) ∷ tasks) operands (read_assignment place.line first_targets first operands) _
    (one-task P (Run (For place first_targets first condition next_targets next body)) tasks h i) (anything (read_assignment place.line first_targets first operands))
    (λ updates u. write-waits P place updates (Run (loop_of place condition next_targets next body) ∷ tasks)
    (one-task P (Run (loop_of place condition next_targets next body)) tasks (while-waits P body (Blocking place next_targets None next) h tt) i))
statement-waits P now operands (While place condition body) tasks h i =
    reads-waits P (λ v. Unit {0}) place.line (Run (While place condition body) ∷ tasks) operands (read_expression condition operands) _
    (one-task P (Run (While place condition body)) tasks h i) (anything (read_expression condition operands))
    (λ value u. opened-waits P (either_statement _ (Block (more_statements body (more_statements (While place condition body) no_statements))) Null) tasks
    (either-waits P _ (Block (more_statements body (more_statements (While place condition body) no_statements))) Null (while-waits P body (While place condition body) h h) tt) i)
statement-waits P now operands (Repeat place count body) tasks h i =
    reads-waits P (λ v. Unit {0}) place.line (Run (Repeat place count body) ∷ tasks) operands (read_expression count operands) _
    (one-task P (Run (Repeat place count body)) tasks h i) (anything (read_expression count operands))
    (λ value u. one-task P (Turns place (turns_of (natural_number (sign_of count) value)) body) tasks h i)
statement-waits P now operands (Forever place body) tasks h i = opened-waits P body (Run (Forever place body) ∷ tasks) h (one-task P (Run (Forever place body)) tasks h i)
statement-waits P now operands (Delay place delay body) tasks h i = delay-waits P place.line now delay (opened body tasks) (opened-waits P body tasks h i)
statement-waits P now operands (EventControl place entries body) tasks h i =
    hold-append P (entry_objects entries) (tasks_waits (opened body tasks)) (hold-left P (entry_objects entries) (waited_objects body) h)
    (opened-waits P body tasks (hold-right P (entry_objects entries) (waited_objects body) h) i)
statement-waits P now operands (Wait place condition body) tasks h i =
    reads-waits P (λ v. Unit {0}) place.line (Run (Wait place condition body) ∷ tasks) operands (read_expression condition operands) _
    (one-task P (Run (Wait place condition body)) tasks h i) (anything (read_expression condition operands))
    (λ value u. wait-waits P place condition body tasks _ h i)
statement-waits P now operands (Blocking place targets delay value) tasks h i =
    reads-waits P (λ v. Unit {0}) place.line (Run (Blocking place targets delay value) ∷ tasks) operands (read_assignment place.line targets value operands) _
    i (anything (read_assignment place.line targets value operands)) (λ updates u. assigns-waits P place now delay updates tasks i)
statement-waits P now operands (Nonblocking place targets delay value) tasks h i =
    reads-waits P (λ v. Unit {0}) place.line (Run (Nonblocking place targets delay value) ∷ tasks) operands (read_assignment place.line targets value operands) _
    i (anything (read_assignment place.line targets value operands)) (λ updates u. append-waits P place delay updates tasks i)
statement-waits P now operands (Finish place) tasks h i = tt

end-waits : (P : ℕ → Type 0) (always : Bool) (body : Statement) → Waiter P body → StepWaits P (end_step always body)
end-waits P true body h = opened-waits P body [] h tt
end-waits P false body h = tt

turns-waits : (P : ℕ → Type 0) (place : SourcePlace) (count : ℕ) (body : Statement) (tasks : List Task) → Waiter P body → Tasks P tasks → StepWaits P (turns_step place count body tasks)
turns-waits P place zero body tasks h i = i
turns-waits P place (suc count) body tasks h i = opened-waits P body (Turns place count body ∷ tasks) h (one-task P (Turns place count body) tasks h i)

-- where the body and the tasks wait on such objects alone, so do the entries and the tasks that a step leads to
pub step-waits : (P : ℕ → Type 0) (process : FlatProcess) (now : ℕ) (tasks : List Task) (operands : List LogicValue) →
    AllHold P (waited_objects process.body) → AllHold P (tasks_waits tasks) → AllHold P (activity_waits (process_step process now tasks operands).next)
step-waits P process now [] operands b h = end-waits P process.always process.body b
step-waits P process now (Run statement ∷ tasks) operands b h =
    statement-waits P now operands statement tasks (hold-left P (waited_objects statement) (tasks_waits tasks) h) (hold-right P (waited_objects statement) (tasks_waits tasks) h)
step-waits P process now (Turns place count body ∷ tasks) operands b h =
    turns-waits P place count body tasks (hold-left P (waited_objects body) (tasks_waits tasks) h) (hold-right P (waited_objects body) (tasks_waits tasks) h)
step-waits P process now (Writes place updates ∷ tasks) operands b h = write-waits P place updates tasks h
step-waits P process now (Appends place delay updates ∷ tasks) operands b h = append-waits P place delay updates tasks h

-- A run

-- a fact of each process by its number
abbrev Each : (ℕ → ProcessState → Type 0) → List ProcessState → Type 0
Each Q processes = (number : ℕ) → Q number (found_or idle_process (slice_get processes number))

-- at each place of a changed list there is what was there, or its change
each-changed : (Q : ℕ → ProcessState → Type 0) (xs : List ProcessState) (place : ℕ) (change : ProcessState → ProcessState) →
    (Q place (found_or idle_process (slice_get xs place)) → Q place (change (found_or idle_process (slice_get xs place)))) → Each Q xs → Each Q (change_at xs place change)
each-changed Q [] place change keep h number = h number
each-changed Q (x ∷ xs) zero change keep h zero = keep (h 0)
each-changed Q (x ∷ xs) zero change keep h (suc number) = h (suc number)
each-changed Q (x ∷ xs) (suc place) change keep h zero = h 0
each-changed Q (x ∷ xs) (suc place) change keep h (suc number) = each-changed (λ n. Q (suc n)) xs place change keep (λ n. h (suc n)) number

each-mapped : (Q : ℕ → ProcessState → Type 0) (xs : List ProcessState) (change : ProcessState → ProcessState) → ((number : ℕ) (x : ProcessState) → Q number x → Q number (change x)) → Each Q xs →
    Each Q (map change xs)
each-mapped Q [] change keep h number = h number
each-mapped Q (x ∷ xs) change keep h zero = keep 0 x (h 0)
each-mapped Q (x ∷ xs) change keep h (suc number) = each-mapped (λ n. Q (suc n)) xs change (λ n. keep (suc n)) (λ n. h (suc n)) number

-- an object on which the body of a process may wait
abbrev InBody : Machine → ℕ → ℕ → Type 0
InBody machine number object = IsTrue (has (waited_objects (source_at machine number).body) object)

abbrev IsOfBody : Machine → ℕ → ProcessState → Type 0
IsOfBody machine number process = AllHold (InBody machine number) (activity_waits process.activity)

body-holds : (machine : Machine) (number : ℕ) → AllHold (InBody machine number) (waited_objects (source_at machine number).body)
body-holds machine number = has-all (waited_objects (source_at machine number).body) (waited_objects (source_at machine number).body) (λ x i. i)

woken-waits : (P : ℕ → Type 0) (object : ℕ) (old new : LogicValue) (activity : Activity) → AllHold P (activity_waits activity) → AllHold P (activity_waits (woken object old new activity))
woken-waits P object old new (Ready tasks operands) h = h
woken-waits P object old new (Waiting place entries tasks) h = go (some_entry (entry_matches object old new) entries)
  where
    go : (b : Bool) → AllHold P (activity_waits (ready_if b (Waiting place entries tasks) tasks))
    go true = hold-right P (entry_objects entries) (tasks_waits tasks) h
    go false = h
woken-waits P object old new (Asleep time tasks) h = h
woken-waits P object old new (Postponed tasks) h = h
woken-waits P object old new Done h = h

next-waits : (P : ℕ → Type 0) (values : List LogicValue) (action : Action) (next : Activity) → AllHold P (activity_waits next) → AllHold P (activity_waits (next_activity values action next))
next-waits P values (ReadsObject object) (Ready tasks operands) h = h
next-waits P values (ReadsObject object) (Waiting place entries tasks) h = h
next-waits P values (ReadsObject object) (Asleep time tasks) h = h
next-waits P values (ReadsObject object) (Postponed tasks) h = h
next-waits P values (ReadsObject object) Done h = h
next-waits P values (WritesObject update) next h = h
next-waits P values (AppendsUpdate delay update) next h = h
next-waits P values TouchesNothing next h = h

with_value-waits : (machine : Machine) (object : ℕ) (new : LogicValue) (state : State) → WaitsAreOfBodies machine state → WaitsAreOfBodies machine (with_value machine object new state)
with_value-waits machine object new state h =
    each-mapped (IsOfBody machine) state.processes (woken_process object (value_at state.values object) new)
    (λ number x i. woken-waits (InBody machine number) object (value_at state.values object) new x.activity i) h

written-waits : (machine : Machine) (write : Option ValueUpdate) (state : State) → WaitsAreOfBodies machine state → WaitsAreOfBodies machine (written_if machine write state)
written-waits machine None state h = h
written-waits machine (Some update) state h = with_value-waits machine update.object (value_written machine state update) state h

values-waits : (machine : Machine) (objects : List ℕ) (values : List LogicValue) (state : State) → WaitsAreOfBodies machine state → WaitsAreOfBodies machine (with_values machine objects values state)
values-waits machine [] values state h = h
values-waits machine (object ∷ objects) [] state h = h
values-waits machine (object ∷ objects) (value ∷ values) state h = values-waits machine objects values (with_value machine object value state) (with_value-waits machine object value state h)

activity-step : (machine : Machine) (state : State) (number : ℕ) (activity : Activity) → AllHold (InBody machine number) (activity_waits activity) →
    AllHold (InBody machine number) (activity_waits (activity_step machine state number activity).next)
activity-step machine state number (Ready tasks operands) h = step-waits (InBody machine number) (source_at machine number) state.time tasks operands (body-holds machine number) h
activity-step machine state number (Waiting place entries tasks) h = h
activity-step machine state number (Asleep time tasks) h = h
activity-step machine state number (Postponed tasks) h = h
activity-step machine state number Done h = h

evaluated-waits : (machine : Machine) (number : ℕ) (node : Option FlatNode) (state : State) → WaitsAreOfBodies machine state → WaitsAreOfBodies machine (evaluated machine number node state)
evaluated-waits machine number None state h = h
evaluated-waits machine number (Some node) state h = h

nets-waits : (machine : Machine) (number : ℕ) (node : Option FlatNode) (pending : Option (List LogicValue)) (state : State) → WaitsAreOfBodies machine state →
    WaitsAreOfBodies machine (nets_updated machine number node pending state)
nets-waits machine number None pending state h = h
nets-waits machine number (Some node) None state h = h
nets-waits machine number (Some node) (Some values) state h = values-waits machine node.outputs values _ h

-- each event keeps it
pub after-waits : (machine : Machine) (state : State) (event : Event) → WaitsAreOfBodies machine state → WaitsAreOfBodies machine (after machine state event)
after-waits machine state (Step number) h =
    written-waits machine (write_of (step_of machine state number).action) (with_process number (after_step state (step_of machine state number)) state)
    (each-changed (IsOfBody machine) state.processes number (after_step state (step_of machine state number))
    (λ i. next-waits (InBody machine number) state.values (step_of machine state number).action (step_of machine state number).next
    (activity-step machine state number (process_at state number).activity (h number))) h)
after-waits machine state (LaneStep number) h =
    written-waits machine (first_update (process_at state number).lane) (with_process number after_lane_step state)
    (each-changed (IsOfBody machine) state.processes number after_lane_step (λ i. i) h)
after-waits machine state (Evaluation number) h = evaluated-waits machine number (slice_get machine.design.nodes number) state h
after-waits machine state (NetUpdate number) h = nets-waits machine number (slice_get machine.design.nodes number) _ state h

resumed-waits : (P : ℕ → Type 0) (activity : Activity) → AllHold P (activity_waits activity) → AllHold P (activity_waits (resumed activity))
resumed-waits P (Ready tasks operands) h = h
resumed-waits P (Waiting place entries tasks) h = h
resumed-waits P (Asleep time tasks) h = h
resumed-waits P (Postponed tasks) h = h
resumed-waits P Done h = h

awake-waits : (P : ℕ → Type 0) (now : ℕ) (activity : Activity) → AllHold P (activity_waits activity) → AllHold P (activity_waits (awake_at now activity))
awake-waits P now (Ready tasks operands) h = h
awake-waits P now (Waiting place entries tasks) h = h
awake-waits P now (Asleep time tasks) h = go (nat_le time now)
  where
    go : (b : Bool) → AllHold P (activity_waits (if b then Ready tasks [] else Asleep time tasks))
    go true = h
    go false = h
awake-waits P now (Postponed tasks) h = h
awake-waits P now Done h = h

-- each turn keeps it
pub turned-waits : (machine : Machine) (turn : TurnKind) (state : State) → WaitsAreOfBodies machine state → WaitsAreOfBodies machine (turned turn state)
turned-waits machine PostponedTurn state h =
    each-mapped (IsOfBody machine) state.processes (λ process. record process { activity = resumed process.activity }) (λ number x i. resumed-waits (InBody machine number) x.activity i) h
turned-waits machine UpdatesTurn state h = each-mapped (IsOfBody machine) state.processes _ (λ number x i. i) h
turned-waits machine (TimeTurn time) state h =
    each-mapped (IsOfBody machine) state.processes (λ process. record process { activity = awake_at time process.activity }) (λ number x i. awake-waits (InBody machine number) time x.activity i) h

turned_by-waits : (machine : Machine) (turn : Option TurnKind) (state : State) → WaitsAreOfBodies machine state → WaitsAreOfBodies machine (turned_by turn state)
turned_by-waits machine None state h = h
turned_by-waits machine (Some turn) state h = turned-waits machine turn state h

-- each move keeps it
pub made-waits : (machine : Machine) (state : State) (move : Move) → WaitsAreOfBodies machine state → WaitsAreOfBodies machine (made machine state move)
made-waits machine state (Happens event) h = after-waits machine state event h
made-waits machine state runs.Turns h = turned_by-waits machine (turn_of state) state h

-- some moves keep it
pub all_made-waits : (machine : Machine) (state : State) (moves : List Move) → WaitsAreOfBodies machine state → WaitsAreOfBodies machine (all_made machine state moves)
all_made-waits machine state [] h = h
all_made-waits machine state (move ∷ moves) h = all_made-waits machine (made machine state move) moves (made-waits machine state move h)

-- a process begins with the tasks of its body
starts : (processes : List FlatProcess) (P : ℕ → ℕ → Type 0) → ((number : ℕ) → AllHold (P number)
    (waited_objects (found_or (record { always = false; body = Null; place = record { line = 0; column = 0 } }) (slice_get processes number)).body)) →
    Each (λ number process. AllHold (P number) (activity_waits process.activity)) (map (λ (process : FlatProcess). record { activity = Ready (opened process.body []) []; later = []; lane = [] })
    processes)
starts [] P h number = tt
starts (process ∷ processes) P h zero = opened-waits (P 0) process.body [] (h 0) tt
starts (process ∷ processes) P h (suc number) = starts processes (λ n. P (suc n)) (λ n. h (suc n)) number

-- at the start it holds
pub start-waits : (machine : Machine) → WaitsAreOfBodies machine (start machine)
start-waits machine = starts machine.design.processes (InBody machine) (body-holds machine)

-- Who is woken

has-before_if : (b : Bool) (number : ℕ) (rest : List ℕ) (x : ℕ) → has rest x ≡ true → has (before_if b number rest) x ≡ true
has-before_if true number rest x h = or_right (nat_eq number x) (has rest x) h
has-before_if false number rest x h = h

-- a process whose body may wait on an object stands among those that do
pub among-waiters : (object from : ℕ) (processes : List FlatProcess) (number : ℕ) →
    has (waited_objects (found_or (record { always = false; body = Null; place = record { line = 0; column = 0 } }) (slice_get processes number)).body) object ≡ true →
    has (waiters_from object from processes) (from + number) ≡ true
among-waiters object from [] number h = cc
among-waiters object from (process ∷ processes) zero h =
    let here : has (before_if true from (waiters_from object (from + 1) processes)) (from + 0) ≡ true =
    or_left (nat_eq from (from + 0)) (has (waiters_from object (from + 1) processes) (from + 0)) (eq-eqb from (from + 0) (omega arith)) in
    ap (λ b. has (before_if b from (waiters_from object (from + 1) processes)) (from + 0)) h ∙ here
among-waiters object from (process ∷ processes) (suc number) h =
    has-before_if (has (waited_objects process.body) object) from (waiters_from object (from + 1) processes) (from + suc number)
    (let e : from + 1 + number ≡ from + suc number = omega arith in
    ap (has (waiters_from object (from + 1) processes)) (sym e) ∙ among-waiters object (from + 1) processes number h)

entry-on : (object : ℕ) (old new : LogicValue) (entry : Entry) → entry_matches object old new entry ≡ true → entry.object ≡ object
entry-on object old new entry h = eqb-true entry.object object (and_parts (nat_eq entry.object object)
    (edge_matches entry.edge (part_of old entry.low entry.width) (part_of new entry.low entry.width)) h).0

matched : (P : ℕ → Type 0) (object : ℕ) (old new : LogicValue) (entries : List Entry) → AllHold P (entry_objects entries) → some_entry (entry_matches object old new) entries ≡ true → P object
matched P object old new [] h e = absurd (cc)
matched P object old new (entry ∷ entries) h e =
    elim (or_cases (entry_matches object old new entry) (some_entry (entry_matches object old new) entries) e) [
      | inl here ↦ subst P (entry-on object old new entry here) h.0
      | inr there ↦ matched P object old new entries h.1 there
    ]

entries-hold : (P : ℕ → Type 0) (activity : Activity) → AllHold P (activity_waits activity) → AllHold P (entry_objects (waiting_entries activity))
entries-hold P (Ready tasks operands) h = tt
entries-hold P (Waiting place entries tasks) h = hold-left P (entry_objects entries) (tasks_waits tasks) h
entries-hold P (Asleep time tasks) h = tt
entries-hold P (Postponed tasks) h = tt
entries-hold P Done h = tt

-- a process that a change of an object wakes is one that may wait on the object
pub woken-among : (machine : Machine) (state : State) (number object : ℕ) (old new : LogicValue) → WaitsAreOfBodies machine state →
    some_entry (entry_matches object old new) (waiting_entries (process_at state number).activity) ≡ true → has (waiters_of machine.design object) number ≡ true
woken-among machine state number object old new h e =
    let of_body : has (waited_objects (source_at machine number).body) object ≡ true =
    matched (InBody machine number) object old new (waiting_entries (process_at state number).activity) (entries-hold (InBody machine number) (process_at state number).activity (h number)) e in
    let zeroth : 0 + number ≡ number = omega arith in
    ap (has (waiters_of machine.design object)) (sym zeroth) ∙ among-waiters object 0 machine.design.processes number of_body

-- a process that isn't among them stays as it is
pub others-stay : (machine : Machine) (state : State) (number object : ℕ) (old new : LogicValue) → WaitsAreOfBodies machine state → has (waiters_of machine.design object) number ≡ false →
    woken object old new (process_at state number).activity ≡ (process_at state number).activity
others-stay machine state number object old new h out =
    go (process_at state number).activity (λ e. let in_list : has (waiters_of machine.design object) number ≡ true = woken-among machine state number object old new h e in cc)
  where
    ready_if-false : (b : Bool) (waiting : Activity) (tasks : List _) → (b ≡ true → ⊥) → ready_if b waiting tasks ≡ waiting
    ready_if-false true waiting tasks never = absurd (never refl)
    ready_if-false false waiting tasks never = refl

    go : (activity : Activity) → (some_entry (entry_matches object old new) (waiting_entries activity) ≡ true → ⊥) → woken object old new activity ≡ activity
    go (Ready tasks operands) never = refl
    go (Waiting place entries tasks) never = ready_if-false (some_entry (entry_matches object old new) entries) (Waiting place entries tasks) tasks never
    go (Asleep time tasks) never = refl
    go (Postponed tasks) never = refl
    go Done never = refl

-- all of this
pub waits_stay : WaitsStay
waits_stay = record { starts = start-waits; events = after-waits; turns = turned-waits; others = others-stay }
