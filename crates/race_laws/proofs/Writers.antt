-- What a process is still to write comes from its body: in a run a process comes to write no object that its body doesn't.
use Rattle.std.proofs.Common.{◌≡◌, ℕ, zero, suc, List, [], ◌∷◌, ◌++◌, map, Bool, true, false, refl, ap, subst}
use Rattle.std.specs.Prelude.{Option, Some, None, slice_get, nat_le, min, ◌-◌, cond}
use Rattle.vf_base.specs.Lists.{change_at}
use Rattle.four_value.specs.Values.{LogicValue, natural_number, part_of}
use Rattle.vf_base.specs.Base.{SourcePlace}
use Rattle.v_design.specs.Trees.{Expression, Memory, Target, WholeTarget, BitTarget, PartTarget, WordTarget, Statement, Null, Block, If, Case, For, While, Repeat, Forever, Delay, EventControl, Wait}
use Rattle.v_design.specs.Trees.{Blocking, Nonblocking, Finish, Statements, no_statements, more_statements, CaseItems, no_items, more_items}
use Rattle.v_design.specs.Expressions.{Progress, Needs, Has, then_with, sign_of, place_of_number, part_places, word_at, read_expression, read_each}
use Rattle.v_design.specs.Designs.{FlatProcess, FlatNode, Machine}
use Rattle.v_design.specs.Assignments.{ValueUpdate, value_at, part_update, bit_update, word_update, target_width, target_update, target_updates, targets_width, read_indexes, read_assignment}
use Rattle.v_design.specs.Assignments.{some_label_matches}
use Rattle.v_design.specs.Processes.{Task, Run, Turns, Writes, Appends, Activity, Ready, Waiting, Asleep, Postponed, Done, Action, ReadsObject, WritesObject, AppendsUpdate, TouchesNothing}
use Rattle.v_design.specs.Processes.{ProcessStep, opened, opened_all, goes_on, after_delay, reads_or, writes_left, write_step, append_step, assignment_step, either_statement, read_items, read_case}
use Rattle.v_design.specs.Processes.{turns_of, turns_step, loop_of, wait_step, statement_step, end_step, process_step}
use Rattle.v_design.specs.States.{State, ProcessState, LaterUpdate, Event, Step, LaneStep, Evaluation, NetUpdate, found_or, idle_process, process_at, source_at, next_activity, appended, write_of}
use Rattle.v_design.specs.States.{activity_step, step_of, after_step, first_update, rest_of, after_lane_step, after, entry_matches, some_entry, ready_if, woken, woken_process, with_value}
use Rattle.v_design.specs.States.{with_values, written_if, value_written, with_process, evaluated, nets_updated}
use Rattle.v_design.specs.Reads.{target_objects, targets_objects, written_objects, all_written, items_written}
use Rattle.v_design.specs.Writers.{updates_objects, task_objects, tasks_objects, activity_objects, later_objects, lane_objects}

-- All numbers of a list pass a test

abbrev pub Clear : (ℕ → Type 0) → List ℕ → Type 0
Clear P [] = Unit {0}
Clear P (x ∷ xs) = P x × Clear P xs

pub clear-append : (P : ℕ → Type 0) (xs ys : List ℕ) → Clear P xs → Clear P ys → Clear P (xs ++ ys)
clear-append P [] ys h i = i
clear-append P (x ∷ xs) ys h i = (h.0, clear-append P xs ys h.1 i)

pub clear-left : (P : ℕ → Type 0) (xs ys : List ℕ) → Clear P (xs ++ ys) → Clear P xs
clear-left P [] ys h = tt
clear-left P (x ∷ xs) ys h = (h.0, clear-left P xs ys h.1)

pub clear-right : (P : ℕ → Type 0) (xs ys : List ℕ) → Clear P (xs ++ ys) → Clear P ys
clear-right P [] ys h = h
clear-right P (x ∷ xs) ys h = clear-right P xs ys h.1

-- The updates of an assignment

part-clear : (P : ℕ → Type 0) (line object : ℕ) (places : List (Option ℕ)) (value : LogicValue) → P object → Clear P (updates_objects (part_update line object places value ∷ []))
part-clear P line object [] value h = tt
part-clear P line object (None ∷ places) [] h = tt
part-clear P line object (None ∷ places) (b ∷ value) h = part-clear P line object places value h
part-clear P line object (Some place ∷ places) value h = (h, tt)

bit-clear : (P : ℕ → Type 0) (line object : ℕ) (place : Option ℕ) (value : LogicValue) → P object → Clear P (updates_objects (bit_update line object place value ∷ []))
bit-clear P line object None value h = tt
bit-clear P line object (Some place) value h = (h, tt)

word-clear : (P : ℕ → Type 0) (line : ℕ) (words : List ℕ) (word : Option ℕ) (value : LogicValue) → ((w : ℕ) → word ≡ Some w → P w) → Clear P (updates_objects (word_update line word value ∷ []))
word-clear P line words None value h = tt
word-clear P line words (Some w) value h = (h w refl, tt)

pub slice-clear : (P : ℕ → Type 0) (words : List ℕ) → Clear P words → (n w : ℕ) → slice_get words n ≡ Some w → P w
slice-clear P [] h n w e = cc
slice-clear P (x ∷ words) h zero w e = subst P (ap (found_or x) e) h.0
slice-clear P (x ∷ words) h (suc n) w e = slice-clear P words h.1 n w e

if-slice : (P : ℕ → Type 0) (words : List ℕ) (b : Bool) (n w : ℕ) → Clear P words → cond b (slice_get words n) None ≡ Some w → P w
if-slice P words true n w h e = slice-clear P words h n w e
if-slice P words false n w h e = cc

pub word_at-clear : (P : ℕ → Type 0) (memory : Memory) (number : Option ℕ) (w : ℕ) → Clear P memory.words → word_at memory number ≡ Some w → P w
word_at-clear P memory None w h e = cc
word_at-clear P memory (Some address) w h e = if-slice P memory.words (nat_le (min memory.first memory.last) address) (address - min memory.first memory.last) w h e

target-clear : (P : ℕ → Type 0) (line : ℕ) (target : Target) (index : Option ℕ) (value : LogicValue) → Clear P (target_objects target) →
    Clear P (updates_objects (target_update line target index value ∷ []))
target-clear P line (WholeTarget variable) index value h = (h.0, tt)
target-clear P line (BitTarget variable index') index value h = bit-clear P line variable.object (place_of_number variable.high variable.low index) value h.0
target-clear P line (PartTarget variable from to) index value h = part-clear P line variable.object (part_places variable.high variable.low from to) value h.0
target-clear P line (WordTarget memory index') index value h = word-clear P line memory.words (word_at memory index) value (λ w e. word_at-clear P memory index w h e)

one-more : (P : ℕ → Type 0) (update : Option ValueUpdate) (updates : List (Option ValueUpdate)) → Clear P (updates_objects (update ∷ [])) → Clear P (updates_objects updates) →
    Clear P (updates_objects (update ∷ updates))
one-more P None updates h i = i
one-more P (Some update) updates h i = (h.0, i)

pub updates-clear : (P : ℕ → Type 0) (line : ℕ) (targets : List Target) (indexes : List (Option ℕ)) (value : LogicValue) → Clear P (targets_objects targets) →
    Clear P (updates_objects (target_updates line targets indexes value))
updates-clear P line [] indexes value h = tt
updates-clear P line (target ∷ targets) [] value h = tt
updates-clear P line (target ∷ targets) (index ∷ indexes) value h =
    one-more P (target_update line target index (part_of value (targets_width targets) (target_width target))) (target_updates line targets indexes value)
    (target-clear P line target index (part_of value (targets_width targets) (target_width target)) (clear-left P (target_objects target) (targets_objects targets) h))
    (updates-clear P line targets indexes value (clear-right P (target_objects target) (targets_objects targets) h))

-- What reading gives

abbrev Gives : {A : Type 0} → (A → Type 0) → Progress A → Type 0
Gives Q (Needs object) = Unit {0}
Gives Q (Has answer left) = Q answer

then-gives : {A B : Type 0} (Q : B → Type 0) (p : Progress A) (next : A → List LogicValue → Progress B) → ((a : A) (left : List LogicValue) → Gives Q (next a left)) → Gives Q (then_with p next)
then-gives Q (Needs object) next h = tt
then-gives Q (Has answer left) next h = h answer left

abbrev Updates : (ℕ → Type 0) → List (Option ValueUpdate) → Type 0
Updates P updates = Clear P (updates_objects updates)

assignment-gives : (P : ℕ → Type 0) (line : ℕ) (targets : List Target) (value : Expression) (operands : List LogicValue) → Clear P (targets_objects targets) →
    Gives (Updates P) (read_assignment line targets value operands)
assignment-gives P line targets value operands h =
    then-gives (Updates P) (read_expression value operands) _
    (λ bits rest. then-gives (Updates P) (read_indexes targets rest) _ (λ indexes left. updates-clear P line targets indexes bits h))

abbrev Writer : (ℕ → Type 0) → Statement → Type 0
Writer P statement = Clear P (written_objects statement)

either-clear : (P : ℕ → Type 0) (b : Bool) (first second : Statement) → Writer P first → Writer P second → Writer P (either_statement b first second)
either-clear P true first second h i = h
either-clear P false first second h i = i

items-give : (P : ℕ → Type 0) (kind : _) (value : LogicValue) (items : CaseItems) (default : Statement) (operands : List LogicValue) →
    Clear P (items_written items) → Writer P default → Gives (Writer P) (read_items kind value items default operands)
items-give P kind value no_items default operands h i = i
items-give P kind value (more_items labels statement rest) default operands h i =
    then-gives (Writer P) (read_each labels operands) _
    (λ read others. choose read (read_items kind value rest default others) (items-give P kind value rest default others (clear-right P (written_objects statement) (items_written rest) h) i))
  where
    choose : (read : List LogicValue) (p : Progress Statement) → Gives (Writer P) p →
        Gives (Writer P) (then_with p (λ otherwise left. Has (either_statement (some_label_matches kind value read) statement otherwise) left))
    choose read (Needs object) g = tt
    choose read (Has otherwise left) g = either-clear P (some_label_matches kind value read) statement otherwise (clear-left P (written_objects statement) (items_written rest) h) g

-- The tasks of a statement

abbrev Tasks : (ℕ → Type 0) → List Task → Type 0
Tasks P tasks = Clear P (tasks_objects tasks)

one-task : (P : ℕ → Type 0) (task : Task) (tasks : List Task) → Clear P (task_objects task) → Tasks P tasks → Tasks P (task ∷ tasks)
one-task P task tasks h i = clear-append P (task_objects task) (tasks_objects tasks) h i

while-clear : (P : ℕ → Type 0) (body last : Statement) → Writer P body → Writer P last → Clear P (all_written (more_statements body (more_statements last no_statements)))
while-clear P body last h i =
    clear-append P (written_objects body) (written_objects last ++ []) h (clear-append P (written_objects last) [] i tt)

mutual
  pub opened-clear : (P : ℕ → Type 0) (statement : Statement) (tasks : List Task) → Writer P statement → Tasks P tasks → Tasks P (opened statement tasks)
  opened-clear P Null tasks h i = i
  opened-clear P (Block statements) tasks h i = opened_all-clear P statements tasks h i
  opened-clear P (If place condition first second) tasks h i = one-task P (Run (If place condition first second)) tasks h i
  opened-clear P (Case place kind value items default) tasks h i = one-task P (Run (Case place kind value items default)) tasks h i
  opened-clear P (For place first_targets first condition next_targets next body) tasks h i = one-task P (Run (For place first_targets first condition next_targets next body)) tasks h i
  opened-clear P (While place condition body) tasks h i = one-task P (Run (While place condition body)) tasks h i
  opened-clear P (Repeat place count body) tasks h i = one-task P (Run (Repeat place count body)) tasks h i
  opened-clear P (Forever place body) tasks h i = one-task P (Run (Forever place body)) tasks h i
  opened-clear P (Delay place delay body) tasks h i = one-task P (Run (Delay place delay body)) tasks h i
  opened-clear P (EventControl place entries body) tasks h i = one-task P (Run (EventControl place entries body)) tasks h i
  opened-clear P (Wait place condition body) tasks h i = one-task P (Run (Wait place condition body)) tasks h i
  opened-clear P (Blocking place targets delay value) tasks h i = one-task P (Run (Blocking place targets delay value)) tasks h i
  opened-clear P (Nonblocking place targets delay value) tasks h i = one-task P (Run (Nonblocking place targets delay value)) tasks h i
  opened-clear P (Finish place) tasks h i = one-task P (Run (Finish place)) tasks h i

  opened_all-clear : (P : ℕ → Type 0) (statements : Statements) (tasks : List Task) → Clear P (all_written statements) → Tasks P tasks → Tasks P (opened_all statements tasks)
  opened_all-clear P no_statements tasks h i = i
  opened_all-clear P (more_statements first rest) tasks h i =
      opened-clear P first (opened_all rest tasks) (clear-left P (written_objects first) (all_written rest) h)
      (opened_all-clear P rest tasks (clear-right P (written_objects first) (all_written rest) h) i)

-- A step

abbrev pub ActionClear : (ℕ → Type 0) → Action → Type 0
ActionClear P (ReadsObject object) = Unit {0}
ActionClear P (WritesObject update) = P update.object
ActionClear P (AppendsUpdate delay update) = P update.object
ActionClear P TouchesNothing = Unit {0}

-- what a step does and leaves to be done passes the test
abbrev pub StepClear : (ℕ → Type 0) → ProcessStep → Type 0
StepClear P step = ActionClear P step.action × Clear P (activity_objects step.next)

reads-clear : {A : Type 0} (P : ℕ → Type 0) (Q : A → Type 0) (line : ℕ) (tasks : List Task) (operands : List LogicValue) (p : Progress A) (act : A → ProcessStep) →
    Tasks P tasks → Gives Q p → ((a : A) → Q a → StepClear P (act a)) → StepClear P (reads_or line tasks operands p act)
reads-clear P Q line tasks operands (Needs object) act h g k = (tt, h)
reads-clear P Q line tasks operands (Has answer left) act h g k = k answer g

anything : {A : Type 0} (p : Progress A) → Gives (λ (a : A). Unit {0}) p
anything (Needs object) = tt
anything (Has answer left) = tt

write-clear : (P : ℕ → Type 0) (place : SourcePlace) (updates : List (Option ValueUpdate)) (tasks : List Task) → Updates P updates → Tasks P tasks → StepClear P (write_step place updates tasks)
write-clear P place [] tasks h i = (tt, i)
write-clear P place (None ∷ []) tasks h i = (tt, i)
write-clear P place (Some update ∷ []) tasks h i = (h.0, i)
write-clear P place (None ∷ (next ∷ updates)) tasks h i = (tt, one-task P (Writes place (next ∷ updates)) tasks h i)
write-clear P place (Some update ∷ (next ∷ updates)) tasks h i = (h.0, one-task P (Writes place (next ∷ updates)) tasks h.1 i)

append-clear : (P : ℕ → Type 0) (place : SourcePlace) (delay : ℕ) (updates : List (Option ValueUpdate)) (tasks : List Task) → Updates P updates → Tasks P tasks →
    StepClear P (append_step place delay updates tasks)
append-clear P place delay [] tasks h i = (tt, i)
append-clear P place delay (None ∷ []) tasks h i = (tt, i)
append-clear P place delay (Some update ∷ []) tasks h i = (h.0, i)
append-clear P place delay (None ∷ (next ∷ updates)) tasks h i = (tt, one-task P (Appends place delay (next ∷ updates)) tasks h i)
append-clear P place delay (Some update ∷ (next ∷ updates)) tasks h i = (h.0, one-task P (Appends place delay (next ∷ updates)) tasks h.1 i)

delay-clear : (P : ℕ → Type 0) (line now delay : ℕ) (tasks : List Task) → Tasks P tasks → StepClear P (goes_on line (after_delay now delay tasks))
delay-clear P line now zero tasks i = (tt, i)
delay-clear P line now (suc delay) tasks i = (tt, i)

left-clear : (P : ℕ → Type 0) (place : SourcePlace) (updates : List (Option ValueUpdate)) (tasks : List Task) → Updates P updates → Tasks P tasks → Tasks P (writes_left place updates tasks)
left-clear P place [] tasks h i = i
left-clear P place (update ∷ updates) tasks h i = one-task P (Writes place (update ∷ updates)) tasks h i

assigns-clear : (P : ℕ → Type 0) (place : SourcePlace) (now : ℕ) (delay : Option ℕ) (updates : List (Option ValueUpdate)) (tasks : List Task) → Updates P updates → Tasks P tasks →
    StepClear P (assignment_step place now delay updates tasks)
assigns-clear P place now None updates tasks h i = write-clear P place updates tasks h i
assigns-clear P place now (Some delay) updates tasks h i = delay-clear P place.line now delay (writes_left place updates tasks) (left-clear P place updates tasks h i)

wait-clear : (P : ℕ → Type 0) (place : SourcePlace) (condition : Expression) (body : Statement) (tasks : List Task) (b : Bool) → Writer P body → Tasks P tasks →
    StepClear P (wait_step place condition body tasks b)
wait-clear P place condition body tasks true h i = (tt, opened-clear P body tasks h i)
wait-clear P place condition body tasks false h i = (tt, one-task P (Run (Wait place condition body)) tasks h i)

statement-clear : (P : ℕ → Type 0) (now : ℕ) (operands : List LogicValue) (statement : Statement) (tasks : List Task) →
    Writer P statement → Tasks P tasks → StepClear P (statement_step now operands statement tasks)
statement-clear P now operands Null tasks h i = (tt, i)
statement-clear P now operands (Block statements) tasks h i = (tt, opened_all-clear P statements tasks h i)
statement-clear P now operands (If place condition first second) tasks h i =
    reads-clear P (λ v. Unit {0}) place.line (Run (If place condition first second) ∷ tasks) operands (read_expression condition operands) _
    (one-task P (Run (If place condition first second)) tasks h i) (anything (read_expression condition operands))
    (λ value u. (
      tt,
      opened-clear P (either_statement _ first second) tasks (either-clear P _ first second (clear-left P (written_objects first) (written_objects second) h)
          (clear-right P (written_objects first) (written_objects second) h)) i,
    ))
statement-clear P now operands (Case place kind value items default) tasks h i =
    reads-clear P (Writer P) place.line (Run (Case place kind value items default) ∷ tasks) operands (read_case kind value items default operands) _
    (one-task P (Run (Case place kind value items default)) tasks h i)
    (then-gives (Writer P) (read_expression value operands) _
    (λ bits others. items-give P kind bits items default others (clear-left P (items_written items) (written_objects default) h) (clear-right P (items_written items) (written_objects default) h)))
    (λ statement g. (tt, opened-clear P statement tasks g i))
statement-clear P now operands (For place first_targets first condition next_targets next body) tasks h i =
    reads-clear P (Updates P) place.line (Run (For place first_targets first condition next_targets next body) ∷ tasks) operands (read_assignment place.line first_targets first operands) _
    (one-task P (Run (For place first_targets first condition next_targets next body)) tasks h i)
    (assignment-gives P place.line first_targets first operands (clear-left P (targets_objects first_targets) (targets_objects next_targets ++ written_objects body) h))
    (λ updates g. write-clear P place updates (Run (loop_of place condition next_targets next body) ∷ tasks) g
    (one-task P (Run (loop_of place condition next_targets next body)) tasks
    (while-clear P body (Blocking place next_targets None next)
    (clear-right P (targets_objects next_targets) (written_objects body) (clear-right P (targets_objects first_targets) (targets_objects next_targets ++ written_objects body) h))
    (clear-left P (targets_objects next_targets) (written_objects body) (clear-right P (targets_objects first_targets) (targets_objects next_targets ++ written_objects body) h))) i))
statement-clear P now operands (While place condition body) tasks h i =
    reads-clear P (λ v. Unit {0}) place.line (Run (While place condition body) ∷ tasks) operands (read_expression condition operands) _
    (one-task P (Run (While place condition body)) tasks h i) (anything (read_expression condition operands))
    (λ value u. (
      tt,
      opened-clear P (either_statement _ (Block (more_statements body (more_statements (While place condition body) no_statements))) Null) tasks
          (either-clear P _ (Block (more_statements body (more_statements (While place condition body) no_statements))) Null (while-clear P body (While place condition body) h h) tt) i,
    ))
statement-clear P now operands (Repeat place count body) tasks h i =
    reads-clear P (λ v. Unit {0}) place.line (Run (Repeat place count body) ∷ tasks) operands (read_expression count operands) _
    (one-task P (Run (Repeat place count body)) tasks h i) (anything (read_expression count operands))
    (λ value u. (tt, one-task P (Turns place (turns_of (natural_number (sign_of count) value)) body) tasks h i))
statement-clear P now operands (Forever place body) tasks h i = (tt, opened-clear P body (Run (Forever place body) ∷ tasks) h (one-task P (Run (Forever place body)) tasks h i))
statement-clear P now operands (Delay place delay body) tasks h i = delay-clear P place.line now delay (opened body tasks) (opened-clear P body tasks h i)
statement-clear P now operands (EventControl place entries body) tasks h i = (tt, opened-clear P body tasks h i)
statement-clear P now operands (Wait place condition body) tasks h i =
    reads-clear P (λ v. Unit {0}) place.line (Run (Wait place condition body) ∷ tasks) operands (read_expression condition operands) _
    (one-task P (Run (Wait place condition body)) tasks h i) (anything (read_expression condition operands))
    (λ value u. wait-clear P place condition body tasks _ h i)
statement-clear P now operands (Blocking place targets delay value) tasks h i =
    reads-clear P (Updates P) place.line (Run (Blocking place targets delay value) ∷ tasks) operands (read_assignment place.line targets value operands) _
    (one-task P (Run (Blocking place targets delay value)) tasks h i) (assignment-gives P place.line targets value operands h)
    (λ updates g. assigns-clear P place now delay updates tasks g i)
statement-clear P now operands (Nonblocking place targets delay value) tasks h i =
    reads-clear P (Updates P) place.line (Run (Nonblocking place targets delay value) ∷ tasks) operands (read_assignment place.line targets value operands) _
    (one-task P (Run (Nonblocking place targets delay value)) tasks h i) (assignment-gives P place.line targets value operands h)
    (λ updates g. append-clear P place delay updates tasks g i)
statement-clear P now operands (Finish place) tasks h i = (tt, tt)

end-clear : (P : ℕ → Type 0) (always : Bool) (body : Statement) → Writer P body → StepClear P (end_step always body)
end-clear P true body h = (tt, opened-clear P body [] h tt)
end-clear P false body h = (tt, tt)

turns-clear : (P : ℕ → Type 0) (place : SourcePlace) (count : ℕ) (body : Statement) (tasks : List Task) → Writer P body → Tasks P tasks → StepClear P (turns_step place count body tasks)
turns-clear P place zero body tasks h i = (tt, i)
turns-clear P place (suc count) body tasks h i = (tt, opened-clear P body (Turns place count body ∷ tasks) h (one-task P (Turns place count body) tasks h i))

pub step-clear : (P : ℕ → Type 0) (process : FlatProcess) (now : ℕ) (tasks : List Task) (operands : List LogicValue) →
    Clear P (written_objects process.body) → Clear P (tasks_objects tasks) → StepClear P (process_step process now tasks operands)
step-clear P process now [] operands b h = end-clear P process.always process.body b
step-clear P process now (Run statement ∷ tasks) operands b h =
    statement-clear P now operands statement tasks (clear-left P (written_objects statement) (tasks_objects tasks) h) (clear-right P (written_objects statement) (tasks_objects tasks) h)
step-clear P process now (Turns place count body ∷ tasks) operands b h =
    turns-clear P place count body tasks (clear-left P (written_objects body) (tasks_objects tasks) h) (clear-right P (written_objects body) (tasks_objects tasks) h)
step-clear P process now (Writes place updates ∷ tasks) operands b h =
    write-clear P place updates tasks (clear-left P (updates_objects updates) (tasks_objects tasks) h) (clear-right P (updates_objects updates) (tasks_objects tasks) h)
step-clear P process now (Appends place delay updates ∷ tasks) operands b h =
    append-clear P place delay updates tasks (clear-left P (updates_objects updates) (tasks_objects tasks) h) (clear-right P (updates_objects updates) (tasks_objects tasks) h)

-- A run

abbrev pub IsClear : (ℕ → Type 0) → ProcessState → Type 0
IsClear P process = Clear P (activity_objects process.activity) × (Clear P (later_objects process.later) × Clear P (lane_objects process.lane))

-- each process is to write such objects alone
abbrev pub AreClear : (ℕ → Type 0) → State → Type 0
AreClear P state = (number : ℕ) → IsClear P (process_at state number)

woken-clear : (P : ℕ → Type 0) (object : ℕ) (old new : LogicValue) (activity : Activity) → Clear P (activity_objects activity) → Clear P (activity_objects (woken object old new activity))
woken-clear P object old new (Ready tasks operands) h = h
woken-clear P object old new (Waiting place entries tasks) h = go (some_entry (entry_matches object old new) entries)
  where
    go : (b : Bool) → Clear P (activity_objects (ready_if b (Waiting place entries tasks) tasks))
    go true = h
    go false = h
woken-clear P object old new (Asleep time tasks) h = h
woken-clear P object old new (Postponed tasks) h = h
woken-clear P object old new Done h = h

next-clear : (P : ℕ → Type 0) (values : List LogicValue) (action : Action) (next : Activity) → Clear P (activity_objects next) → Clear P (activity_objects (next_activity values action next))
next-clear P values (ReadsObject object) (Ready tasks operands) h = h
next-clear P values (ReadsObject object) (Waiting place entries tasks) h = h
next-clear P values (ReadsObject object) (Asleep time tasks) h = h
next-clear P values (ReadsObject object) (Postponed tasks) h = h
next-clear P values (ReadsObject object) Done h = h
next-clear P values (WritesObject update) next h = h
next-clear P values (AppendsUpdate delay update) next h = h
next-clear P values TouchesNothing next h = h

appended-clear : (P : ℕ → Type 0) (now : ℕ) (action : Action) → ActionClear P action → Clear P (later_objects (appended now action))
appended-clear P now (ReadsObject object) h = tt
appended-clear P now (WritesObject update) h = tt
appended-clear P now (AppendsUpdate delay update) h = (h, tt)
appended-clear P now TouchesNothing h = tt

pub later-append : (P : ℕ → Type 0) (xs ys : List LaterUpdate) → Clear P (later_objects xs) → Clear P (later_objects ys) → Clear P (later_objects (xs ++ ys))
later-append P [] ys h i = i
later-append P (x ∷ xs) ys h i = (h.0, later-append P xs ys h.1 i)

rest-clear : (P : ℕ → Type 0) (lane : List ValueUpdate) → Clear P (lane_objects lane) → Clear P (lane_objects (rest_of lane))
rest-clear P [] h = tt
rest-clear P (first ∷ rest) h = h.1

-- at each place of a changed list there is what was there, or its change
changed-clear : (P : ℕ → Type 0) (xs : List ProcessState) (place : ℕ) (change : ProcessState → ProcessState) →
    (IsClear P (found_or idle_process (slice_get xs place)) → IsClear P (change (found_or idle_process (slice_get xs place)))) →
    ((number : ℕ) → IsClear P (found_or idle_process (slice_get xs number))) → (number : ℕ) → IsClear P (found_or idle_process (slice_get (change_at xs place change) number))
changed-clear P [] place change keep h number = h number
changed-clear P (x ∷ xs) zero change keep h zero = keep (h 0)
changed-clear P (x ∷ xs) zero change keep h (suc number) = h (suc number)
changed-clear P (x ∷ xs) (suc place) change keep h zero = h 0
changed-clear P (x ∷ xs) (suc place) change keep h (suc number) = changed-clear P xs place change keep (λ n. h (suc n)) number

pub mapped-clear : (P : ℕ → Type 0) (xs : List ProcessState) (change : ProcessState → ProcessState) → ((x : ProcessState) → IsClear P x → IsClear P (change x)) →
    ((number : ℕ) → IsClear P (found_or idle_process (slice_get xs number))) → (number : ℕ) → IsClear P (found_or idle_process (slice_get (map change xs) number))
mapped-clear P [] change keep h number = h number
mapped-clear P (x ∷ xs) change keep h zero = keep x (h 0)
mapped-clear P (x ∷ xs) change keep h (suc number) = mapped-clear P xs change keep (λ n. h (suc n)) number

pub with_value-clear : (P : ℕ → Type 0) (machine : Machine) (object : ℕ) (new : LogicValue) (state : State) → AreClear P state → AreClear P (with_value machine object new state)
with_value-clear P machine object new state h =
    mapped-clear P state.processes (woken_process object (value_at state.values object) new)
    (λ x i. (woken-clear P object (value_at state.values object) new x.activity i.0, i.1)) h

written-clear : (P : ℕ → Type 0) (machine : Machine) (write : Option ValueUpdate) (state : State) → AreClear P state → AreClear P (written_if machine write state)
written-clear P machine None state h = h
written-clear P machine (Some update) state h = with_value-clear P machine update.object (value_written machine state update) state h

values-clear : (P : ℕ → Type 0) (machine : Machine) (objects : List ℕ) (values : List LogicValue) (state : State) → AreClear P state → AreClear P (with_values machine objects values state)
values-clear P machine [] values state h = h
values-clear P machine (object ∷ objects) [] state h = h
values-clear P machine (object ∷ objects) (value ∷ values) state h = values-clear P machine objects values (with_value machine object value state) (with_value-clear P machine object value state h)

-- the bodies write such objects alone
abbrev pub BodiesClear : (ℕ → Type 0) → Machine → Type 0
BodiesClear P machine = (number : ℕ) → Clear P (written_objects (source_at machine number).body)

activity-step : (P : ℕ → Type 0) (machine : Machine) (state : State) (number : ℕ) (activity : Activity) → BodiesClear P machine → Clear P (activity_objects activity) →
    StepClear P (activity_step machine state number activity)
activity-step P machine state number (Ready tasks operands) b h = step-clear P (source_at machine number) state.time tasks operands (b number) h
activity-step P machine state number (Waiting place entries tasks) b h = (tt, h)
activity-step P machine state number (Asleep time tasks) b h = (tt, h)
activity-step P machine state number (Postponed tasks) b h = (tt, h)
activity-step P machine state number Done b h = (tt, h)

pub step_of-clear : (P : ℕ → Type 0) (machine : Machine) (state : State) (number : ℕ) → BodiesClear P machine → AreClear P state → StepClear P (step_of machine state number)
step_of-clear P machine state number b h = activity-step P machine state number (process_at state number).activity b (h number).0

evaluated-clear : (P : ℕ → Type 0) (machine : Machine) (number : ℕ) (node : Option FlatNode) (state : State) → AreClear P state → AreClear P (evaluated machine number node state)
evaluated-clear P machine number None state h = h
evaluated-clear P machine number (Some node) state h = h

nets-clear : (P : ℕ → Type 0) (machine : Machine) (number : ℕ) (node : Option FlatNode) (pending : Option (List LogicValue)) (state : State) → AreClear P state →
    AreClear P (nets_updated machine number node pending state)
nets-clear P machine number None pending state h = h
nets-clear P machine number (Some node) None state h = h
nets-clear P machine number (Some node) (Some values) state h = values-clear P machine node.outputs values _ h

-- each event keeps it
pub after-clear : (P : ℕ → Type 0) (machine : Machine) (state : State) (event : Event) → BodiesClear P machine → AreClear P state → AreClear P (after machine state event)
after-clear P machine state (Step number) b h =
    written-clear P machine (write_of (step_of machine state number).action) (with_process number (after_step state (step_of machine state number)) state)
    (changed-clear P state.processes number (after_step state (step_of machine state number))
    (λ i. (
      next-clear P state.values (step_of machine state number).action (step_of machine state number).next (step_of-clear P machine state number b h).1,
      (
        later-append P (process_at state number).later (appended state.time (step_of machine state number).action) i.1.0
            (appended-clear P state.time (step_of machine state number).action (step_of-clear P machine state number b h).0),
        i.1.1,
      ),
    )) h)
after-clear P machine state (LaneStep number) b h =
    written-clear P machine (first_update (process_at state number).lane) (with_process number after_lane_step state)
    (changed-clear P state.processes number after_lane_step (λ i. (i.0, (i.1.0, rest-clear P (process_at state number).lane i.1.1))) h)
after-clear P machine state (Evaluation number) b h = evaluated-clear P machine number (slice_get machine.design.nodes number) state h
after-clear P machine state (NetUpdate number) b h = nets-clear P machine number (slice_get machine.design.nodes number) _ state h
