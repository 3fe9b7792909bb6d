-- The objects on which a process may wait, as far as its text names them (IEEE 1364-2001, clause 9.7).
use Rattle.std.specs.Prelude.{◌≡◌, ℕ, ◌+◌, ◌<◌, Bool, true, false, List, [], ◌∷◌, ◌++◌, map, length, get_or, IsTrue}
use Rattle.four_value.specs.Values.{LogicValue}
use Rattle.vf_base.specs.Lists.{has, AllHold}
use Rattle.v_design.specs.Trees.{Entry, Statement, Null, Block, If, Case, For, While, Repeat, Forever, Delay, EventControl, Wait, Blocking, Nonblocking, Finish, Statements, no_statements}
use Rattle.v_design.specs.Trees.{more_statements, CaseItems, no_items, more_items}
use Rattle.v_design.specs.Expressions.{piece_objects}
use Rattle.v_design.specs.Designs.{FlatProcess, FlatDesign, Machine}
use Rattle.v_design.specs.Processes.{Task, Run, Turns, Writes, Appends, Activity, Ready, Waiting, Asleep, Postponed, Done}
use Rattle.v_design.specs.States.{State, Event, TurnKind, process_at, source_at, start, after, turned, woken}
use Rattle.v_design.specs.Reads.{named_in}

-- the objects of some entries
abbrev pub entry_objects : List Entry → List ℕ
entry_objects entries = map (λ (entry : Entry). entry.object) entries

abbrev mutual
  -- the objects on which a statement may wait: those of its event controls, and those that the condition of a wait names
  pub waited_objects : Statement → List ℕ
  waited_objects Null = []
  waited_objects (Block statements) = all_waited statements
  waited_objects (If place condition first second) = waited_objects first ++ waited_objects second
  waited_objects (Case place kind value items default) = items_waited items ++ waited_objects default
  waited_objects (For place first_targets first condition next_targets next body) = waited_objects body
  waited_objects (While place condition body) = waited_objects body
  waited_objects (Repeat place count body) = waited_objects body
  waited_objects (Forever place body) = waited_objects body
  waited_objects (Delay place delay body) = waited_objects body
  waited_objects (EventControl place entries body) = entry_objects entries ++ waited_objects body
  waited_objects (Wait place condition body) = piece_objects (named_in condition) ++ waited_objects body
  waited_objects (Blocking place targets delay value) = []
  waited_objects (Nonblocking place targets delay value) = []
  waited_objects (Finish place) = []

  -- the objects on which several statements may wait
  pub all_waited : Statements → List ℕ
  all_waited no_statements = []
  all_waited (more_statements first rest) = waited_objects first ++ all_waited rest

  -- the objects on which the items of a case may wait
  pub items_waited : CaseItems → List ℕ
  items_waited no_items = []
  items_waited (more_items labels statement rest) = waited_objects statement ++ items_waited rest

-- Who may wait on an object

-- a number before others, where a test holds
abbrev pub before_if : Bool → ℕ → List ℕ → List ℕ
before_if true number rest = number ∷ rest
before_if false number rest = rest

-- the numbers of the processes that may wait on an object, from a number on
abbrev pub waiters_from : ℕ → ℕ → List FlatProcess → List ℕ
waiters_from object number [] = []
waiters_from object number (process ∷ processes) = before_if (has (waited_objects process.body) object) number (waiters_from object (number + 1) processes)

-- the numbers of the processes that may wait on an object, ascending
abbrev pub waiters_of : FlatDesign → ℕ → List ℕ
waiters_of design object = waiters_from object 0 design.processes

-- the lists of an index: for each object of the design the processes that may wait on it
pub record IsIndexOf (design : FlatDesign) (lists : List (List ℕ)) : Type 0 where
  pub objects : length lists ≡ length design.objects
  pub listed : (object : ℕ) → object < length lists → get_or lists object [] ≡ waiters_of design object

-- What is left to be waited for

-- the objects on which a task may wait
abbrev pub task_waits : Task → List ℕ
task_waits (Run statement) = waited_objects statement
task_waits (Turns place count body) = waited_objects body
task_waits (Writes place updates) = []
task_waits (Appends place delay updates) = []

-- the objects on which some tasks may wait
abbrev pub tasks_waits : List Task → List ℕ
tasks_waits [] = []
tasks_waits (task ∷ tasks) = task_waits task ++ tasks_waits tasks

-- the objects on which a process waits, or may wait yet
abbrev pub activity_waits : Activity → List ℕ
activity_waits (Ready tasks operands) = tasks_waits tasks
activity_waits (Waiting place entries tasks) = entry_objects entries ++ tasks_waits tasks
activity_waits (Asleep time tasks) = tasks_waits tasks
activity_waits (Postponed tasks) = tasks_waits tasks
activity_waits Done = []

-- each process waits, and may wait yet, on objects of its body alone
abbrev pub WaitsAreOfBodies : Machine → State → Type 0
WaitsAreOfBodies machine state =
    (number : ℕ) → AllHold (λ object. IsTrue (has (waited_objects (source_at machine number).body) object)) (activity_waits (process_at state number).activity)

-- it holds at the start, each event and each turn keeps it, and where it holds, a process that isn't among those that may wait on an object stays as it is at a change of the object
pub record WaitsStay : Type 0 where
  pub starts : (machine : Machine) → WaitsAreOfBodies machine (start machine)
  pub events : (machine : Machine) (state : State) (event : Event) → WaitsAreOfBodies machine state → WaitsAreOfBodies machine (after machine state event)
  pub turns : (machine : Machine) (turn : TurnKind) (state : State) → WaitsAreOfBodies machine state → WaitsAreOfBodies machine (turned turn state)
  pub others : (machine : Machine) (state : State) (number object : ℕ) (old new : LogicValue) → WaitsAreOfBodies machine state → has (waiters_of machine.design object) number ≡ false →
      woken object old new (process_at state number).activity ≡ (process_at state number).activity
