-- The entries for which a process may wait, as far as its text names them (IEEE 1364-2001, clause 9.7).
use Rattle.std.specs.Prelude.{◌≡◌, ℕ, ◌<◌, true, false, List, [], ◌∷◌, ◌++◌, map, length, slice_get}
use Rattle.four_value.specs.Values.{IsWidth}
use Rattle.four_value.specs.declared.logic.Edge.TheVariants.{Any}
use Rattle.vf_base.specs.Lists.{has, AllHold}
use Rattle.v_design.specs.Trees.{Piece, Entry, Statement, Null, Block, If, Case, For, While, Repeat, Forever, Delay, EventControl, Wait, Blocking, Nonblocking, Finish, Statements, no_statements}
use Rattle.v_design.specs.Trees.{more_statements, CaseItems, no_items, more_items}
use Rattle.v_design.specs.Designs.{FlatDesign}
use Rattle.v_design.specs.Processes.{Task, Run, Turns, Writes, Appends, Activity, Ready, Waiting, Asleep, Postponed, Done}
use Rattle.v_design.specs.States.{found_or}
use Rattle.v_design.specs.Reads.{named_in}
use Rattle.wait_index.specs.Waits.{waited_objects}

-- any change of a piece
abbrev pub any_change : Piece → Entry
any_change piece = record { object = piece.object; low = 0; width = piece.width; edge = Any }

-- any change of some pieces
abbrev pub piece_entries : List Piece → List Entry
piece_entries pieces = map any_change pieces

abbrev mutual
  -- the entries for which a statement may wait: those of its event controls, and any change of what the condition of a wait names
  pub waited_entries : Statement → List Entry
  waited_entries Null = []
  waited_entries (Block statements) = all_entries statements
  waited_entries (If place condition first second) = waited_entries first ++ waited_entries second
  waited_entries (Case place kind value items default) = items_entries items ++ waited_entries default
  waited_entries (For place first_targets first condition next_targets next body) = waited_entries body
  waited_entries (While place condition body) = waited_entries body
  waited_entries (Repeat place count body) = waited_entries body
  waited_entries (Forever place body) = waited_entries body
  waited_entries (Delay place delay body) = waited_entries body
  waited_entries (EventControl place entries body) = entries ++ waited_entries body
  waited_entries (Wait place condition body) = piece_entries (named_in condition) ++ waited_entries body
  waited_entries (Blocking place targets delay value) = []
  waited_entries (Nonblocking place targets delay value) = []
  waited_entries (Finish place) = []

  -- the entries for which several statements may wait
  pub all_entries : Statements → List Entry
  all_entries no_statements = []
  all_entries (more_statements first rest) = waited_entries first ++ all_entries rest

  -- the entries for which the items of a case may wait
  pub items_entries : CaseItems → List Entry
  items_entries no_items = []
  items_entries (more_items labels statement rest) = waited_entries statement ++ items_entries rest

-- What is left to be waited for

-- the entries for which a task may wait
abbrev pub task_entries : Task → List Entry
task_entries (Run statement) = waited_entries statement
task_entries (Turns place count body) = waited_entries body
task_entries (Writes place updates) = []
task_entries (Appends place delay updates) = []

-- the entries for which some tasks may wait
abbrev pub tasks_entries : List Task → List Entry
tasks_entries [] = []
tasks_entries (task ∷ tasks) = task_entries task ++ tasks_entries tasks

-- the entries for which a process waits, or may wait yet
abbrev pub activity_entries : Activity → List Entry
activity_entries (Ready tasks operands) = tasks_entries tasks
activity_entries (Waiting place entries tasks) = entries ++ tasks_entries tasks
activity_entries (Asleep time tasks) = tasks_entries tasks
activity_entries (Postponed tasks) = tasks_entries tasks
activity_entries Done = []

-- an entry for which a process of a design may wait: its object is one of the design on which the body may wait, and it looks at some bits
pub record IsWaitable (design : FlatDesign) (body : Statement) (entry : Entry) : Type 0 where
  pub waited : has (waited_objects body) entry.object ≡ true
  pub there : entry.object < length design.objects
  pub width : IsWidth entry.width

-- the body of the process with a number
abbrev pub body_of : FlatDesign → ℕ → Statement
body_of design number = (found_or (record { always = false; body = Null; place = record { line = 0; column = 0 } }) (slice_get design.processes number)).body

-- each process waits, and may wait yet, for entries of its body alone
abbrev pub WaitsAreWaitable : FlatDesign → List Activity → Type 0
WaitsAreWaitable design activities = (number : ℕ) → AllHold (IsWaitable design (body_of design number)) (activity_entries (found_or Done (slice_get activities number)))
