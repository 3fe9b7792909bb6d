-- The objects that a process in some state is still to write, as far as its tasks and updates say (IEEE 1364-2001, clause 9.2).
use Rattle.std.specs.Prelude.{◌≡◌, ℕ, false, List, [], ◌∷◌, ◌++◌, Option, Some, None, IsTrue}
use Rattle.vf_base.specs.Lists.{has}
use Rattle.v_design.specs.Assignments.{ValueUpdate}
use Rattle.v_design.specs.Designs.{FlatDesign}
use Rattle.v_design.specs.Paths.{net_pieces}
use Rattle.v_design.specs.Processes.{Task, Run, Turns, Writes, Appends, Activity, Ready, Waiting, Asleep, Postponed, Done}
use Rattle.v_design.specs.States.{State, ProcessState, LaterUpdate, process_at}
use Rattle.v_design.specs.Reads.{written_objects}

-- the objects of the updates of a task; one whose index selects nothing has none
abbrev pub updates_objects : List (Option ValueUpdate) → List ℕ
updates_objects [] = []
updates_objects (None ∷ updates) = updates_objects updates
updates_objects (Some update ∷ updates) = update.object ∷ updates_objects updates

-- what a task writes
abbrev pub task_objects : Task → List ℕ
task_objects (Run statement) = written_objects statement
task_objects (Turns place count body) = written_objects body
task_objects (Writes place updates) = updates_objects updates
task_objects (Appends place delay updates) = updates_objects updates

-- what some tasks write
abbrev pub tasks_objects : List Task → List ℕ
tasks_objects [] = []
tasks_objects (task ∷ tasks) = task_objects task ++ tasks_objects tasks

-- what is left to write of what a process does
abbrev pub activity_objects : Activity → List ℕ
activity_objects (Ready tasks operands) = tasks_objects tasks
activity_objects (Waiting place entries tasks) = tasks_objects tasks
activity_objects (Asleep time tasks) = tasks_objects tasks
activity_objects (Postponed tasks) = tasks_objects tasks
activity_objects Done = []

-- the objects of nonblocking updates
abbrev pub later_objects : List LaterUpdate → List ℕ
later_objects [] = []
later_objects (later ∷ rest) = later.update.object ∷ later_objects rest

-- the objects of activated updates
abbrev pub lane_objects : List ValueUpdate → List ℕ
lane_objects [] = []
lane_objects (update ∷ rest) = update.object ∷ lane_objects rest

-- all that a process is still to write
abbrev pub process_objects : ProcessState → List ℕ
process_objects process = activity_objects process.activity ++ (later_objects process.later ++ lane_objects process.lane)

-- no process is to write a net piece
abbrev pub WriteVariables : FlatDesign → State → Type 0
WriteVariables design state = (number object : ℕ) → IsTrue (has (process_objects (process_at state number)) object) → has (net_pieces design) object ≡ false
