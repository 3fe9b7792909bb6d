-- Changes of the values of objects, and what they do to processes that wait (IEEE 1364-2001, clause 9.7).
use Rattle.std.specs.Prelude.{ℕ, Bool, true, false, ◌||◌, List, [], ◌∷◌}
use Rattle.vf_base.specs.Base.{object_number}
use Rattle.four_value.specs.Values.{LogicValue, same_value}
use Rattle.v_design.specs.Trees.{Entry}
use Rattle.v_design.specs.Assignments.{value_at}
use Rattle.v_design.specs.Processes.{Activity, Ready, Waiting, Asleep, Postponed, Done}
use Rattle.v_design.specs.States.{ProcessState, entry_matches, some_entry, ready_if}
use Rattle.v_design.specs.Accesses.{ObjectAccess, waiting_entries, waiting_line, ended_of}
use Rattle.value_change.specs.declared.change.Change.{Change}

-- the value of an object before and after
pub record ObjectChange : Type 0 where
  pub object : ℕ
  pub old : LogicValue
  pub new : LogicValue

-- a change as the code tells it
abbrev pub change_seen : Change → ObjectChange
change_seen c = record { object = object_number c.object; old = c.old; new = c.new }

-- whether an entry of a wait matches one of some changes
abbrev pub matches_one : List ObjectChange → Entry → Bool
matches_one [] entry = false
matches_one (change ∷ changes) entry = entry_matches change.object change.old change.new entry || matches_one changes entry

-- a process that waits is made ready where one of its entries passes a test
abbrev pub ready_by : (Entry → Bool) → Activity → Activity
ready_by test (Ready tasks operands) = Ready tasks operands
ready_by test (Waiting place entries tasks) = ready_if (some_entry test entries) (Waiting place entries tasks) tasks
ready_by test (Asleep time tasks) = Asleep time tasks
ready_by test (Postponed tasks) = Postponed tasks
ready_by test Done = Done

-- some changes make a process ready that waits on an entry which matches one of them
abbrev pub woken_by : List ObjectChange → ProcessState → ProcessState
woken_by changes process = record process { activity = ready_by (matches_one changes) process.activity }

-- the accesses of a process's wait that some changes end: one for each entry but the first that matches one of them
abbrev pub ended_by_changes : List ObjectChange → ℕ → ProcessState → List ObjectAccess
ended_by_changes changes process state =
    ended_of (some_entry (matches_one changes) (waiting_entries state.activity)) (matches_one changes) process (waiting_line state.activity)
    (waiting_entries state.activity)

-- the change of an object between two lists of all values, before the changes of others, where the two don't have one value
abbrev pub changed_before : ℕ → LogicValue → LogicValue → List ObjectChange → List ObjectChange
changed_before object old new changes = elim (same_value old new) [ true ↦ changes | false ↦ record { object = object; old = old; new = new } ∷ changes ]

-- of some objects the changes of those whose values differ between two lists of all values, in order
abbrev pub changes_between : List LogicValue → List LogicValue → List ℕ → List ObjectChange
changes_between old new [] = []
changes_between old new (object ∷ objects) = changed_before object (value_at old object) (value_at new object) (changes_between old new objects)
