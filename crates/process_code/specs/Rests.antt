-- What is left of a process, but for the counts of its repeats (IEEE 1364-2001, clause 9).
use Rattle.std.specs.Prelude.{ℕ, suc, zero, ◌+◌, ◌<◌, List, [], ◌∷◌, get_or}
use Rattle.vf_base.specs.Base.{SourcePlace}
use Rattle.v_design.specs.Trees.{Statement, Null, Block, If, Case, For, While, Repeat, Forever, Delay, EventControl, Wait, Blocking, Nonblocking, Finish, Statements, no_statements, more_statements}
use Rattle.v_design.specs.Trees.{CaseItems, no_items, more_items}
use Rattle.v_design.specs.Processes.{Task, Run, Turns}

-- a part of the rest: a statement that is to be run, or the turns that are left of a repeat with a number
pub data Part : Type 0 where
  Runs : (statement : Statement) → Part
  TurnsLeft : (number : ℕ) (place : SourcePlace) (body : Statement) → Part

abbrev mutual
  -- the parts that a statement stands for, before others: blocks and null statements take no step
  pub opened_parts : Statement → List Part → List Part
  opened_parts Null rest = rest
  opened_parts (Block statements) rest = opened_all_parts statements rest
  opened_parts (If place condition first second) rest = Runs (If place condition first second) ∷ rest
  opened_parts (Case place kind value items default) rest = Runs (Case place kind value items default) ∷ rest
  opened_parts (For place first_targets first condition next_targets next body) rest = Runs (For place first_targets first condition next_targets next body) ∷ rest
  opened_parts (While place condition body) rest = Runs (While place condition body) ∷ rest
  opened_parts (Repeat place count body) rest = Runs (Repeat place count body) ∷ rest
  opened_parts (Forever place body) rest = Runs (Forever place body) ∷ rest
  opened_parts (Delay place delay body) rest = Runs (Delay place delay body) ∷ rest
  opened_parts (EventControl place entries body) rest = Runs (EventControl place entries body) ∷ rest
  opened_parts (Wait place condition body) rest = Runs (Wait place condition body) ∷ rest
  opened_parts (Blocking place targets delay value) rest = Runs (Blocking place targets delay value) ∷ rest
  opened_parts (Nonblocking place targets delay value) rest = Runs (Nonblocking place targets delay value) ∷ rest
  opened_parts (Finish place) rest = Runs (Finish place) ∷ rest

  -- the parts that several statements stand for, in order
  pub opened_all_parts : Statements → List Part → List Part
  opened_all_parts no_statements rest = rest
  opened_all_parts (more_statements first others) rest = opened_parts first (opened_all_parts others rest)

-- the tasks of some parts, with the turns that are left of each repeat
abbrev pub tasks_of : List ℕ → List Part → List Task
tasks_of counts [] = []
tasks_of counts (Runs statement ∷ rest) = Run statement ∷ tasks_of counts rest
tasks_of counts (TurnsLeft number place body ∷ rest) = Turns place (get_or counts number 0) body ∷ tasks_of counts rest

-- the repeats of the rest have numbers that fall, from below a bound on
abbrev pub NumbersFall : ℕ → List Part → Type 0
NumbersFall bound [] = Unit {0}
NumbersFall bound (Runs statement ∷ rest) = NumbersFall bound rest
NumbersFall bound (TurnsLeft number place body ∷ rest) = (number < bound) × NumbersFall number rest
