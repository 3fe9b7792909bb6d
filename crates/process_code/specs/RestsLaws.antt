-- The tasks of an opened statement (nothing of the language).
use Rattle.std.proofs.Common.{◌≡◌, ◌≢◌, ◌≤◌, ◌<◌, ℕ, ◌+◌, List, [], ◌∷◌, refl, ap, ◌∙◌, arith, get_or, set, get_or-set_other}
use Rattle.v_design.specs.Trees.{Statement, Null, Block, If, Case, For, While, Repeat, Forever, Delay, EventControl, Wait, Blocking, Nonblocking, Finish, Statements, no_statements, more_statements}
use Rattle.v_design.specs.Processes.{Run, Turns, opened, opened_all}
use Rattle.process_code.specs.Rests.{Part, Runs, TurnsLeft, opened_parts, opened_all_parts, tasks_of, NumbersFall}

mutual
  -- the tasks of an opened statement are the opened statement before the tasks
  pub tasks_of-opened : (counts : List ℕ) (s : Statement) (rest : List Part) → tasks_of counts (opened_parts s rest) ≡ opened s (tasks_of counts rest)
  tasks_of-opened counts Null rest = refl
  tasks_of-opened counts (Block statements) rest = tasks_of-opened_all counts statements rest
  tasks_of-opened counts (If place condition first second) rest = refl
  tasks_of-opened counts (Case place kind value items default) rest = refl
  tasks_of-opened counts (For place first_targets first condition next_targets next body) rest = refl
  tasks_of-opened counts (While place condition body) rest = refl
  tasks_of-opened counts (Repeat place count body) rest = refl
  tasks_of-opened counts (Forever place body) rest = refl
  tasks_of-opened counts (Delay place delay body) rest = refl
  tasks_of-opened counts (EventControl place entries body) rest = refl
  tasks_of-opened counts (Wait place condition body) rest = refl
  tasks_of-opened counts (Blocking place targets delay value) rest = refl
  tasks_of-opened counts (Nonblocking place targets delay value) rest = refl
  tasks_of-opened counts (Finish place) rest = refl

  tasks_of-opened_all : (counts : List ℕ) (ss : Statements) (rest : List Part) → tasks_of counts (opened_all_parts ss rest) ≡ opened_all ss (tasks_of counts rest)
  tasks_of-opened_all counts no_statements rest = refl
  tasks_of-opened_all counts (more_statements first others) rest =
      tasks_of-opened counts first (opened_all_parts others rest) ∙ ap (opened first) (tasks_of-opened_all counts others rest)

mutual
  -- an opened statement has no repeat whose turns have begun
  pub numbers_fall-opened : (bound : ℕ) (s : Statement) (rest : List Part) → NumbersFall bound rest → NumbersFall bound (opened_parts s rest)
  numbers_fall-opened bound Null rest h = h
  numbers_fall-opened bound (If place condition first second) rest h = h
  numbers_fall-opened bound (Case place kind value items default) rest h = h
  numbers_fall-opened bound (For place first_targets first condition next_targets next body) rest h = h
  numbers_fall-opened bound (While place condition body) rest h = h
  numbers_fall-opened bound (Repeat place count body) rest h = h
  numbers_fall-opened bound (Forever place body) rest h = h
  numbers_fall-opened bound (Delay place delay body) rest h = h
  numbers_fall-opened bound (EventControl place entries body) rest h = h
  numbers_fall-opened bound (Wait place condition body) rest h = h
  numbers_fall-opened bound (Blocking place targets delay value) rest h = h
  numbers_fall-opened bound (Nonblocking place targets delay value) rest h = h
  numbers_fall-opened bound (Finish place) rest h = h
  numbers_fall-opened bound (Block statements) rest h = numbers_fall-opened_all bound statements rest h

  numbers_fall-opened_all : (bound : ℕ) (ss : Statements) (rest : List Part) → NumbersFall bound rest → NumbersFall bound (opened_all_parts ss rest)
  numbers_fall-opened_all bound no_statements rest h = h
  numbers_fall-opened_all bound (more_statements first others) rest h =
      numbers_fall-opened bound first (opened_all_parts others rest) (numbers_fall-opened_all bound others rest h)

-- a greater bound serves too
pub numbers_fall-more : (low high : ℕ) (rest : List Part) → low ≤ high → NumbersFall low rest → NumbersFall high rest
numbers_fall-more low high [] le h = tt
numbers_fall-more low high (Runs statement ∷ rest) le h = numbers_fall-more low high rest le h
numbers_fall-more low high (TurnsLeft number place body ∷ rest) le h = (omega (arith, h.0, le), h.1)

-- the count of a repeat that isn't in the rest can change
pub tasks_of-set : (counts : List ℕ) (number count : ℕ) (rest : List Part) → NumbersFall number rest → tasks_of (set counts number count) rest ≡ tasks_of counts rest
tasks_of-set counts number count [] h = refl
tasks_of-set counts number count (Runs statement ∷ rest) h = ap (λ tasks. Run statement ∷ tasks) (tasks_of-set counts number count rest h)
tasks_of-set counts number count (TurnsLeft other place body ∷ rest) h =
    let ne : other ≢ number = omega (arith, h.0) in
    let same : get_or (set counts number count) other 0 ≡ get_or counts other 0 = rw get_or-set_other refl in
    ap (λ n. Turns place n body ∷ tasks_of (set counts number count) rest) same
    ∙ ap (λ tasks. Turns place (get_or counts other 0) body ∷ tasks) (tasks_of-set counts number count rest (numbers_fall-more other number rest (omega (arith, h.0)) h.1))
