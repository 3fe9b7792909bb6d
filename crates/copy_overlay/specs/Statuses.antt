-- How a run of the faulty machine goes beside the good machine's run of its number (runs by IEEE 1364-2001, clause 9).
use Rattle.std.specs.Prelude.{◌≡◌, ℕ, List, ◌++◌, length, Option}
use Rattle.v_design.specs.OwnSteps.{StepSeen, ProcessRun, CountsOwn}

-- a run as far as it went is the beginning of the good machine's run, of which so many steps were taken
pub record IsFollowing (good run : ProcessRun) (count : ℕ) : Type 0 where
  pub begins : good.begins ≡ run.begins
  pub later : List StepSeen
  pub steps : good.steps ≡ run.steps ++ later
  pub count_is : length run.steps ≡ count

-- a run that goes on by some steps
abbrev pub gone_on : ProcessRun → List StepSeen → ProcessRun
gone_on run more = record { begins = run.begins; steps = run.steps ++ more }

-- however a run goes on, all its steps count as own
abbrev pub AllCount : Option ProcessRun → ProcessRun → Type 0
AllCount good run = (more : List StepSeen) (own : ℕ) → CountsOwn (good, gone_on run more) own → own ≡ length (run.steps ++ more)
