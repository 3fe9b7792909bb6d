-- Numbers of the runs of each process that ended in a phase of a faulty machine, told by the good machine's (process runs by IEEE 1364-2001, clause 9).
use Rattle.std.specs.Prelude.{◌≡◌, ℕ, ◌+◌, ◌<◌, ◌^◌, Bool, not, ◌&&◌, List, length, get_or, nat_eq, count_by}
use Rattle.vf_base.specs.Base.{process_number}
use Rattle.run_numbers.specs.declared.numbers.RunApart.{RunApart}
use Rattle.run_numbers.specs.declared.numbers.RunNumbers.{RunNumbers}

-- whether a run that is listed is one of a process, which ended in the faulty machine alone
abbrev pub is_own : ℕ → RunApart → Bool
is_own process run = run.own && nat_eq (process_number run.process) process

-- or in the good machine alone
abbrev pub is_good : ℕ → RunApart → Bool
is_good process run = not run.own && nat_eq (process_number run.process) process

-- how many runs of a process the one machine has more, and the other one
abbrev pub own_more : List RunApart → ℕ → ℕ
own_more apart process = count_by (is_own process) apart

abbrev pub good_more : List RunApart → ℕ → ℕ
good_more apart process = count_by (is_good process) apart

-- how often a process stands among some
abbrev pub times_of : ℕ → List ℕ → ℕ
times_of process others = count_by (λ (other : ℕ). nat_eq other process) others

-- of each process two lists tell the same
abbrev pub SameApart : List RunApart → List RunApart → Type 0
SameApart one other = (process : ℕ) → own_more one process + good_more other process ≡ own_more other process + good_more one process

-- the faulty machine's numbers: of each process as many as the good machine's, with the runs that are listed
pub record AreNumbers (numbers : ℕ → ℕ) (kept : RunNumbers) : Type 0 where
  pub each : (process : ℕ) → process < length kept.ran.now →
      numbers process + good_more kept.apart.now process ≡ get_or kept.ran.now process 0 + own_more kept.apart.now process
  pub few : (process : ℕ) → process < length kept.ran.now → numbers process < 2 ^ 32

-- there is a number of a process
pub record HasNumber (process : ℕ) (kept : RunNumbers) : Type 0 where
  pub numbers : ℕ → ℕ
  pub are : AreNumbers numbers kept
  pub there : process < length kept.ran.now

-- at a place a run of the same process is listed that ended in the other machine alone
pub record IsOppositeAt (apart : List RunApart) (run : RunApart) (place : ℕ) : Type 0 where
  pub there : place < length apart
  pub process_is : (get_or apart place run).process ≡ run.process
  pub other : (get_or apart place run).own ≡ not run.own
