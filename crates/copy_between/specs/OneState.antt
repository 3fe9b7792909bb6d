-- Differences beside a good state tell one state (nothing of the language).
use Rattle.std.proofs.Common.{◌≡◌, ℕ, ◌<◌, [], length, ap, sym, ◌∙◌, arith}
use Rattle.std.specs.Prelude.{get_or}
use Rattle.std.proofs.lemmas.List.{ext_get_or}
use Rattle.std.proofs.lemmas.Option.{slice_get-get_or}
use Rattle.v_design.specs.States.{State, process_at, found_or, idle_process}
use Rattle.copy_laws.specs.Differences.{Differences, StandsFor}
use Rattle.copy_laws.specs.Rest.{SameLanes}

pub at-process : (state : State) (process : ℕ) → process < length state.processes → process_at state process ≡ get_or state.processes process idle_process
at-process state process within = ap (found_or idle_process) (slice_get-get_or state.processes process idle_process within)

-- all values are the same
pub one-values : (d : Differences) (good one other : State) → StandsFor d good one → StandsFor d good other → one.values ≡ other.values
one-values d good one other first second =
    ext_get_or [] one.values other.values (first.value_count ∙ sym second.value_count) (λ object within. first.values object ∙ sym (second.values object))

-- each process does the same, and has the same updates pending
pub one-activity : (d : Differences) (good one other : State) → StandsFor d good one → StandsFor d good other → (process : ℕ) →
    (process_at one process).activity ≡ (process_at other process).activity
one-activity d good one other first second process = first.activities process ∙ sym (second.activities process)

pub one-later : (d : Differences) (good one other : State) → StandsFor d good one → StandsFor d good other → (process : ℕ) →
    (process_at one process).later ≡ (process_at other process).later
one-later d good one other first second process = first.updates process ∙ sym (second.updates process)

-- so states of one time whose lanes are the good one's are one state
pub one-processes : (d : Differences) (good one other : State) → StandsFor d good one → StandsFor d good other → SameLanes good one → SameLanes good other →
    one.processes ≡ other.processes
one-processes d good one other first second lanes also =
    let count : length one.processes ≡ length other.processes = first.process_count ∙ sym second.process_count in
    ext_get_or idle_process one.processes other.processes count
    (λ process within.
    sym (at-process one process (omega arith))
    ∙ (λ i. record {
      activity = one-activity d good one other first second process i;
      later = one-later d good one other first second process i;
      lane = (lanes process ∙ sym (also process)) i;
    })
    ∙ at-process other process (omega arith))

pub one-state : (d : Differences) (good one other : State) → StandsFor d good one → StandsFor d good other → SameLanes good one → SameLanes good other → one.time ≡ other.time →
    one ≡ other
one-state d good one other first second lanes also time =
    λ i. record {
      time = time i;
      values = one-values d good one other first second i;
      nodes = (first.nodes ∙ sym second.nodes) i;
      processes = one-processes d good one other first second lanes also i;
    }

-- The laws

-- two states of one time, whose lanes are the good one's, for which one copy stands beside the good state are one state
abbrev pub DifferencesTellOneState : Type 0
DifferencesTellOneState =
    (d : Differences) (good one other : State) → StandsFor d good one → StandsFor d good other → SameLanes good one → SameLanes good other → one.time ≡ other.time → one ≡ other

-- and whatever their times and lanes are, their values, what their processes do and what updates these have pending are the same
abbrev pub DifferencesTellAll : Type 0
DifferencesTellAll =
    (d : Differences) (good one other : State) → StandsFor d good one → StandsFor d good other →
    (one.values ≡ other.values) × (one.nodes ≡ other.nodes)
    × ((process : ℕ) → ((process_at one process).activity ≡ (process_at other process).activity) × ((process_at one process).later ≡ (process_at other process).later))

pub tell-all : DifferencesTellAll
tell-all d good one other first second = (
  one-values d good one other first second,
  first.nodes ∙ sym second.nodes,
  λ process. (one-activity d good one other first second process, one-later d good one other first second process),
)
