-- How many runs of each process ended in a phase of both machines.
use Rattle.std.proofs.Common.{◌≡◌, ℕ, ◌+◌, List, length, refl, ap, ◌∙◌, arith}
use Rattle.std.proofs.lemmas.List.{length-append}
use Rattle.v_design.specs.Designs.{Machine}
use Rattle.v_design.specs.Grades.{Phase}
use Rattle.v_design.specs.OwnSteps.{StepSeen, process_runs, runs_of, steps_in}
use Rattle.v_design.specs.Processes.{Activity}
use Rattle.v_design.specs.Runs.{happened}
use Rattle.v_design.specs.States.{Event}
use Rattle.phase_blocks.specs.Blocks.{IsBetweenRuns, RunsOfBlocks}
use Rattle.own_counts.specs.Slots.{NumbersAre, NumbersGoOn, behind_events}

-- how many runs there are behind events that begin between runs
count-behind : RunsOfBlocks → (machine : Machine) (process : ℕ) (phase : Phase) (events : List Event) → IsBetweenRuns machine phase.begins phase.events →
    length (process_runs machine process (behind_events phase events))
    ≡ length (process_runs machine process phase) + length (runs_of (steps_in machine process (happened machine phase.begins phase.events) events))
count-behind runs machine process phase events between =
    ap length (runs machine process phase.begins phase.events events between)
    ∙ length-append (process_runs machine process phase) (runs_of (steps_in machine process (happened machine phase.begins phase.events) events))

passes : RunsOfBlocks → (good faulty : Machine) (other phase : Phase) (events : List Event) (own_more good_more : ℕ → ℕ) → IsBetweenRuns good other.begins other.events →
    IsBetweenRuns faulty phase.begins phase.events →
    ((process : ℕ) → steps_in good process (happened good other.begins other.events) events ≡ steps_in faulty process (happened faulty phase.begins phase.events) events) →
    NumbersAre good faulty other phase own_more good_more → NumbersAre good faulty (behind_events other events) (behind_events phase events) own_more good_more
passes runs good faulty other phase events own_more good_more good_between between alike are process =
    let one = count-behind runs good process other events good_between in
    let two = count-behind runs faulty process phase events between in
    let same = ap (λ (l : List (Activity × StepSeen)). length (runs_of l)) (alike process) in
    let old = are process in
    omega (arith, one, two, same, old)

blocks : (good faulty : Machine) (other phase other_new phase_new : Phase) (own_more good_more own_ended good_ended : ℕ → ℕ) →
    ((process : ℕ) → length (process_runs faulty process phase_new) ≡ length (process_runs faulty process phase) + own_ended process) →
    ((process : ℕ) → length (process_runs good process other_new) ≡ length (process_runs good process other) + good_ended process) →
    NumbersAre good faulty other phase own_more good_more →
    NumbersAre good faulty other_new phase_new (λ process. own_more process + own_ended process) (λ process. good_more process + good_ended process)
blocks good faulty other phase other_new phase_new own_more good_more own_ended good_ended own_is good_is are process =
    let one = own_is process in
    let two = good_is process in
    let old = are process in
    omega (arith, one, two, old)

same : (good faulty : Machine) (other phase : Phase) (own_more good_more own_less good_less : ℕ → ℕ) →
    ((process : ℕ) → own_more process + good_less process ≡ own_less process + good_more process) → NumbersAre good faulty other phase own_more good_more →
    NumbersAre good faulty other phase own_less good_less
same good faulty other phase own_more good_more own_less good_less alike are process =
    let one = alike process in
    let old = are process in
    omega (arith, one, old)

pub numbers_go_on : RunsOfBlocks → NumbersGoOn
numbers_go_on runs = record {
  begins = λ good faulty other_turn turn other_begins begins process. refl;
  passes = passes runs;
  blocks = blocks;
  same = same;
}
