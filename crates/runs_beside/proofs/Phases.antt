-- The runs of a phase behind an event.
use Rattle.std.proofs.Common.{◌≡◌, ℕ, Bool, false, List, [], ◌++◌, refl, ap, ◌∙◌}
use Rattle.std.proofs.lemmas.Bool.{eq-eqb}
use Rattle.std.proofs.lemmas.List.{append-nil}
use Rattle.v_design.specs.Designs.{Machine}
use Rattle.v_design.specs.Grades.{Phase}
use Rattle.v_design.specs.OwnSteps.{StepSeen, process_runs, runs_of, seen_if, seen_step, steps_in}
use Rattle.v_design.specs.PhaseLogs.{is_step_of}
use Rattle.v_design.specs.Processes.{Activity}
use Rattle.v_design.specs.Runs.{happened}
use Rattle.v_design.specs.States.{Event, Step, process_at}
use Rattle.copy_laws.specs.OwnRuns.{RunsGrow, StepsGrow, grow}
use Rattle.own_counts.specs.Counts.{behind_event}

module _ (steps_grow : StepsGrow) (runs_grow : RunsGrow) where
  -- an event that is no step of a process leaves its runs
  pub runs-same : (machine : Machine) (process : ℕ) (phase : Phase) (event : Event) → is_step_of process event ≡ false →
      process_runs machine process (behind_event phase event) ≡ process_runs machine process phase
  runs-same machine process phase event other =
      let state = happened machine phase.begins phase.events in
      ap runs_of
      (steps_grow machine process phase.begins phase.events event
      ∙ ap (λ (b : Bool). steps_in machine process phase.begins phase.events ++ seen_if b ((process_at state process).activity, seen_step machine state process) []) other
      ∙ append-nil (steps_in machine process phase.begins phase.events))

  -- the next step of a process in a phase
  abbrev pub step_more : Machine → ℕ → Phase → Activity × StepSeen
  step_more machine process phase = ((process_at (happened machine phase.begins phase.events) process).activity, seen_step machine (happened machine phase.begins phase.events) process)

  pub runs-grow : (machine : Machine) (process : ℕ) (phase : Phase) →
      process_runs machine process (behind_event phase (Step process)) ≡ grow (process_runs machine process phase) (step_more machine process phase)
  runs-grow machine process phase =
      let step = step_more machine process phase in
      ap runs_of
      (steps_grow machine process phase.begins phase.events (Step process)
      ∙ ap (λ (b : Bool). steps_in machine process phase.begins phase.events ++ seen_if b step []) (eq-eqb process process refl))
      ∙ runs_grow (steps_in machine process phase.begins phase.events) step
