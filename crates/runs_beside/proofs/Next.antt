-- The run that a process's next step belongs to, and the good machine's run of its number.
use Rattle.std.proofs.Common.{◌≡◌, ℕ, ◌+◌, ◌<◌, Bool, true, false, List, [], ◌∷◌, ◌++◌, length, refl, sym, ap, subst, ◌∙◌}
use Rattle.std.specs.Prelude.{Option, Some, None, slice_get}
use Rattle.std.specs.Option.{option_map}
use Rattle.std.proofs.lemmas.Option.{same_Some}
use Rattle.vf_base.specs.Lists.{AllHold}
use Rattle.v_design.specs.Designs.{FlatDesign, Machine, good_machine}
use Rattle.v_design.specs.Grades.{Phase}
use Rattle.v_design.specs.OwnSteps.{ProcessRun, StepSeen, good_runs, process_runs, runs_if, same_turn}
use Rattle.v_design.specs.Runs.{happened}
use Rattle.v_design.specs.States.{State, TurnKind, Step, process_at, source_at}
use Rattle.process_code.specs.RunEnds.{RunTold, StandsIn, told_by}
use Rattle.process_code.specs.declared.code.Code.{Code}
use Rattle.process_code.specs.declared.state.RunEnd.{RunEnd}
use Rattle.run_ends.specs.RunEnds.{IsCodeAt, told_of}
use Rattle.copy_laws.specs.OwnRuns.{RunsGrow, StepsGrow, grow, is_going, last_goes_on}
use Rattle.copy_laws.specs.SharedRuns.{IsRunFrom, PhaseRunsAreRuns}
use Rattle.copy_overlay.specs.Statuses.{AllCount}
use Rattle.present_runs.specs.PresentRuns.{PresentRunsLead}
use Rattle.machine_laws.specs.SlotLoop.{Moment, ComesTo, present_phase}
use Rattle.own_counts.specs.Counts.{OwnLast, behind_event}
use Rattle.window_runs.specs.OfPhase.{TellsGoodRun}
use Rattle.window_runs.specs.OfSlot.{TellsSlot, run_in}
use Rattle.known_steps.specs.Beside.{IsInRun, TellsRunHere, run_behind}
use Rattle.runs_beside.specs.Runs.{runs_in}
use Rattle.runs_beside.proofs.Grown.{grow-new, grow-on}
use Rattle.runs_beside.proofs.Kept.{holds-at}
use Rattle.runs_beside.proofs.Phases.{runs-grow, step_more}

-- The run

-- a run that begins with the next step
abbrev pub new_run : State → ℕ → ProcessRun
new_run state process = record { begins = (process_at state process).activity; steps = [] }

module _ (steps_grow : StepsGrow) (runs_grow : RunsGrow) (machine : Machine) (at : Moment) (comes : ComesTo machine at) (process : ℕ) where
  pub behind-new : last_goes_on (process_runs machine process (present_phase at)) ≡ false →
      process_runs machine process (behind_event (present_phase at) (Step process))
      ≡ process_runs machine process (present_phase at) ++ run_behind machine at.state process (new_run at.state process) ∷ []
  behind-new rests =
      subst (λ (s : State). process_runs machine process (behind_event (present_phase at) (Step process)) ≡
      process_runs machine process (present_phase at) ++ run_behind machine s process (new_run s process) ∷ []) (sym comes.happened_so_far)
      (runs-grow steps_grow runs_grow machine process (present_phase at)
      ∙ grow-new (process_runs machine process (present_phase at)) (step_more steps_grow runs_grow machine process (present_phase at)) rests)

  pub behind-on : (before : List ProcessRun) (run : ProcessRun) → process_runs machine process (present_phase at) ≡ before ++ run ∷ [] → is_going run.steps ≡ true →
      process_runs machine process (behind_event (present_phase at) (Step process)) ≡ before ++ run_behind machine at.state process run ∷ []
  behind-on before run are going =
      subst (λ (s : State). process_runs machine process (behind_event (present_phase at) (Step process)) ≡ before ++ run_behind machine s process run ∷ []) (sym comes.happened_so_far)
      (runs-grow steps_grow runs_grow machine process (present_phase at)
      ∙ ap (λ (l : List ProcessRun). grow l (step_more steps_grow runs_grow machine process (present_phase at))) are
      ∙ grow-on before run (step_more steps_grow runs_grow machine process (present_phase at)) going)

-- a run that goes on leads to what its process does
pub in-run-on : PresentRunsLead → (machine : Machine) (at : Moment) → ComesTo machine at → (process : ℕ) (before : List ProcessRun) (run : ProcessRun) →
    process_runs machine process (present_phase at) ≡ before ++ run ∷ [] → is_going run.steps ≡ true → IsInRun machine at.state process run
in-run-on leads machine at comes process before run are going =
    subst (λ (s : State). IsInRun machine s process run) (sym comes.happened_so_far) (leads machine process at.phase_begins at.events before run are going)

-- The good machine's run

run-is : (good : Machine) (other : Option Phase) (process number : ℕ) → run_in good other process number ≡ slice_get (runs_in good other process) number
run-is good None process number = refl
run-is good (Some phase) process number = refl

-- where none is found there is none
none-told : (code : Code) (time : ℕ) (run : Option ProcessRun) → option_map (told_by code) None ≡ option_map (told_of time) run → run ≡ None
none-told code time None is = refl
none-told code time (Some run) is = absurd (let no : None ≡ Some (told_of time run) = is in cc)

pub none-here : (design : FlatDesign) (time process number : ℕ) (good : Machine) (other : Option Phase) (code : Code) → IsCodeAt design process code →
    TellsGoodRun design time process (run_in good other process number) None → slice_get (runs_in good other process) number ≡ None
none-here design time process number good other code is tells =
    sym (run-is good other process number) ∙ none-told code time (run_in good other process number) (tells.told code is)

-- where one is found it is told
some-told : (code : Code) (time : ℕ) (found : RunEnd) (run : Option ProcessRun) → option_map (told_by code) (Some found) ≡ option_map (told_of time) run → (good : ProcessRun) × (run ≡ Some good)
some-told code time found None is = absurd (let no : Some (told_by code found) ≡ None = is in cc)
some-told code time found (Some good) is = (good, refl)

pub record IsFound (machine : Machine) (at : Moment) (process number : ℕ) (other : Option Phase) (found : RunEnd) : Type 0 where
  pub good : ProcessRun
  pub is : slice_get (runs_in (good_machine machine.design) other process) number ≡ Some good
  pub tells : TellsRunHere machine at.state process good found

of-text : PhaseRunsAreRuns → (machine : Machine) (at : Moment) → ComesTo machine at → (process number : ℕ) (other : Option Phase) (good : ProcessRun) →
    ((phase : Phase) → other ≡ Some phase → phase.begins.time ≡ at.begins.time) → slice_get (runs_in (good_machine machine.design) other process) number ≡ Some good →
    IsRunFrom (source_at machine process) at.state.time good
of-text runs machine at comes process number None good timed is = absurd (let no : None ≡ Some good = is in cc)
of-text runs machine at comes process number (Some phase) good timed is =
    subst (λ (t : ℕ). IsRunFrom (source_at machine process) t good) (timed phase refl ∙ sym comes.same_time)
    (holds-at (IsRunFrom (source_at machine process) phase.begins.time) (process_runs (good_machine machine.design) process phase) number good
    (runs (good_machine machine.design) process phase) is)

pub found-here : PhaseRunsAreRuns → (machine : Machine) (at : Moment) → ComesTo machine at → (process number : ℕ) (other : Option Phase) (code : Code) → IsCodeAt machine.design process code →
    ((phase : Phase) → other ≡ Some phase → phase.begins.time ≡ at.begins.time) → (found : RunEnd) →
    TellsGoodRun machine.design at.begins.time process (run_in (good_machine machine.design) other process number) (Some found) → IsFound machine at process number other found
found-here runs machine at comes process number other code is_code timed found tells =
    let good = good_machine machine.design in
    let run = some-told code at.begins.time found (run_in good other process number) (tells.told code is_code) in
    let is : slice_get (runs_in good other process) number ≡ Some run.0 = sym (run-is good other process number) ∙ run.1 in
    record {
      good = run.0;
      is = is;
      tells = record {
        code = code;
        is_code = is_code;
        told = λ own at_own.
            same_Some (told_by own found) (told_of at.state.time run.0)
            (tells.told own at_own ∙ ap (option_map (told_of at.begins.time)) run.1 ∙ ap (λ (t : ℕ). Some (told_of t run.0)) (sym comes.same_time));
        stand = λ own at_own. tells.stand own found at_own refl;
        of_text = of-text runs machine at comes process number other run.0 timed is;
      };
    }

-- What counts

-- a run that counts beside the good machine's runs of a phase counts beside those of a phase that begins with the same turn, too
counts-if : (same : Bool) (runs : List ProcessRun) (number : ℕ) (run : ProcessRun) → AllCount None run → AllCount (slice_get runs number) run → AllCount (slice_get (runs_if same runs) number) run
counts-if true runs number run alone counts = counts
counts-if false runs number run alone counts = alone

counts-so : (good : Machine) (process : ℕ) (turn : Option TurnKind) (other : Option Phase) (number : ℕ) (run : ProcessRun) → AllCount None run →
    AllCount (slice_get (runs_in good other process) number) run → AllCount (slice_get (good_runs good process turn other) number) run
counts-so good process turn None number run alone counts = counts
counts-so good process turn (Some phase) number run alone counts = counts-if (same_turn phase.turn turn) (process_runs good process phase) number run alone counts

-- the last run counts as own
pub own-behind : ((good before : List ProcessRun) (run : ProcessRun) → AllCount (slice_get good (length before)) run → OwnLast good (before ++ run ∷ [])) →
    ((run : ProcessRun) → AllCount None run) → (good : Machine) (process : ℕ) (turn : Option TurnKind) (other : Option Phase) (number : ℕ) (before : List ProcessRun) (run : ProcessRun)
    (runs : List ProcessRun) → runs ≡ before ++ run ∷ [] → length before ≡ number → AllCount (slice_get (runs_in good other process) number) run → OwnLast (good_runs good process turn other) runs
own-behind last alone good process turn other number before run runs are is counts =
    subst (OwnLast (good_runs good process turn other)) (sym are)
    (last (good_runs good process turn other) before run
    (subst (λ n. AllCount (slice_get (good_runs good process turn other) n) run) (sym is) (counts-so good process turn other number run (alone run) counts)))
