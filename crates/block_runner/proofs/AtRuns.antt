-- A process at its run, and what is kept of it behind its next step.
use Rattle.std.proofs.Common.{◌≡◌, ℕ, ◌+◌, ◌<◌, Bool, true, false, List, [], ◌∷◌, ◌++◌, length, refl, sym, ap, subst, ◌∙◌, arith}
use Rattle.std.specs.Prelude.{Option, Some, None, slice_get}
use Rattle.v_design.specs.Designs.{Machine}
use Rattle.v_design.specs.OwnSteps.{StepSeen, ProcessRun, seen_step, runs_of, steps_in}
use Rattle.v_design.specs.Processes.{Activity}
use Rattle.v_design.specs.Runs.{happened}
use Rattle.v_design.specs.States.{State, Event, is_ready, process_at}
use Rattle.copy_laws.specs.OwnRuns.{last_goes_on, grow}
use Rattle.copy_overlay.specs.Statuses.{AllCount, gone_on}
use Rattle.present_runs.specs.PresentRuns.{PresentRunsLead}
use Rattle.good_runs.specs.Kept.{next_place}
use Rattle.known_steps.specs.Beside.{FollowsSoFar, IsInRun, run_behind}
use Rattle.block_runner.specs.declared.rows.ProcessBeside.{ProcessBeside}
use Rattle.block_runner.specs.declared.rows.RunBeside.{RunBeside}
use Rattle.block_runner.specs.Beside.{InMidst, TellsRow, taken_of}
use Rattle.block_runner.specs.Next.{GoesSo, IsAtRun, TookBeside, row_behind}
use Rattle.block_runner.proofs.Growing.{grow-new, grow-on, going-last, going-some, last-goes, length-last, place-new, place-on}

-- the run with the next step of a process, among its runs
pub record RowRun (machine : Machine) (state : State) (p number : ℕ) (good : Option ProcessRun) (runs : List ProcessRun) (ended : ℕ) (going : Option RunBeside) : Type 0 where
  pub before : List ProcessRun
  pub run : ProcessRun
  pub count : length before ≡ ended
  pub at : IsAtRun machine state p good going run
  pub grows : grow runs ((process_at state p).activity, seen_step machine state p) ≡ before ++ run_behind machine state p run ∷ []
  pub place : next_place number runs ≡ record { number = number + ended; taken = taken_of going }

pub row-run : PresentRunsLead → (machine : Machine) (begins : State) (events : List Event) (p : ℕ) (goods : List ProcessRun) (number ended : ℕ) (going : Option RunBeside) →
    TellsRow goods number (runs_of (steps_in machine p begins events)) ended going →
    RowRun machine (happened machine begins events) p number (slice_get goods (number + ended)) (runs_of (steps_in machine p begins events)) ended going
row-run lead machine begins events p goods number ended None tells = record {
  before = runs_of (steps_in machine p begins events);
  run = record { begins = (process_at (happened machine begins events) p).activity; steps = [] };
  count = tells.1;
  at = record { in_run = refl; goes = refl };
  grows = grow-new (runs_of (steps_in machine p begins events)) ((process_at (happened machine begins events) p).activity, seen_step machine (happened machine begins events) p) tells.0;
  place = place-new number (runs_of (steps_in machine p begins events)) tells.0 ∙ ap (λ (n : ℕ). record { number = number + n; taken = 0 }) tells.1;
}
row-run lead machine begins events p goods number ended (Some going) tells = record {
  before = tells.before;
  run = tells.run;
  count = tells.count;
  at = record {
    in_run = lead machine p begins events tells.before tells.run tells.are tells.goes;
    goes = (tells.taken, going-some tells.run.steps tells.goes, tells.follows, tells.own);
  };
  grows = ap (λ (rs : List ProcessRun). grow rs ((process_at (happened machine begins events) p).activity, seen_step machine (happened machine begins events) p)) tells.are
      ∙ grow-on tells.before tells.run ((process_at (happened machine begins events) p).activity, seen_step machine (happened machine begins events) p) tells.goes;
  place = ap (next_place number) tells.are ∙ place-on number tells.before tells.run tells.goes ∙ (λ i. record { number = number + tells.count i; taken = (sym tells.taken) i });
}

pub taken-is : (good : Option ProcessRun) (going : Option RunBeside) (run : ProcessRun) → GoesSo good going run → taken_of going ≡ length run.steps
taken-is good None run goes = sym (ap length goes)
taken-is good (Some going) run goes = goes.0

-- the step followed, or its run is own
took-follows : (machine : Machine) (state : State) (p : ℕ) (good : Option ProcessRun) (run : ProcessRun) (follows : Bool) → TookBeside machine state p good run follows → follows ≡ true →
    FollowsSoFar good (run_behind machine state p run)
took-follows machine state p good run true took e = took
took-follows machine state p good run false took e = absurd (cc)

took-own : (machine : Machine) (state : State) (p : ℕ) (good : Option ProcessRun) (run : ProcessRun) (follows : Bool) → TookBeside machine state p good run follows → follows ≡ false →
    AllCount good (run_behind machine state p run)
took-own machine state p good run true took e = absurd (cc)
took-own machine state p good run false took e = took

-- what is kept behind the step tells the runs with it
pub tells-behind : (machine : Machine) (state : State) (p : ℕ) (goods : List ProcessRun) (number : ℕ) (runs : List ProcessRun) (row : ProcessBeside) (follows ready : Bool)
    (is : RowRun machine state p number (slice_get goods (number + row.ended)) runs row.ended row.going) →
    TookBeside machine state p (slice_get goods (number + row.ended)) is.run follows → ready ≡ is_ready (seen_step machine state p).step.next →
    TellsRow goods number (grow runs ((process_at state p).activity, seen_step machine state p)) (row_behind row follows ready).ended (row_behind row follows ready).going
tells-behind machine state p goods number runs row follows true is took ready_is = record {
  before = is.before;
  run = run_behind machine state p is.run;
  are = is.grows;
  goes = going-last is.run.steps (seen_step machine state p) ∙ sym ready_is;
  count = is.count;
  taken = ap (λ (n : ℕ). n + 1) (taken-is (slice_get goods (number + row.ended)) row.going is.run is.at.goes) ∙ sym (length-last is.run.steps (seen_step machine state p));
  follows = took-follows machine state p (slice_get goods (number + row.ended)) is.run follows took;
  own = took-own machine state p (slice_get goods (number + row.ended)) is.run follows took;
}
tells-behind machine state p goods number runs row follows false is took ready_is = (
  ap last_goes_on is.grows ∙ last-goes is.before (run_behind machine state p is.run) ∙ going-last is.run.steps (seen_step machine state p) ∙ sym ready_is,
  ap length is.grows ∙ length-last is.before (run_behind machine state p is.run) ∙ ap (λ (n : ℕ). n + 1) is.count,
)
