-- Which processes aren't ready between runs, and that a ready one is in no wait.
use Rattle.std.proofs.Common.{◌≡◌, ℕ, List, true, false, refl, ap, ◌∙◌, arith}
use Rattle.std.proofs.lemmas.Bool.{le-leb}
use Rattle.v_design.specs.Designs.{Machine}
use Rattle.v_design.specs.Processes.{Activity, Ready, Waiting, Asleep, Postponed, Done}
use Rattle.v_design.specs.States.{State, Event, process_at, is_ready, some_in}
use Rattle.v_design.specs.Runs.{happened}
use Rattle.v_design.specs.Accesses.{is_waiting}
use Rattle.v_design.specs.PhaseLogs.{is_step_of}
use Rattle.copy_laws.specs.Beside.{AreFirst}
use Rattle.copy_laws.proofs.ReadRuns.{is-the-step}
use Rattle.phase_blocks.specs.Blocks.{IsBetweenRuns, is_step_from}
use Rattle.phase_blocks.proofs.Going.{RunLaws}
use Rattle.phase_blocks.proofs.Kept.{follows-order}

-- a step of a process is one of a process of at least its number
pub own-from : (p : ℕ) (event : Event) → is_step_of p event ≡ true → is_step_from p event ≡ true
own-from p event h = ap (is_step_from p) (is-the-step p event h) ∙ le-leb p p (omega arith)

-- a process isn't ready where it took a step, or a greater one did
pub rests-below : RunLaws → (machine : Machine) (begins : State) (before : List Event) (p : ℕ) → AreFirst machine begins before → IsBetweenRuns machine begins before →
    some_in (is_step_from p) before ≡ true → is_ready (process_at (happened machine begins before) p).activity ≡ false
rests-below laws machine begins before p first between some = ((follows-order laws machine begins before first).rests p some (λ q h. between.runs q)).1 p (omega arith)

-- a process that is ready is in no wait
pub ready-waits-not : (a : Activity) → is_ready a ≡ true → is_waiting a ≡ false
ready-waits-not (Ready tasks operands) r = refl
ready-waits-not (Waiting place entries tasks) r = cc
ready-waits-not (Asleep time tasks) r = refl
ready-waits-not (Postponed tasks) r = refl
ready-waits-not Done r = refl
