-- Where the last run of a process leaves it.
use Rattle.std.proofs.Common.{◌≡◌, ℕ, ◌-◌, ◌<◌, true, List, [], ◌∷◌, ◌++◌, map, length, refl, sym, ap, subst, ◌∙◌, arith}
use Rattle.std.specs.Prelude.{Option, Some, None, nat_eq, slice_get}
use Rattle.std.proofs.lemmas.Bool.{eqb-true}
use Rattle.std.proofs.lemmas.List.Elements.{All-filter, filter_passes}
use Rattle.std.proofs.lemmas.Option.{slice_get_within, get_or_from_slice_get}
use Rattle.vf_base.specs.Base.{process_number}
use Rattle.vf_base.specs.Lists.{joined}
use Rattle.v_design.specs.Designs.{Machine}
use Rattle.v_design.specs.Processes.{Activity}
use Rattle.v_design.specs.Grades.{Phase}
use Rattle.v_design.specs.OwnSteps.{ProcessRun, process_runs}
use Rattle.process_code.specs.Points.{activity_of}
use Rattle.process_code.specs.RunEnds.{RunTold, told_by}
use Rattle.process_code.specs.StatesOf.{IsStateOf}
use Rattle.process_code.specs.declared.code.Code.{Code}
use Rattle.process_code.specs.declared.state.ProcState.{ProcState}
use Rattle.process_code.specs.declared.state.RunEnd.{RunEnd}
use Rattle.copy_laws.specs.SharedRuns.{activity_at_end}
use Rattle.run_ends.specs.RunEnds.{told_of, IsEndWithin}
use Rattle.between_slots.specs.Between.{activity_after_runs, runs_in}
use Rattle.window_runs.specs.RunsByProcess.{run_phase, runs_of_process}
use Rattle.window_runs.specs.Standing.{standing_after, last_run}
use Rattle.window_runs.specs.RunLaws.{EndsStand, EndsLead}
use Rattle.window_runs.proofs.Parting.{parted-told}
use Rattle.window_runs.proofs.Joining.{ends-parted}

-- what a process does after runs of which this is told
abbrev after_told : Activity → List RunTold → Activity
after_told activity [] = activity
after_told activity (told ∷ rest) = after_told told.activity rest

after-told : (activity : Activity) (time : ℕ) (runs : List ProcessRun) → after_told activity (map (told_of time) runs) ≡ activity_after_runs activity runs
after-told activity time [] = refl
after-told activity time (run ∷ runs) = after-told (activity_at_end run.begins run.steps) time runs

told-append : (activity : Activity) (xs ys : List RunTold) → after_told activity (xs ++ ys) ≡ after_told (after_told activity xs) ys
told-append activity [] ys = refl
told-append activity (x ∷ xs) ys = told-append x.activity xs ys

runs-append : (activity : Activity) (xs ys : List ProcessRun) → activity_after_runs activity (xs ++ ys) ≡ activity_after_runs (activity_after_runs activity xs) ys
runs-append activity [] ys = refl
runs-append activity (x ∷ xs) ys = runs-append (activity_at_end x.begins x.steps) xs ys

abbrev pub told_in : Machine → ℕ → Phase → List RunTold
told_in machine process phase = map (told_of phase.begins.time) (process_runs machine process phase)

all-told : (machine : Machine) (process : ℕ) (activity : Activity) (phases : List Phase) →
    after_told activity (joined (map (told_in machine process) phases)) ≡ activity_after_runs activity (runs_in machine process phases)
all-told machine process activity [] = refl
all-told machine process activity (phase ∷ phases) =
    told-append activity (told_in machine process phase) (joined (map (told_in machine process) phases))
    ∙ all-told machine process (after_told activity (told_in machine process phase)) phases
    ∙ ap (λ a. activity_after_runs a (runs_in machine process phases)) (after-told activity phase.begins.time (process_runs machine process phase))
    ∙ sym (runs-append activity (process_runs machine process phase) (runs_in machine process phases))

-- the last of some runs
last-told : (code : Code) (state : ProcState) (activity : Activity) (run : RunEnd) (runs : List RunEnd) →
    activity_of code (standing_after state (slice_get (run ∷ runs) (length runs))) ≡ after_told activity (map (told_by code) (run ∷ runs))
last-told code state activity run [] = refl
last-told code state activity run (next ∷ runs) = last-told code state (activity_of code run.state) next runs

own-told : (code : Code) (state : ProcState) (runs : List RunEnd) → activity_of code (standing_after state (slice_get runs (length runs - 1))) ≡ after_told (activity_of code state)
    (map (told_by code) runs)
own-told code state [] = refl
own-told code state (run ∷ runs) =
    (let e : length (run ∷ runs) - 1 ≡ length runs = omega arith in ap (λ n. activity_of code (standing_after state (slice_get (run ∷ runs) n))) e)
    ∙ last-told code state (activity_of code state) run runs

pub ends_lead : EndsLead
ends_lead codes machine phases runs process code state r here =
    own-told code state (runs_of_process process runs)
    ∙ ap (after_told (activity_of code state))
    (parted-told run_phase (λ (run : RunEnd). nat_eq (process_number run.process) process) (told_by code) (told_in machine process) 1 phases runs (ends-parted codes machine phases runs r)
    (λ k phase is. r.told k process phase code is here))
    ∙ all-told machine process (activity_of code state) phases

pub ends_stand : EndsStand
ends_stand codes machine phases runs process code state r here stands = go (last_run process runs) refl
  where
    own : List RunEnd
    own = runs_of_process process runs

    go : (found : Option RunEnd) → slice_get (runs_of_process process runs) (length (runs_of_process process runs) - 1) ≡ found → IsStateOf code (standing_after state found)
    go None is = stands
    go (Some run) is =
        let place : ℕ = length (runs_of_process process runs) - 1 in
        let low : place < length (runs_of_process process runs) = slice_get_within (runs_of_process process runs) place run is in
        let same = get_or_from_slice_get (runs_of_process process runs) place run run is in
        let within = subst (IsEndWithin codes (length phases)) same
        (All-filter (λ (x : RunEnd). nat_eq (process_number x.process) process) (IsEndWithin codes (length phases)) runs r.within place run low) in
        let passes : nat_eq (process_number run.process) process ≡ true =
        subst (λ (x : RunEnd). nat_eq (process_number x.process) process ≡ true) same (filter_passes (λ (x : RunEnd). nat_eq (process_number x.process) process) runs place run low) in
        within.state code (ap (λ n. slice_get codes n) (eqb-true (process_number run.process) process passes) ∙ here)
