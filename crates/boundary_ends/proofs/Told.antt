-- The run ends of a phase among those of a window, and what run ends tell of a process.
use Rattle.std.proofs.Common.{◌≡◌, ℕ, suc, ◌+◌, ◌-◌, ◌≤◌, List, [], ◌∷◌, ◌++◌, map, length, get_or, Bool, true, false, ◌&&◌, cond, refl, sym, ap, subst, ◌∙◌, arith, append-nil, length-append}
use Rattle.std.specs.Prelude.{◌≢◌, Option, Some, None, nat_eq, nat_le, slice_get}
use Rattle.std.specs.List.{All}
use Rattle.std.proofs.Math.Seq.{drop-append_seam}
use Rattle.std.proofs.lemmas.Bool.{eqb-true, eq-eqb, leb-true}
use Rattle.std.proofs.lemmas.List.Elements.{All-drop, All-filter, filter-append, filter_passes}
use Rattle.std.proofs.lemmas.Option.{slice_get_within, get_or_from_slice_get}
use Rattle.vf_base.specs.Lists.{joined, AllHold}
use Rattle.v_design.specs.OwnSteps.{ProcessRun, steps_in, runs_of}
use Rattle.process_code.specs.Points.{activity_of}
use Rattle.process_code.specs.RunEnds.{RunTold, told_by}
use Rattle.process_code.specs.StatesOf.{IsStateOf}
use Rattle.process_code.specs.declared.code.Code.{Code}
use Rattle.process_code.specs.declared.state.ProcState.{ProcState}
use Rattle.process_code.specs.declared.state.RunEnd.{RunEnd}
use Rattle.copy_laws.specs.SharedRuns.{activity_at_end, appended_by}
use Rattle.run_ends.specs.RunEnds.{told_of, is_end_of, ends_of, Ender, ender_told, enders_in, phase_enders, AreRunEnds}
use Rattle.between_slots.specs.Between.{activity_after_runs}
use Rattle.window_runs.specs.RunsByProcess.{run_process, run_phase, runs_of_process}
use Rattle.window_runs.specs.Standing.{standing_after, last_run}
use Rattle.window_runs.specs.Through.{runs_through, appended_of}
use Rattle.window_runs.specs.RunLaws.{EndsPart, EndsBetween}
use Rattle.window_runs.proofs.Parting.{part-none}
use Rattle.boundary_ends.specs.BlockEnds.{EndsInState, PhaseEndsStand, EndsTellProcesses}

-- Among a window's

seam : {A : Type 0} (xs : List A) (x : A) (ys : List A) → slice_get (xs ++ x ∷ ys) (length xs) ≡ Some x
seam [] x ys = refl
seam (y ∷ xs) x ys = seam xs x ys

-- the processes of the enders of a phase
run-processes : (number : ℕ) (processes : List ℕ) (runs : List RunEnd) → map ender_told runs ≡ map (λ (p : ℕ). record { phase = number; process = p }) processes → map run_process runs ≡ processes
run-processes number [] [] e = refl
run-processes number [] (run ∷ runs) e = cc
run-processes number (p ∷ processes) [] e = cc
run-processes number (p ∷ processes) (run ∷ runs) e =
    let first : ender_told run ≡ record { phase = number; process = p } = cc in
    let others : map ender_told runs ≡ map (λ (q : ℕ). record { phase = number; process = q }) processes = cc in
    λ i. (first i).process ∷ run-processes number processes runs others i

-- so the run ends of a process in that phase are those of the process
own-ends : (number p : ℕ) (processes : List ℕ) (runs : List RunEnd) → map ender_told runs ≡ map (λ (q : ℕ). record { phase = number; process = q }) processes →
    ends_of number p runs ≡ runs_of_process p runs
own-ends number p [] [] e = refl
own-ends number p [] (run ∷ runs) e = cc
own-ends number p (q ∷ processes) [] e = cc
own-ends number p (q ∷ processes) (run ∷ runs) e =
    let first : ender_told run ≡ record { phase = number; process = q } = cc in
    let others : map ender_told runs ≡ map (λ (r : ℕ). record { phase = number; process = r }) processes = cc in
    let here : nat_eq run.phase number ≡ true = eq-eqb run.phase number (ap (λ (k : Ender). k.phase) first) in
    λ i. cond (here i && nat_eq (run_process run) p) (run ∷ own-ends number p processes runs others i) (own-ends number p processes runs others i)

-- run ends in the phases up to one are in no later one
none-later : (last number : ℕ) (runs : List RunEnd) → number ≡ suc last → AllHold (λ run. run_phase run ≢ number) (runs_through last runs)
none-later last number [] next = tt
none-later last number (run ∷ runs) next = go (nat_le (run_phase run) last) refl (none-later last number runs next)
  where
    go : (b : Bool) → nat_le (run_phase run) last ≡ b → AllHold (λ other. run_phase other ≢ number) (runs_through last runs) →
        AllHold (λ other. run_phase other ≢ number) (cond b (run ∷ runs_through last runs) (runs_through last runs))
    go true e rest = ((λ same. let low : run_phase run ≤ last = leb-true (run_phase run) last e in omega (arith, same, low, next)), rest)
    go false e rest = rest

pub phase_ends_stand : EndsPart → EndsBetween → PhaseEndsStand
phase_ends_stand part between_law codes machine phases more phase runs between ends is = record {
  states = subst (All (EndsInState codes)) (drop-append_seam front between) (All-drop (EndsInState codes) (length front) (front ++ between) (λ k d low. (through.within k d low).state));
  order = run-processes (length phases + 1) (enders_in machine phase.begins phase.events) between order;
  told = λ p code here.
      ap (map (told_by code))
      (sym (own-ends (length phases + 1) p (enders_in machine phase.begins phase.events) between order)
      ∙ ap (λ l. l ++ ends_of (length phases + 1) p between)
      (sym (part-none run_phase (length phases + 1) (λ run. nat_eq (run_process run) p) front (none-later (length phases) (length phases + 1) runs (omega arith))))
      ∙ sym (filter-append (is_end_of (length phases + 1) p) front between))
      ∙ through.told (length phases) p phase code (seam phases phase []) here;
}
  where
    front : List RunEnd
    front = runs_through (length phases) runs

    long : length (phases ++ phase ∷ []) ≡ length phases + 1
    long = length-append phases (phase ∷ [])

    through : AreRunEnds codes machine (phases ++ phase ∷ []) (front ++ between)
    through = subst (AreRunEnds codes machine (phases ++ phase ∷ [])) (ap (λ n. runs_through n runs) long ∙ sym is) (part codes machine (phases ++ phase ∷ []) more runs ends)

    order : map ender_told between ≡ map (λ (p : ℕ). record { phase = length phases + 1; process = p }) (enders_in machine phase.begins phase.events)
    order = between_law codes machine phases (phase ∷ []) more runs between ends is ∙ append-nil (phase_enders machine (length phases + 1) phase)

-- What they tell

-- where the last of some runs leads
last-leads : (code : Code) (state : ProcState) (time : ℕ) (run : RunEnd) (told : ProcessRun) (runs : List RunEnd) (others : List ProcessRun) → told_by code run ≡ told_of time told →
    map (told_by code) runs ≡ map (told_of time) others →
    activity_of code (standing_after state (slice_get (run ∷ runs) (length runs))) ≡ activity_after_runs (activity_at_end told.begins told.steps) others
last-leads code state time run told [] [] first rest = ap (λ (t : RunTold). t.activity) first
last-leads code state time run told [] (other ∷ others) first rest = cc
last-leads code state time run told (next ∷ runs) [] first rest = cc
last-leads code state time run told (next ∷ runs) (other ∷ others) first rest =
    let here : told_by code next ≡ told_of time other = cc in
    let later : map (told_by code) runs ≡ map (told_of time) others = cc in
    last-leads code state time next other runs others here later

leads : (code : Code) (state : ProcState) (time : ℕ) (runs : List RunEnd) (told : List ProcessRun) → map (told_by code) runs ≡ map (told_of time) told →
    activity_of code (standing_after state (slice_get runs (length runs - 1))) ≡ activity_after_runs (activity_of code state) told
leads code state time [] [] e = refl
leads code state time [] (other ∷ others) e = cc
leads code state time (run ∷ runs) [] e = cc
leads code state time (run ∷ runs) (other ∷ others) e =
    let first : told_by code run ≡ told_of time other = cc in
    let rest : map (told_by code) runs ≡ map (told_of time) others = cc in
    (let last : length (run ∷ runs) - 1 ≡ length runs = omega arith in ap (λ n. activity_of code (standing_after state (slice_get (run ∷ runs) n))) last)
    ∙ last-leads code state time run other runs others first rest

appends : (code : Code) (time : ℕ) (runs : List RunEnd) (told : List ProcessRun) → map (told_by code) runs ≡ map (told_of time) told →
    appended_of runs ≡ joined (map (λ (run : ProcessRun). appended_by time run.steps) told)
appends code time [] [] e = refl
appends code time [] (other ∷ others) e = cc
appends code time (run ∷ runs) [] e = cc
appends code time (run ∷ runs) (other ∷ others) e =
    let first : told_by code run ≡ told_of time other = cc in
    let rest : map (told_by code) runs ≡ map (told_of time) others = cc in
    λ i. (first i).later ++ appends code time runs others rest i

-- the state of the last one is of the process's code
stands : (codes : List Code) (runs : List RunEnd) (p : ℕ) (code : Code) (state : ProcState) → All (EndsInState codes) runs → slice_get codes p ≡ Some code → IsStateOf code state →
    IsStateOf code (standing_after state (last_run p runs))
stands codes runs p code state states here first = go (last_run p runs) refl
  where
    own : List RunEnd
    own = runs_of_process p runs

    go : (found : Option RunEnd) → last_run p runs ≡ found → IsStateOf code (standing_after state found)
    go None is = first
    go (Some run) is =
        let place : ℕ = length own - 1 in
        let low = slice_get_within own place run is in
        let same : get_or own place run ≡ run = get_or_from_slice_get own place run run is in
        let within : EndsInState codes run = subst (EndsInState codes) same (All-filter (λ (x : RunEnd). nat_eq (run_process x) p) (EndsInState codes) runs states place run low) in
        let passes : nat_eq (run_process run) p ≡ true =
        subst (λ (x : RunEnd). nat_eq (run_process x) p ≡ true) same (filter_passes (λ (x : RunEnd). nat_eq (run_process x) p) runs place run low) in
        within code (ap (λ n. slice_get codes n) (eqb-true (run_process run) p passes) ∙ here)

pub ends_tell_processes : EndsTellProcesses
ends_tell_processes codes machine begins events runs p code state ends here = record {
  activity = leads code state begins.time (runs_of_process p runs) (runs_of (steps_in machine p begins events)) (ends.told p code here);
  state_of = stands codes runs p code state ends.states here;
  appended = appends code begins.time (runs_of_process p runs) (runs_of (steps_in machine p begins events)) (ends.told p code here);
}
