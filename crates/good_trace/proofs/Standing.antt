-- What a window tells of runs and of processes, whichever codes of the processes one has.
use Rattle.std.proofs.Common.{◌≡◌, ℕ, ◌+◌, ◌<◌, Bool, true, false, ◌&&◌, List, map, length, get_or, refl, sym, ap, subst, ◌∙◌, inl, inr, arith}
use Rattle.std.specs.Prelude.{Option, Some, None, option_map, nat_eq, slice_get}
use Rattle.std.proofs.lemmas.Bool.{eqb-true}
use Rattle.std.proofs.lemmas.List.Elements.{All-filter, filter_passes}
use Rattle.std.proofs.lemmas.Option.{slice_get_cases, slice_get_within, slice_get-map, get_or_from_slice_get}
use Rattle.vf_base.specs.Base.{process_number}
use Rattle.v_design.specs.Designs.{FlatDesign, TestPlan}
use Rattle.v_design.specs.Plain.{process_of}
use Rattle.v_design.specs.Grades.{Phase}
use Rattle.process_code.specs.OneCode.{ReadsAlike, CodesReadAlike}
use Rattle.process_code.specs.RunEnds.{StandsIn, told_by}
use Rattle.process_code.specs.StatesOf.{IsStateOf}
use Rattle.process_code.specs.declared.code.Code.{Code}
use Rattle.process_code.specs.declared.state.ProcState.{ProcState}
use Rattle.process_code.specs.declared.state.RunEnd.{RunEnd}
use Rattle.run_ends.specs.RunEnds.{IsCodeAt, AreCodesOf, is_end_of, ends_of, IsEndWithin}
use Rattle.between_slots.specs.Between.{activity_through, window_phases}
use Rattle.window_runs.specs.declared.index.RunIndex.{RunIndex}
use Rattle.good_trace.specs.RunsKept.{Stands, TellsRun, HasRuns}

-- a code of each process
pub record HasCode (design : FlatDesign) (codes : List Code) (process : ℕ) : Type 0 where
  pub code : Code
  pub here : slice_get codes process ≡ Some code
  pub is : IsCodeAt design process code

pub has-code : (design : FlatDesign) (codes : List Code) (process : ℕ) → AreCodesOf design codes → process < length design.processes → HasCode design codes process
has-code design codes process are low = elim (slice_get_cases codes process).1 [
  | inl found ↦ record { code = found.0; here = found.2; is = are.each process found.0 found.2 }
  | inr past ↦ absurd (omega (arith, past.0, are.count))
]

pub reads-alike : CodesReadAlike → (design : FlatDesign) (process : ℕ) (one other : Code) → IsCodeAt design process one → IsCodeAt design process other → ReadsAlike one other
reads-alike alike design process one other first second =
    let same : Some (process_of one.process.now) ≡ Some (process_of other.process.now) = sym first.process_is ∙ second.process_is in
    let is : process_of one.process.now ≡ process_of other.process.now = cc in
    alike one other (record { same = is; first = first.code_of; second = second.code_of })

pub both : (a b : Bool) → (a && b) ≡ true → b ≡ true
both true b e = e
both false b e = cc

-- a run of a process in a phase
pub TellsRun-found : CodesReadAlike → (design : FlatDesign) (plan : TestPlan) (before through count : ℕ) (states : List ProcState) (runs : List RunEnd) (index : RunIndex)
    (process phase number place : ℕ) (one : Phase)
    (found : Option RunEnd) → HasRuns design plan before through count states runs index → process < length design.processes → phase ≡ place + 1 →
    slice_get (window_phases design plan before through) place ≡ Some one → found ≡ slice_get (ends_of phase process runs) number → TellsRun design process one number found
TellsRun-found alike design plan before through count states runs index process phase number place one found had low at stands is = record {
  told = λ code own.
      let reads = reads-alike alike design process kept.code code kept.is own in
      ap (option_map (told_by code)) is
      ∙ sym (told kept.code code reads.told (slice_get (ends_of phase process runs) number))
      ∙ sym (slice_get-map (told_by kept.code) (ends_of phase process runs) number)
      ∙ ap (λ l. slice_get l number) (ap (λ n. map (told_by kept.code) (ends_of n process runs)) at ∙ had.kept.runs_are.told place process one kept.code stands kept.here);
  state_of = λ code run own there. (reads-alike alike design process kept.code code kept.is own).states run.state (of-run run (sym is ∙ there)).0;
  stand = λ code run own there k d within.
      (reads-alike alike design process kept.code code kept.is own).states (get_or run.steps k d).state ((of-run run (sym is ∙ there)).1 k d within);
}
  where
    kept : HasCode design had.codes process
    kept = has-code design had.codes process had.kept.codes_are low

    told : (first second : Code) → ((run : RunEnd) → told_by first run ≡ told_by second run) → (o : Option RunEnd) → option_map (told_by first) o ≡ option_map (told_by second) o
    told first second same None = refl
    told first second same (Some run) = ap Some (same run)

    of-run : (run : RunEnd) → slice_get (ends_of phase process runs) number ≡ Some run → StandsIn (has-code design had.codes process had.kept.codes_are low).code run
    of-run run there =
        let within : number < length (ends_of phase process runs) = slice_get_within (ends_of phase process runs) number run there in
        let same = get_or_from_slice_get (ends_of phase process runs) number run run there in
        let ends = subst (IsEndWithin had.codes (length (window_phases design plan before through))) same
        (All-filter (is_end_of phase process) (IsEndWithin had.codes (length (window_phases design plan before through))) runs had.kept.runs_are.within number run within) in
        let passes : is_end_of phase process run ≡ true = subst (λ (x : RunEnd). is_end_of phase process x ≡ true) same (filter_passes (is_end_of phase process) runs number run within) in
        let own = has-code design had.codes process had.kept.codes_are low in
        let here = ap (λ n. slice_get had.codes n) (eqb-true (process_number run.process) process (both (nat_eq run.phase phase) (nat_eq (process_number run.process) process) passes)) ∙ own.here in
        (ends.state own.code here, ends.steps own.code here)

-- where a process stands
pub Stands-kept : CodesReadAlike → (design : FlatDesign) (plan : TestPlan) (before through count : ℕ) (states : List ProcState) (runs : List RunEnd) (index : RunIndex) (process : ℕ)
    (state : ProcState) →
    HasRuns design plan before through count states runs index → process < length design.processes → slice_get states process ≡ Some state →
    Stands design process (activity_through design plan before process) state
Stands-kept alike design plan before through count states runs index process state had low here =
    let kept = has-code design had.codes process had.kept.codes_are low in
    record {
      state_of = λ code own. (reads-alike alike design process kept.code code kept.is own).states state (had.kept.states_are.state_of process state kept.code here kept.here);
      does = λ code own. sym ((reads-alike alike design process kept.code code kept.is own).activity state) ∙ had.kept.states_are.does process state kept.code here kept.here;
    }
