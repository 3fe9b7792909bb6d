-- Whether a run begins as a run of the good machine (process runs by IEEE 1364-2001, clause 9).
use Rattle.std.proofs.Common.{◌≡◌, ◌∙◌, ℕ, zero, suc, ◌+◌, ◌<◌, Bool, true, false, List, [], ◌∷◌, ◌++◌, get_or, length, map, refl, sym, ap, subst, arith, ◌⊎◌, inl, inr}
use Rattle.std.specs.Prelude.{◌≢◌, ◌↔◌, Option, Some, None, IsTrue, slice_get}
use Rattle.vf_base.specs.Lists.{AllHold}
use Rattle.v_design.specs.Designs.{FlatDesign, FlatProcess, Machine}
use Rattle.v_design.specs.OwnSteps.{CountsOwn, ProcessRun, StepSeen, seen_step}
use Rattle.v_design.specs.Places.{PlacesDiffer}
use Rattle.v_design.specs.Plain.{process_of}
use Rattle.v_design.specs.Processes.{Activity}
use Rattle.v_design.specs.States.{State, found_or, process_at}
use Rattle.v_design.specs.Trees.{Null}
use Rattle.v_design.specs.WellFormed.{KeepsRules}
use Rattle.process_code.specs.Points.{activity_of}
use Rattle.process_code.specs.RunEnds.{RunTold, StepTold, step_told_by, told_by}
use Rattle.process_code.specs.StatesOf.{IsStateOf}
use Rattle.process_code.specs.declared.code.Code.{Code}
use Rattle.process_code.specs.declared.state.ProcState.{ProcState}
use Rattle.process_code.specs.declared.state.RunEnd.{RunEnd}
use Rattle.process_code.specs.declared.state.StepTaken.{StepTaken}
use Rattle.process_table.specs.Waited.{body_of}
use Rattle.run_ends.specs.RunEnds.{IsCodeAt, steps_told, told_of}
use Rattle.copy_laws.specs.SharedRuns.{activity_at_end}
use Rattle.copy_overlay.specs.Statuses.{AllCount, gone_on}
use Rattle.known_steps.specs.Beside.{FollowsSoFar, IsInRun, KnownStepsGoOn, TellsRunHere, run_behind}

-- no two statements of a process stand at one place
at-place : (P : FlatProcess → Type 0) (processes : List FlatProcess) (p : ℕ) (process : FlatProcess) → AllHold P processes → slice_get processes p ≡ Some process → P process
at-place P [] p process all is = absurd (cc)
at-place P (first ∷ processes) zero process all is = subst P (let same : first ≡ process = cc in same) all.0
at-place P (first ∷ processes) (suc p) process all is = at-place P processes p process all.1 is

pub places-differ : (design : FlatDesign) (p : ℕ) (code : Code) → KeepsRules design → IsCodeAt design p code → PlacesDiffer (body_of design p)
places-differ design p code rules at =
    subst (λ (found : Option FlatProcess). PlacesDiffer (found_or (record { always = false; body = Null; place = record { line = 0; column = 0 } }) found).body) (sym at.process_is)
    (at-place (λ (process : FlatProcess). PlacesDiffer process.body) design.processes p (process_of code.process.now) rules.places at.process_is)

-- a run without steps that is begun does what it begins with
begun : (machine : Machine) (state : State) (p : ℕ) (run : ProcessRun) → IsInRun machine state p run → run.steps ≡ [] → (process_at state p).activity ≡ run.begins
begun machine state p run is none = is ∙ ap (activity_at_end run.begins) none

no-steps : (time : ℕ) (activity : Activity) (steps : List StepSeen) → [] ≡ steps_told time activity steps → steps ≡ []
no-steps time activity [] e = refl
no-steps time activity (seen ∷ steps) e = absurd (cc)

module _ (laws : KnownStepsGoOn) (machine : Machine) (state : State) (p : ℕ) (found : RunEnd) (good run : ProcessRun) (tells : TellsRunHere machine state p good found)
    (in_run : IsInRun machine state p run) (none : run.steps ≡ []) where
  -- the good machine's run has no step
  pub starts-none : found.steps ≡ [] → AllCount (Some good) (run_behind machine state p run)
  starts-none empty more own counts = elim counts [ inl same ↦ absurd (clash same.0) | inr other ↦ other.1 ]
    where
      good-none : good.steps ≡ []
      good-none =
          no-steps state.time good.begins good.steps
          (sym (ap (map (step_told_by tells.code)) empty) ∙ ap (λ (told : RunTold). told.steps) (tells.told tells.code tells.is_code))

      clash : Some good ≡ Some (gone_on (run_behind machine state p run) more) → ⊥
      clash same =
          let one : good ≡ gone_on (run_behind machine state p run) more = ap (found_or good) same in
          let steps : [] ≡ (run.steps ++ seen_step machine state p ∷ []) ++ more = sym good-none ∙ ap (λ (r : ProcessRun). r.steps) one in
          let begins : [] ≡ seen_step machine state p ∷ more = steps ∙ ap (λ (s : List StepSeen). (s ++ seen_step machine state p ∷ []) ++ more) none in
          cc

  module _ (one : StepTaken) (first : slice_get found.steps 0 ≡ Some one) (rules : KeepsRules machine.design) (result : Bool)
      (activity : IsTrue result → (code : Code) → IsCodeAt machine.design p code → (process_at state p).activity ≡ activity_of code one.state)
      (equal : (code : Code) → IsCodeAt machine.design p code → PlacesDiffer (body_of machine.design p) → IsStateOf code one.state →
      (IsTrue result ↔ (process_at state p).activity ≡ activity_of code one.state))
    where
      -- it begins as the process stands
      pub starts-as : IsTrue result → FollowsSoFar (Some good) run
      starts-as holds = record {
        one = good;
        is = refl;
        begins =
            sym (laws.first machine state p good found one tells first tells.code tells.is_code).0 ∙ sym (activity holds tells.code tells.is_code) ∙ begun machine state p run in_run none;
        later = good.steps;
        steps = ap (λ (s : List StepSeen). s ++ good.steps) (sym none);
      }

      -- or otherwise
      pub starts-other : result ≡ false → AllCount (Some good) (run_behind machine state p run)
      starts-other fails = laws.other good (run_behind machine state p run) (λ same.
          let law = laws.first machine state p good found one tells first tells.code tells.is_code in
          let holds : IsTrue result = (equal tells.code tells.is_code (places-differ machine.design p tells.code rules tells.is_code) law.1).1 (begun machine state p run in_run none ∙ sym same ∙ sym law.0) in
          (let clash : true ≡ false = sym holds ∙ fails in cc))

-- the first of some steps
pub first-at : (steps : List StepTaken) (one : StepTaken) → (steps ≡ [] → ⊥) → one ≡ get_or steps 0 one → slice_get steps 0 ≡ Some one
first-at [] one some is = absurd (some refl)
first-at (step ∷ steps) one some is = ap (λ (s : StepTaken). Some s) (sym is)
