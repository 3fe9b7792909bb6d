-- A run goes on as the good machine's, or parts from it.
use Rattle.std.proofs.Common.{◌≡◌, ◌≢◌, ℕ, ◌+◌, List, [], ◌∷◌, ◌++◌, length, map, refl, sym, ap, subst, ◌∙◌, inl, inr, arith}
use Rattle.std.specs.Prelude.{Option, Some, None, slice_get}
use Rattle.std.specs.Option.{option_map}
use Rattle.std.proofs.lemmas.Option.{same_Some}
use Rattle.std.proofs.lemmas.List.{append_assoc, append-nil, length-append, length_push}
use Rattle.four_value.specs.Values.{LogicValue}
use Rattle.v_design.specs.Designs.{Machine}
use Rattle.v_design.specs.Processes.{Activity, Action, ProcessStep}
use Rattle.v_design.specs.States.{State, found_or, next_activity, process_at, source_at, step_of}
use Rattle.v_design.specs.OwnSteps.{CountsOwn, StepSeen, ProcessRun, seen_step, value_read}
use Rattle.process_code.specs.Points.{activity_of}
use Rattle.process_code.specs.RunEnds.{RunTold, StepTold, act_by, act_of, step_told_by, told_by}
use Rattle.process_code.specs.StatesOf.{IsStateOf}
use Rattle.process_code.specs.declared.code.Code.{Code}
use Rattle.process_code.specs.declared.state.ProcState.{ProcState}
use Rattle.process_code.specs.declared.state.RunEnd.{RunEnd}
use Rattle.process_code.specs.declared.state.StepAct.{StepAct}
use Rattle.process_code.specs.declared.state.StepTaken.{StepTaken}
use Rattle.run_ends.specs.RunEnds.{IsCodeAt, step_told, steps_told, told_of}
use Rattle.copy_laws.specs.OwnRuns.{OwnRunsCount}
use Rattle.copy_laws.specs.SharedRuns.{AreStepsFrom, activity_after, activity_at_end, read-next, step_from, with_read}
use Rattle.copy_overlay.specs.Statuses.{AllCount, IsFollowing, gone_on}
use Rattle.copy_overlay.specs.StatusLaws.{alone-counts, begun-counts, follows-no_more}
use Rattle.process_table.specs.Known.{IsKnownStep}
use Rattle.known_steps.specs.Known.{IsKnownAt, PartsAt, HasEnded, ReadsOther, ReadsAlike, read_now, stands_behind}
use Rattle.known_steps.specs.Beside.{FollowsSoFar, IsInRun, KnownStepsGoOn, TellsRunHere, run_behind}
use Rattle.known_steps.proofs.Told.{all-at, end-push, kept-at, read-told, step-behind, text-step, told-at, told-none}

same-seen : (seen other : StepSeen) → seen.step ≡ other.step → seen.read ≡ other.read → seen ≡ other
same-seen seen other step read = λ i. record { step = step i; read = read i }

-- The runs of the good machine

-- where a run follows so far the good machine's run is what is told
record Following (good run : ProcessRun) : Type 0 where
  begins : good.begins ≡ run.begins
  later : List StepSeen
  steps : good.steps ≡ run.steps ++ later

following : (good run : ProcessRun) → FollowsSoFar (Some good) run → Following good run
following good run follows =
    let same : good ≡ follows.one = same_Some good follows.one follows.is in
    record {
      begins = ap (λ (r : ProcessRun). r.begins) same ∙ follows.begins;
      later = follows.later;
      steps = ap (λ (r : ProcessRun). r.steps) same ∙ follows.steps;
    }

module _ (machine : Machine) (state : State) (process : ℕ) (good : ProcessRun) (found : RunEnd) (tells : TellsRunHere machine state process good found) where
  -- the steps of the run found tell those of the good machine's
  told-steps : (code : Code) → IsCodeAt machine.design process code → map (step_told_by code) found.steps ≡ steps_told state.time good.begins good.steps
  told-steps code at = ap (λ (told : RunTold). told.steps) (tells.told code at)

  -- the first one
  first-told : (code : Code) (one : StepTaken) (steps : List StepSeen) → slice_get (steps_told state.time good.begins steps) 0 ≡ Some (step_told_by code one) → activity_of code one.state ≡ good.begins
  first-told code one [] is = absurd (let no : None ≡ Some (step_told_by code one) = is in cc)
  first-told code one (seen ∷ steps) is =
      ap (λ (told : StepTold). told.stands) (sym (same_Some (step_told state.time good.begins seen) (step_told_by code one) is))

  first : (one : StepTaken) → slice_get found.steps 0 ≡ Some one → (code : Code) → IsCodeAt machine.design process code → (activity_of code one.state ≡ good.begins) × IsStateOf code one.state
  first one at code is = (
    first-told code one good.steps (kept-at (step_told_by code) found.steps (steps_told state.time good.begins good.steps) 0 (told-steps code is) ∙ ap (option_map (step_told_by code)) at),
    all-at (λ (step : StepTaken). IsStateOf code step.state) found.steps 0 one (tells.stand code is).1 at,
  )

  -- a run without steps is no other's
  stepless : (run : ProcessRun) (steps : List StepSeen) → good.steps ≡ steps → slice_get found.steps 0 ≡ None → AllCount (Some good) (run_behind machine state process run)
  stepless run [] none at more own (inl shared) =
      let seen = seen_step machine state process in
      let same : good ≡ gone_on (gone_on run (seen ∷ [])) more = same_Some good (gone_on (gone_on run (seen ∷ [])) more) shared.0 in
      let short : length good.steps ≡ 0 = ap length none in
      let long : length good.steps ≡ length ((run.steps ++ seen ∷ []) ++ more) = ap (λ (r : ProcessRun). length r.steps) same in
      let parts : length ((run.steps ++ seen ∷ []) ++ more) ≡ length (run.steps ++ seen ∷ []) + length more = length-append (run.steps ++ seen ∷ []) more in
      let one : length (run.steps ++ seen ∷ []) ≡ length run.steps + 1 = length_push run.steps seen in
      absurd (omega (arith, short, long, parts, one))
  stepless run [] none at more own (inr all) = all.1
  stepless run (other ∷ rest) steps at more own counted =
      let told : slice_get (steps_told state.time good.begins (other ∷ rest)) 0 ≡ None =
      ap (λ (l : List StepSeen). slice_get (steps_told state.time good.begins l) 0) (sym steps)
      ∙ kept-at (step_told_by tells.code) found.steps (steps_told state.time good.begins good.steps) 0 (told-steps tells.code tells.is_code) ∙ ap (option_map (step_told_by tells.code)) at in
      absurd (let clash : Some (step_told state.time good.begins other) ≡ None = told in cc)

  module _ (run : ProcessRun) (in_run : IsInRun machine state process run) (follows : Following good run) where
    -- the step of the place, and what is told of it
    told-here : (code : Code) → IsCodeAt machine.design process code → (place : ℕ) → slice_get (steps_told state.time run.begins (run.steps ++ follows.later)) place ≡
        option_map (step_told_by code) (slice_get found.steps place)
    told-here code is place =
        ap (λ (told : List StepTold). slice_get told place) (sym ((λ i. steps_told state.time (follows.begins i) (follows.steps i))))
        ∙ kept-at (step_told_by code) found.steps (steps_told state.time good.begins good.steps) place (told-steps code is)

    -- the good machine's next step, if it has one
    record Next (one : StepTaken) : Type 0 where
      other : StepSeen
      rest : List StepSeen
      later : follows.later ≡ other ∷ rest
      step : other.step ≡ step_of machine state process
      line : one.line ≡ other.step.line
      act : act_by one.act ≡ act_of state.time other.step.action
      read : one.read ≡ other.read

    next-step : (other : StepSeen) (rest : List StepSeen) → follows.later ≡ other ∷ rest → other.step ≡ step_of machine state process
    next-step other rest later =
        let steps : AreStepsFrom (source_at machine process) state.time run.begins (run.steps ++ other ∷ rest) =
        subst (λ (l : List StepSeen). AreStepsFrom (source_at machine process) state.time run.begins (run.steps ++ l)) later
        (subst (λ (l : List StepSeen). AreStepsFrom (source_at machine process) state.time run.begins l) follows.steps
        (subst (λ (a : Activity). AreStepsFrom (source_at machine process) state.time a good.steps) follows.begins tells.of_text)) in
        step-behind (source_at machine process) state.time run.begins run.steps other rest steps
        ∙ ap (step_from (source_at machine process) state.time) (sym in_run)
        ∙ sym (text-step machine state process (process_at state process).activity)

    next-of : (one : StepTaken) (later : List StepSeen) → follows.later ≡ later → slice_get found.steps (length run.steps) ≡ Some one → Next one
    next-of one [] none at =
        let told : slice_get (steps_told state.time run.begins (run.steps ++ [])) (length run.steps) ≡ Some (step_told_by tells.code one) =
        subst (λ (l : List StepSeen). slice_get (steps_told state.time run.begins (run.steps ++ l)) (length run.steps) ≡ option_map (step_told_by tells.code) (slice_get found.steps (length run.steps)))
        none (told-here tells.code tells.is_code (length run.steps)) ∙ ap (option_map (step_told_by tells.code)) at in
        let no : slice_get (steps_told state.time run.begins (run.steps ++ [])) (length run.steps) ≡ None =
        ap (λ (l : List StepSeen). slice_get (steps_told state.time run.begins l) (length run.steps)) (append-nil run.steps) ∙ told-none state.time run.begins run.steps in
        absurd (let clash : None ≡ Some (step_told_by tells.code one) = sym no ∙ told in cc)
    next-of one (other ∷ rest) later at =
        let told : slice_get (steps_told state.time run.begins (run.steps ++ other ∷ rest)) (length run.steps) ≡ Some (step_told_by tells.code one) =
        subst (λ (l : List StepSeen). slice_get (steps_told state.time run.begins (run.steps ++ l)) (length run.steps) ≡ option_map (step_told_by tells.code) (slice_get found.steps (length run.steps)))
        later (told-here tells.code tells.is_code (length run.steps)) ∙ ap (option_map (step_told_by tells.code)) at in
        let same : step_told_by tells.code one ≡ step_told state.time (activity_at_end run.begins run.steps) other =
        same_Some (step_told_by tells.code one) (step_told state.time (activity_at_end run.begins run.steps) other) (sym told ∙ told-at state.time run.begins run.steps other rest) in
        record {
          other = other;
          rest = rest;
          later = later;
          step = next-step other rest later;
          line = ap (λ (t : StepTold). t.line) same;
          act = ap (λ (t : StepTold). t.act) same;
          read = ap (λ (t : StepTold). t.read) same;
        }

    acts : (one : StepTaken) → slice_get found.steps (length run.steps) ≡ Some one → act_by one.act ≡ act_of state.time (step_of machine state process).action
    acts one at = let n = next-of one follows.later refl at in n.act ∙ ap (λ (s : ProcessStep). act_of state.time s.action) n.step

    -- what the step would read now
    reads-now : (one : StepTaken) → slice_get found.steps (length run.steps) ≡ Some one → read_now state.values (act_by one.act) ≡ (seen_step machine state process).read
    reads-now one at = ap (read_now state.values) (acts one at) ∙ read-told state state.time (step_of machine state process).action

    -- Behind the step

    -- where the process stands then, by what the steps behind tell
    behind-step : (code : Code) (other next : StepSeen) (rest : List StepSeen) (kept : Option StepTaken) →
        Some (step_told state.time (activity_after other) next) ≡ option_map (step_told_by code) kept →
        activity_of code (found_or found.state (option_map (λ (step : StepTaken). step.state) kept)) ≡ activity_after other
    behind-step code other next rest None is = absurd (let no : Some (step_told state.time (activity_after other) next) ≡ None = is in cc)
    behind-step code other next rest (Some one) is =
        ap (λ (told : StepTold). told.stands) (sym (same_Some (step_told state.time (activity_after other) next) (step_told_by code one) is))

    behind-end : (code : Code) (other : StepSeen) (kept : Option StepTaken) → None ≡ option_map (step_told_by code) kept → activity_of code found.state ≡ activity_after other →
        activity_of code (found_or found.state (option_map (λ (step : StepTaken). step.state) kept)) ≡ activity_after other
    behind-end code other None is same = same
    behind-end code other (Some one) is same = absurd (let no : None ≡ Some (step_told_by code one) = is in cc)

    stands-so : (code : Code) → IsCodeAt machine.design process code → (other : StepSeen) (rest : List StepSeen) → follows.later ≡ other ∷ rest →
        activity_of code (stands_behind found (length run.steps)) ≡ activity_after other
    stands-so code is other [] later =
        let place : length (run.steps ++ other ∷ []) ≡ length run.steps + 1 = length_push run.steps other in
        let told : slice_get (steps_told state.time run.begins (run.steps ++ other ∷ [])) (length run.steps + 1) ≡ option_map (step_told_by code) (slice_get found.steps (length run.steps + 1)) =
        subst (λ (l : List StepSeen). slice_get (steps_told state.time run.begins (run.steps ++ l)) (length run.steps + 1) ≡ option_map (step_told_by code) (slice_get found.steps (length run.steps + 1)))
        later (told-here code is (length run.steps + 1)) in
        let none : slice_get (steps_told state.time run.begins (run.steps ++ other ∷ [])) (length run.steps + 1) ≡ None =
        ap (slice_get (steps_told state.time run.begins (run.steps ++ other ∷ []))) (sym place) ∙ told-none state.time run.begins (run.steps ++ other ∷ []) in
        behind-end code other (slice_get found.steps (length run.steps + 1)) (sym none ∙ told)
        (ap (λ (t : RunTold). t.activity) (tells.told code is) ∙ (λ i. activity_at_end (follows.begins i) (follows.steps i)) ∙ ap (λ (l : List StepSeen). activity_at_end run.begins (run.steps ++ l)) later
        ∙ end-push run.begins run.steps other)
    stands-so code is other (next ∷ rest) later =
        let place : length (run.steps ++ other ∷ []) ≡ length run.steps + 1 = length_push run.steps other in
        let told : slice_get (steps_told state.time run.begins (run.steps ++ other ∷ next ∷ rest)) (length run.steps + 1) ≡ option_map (step_told_by code) (slice_get found.steps (length run.steps + 1)) =
        subst (λ (l : List StepSeen). slice_get (steps_told state.time run.begins (run.steps ++ l)) (length run.steps + 1) ≡ option_map (step_told_by code) (slice_get found.steps (length run.steps + 1)))
        later (told-here code is (length run.steps + 1)) in
        let there : slice_get (steps_told state.time run.begins (run.steps ++ other ∷ next ∷ rest)) (length run.steps + 1) ≡ Some (step_told state.time (activity_after other) next) =
        ap (λ (l : List StepSeen). slice_get (steps_told state.time run.begins l) (length run.steps + 1)) (sym (append_assoc run.steps (other ∷ []) (next ∷ rest)))
        ∙ ap (slice_get (steps_told state.time run.begins ((run.steps ++ other ∷ []) ++ next ∷ rest))) (sym place)
        ∙ told-at state.time run.begins (run.steps ++ other ∷ []) next rest ∙ ap (λ (a : Activity). Some (step_told state.time a next)) (end-push run.begins run.steps other) in
        behind-step code other next rest (slice_get found.steps (length run.steps + 1)) (sym there ∙ told)

    -- and that is where the step of the definition leads, where it reads the same
    leads : (one : StepTaken) (n : Next one) → slice_get found.steps (length run.steps) ≡ Some one → ReadsAlike state.values one →
        activity_after n.other ≡ next_activity state.values (step_of machine state process).action (step_of machine state process).next
    leads one n at alike =
        let step = step_of machine state process in
        let read : n.other.read ≡ value_read state step.action = sym n.read ∙ sym alike ∙ reads-now one at in
        ap (λ (r : Option LogicValue). with_read r n.other.step.next) read ∙ ap (λ (s : ProcessStep). with_read (value_read state step.action) s.next) n.step
        ∙ sym (read-next state step.action step.next)

    stands-in : (code : Code) → IsCodeAt machine.design process code → IsStateOf code (stands_behind found (length run.steps))
    stands-in code is = go (slice_get found.steps (length run.steps + 1)) refl
      where
        go : (kept : Option StepTaken) → slice_get found.steps (length run.steps + 1) ≡ kept → IsStateOf code (found_or found.state (option_map (λ (step : StepTaken). step.state) kept))
        go None at = (tells.stand code is).0
        go (Some step) at = all-at (λ (one : StepTaken). IsStateOf code one.state) found.steps (length run.steps + 1) step (tells.stand code is).1 at

    -- the run follows on
    follows-on : (one : StepTaken) (n : Next one) → slice_get found.steps (length run.steps) ≡ Some one → ReadsAlike state.values one → FollowsSoFar (Some good) (run_behind machine state process run)
    follows-on one n at alike =
        let seen = seen_step machine state process in
        let same : seen ≡ n.other = same-seen seen n.other (sym n.step) (sym (reads-now one at) ∙ alike ∙ n.read) in
        record {
          one = good;
          is = refl;
          begins = follows.begins;
          later = n.rest;
          steps =
              follows.steps ∙ ap (λ (l : List StepSeen). run.steps ++ l) (n.later ∙ ap (λ (s : StepSeen). s ∷ n.rest) (sym same))
              ∙ sym (append_assoc run.steps (seen ∷ []) n.rest);
        }

    known : (line : ℕ) (act : StepAct) (next : ProcState) → IsKnownAt state.values found (length run.steps) line act next →
        IsKnownStep machine state process line act next × ((code : Code) → IsCodeAt machine.design process code → IsStateOf code next) ×
        FollowsSoFar (Some good) (run_behind machine state process run)
    known line act next is =
        let n = next-of is.one follows.later refl is.at in (
          record {
            line = is.line ∙ n.line ∙ ap (λ (s : ProcessStep). s.line) n.step;
            act = ap act_by is.act ∙ acts is.one is.at;
            does = λ code at. ap (activity_of code) is.behind ∙ stands-so code at n.other n.rest n.later ∙ leads is.one n is.at is.alike;
          },
          λ code at. subst (IsStateOf code) (sym is.behind) (stands-in code at),
          follows-on is.one n is.at is.alike,
        )

    -- It parts

    -- a run that the good machine's doesn't go on with has more steps
    longer : (later : List StepSeen) → follows.later ≡ later → slice_get found.steps (length run.steps) ≡ None → AllCount (Some good) (run_behind machine state process run)
    longer [] none at more own (inl shared) =
        let seen = seen_step machine state process in
        let same : good ≡ gone_on (gone_on run (seen ∷ [])) more = same_Some good (gone_on (gone_on run (seen ∷ [])) more) shared.0 in
        let short : length good.steps ≡ length run.steps = ap length (follows.steps ∙ ap (λ (l : List StepSeen). run.steps ++ l) none ∙ append-nil run.steps) in
        let long : length good.steps ≡ length ((run.steps ++ seen ∷ []) ++ more) = ap (λ (r : ProcessRun). length r.steps) same in
        let parts : length ((run.steps ++ seen ∷ []) ++ more) ≡ length (run.steps ++ seen ∷ []) + length more = length-append (run.steps ++ seen ∷ []) more in
        let one : length (run.steps ++ seen ∷ []) ≡ length run.steps + 1 = length_push run.steps seen in
        absurd (omega (arith, short, long, parts, one))
    longer [] none at more own (inr all) = all.1
    longer (other ∷ rest) later at more own counted =
        let told : slice_get (steps_told state.time run.begins (run.steps ++ other ∷ rest)) (length run.steps) ≡ None =
        subst (λ (l : List StepSeen). slice_get (steps_told state.time run.begins (run.steps ++ l)) (length run.steps) ≡ option_map (step_told_by tells.code) (slice_get found.steps (length run.steps)))
        later (told-here tells.code tells.is_code (length run.steps)) ∙ ap (option_map (step_told_by tells.code)) at in
        absurd (let clash : Some (step_told state.time (activity_at_end run.begins run.steps) other) ≡ None = sym (told-at state.time run.begins run.steps other rest) ∙ told in cc)

    parts : OwnRunsCount → PartsAt state.values found (length run.steps) → AllCount (Some good) (run_behind machine state process run)
    parts counts (HasEnded at) = longer follows.later refl at
    parts counts (ReadsOther one at differs) =
        let n = next-of one follows.later refl at in
        follows-no_more good run (length run.steps) (seen_step machine state process) n.other n.rest
        (record { begins = follows.begins; later = follows.later; steps = follows.steps; count_is = refl }) counts n.later
        (λ same. differs (reads-now one at ∙ same ∙ sym n.read))

-- A run that counts

-- goes on to count
stays : (good : Option ProcessRun) (run : ProcessRun) (more : List StepSeen) → AllCount good run → AllCount good (gone_on run more)
stays good run more all behind own counted =
    all (more ++ behind) own (subst (λ (l : List StepSeen). CountsOwn (good, record { begins = run.begins; steps = l }) own) (append_assoc run.steps more behind) counted)
    ∙ ap length (sym (append_assoc run.steps more behind))

pub known_steps_go_on : OwnRunsCount → KnownStepsGoOn
known_steps_go_on counts = record {
  first = λ machine state process good found one tells at. first machine state process good found tells one at;
  acts = λ machine state process run good found one tells in_run follows at. acts machine state process good found tells run in_run (following good run follows) one at;
  known = λ machine state process run good found line act next tells in_run follows is.
      known machine state process good found tells run in_run (following good run follows) line act next is;
  parts = λ machine state process run good found tells in_run follows at. parts machine state process good found tells run in_run (following good run follows) counts at;
  stepless = λ machine state process run good found tells at. stepless machine state process good found tells run good.steps refl at;
  alone = λ run. alone-counts run counts;
  other = λ good run differ. begun-counts good run counts differ;
  stays = stays;
}
