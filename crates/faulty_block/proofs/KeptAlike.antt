-- Kept steps, and runs, from states that are alike but for what processes have yet to write.
use Rattle.std.proofs.Common.{◌≡◌, ℕ, Bool, List, [], ◌∷◌, ◌++◌, drop, refl, sym, ap, subst, ◌∙◌, inl, inr, append_assoc, append-nil}
use Rattle.std.specs.Prelude.{Option, Some}
use Rattle.four_value.specs.Values.{LogicValue}
use Rattle.vf_base.specs.Base.{process_number}
use Rattle.vf_base.specs.Lists.{AllHold}
use Rattle.v_design.specs.Assignments.{value_at}
use Rattle.v_design.specs.Designs.{Machine}
use Rattle.v_design.specs.OwnSteps.{ProcessRun, StepSeen, runs_of, seen_if, seen_step, steps_in, value_read}
use Rattle.v_design.specs.PhaseLogs.{is_step_of}
use Rattle.v_design.specs.Processes.{Activity, Action, ReadsObject, WritesObject, AppendsUpdate, TouchesNothing, ProcessStep}
use Rattle.v_design.specs.Runs.{happened}
use Rattle.v_design.specs.States.{State, Event, Step, activity_step, after, next_activity, process_at, step_of}
use Rattle.process_code.specs.Points.{activity_of}
use Rattle.process_code.specs.RunEnds.{act_of}
use Rattle.copy_laws.specs.OwnRuns.{StepsGrow}
use Rattle.order_laws.proofs.RunsEndAlike.{happened-more}
use Rattle.own_counts.specs.Counts.{OwnLast}
use Rattle.good_runs.specs.Kept.{KeptAt, Keeps, next_place}
use Rattle.good_runs.specs.declared.tried.TriedStep.{TriedStep}
use Rattle.unseen_writes.specs.Unseen.{AreAlike, StepsLane, WritesAreUnseen}
use Rattle.unseen_writes.proofs.Alike.{step-same}

-- The step of a process, in one state and in another

read-same : (one other : State) (action : Action) → other.values ≡ one.values → value_read other action ≡ value_read one action
read-same one other (ReadsObject object) same = ap (λ (values : List LogicValue). Some (value_at values object)) same
read-same one other (WritesObject update) same = refl
read-same one other (AppendsUpdate delay update) same = refl
read-same one other TouchesNothing same = refl

module _ (grow : StepsGrow) (law : WritesAreUnseen) (machine : Machine) (parts : ℕ → Bool) (one other : State) where
  -- the states behind some events are alike, and each process took the same steps in these
  pub record GoAlike (before : List Event) : Type 0 where
    pub alike : AreAlike parts (happened machine one before) (happened machine other before)
    pub steps : (process : ℕ) → steps_in machine process other before ≡ steps_in machine process one before

  step-alike : (before : List Event) → GoAlike before → (process : ℕ) → step_of machine (happened machine other before) process ≡ step_of machine (happened machine one before) process
  step-alike before go process =
      let a = happened machine one before in
      let b = happened machine other before in
      ap (activity_step machine b process) (go.alike.each process).activity ∙ step-same machine a b process (process_at a process).activity go.alike.time

  seen-alike : (before : List Event) → GoAlike before → (process : ℕ) → seen_step machine (happened machine other before) process ≡ seen_step machine (happened machine one before) process
  seen-alike before go process =
      let a = happened machine one before in
      let b = happened machine other before in
      let same = step-alike before go process in
      let read : value_read b (step_of machine b process).action ≡ value_read a (step_of machine a process).action =
      read-same a b (step_of machine b process).action go.alike.values ∙ ap (λ (step : ProcessStep). value_read a step.action) same in
      λ i. record { step = same i; read = read i }

  pub begin-alike : AreAlike parts one other → GoAlike []
  begin-alike alike = record { alike = alike; steps = λ process. refl }

  go-alike : (before : List Event) (event : Event) → GoAlike before → StepsLane parts event → GoAlike (before ++ event ∷ [])
  go-alike before event go may =
      let a = happened machine one before in
      let b = happened machine other before in
      record {
        alike = subst (λ (s : State). AreAlike parts s (happened machine other (before ++ event ∷ []))) (sym (happened-more machine one before event))
            (subst (AreAlike parts (after machine a event)) (sym (happened-more machine other before event)) (law.goes machine parts a b event go.alike may));
        steps = λ process.
            let was = (go.alike.each process).activity in
            let seen = seen-alike before go process in
            grow machine process other before event ∙ (λ i. go.steps process i ++ seen_if (is_step_of process event) (was i, seen i) []) ∙ sym (grow machine process one before event);
      }

  -- a step that is kept from the one on is kept from the other on
  module _ (goods : ℕ → List ProcessRun) (numbers : ℕ → ℕ) (phase : ℕ) (time : other.time ≡ one.time) where
    at-alike : (before : List Event) (process : ℕ) (tried : TriedStep) → GoAlike before → KeptAt goods numbers machine phase other before process tried → KeptAt goods numbers machine phase one before process tried
    at-alike before process tried go kept =
        let next = go-alike before (Step process) go tt in
        let same = step-alike before go process in
        let a = happened machine one before in
        let b = happened machine other before in
        record {
          there = kept.there;
          own = subst (OwnLast (drop (numbers process) (goods process))) (ap runs_of (next.steps process)) kept.own;
          phase_is = kept.phase_is;
          process_is = kept.process_is;
          place = kept.place ∙ ap (λ l. next_place (numbers process) (runs_of l)) (go.steps process);
          line = kept.line ∙ ap (λ (step : ProcessStep). step.line) same;
          act = kept.act ∙ (λ i. act_of (time i) (same i).action);
          stands = kept.stands;
          does = λ code is. kept.does code is ∙ (λ i. next_activity (go.alike.values i) (same i).action (same i).next);
        }

    pub keeps-alike : (before events : List Event) (tried : List TriedStep) → GoAlike before → AllHold (StepsLane parts) events → Keeps goods numbers machine phase other before events tried →
        Keeps goods numbers machine phase one before events tried
    keeps-alike before [] [] go may keeps = tt
    keeps-alike before [] (step ∷ tried) go may keeps = absurd keeps
    keeps-alike before (event ∷ events) [] go may keeps = keeps-alike (before ++ event ∷ []) events [] (go-alike before event go may.0) may.1 keeps
    keeps-alike before (event ∷ events) (step ∷ tried) go may (inl keeps) = inl (keeps-alike (before ++ event ∷ []) events (step ∷ tried) (go-alike before event go may.0) may.1 keeps)
    keeps-alike before (event ∷ events) (step ∷ tried) go may (inr keeps) = inr (
      keeps.0,
      at-alike before (process_number step.process) step go keeps.1,
      keeps-alike (before ++ event ∷ []) events tried (go-alike before event go may.0) may.1 keeps.2,
    )

  -- each process takes the same steps in events from both
  pub steps-alike : (before events : List Event) → GoAlike before → AllHold (StepsLane parts) events → (process : ℕ) →
      steps_in machine process other (before ++ events) ≡ steps_in machine process one (before ++ events)
  steps-alike before [] go may process =
      ap (steps_in machine process other) (append-nil before) ∙ go.steps process ∙ sym (ap (steps_in machine process one) (append-nil before))
  steps-alike before (event ∷ events) go may process =
      let rest = steps-alike (before ++ event ∷ []) events (go-alike before event go may.0) may.1 process in
      let same = append_assoc before (event ∷ []) events in
      sym (ap (steps_in machine process other) same) ∙ rest ∙ ap (steps_in machine process one) same
