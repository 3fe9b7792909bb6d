-- Kept steps of a block are kept steps of its phase.
use Rattle.std.proofs.Common.{◌≡◌, ℕ, zero, suc, ◌+◌, Bool, true, false, List, [], ◌∷◌, ◌++◌, length, drop, refl, sym, ap, subst, ◌∙◌, inl, inr, append_assoc, append-nil, arith}
use Rattle.std.specs.Prelude.{if◌then◌else◌}
use Rattle.vf_base.specs.Base.{process_number}
use Rattle.v_design.specs.Designs.{Machine}
use Rattle.v_design.specs.OwnSteps.{ProcessRun, runs_of, steps_in}
use Rattle.v_design.specs.Processes.{ProcessStep}
use Rattle.v_design.specs.Runs.{happened}
use Rattle.v_design.specs.States.{State, Event, Step, next_activity, step_of}
use Rattle.process_code.specs.RunEnds.{act_of}
use Rattle.copy_laws.specs.OwnRuns.{EventsTakeNoTime, is_going, last_goes_on}
use Rattle.order_laws.proofs.ToFront.{happened-append}
use Rattle.phase_blocks.specs.Blocks.{IsBetweenRuns, RunsOfBlocks}
use Rattle.own_counts.specs.Counts.{OwnLast, behind_first}
use Rattle.good_runs.specs.Kept.{KeptAt, Keeps, StepPlace, next_place}
use Rattle.good_runs.specs.declared.tried.TriedStep.{TriedStep}

-- Runs behind others, which have stopped

-- the last one counts as own where it does beside the good runs behind as many
own-behind : (goods before after : List ProcessRun) → OwnLast (drop (length before) goods) after → OwnLast goods (before ++ after)
own-behind goods [] after own = own
own-behind goods (run ∷ before) [] own = absurd own
own-behind [] (run ∷ []) (one ∷ after) own = own
own-behind (good ∷ goods) (run ∷ []) (one ∷ after) own = own
own-behind [] (run ∷ next ∷ before) (one ∷ after) own = own-behind [] (next ∷ before) (one ∷ after) own
own-behind (good ∷ goods) (run ∷ next ∷ before) (one ∷ after) own = own-behind goods (next ∷ before) (one ∷ after) own

-- and the place of the next step is told from there on
place-stopped : (number taken : ℕ) (going : Bool) → going ≡ false →
    (if going then record { number = number; taken = taken } else record { number = number + 1; taken = 0 }) ≡ next_place (number + 1) []
place-stopped number taken true stops = cc
place-stopped number taken false stops = refl

place-behind-runs : (number : ℕ) (before after : List ProcessRun) → last_goes_on before ≡ false → next_place number (before ++ after) ≡ next_place (number + length before) after
place-behind-runs number [] after stops = let same : number ≡ number + 0 = omega arith in ap (λ n. next_place n after) same
place-behind-runs number (run ∷ []) [] stops = place-stopped number (length run.steps) (is_going run.steps) stops
place-behind-runs number (run ∷ []) (next ∷ after) stops = refl
place-behind-runs number (run ∷ next ∷ before) after stops =
    let same : (number + 1) + length (next ∷ before) ≡ number + length (run ∷ next ∷ before) = omega arith in
    place-behind-runs (number + 1) (next ∷ before) after stops ∙ ap (λ n. next_place n after) same

-- A block

module _ (machine : Machine) (goods : ℕ → List ProcessRun) (numbers : ℕ → ℕ) (phase : ℕ) (begins : State) (passed : List Event) (time : EventsTakeNoTime) (law : RunsOfBlocks)
    (between : IsBetweenRuns machine begins passed) (counts : (process : ℕ) → numbers process ≡ length (runs_of (steps_in machine process begins passed))) where
  state-behind : (before : List Event) → happened machine begins (passed ++ before) ≡ happened machine (happened machine begins passed) before
  state-behind before = happened-append machine begins passed before

  runs-behind : (process : ℕ) (events : List Event) →
      runs_of (steps_in machine process begins (passed ++ events)) ≡ runs_of (steps_in machine process begins passed) ++ runs_of (steps_in machine process (happened machine begins passed) events)
  runs-behind process events = law machine process begins passed events between

  at-behind : (before : List Event) (process : ℕ) (tried : TriedStep) → KeptAt goods numbers machine phase (happened machine begins passed) before process tried →
      KeptAt goods (λ other. 0) machine phase begins (passed ++ before) process tried
  at-behind before process tried kept =
      let first = runs_of (steps_in machine process begins passed) in
      let there = happened machine begins passed in
      let back = sym (state-behind before) in
      let same : step_of machine (happened machine there before) process ≡ step_of machine (happened machine begins (passed ++ before)) process =
      ap (λ (s : State). step_of machine s process) back in
      record {
        there = kept.there;
        own = subst (λ (events : List Event). OwnLast (goods process) (runs_of (steps_in machine process begins events))) (sym (append_assoc passed before (Step process ∷ [])))
            (subst (OwnLast (goods process)) (sym (runs-behind process (before ++ Step process ∷ [])))
            (own-behind (goods process) first (runs_of (steps_in machine process there (before ++ Step process ∷ [])))
            (subst (λ n. OwnLast (drop n (goods process)) (runs_of (steps_in machine process there (before ++ Step process ∷ [])))) (counts process) kept.own)));
        phase_is = kept.phase_is;
        process_is = kept.process_is;
        place =
            kept.place ∙ ap (λ n. next_place n (runs_of (steps_in machine process there before))) (counts process ∙ none (length first))
            ∙ sym (place-behind-runs 0 first (runs_of (steps_in machine process there before)) (between.runs process)) ∙ ap (next_place 0) (sym (runs-behind process before));
        line = kept.line ∙ ap (λ (step : ProcessStep). step.line) same;
        act = kept.act ∙ (λ i. act_of (time machine begins passed i) (same i).action);
        stands = kept.stands;
        does = λ code is. kept.does code is ∙ (λ i. next_activity (back i).values (same i).action (same i).next);
      }
    where
      none : (n : ℕ) → n ≡ 0 + n
      none n = omega arith

  pub keeps-behind : (before events : List Event) (tried : List TriedStep) → Keeps goods numbers machine phase (happened machine begins passed) before events tried →
      Keeps goods (λ other. 0) machine phase begins (passed ++ before) events tried
  keeps-behind before [] [] keeps = tt
  keeps-behind before [] (step ∷ tried) keeps = absurd keeps
  keeps-behind before (event ∷ events) [] keeps =
      subst (λ (l : List Event). Keeps goods (λ other. 0) machine phase begins l events []) (sym (append_assoc passed before (event ∷ []))) (keeps-behind (before ++ event ∷ []) events [] keeps)
  keeps-behind before (event ∷ events) (step ∷ tried) (inl keeps) =
      inl (subst (λ (l : List Event). Keeps goods (λ other. 0) machine phase begins l events (step ∷ tried)) (sym (append_assoc passed before (event ∷ [])))
      (keeps-behind (before ++ event ∷ []) events (step ∷ tried) keeps))
  keeps-behind before (event ∷ events) (step ∷ tried) (inr keeps) = inr (
    keeps.0,
    at-behind before (process_number step.process) step keeps.1,
    subst (λ (l : List Event). Keeps goods (λ other. 0) machine phase begins l events tried) (sym (append_assoc passed before (event ∷ [])))
        (keeps-behind (before ++ event ∷ []) events tried keeps.2),
  )
