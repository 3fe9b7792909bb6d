-- Steps that are kept of some events.
use Rattle.std.proofs.Common.{◌≡◌, ℕ, List, [], ◌∷◌, ◌++◌, refl, sym, ap, subst, ◌∙◌, inl, inr}
use Rattle.std.proofs.lemmas.Bool.{eq-eqb, true≢false}
use Rattle.std.proofs.lemmas.List.{append_assoc, append-nil}
use Rattle.vf_base.specs.Base.{process_number}
use Rattle.vf_base.specs.Lists.{AllHold}
use Rattle.v_design.specs.Designs.{Machine}
use Rattle.v_design.specs.OwnSteps.{ProcessRun}
use Rattle.v_design.specs.PhaseLogs.{is_step_of}
use Rattle.v_design.specs.States.{State, Event, Step, LaneStep, Evaluation, NetUpdate}
use Rattle.copy_laws.specs.OwnRuns.{RunsGrow, StepsGrow}
use Rattle.good_runs.specs.Kept.{Keeps, KeptAt, StepPlace, place_of}
use Rattle.good_runs.specs.declared.tried.TriedStep.{TriedStep}
use Rattle.own_slots.specs.Again.{IsNoStep}
use Rattle.own_slots.proofs.Places.{ComesBefore, ComesBy, before-by, by-same, not-before, place_behind, step-later, step-on}

-- the process that steps
abbrev stepper : Event → ℕ
stepper (Step process) = process
stepper (LaneStep process) = 0
stepper (Evaluation node) = 0
stepper (NetUpdate node) = 0

module _ (goods : ℕ → List ProcessRun) (numbers : ℕ → ℕ) (machine : Machine) (phase : ℕ) (begins : State) where
  pub kept-none : (before events : List Event) → Keeps goods numbers machine phase begins before events []
  kept-none before [] = tt
  kept-none before (event ∷ events) = kept-none (before ++ event ∷ []) events

  pub kept-empty : (before : List Event) (tried : List TriedStep) → Keeps goods numbers machine phase begins before [] tried → tried ≡ []
  kept-empty before [] kept = refl
  kept-empty before (one ∷ tried) kept = absurd kept

  -- an event of which nothing is kept
  kept-skip : (before : List Event) (event : Event) (events : List Event) (tried : List TriedStep) → Keeps goods numbers machine phase begins (before ++ event ∷ []) events tried →
      Keeps goods numbers machine phase begins before (event ∷ events) tried
  kept-skip before event events [] kept = kept
  kept-skip before event events (one ∷ tried) kept = inl kept

  -- behind some events
  pub kept-join : (before events behind : List Event) (tried more : List TriedStep) → Keeps goods numbers machine phase begins before events tried →
      Keeps goods numbers machine phase begins (before ++ events) behind more → Keeps goods numbers machine phase begins before (events ++ behind) (tried ++ more)
  kept-join before [] behind [] more kept later = subst (λ (l : List Event). Keeps goods numbers machine phase begins l behind more) (append-nil before) later
  kept-join before [] behind (one ∷ tried) more kept later = absurd kept
  kept-join before (event ∷ events) behind [] more kept later =
      kept-skip before event (events ++ behind) more
      (kept-join (before ++ event ∷ []) events behind [] more kept
      (subst (λ (l : List Event). Keeps goods numbers machine phase begins l behind more) (sym (append_assoc before (event ∷ []) events)) later))
  kept-join before (event ∷ events) behind (one ∷ tried) more (inl kept) later =
      inl
      (kept-join (before ++ event ∷ []) events behind (one ∷ tried) more kept
      (subst (λ (l : List Event). Keeps goods numbers machine phase begins l behind more) (sym (append_assoc before (event ∷ []) events)) later))
  kept-join before (event ∷ events) behind (one ∷ tried) more (inr first) later =
      inr (
        first.0,
        first.1,
        kept-join (before ++ event ∷ []) events behind tried more first.2
            (subst (λ (l : List Event). Keeps goods numbers machine phase begins l behind more) (sym (append_assoc before (event ∷ []) events)) later),
      )

  -- events that are no steps
  pub kept-past : (before events behind : List Event) (tried : List TriedStep) → AllHold IsNoStep events → Keeps goods numbers machine phase begins before (events ++ behind) tried →
      Keeps goods numbers machine phase begins (before ++ events) behind tried
  kept-past before [] behind tried none kept = subst (λ (l : List Event). Keeps goods numbers machine phase begins l behind tried) (sym (append-nil before)) kept
  kept-past before (event ∷ events) behind [] none kept =
      subst (λ (l : List Event). Keeps goods numbers machine phase begins l behind []) (append_assoc before (event ∷ []) events)
      (kept-past (before ++ event ∷ []) events behind [] none.1 kept)
  kept-past before (event ∷ events) behind (one ∷ tried) none (inl kept) =
      subst (λ (l : List Event). Keeps goods numbers machine phase begins l behind (one ∷ tried)) (append_assoc before (event ∷ []) events)
      (kept-past (before ++ event ∷ []) events behind (one ∷ tried) none.1 kept)
  kept-past before (event ∷ events) behind (one ∷ tried) none (inr first) =
      let process = process_number one.process in
      absurd (true≢false (sym (eq-eqb process process refl) ∙ sym (ap (is_step_of process) first.0) ∙ none.0 process))

  -- all are of the phase
  pub kept-phase : (before events : List Event) (one : TriedStep) (tried : List TriedStep) → Keeps goods numbers machine phase begins before events (one ∷ tried) → one.phase ≡ phase
  kept-phase before [] one tried kept = absurd kept
  kept-phase before (event ∷ events) one tried (inl kept) = kept-phase (before ++ event ∷ []) events one tried kept
  kept-phase before (event ∷ events) one tried (inr first) = first.1.phase_is

  -- a step that hasn't the place of the first one
  pub kept-other : (before : List Event) (process : ℕ) (events : List Event) (tried : List TriedStep) →
      ((one : TriedStep) (rest : List TriedStep) → tried ≡ one ∷ rest → one.phase ≡ phase → process_number one.process ≡ process →
      place_of one ≡ place_behind machine begins before process (numbers process) → ⊥) → Keeps goods numbers machine phase begins before (Step process ∷ events) tried →
      Keeps goods numbers machine phase begins (before ++ Step process ∷ []) events tried
  kept-other before process events [] other kept = kept
  kept-other before process events (one ∷ tried) other (inl kept) = kept
  kept-other before process events (one ∷ tried) other (inr first) =
      let same : process_number one.process ≡ process = sym (ap stepper first.0) in
      absurd
      (other one tried refl first.1.phase_is same
      (subst (λ (p : ℕ). place_of one ≡ place_behind machine begins before p (numbers p)) same first.1.place))

  module _ (steps_grow : StepsGrow) (runs_grow : RunsGrow) where
    -- the first one comes at its place, or after it
    kept-by : (before events : List Event) (one : TriedStep) (tried : List TriedStep) → Keeps goods numbers machine phase begins before events (one ∷ tried) →
        ComesBy (place_behind machine begins before (process_number one.process) (numbers (process_number one.process))) (place_of one)
    kept-by before [] one tried kept = absurd kept
    kept-by before (event ∷ events) one tried (inl kept) =
        let process = process_number one.process in
        step-on steps_grow runs_grow machine begins before process (numbers process) event (place_of one) (kept-by (before ++ event ∷ []) events one tried kept)
    kept-by before (event ∷ events) one tried (inr first) =
        let process = process_number one.process in
        by-same (place_behind machine begins before process (numbers process)) (place_of one) (sym first.1.place)

    -- a step that has its place is it
    pub kept-here : (before : List Event) (process : ℕ) (events : List Event) (one : TriedStep) (tried : List TriedStep) → process_number one.process ≡ process →
        place_of one ≡ place_behind machine begins before process (numbers process) → Keeps goods numbers machine phase begins before (Step process ∷ events) (one ∷ tried) →
        KeptAt goods numbers machine phase begins before process one × Keeps goods numbers machine phase begins (before ++ Step process ∷ []) events tried
    kept-here before process events one tried same place (inl kept) =
        let by = kept-by (before ++ Step process ∷ []) events one tried kept in
        let here : ComesBy (place_behind machine begins (before ++ Step process ∷ []) process (numbers process)) (place_of one) =
        subst (λ (p : ℕ). ComesBy (place_behind machine begins (before ++ Step process ∷ []) p (numbers p)) (place_of one)) same by in
        let late =
        before-by (place_behind machine begins before process (numbers process)) (place_behind machine begins (before ++ Step process ∷ []) process (numbers process)) (place_of one)
        (step-later steps_grow runs_grow machine begins before process (numbers process)) here in
        absurd
        (not-before (place_behind machine begins before process (numbers process))
        (subst (λ (p : StepPlace). ComesBefore (place_behind machine begins before process (numbers process)) p) place late))
    kept-here before process events one tried same place (inr first) =
        (subst (λ (p : ℕ). KeptAt goods numbers machine phase begins before p one) same first.1, first.2)
