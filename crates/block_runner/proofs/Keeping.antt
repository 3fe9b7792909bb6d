-- Steps that are kept, one stretch of events after another.
use Rattle.std.proofs.Common.{◌≡◌, ℕ, ◌+◌, List, [], ◌∷◌, ◌++◌, length, drop, refl, sym, ap, subst, ◌∙◌, inl, inr, append-nil, append_assoc}
use Rattle.std.specs.Prelude.{slice_get}
use Rattle.vf_base.specs.Base.{process_number}
use Rattle.v_design.specs.Designs.{Machine}
use Rattle.v_design.specs.OwnSteps.{ProcessRun}
use Rattle.v_design.specs.States.{State, Event, Step}
use Rattle.good_runs.specs.Kept.{KeptAt, Keeps}
use Rattle.good_runs.specs.declared.tried.TriedStep.{TriedStep}

module _ (goods : ℕ → List ProcessRun) (numbers : ℕ → ℕ) (machine : Machine) (phase : ℕ) (begins : State) where
  -- events of which no step is kept
  pub keeps-none : (before events : List Event) → Keeps goods numbers machine phase begins before events []
  keeps-none before [] = tt
  keeps-none before (event ∷ events) = keeps-none (before ++ event ∷ []) events

  -- an event more before the others
  passes : (before : List Event) (event : Event) (events : List Event) (tried : List TriedStep) → Keeps goods numbers machine phase begins (before ++ event ∷ []) events tried →
      Keeps goods numbers machine phase begins before (event ∷ events) tried
  passes before event events [] keeps = keeps
  passes before event events (one ∷ tried) keeps = inl keeps

  -- one stretch after another
  pub keeps-append : (before events later : List Event) (tried more : List TriedStep) → Keeps goods numbers machine phase begins before events tried →
      Keeps goods numbers machine phase begins (before ++ events) later more → Keeps goods numbers machine phase begins before (events ++ later) (tried ++ more)
  keeps-append before [] later [] more keeps next = subst (λ (es : List Event). Keeps goods numbers machine phase begins es later more) (append-nil before) next
  keeps-append before [] later (one ∷ tried) more keeps next = absurd keeps
  keeps-append before (event ∷ events) later [] more keeps next =
      passes before event (events ++ later) more
      (keeps-append (before ++ event ∷ []) events later [] more keeps
      (subst (λ (es : List Event). Keeps goods numbers machine phase begins es later more) (sym (append_assoc before (event ∷ []) events)) next))
  keeps-append before (event ∷ events) later (one ∷ tried) more keeps next = elim keeps [
    | inl rest ↦ inl (keeps-append (before ++ event ∷ []) events later (one ∷ tried) more rest
        (subst (λ (es : List Event). Keeps goods numbers machine phase begins es later more) (sym (append_assoc before (event ∷ []) events)) next))
    | inr first ↦ inr (
      first.0,
      first.1,
      keeps-append (before ++ event ∷ []) events later tried more first.2
          (subst (λ (es : List Event). Keeps goods numbers machine phase begins es later more) (sym (append_assoc before (event ∷ []) events)) next),
    )
  ]

  -- one step that is kept
  pub keeps-one : (before : List Event) (process : ℕ) (one : TriedStep) → KeptAt goods numbers machine phase begins before process one →
      Keeps goods numbers machine phase begins before (Step process ∷ []) (one ∷ [])
  keeps-one before process one kept =
      inr (ap Step (sym kept.process_is), subst (λ (p : ℕ). KeptAt goods numbers machine phase begins before p one) (sym kept.process_is) kept, tt)

-- what comes behind some elements
pub drop-append : {A : Type 0} (xs ys : List A) → drop (length xs) (xs ++ ys) ≡ ys
drop-append [] ys = refl
drop-append (x ∷ xs) ys = drop-append xs ys

pub behind-old : {A : Type 0} (old new more : List A) → new ≡ old ++ more → drop (length old) new ≡ more
behind-old old new more is = ap (drop (length old)) is ∙ drop-append old more
