-- Blocks behind one another: whether runs go on, and which runs there are.
use Rattle.std.proofs.Common.{◌≡◌, ℕ, List, [], ◌∷◌, ◌++◌, Bool, true, false, refl, sym, ap, ◌∙◌, ◌⊎◌, inl, inr}
use Rattle.std.specs.Prelude.{take}
use Rattle.std.proofs.lemmas.List.{append-nil, append_assoc}
use Rattle.v_design.specs.Designs.{Machine}
use Rattle.v_design.specs.Processes.{Activity}
use Rattle.v_design.specs.States.{State, Event, is_ready, is_any}
use Rattle.v_design.specs.Runs.{happened, work_of}
use Rattle.v_design.specs.OwnSteps.{StepSeen, ProcessRun, steps_in, run_before, runs_of}
use Rattle.copy_laws.specs.OwnRuns.{last_goes_on, RunsGrow}
use Rattle.phase_blocks.specs.Blocks.{run_goes_on, BlocksJoin, BlocksStand, RunsOfBlocks}
use Rattle.phase_blocks.proofs.Lists.{true-false, happened-append, first-behind}
use Rattle.phase_blocks.proofs.Going.{RunLaws, last-step}

abbrev LastOf : {A : Type 0} → List A → Type 0
LastOf {A} xs = (xs ≡ []) ⊎ ((front : List A) × (last : A) × (xs ≡ front ++ last ∷ []))

last-of : {A : Type 0} (xs : List A) → LastOf xs
last-of [] = inl refl
last-of (x ∷ xs) = elim (last-of xs) [
  | inl none ↦ inr ([], x, ap (λ l. x ∷ l) none)
  | inr some ↦ inr (x ∷ some.0, some.1, ap (λ l. x ∷ l) some.2)
]

-- behind steps that are in no run others go on as by themselves
goes-joined : RunsGrow → (one other : List (Activity × StepSeen)) → last_goes_on (runs_of one) ≡ false → last_goes_on (runs_of (one ++ other)) ≡ last_goes_on (runs_of other)
goes-joined law one other none = elim (last-of other) [
  | inl empty ↦
      ap (λ l. last_goes_on (runs_of (one ++ l))) empty ∙ ap (λ l. last_goes_on (runs_of l)) (append-nil one) ∙ none ∙ sym (ap (λ l. last_goes_on (runs_of l)) empty)
  | inr some ↦
      ap (λ l. last_goes_on (runs_of (one ++ l))) some.2 ∙ ap (λ l. last_goes_on (runs_of l)) (sym (append_assoc one some.0 (some.1 ∷ [])))
      ∙ last-step law (one ++ some.0) some.1 ∙ sym (last-step law some.0 some.1) ∙ sym (ap (λ l. last_goes_on (runs_of l)) some.2)
]

runs-joined : RunLaws → (machine : Machine) (begins : State) (before events : List Event) (p : ℕ) → run_goes_on machine begins before p ≡ false →
    run_goes_on machine begins (before ++ events) p ≡ run_goes_on machine (happened machine begins before) events p
runs-joined laws machine begins before events p none =
    ap (λ l. last_goes_on (runs_of l)) (laws.join machine p begins before events)
    ∙ goes-joined laws.runs (steps_in machine p begins before) (steps_in machine p (happened machine begins before) events) none

pub blocks_join : RunLaws → BlocksJoin
blocks_join laws machine begins before events between = (
  λ own. record {
    nodes = ap (λ (s : State). work_of 0 s.nodes) (happened-append machine begins before events) ∙ own.nodes;
    runs = λ p. runs-joined laws machine begins before events p (between.runs p) ∙ own.runs p;
  },
  λ all. record {
    nodes = ap (λ (s : State). work_of 0 s.nodes) (sym (happened-append machine begins before events)) ∙ all.nodes;
    runs = λ p. sym (runs-joined laws machine begins before events p (between.runs p)) ∙ all.runs p;
  },
)

-- between two moments between runs next to each other stands a whole block
pub blocks_stand : RunLaws → BlocksStand
blocks_stand laws machine begins before block start first some ends none = record {
  some = some;
  first = first-behind machine begins before block first;
  ends = (blocks_join laws machine begins before block start).1 ends;
  none = λ number low high between. none number low high ((blocks_join laws machine begins before (take number block) start).0 between);
}

-- Runs

-- a step before others leaves whether the last run goes on
goes-behind : RunsGrow → (first next : Activity × StepSeen) (rest : List (Activity × StepSeen)) → last_goes_on (runs_of (first ∷ next ∷ rest)) ≡ last_goes_on (runs_of (next ∷ rest))
goes-behind law first next rest = elim (last-of (next ∷ rest)) [
  | inl empty ↦ cc
  | inr some ↦
      ap (λ l. last_goes_on (runs_of (first ∷ l))) some.2 ∙ last-step law (first ∷ some.0) some.1 ∙ sym (last-step law some.0 some.1)
      ∙ sym (ap (λ l. last_goes_on (runs_of l)) some.2)
]

before-any : (b : Bool) (first : Activity × StepSeen) (runs : List ProcessRun) → is_any (run_before b first runs) ≡ true
before-any false first runs = refl
before-any true first [] = refl
before-any true first (run ∷ runs) = refl

-- a step before some runs is one before them and others
before-joined : (b : Bool) (first : Activity × StepSeen) (runs others : List ProcessRun) → is_any runs ≡ true → run_before b first (runs ++ others) ≡ run_before b first runs ++ others
before-joined b first [] others e = cc
before-joined false first (run ∷ runs) others e = refl
before-joined true first (run ∷ runs) others e = refl

sole : (b : Bool) (first : Activity × StepSeen) (others : List ProcessRun) → last_goes_on (run_before b first []) ≡ false → is_ready first.1.step.next ≡ b →
    run_before b first others ≡ run_before b first [] ++ others
sole false first others none e = refl
sole true first others none e = true-false (is_ready first.1.step.next) e none

runs-append : RunsGrow → (one other : List (Activity × StepSeen)) → last_goes_on (runs_of one) ≡ false → runs_of (one ++ other) ≡ runs_of one ++ runs_of other
runs-append law [] other none = refl
runs-append law (first ∷ []) other none = sole (is_ready first.1.step.next) first (runs_of other) none refl
runs-append law (first ∷ next ∷ rest) other none =
    ap (run_before (is_ready first.1.step.next) first) (runs-append law (next ∷ rest) other (sym (goes-behind law first next rest) ∙ none))
    ∙ before-joined (is_ready first.1.step.next) first (runs_of (next ∷ rest)) (runs_of other) (before-any (is_ready next.1.step.next) next (runs_of rest))

pub runs_of_blocks : RunLaws → RunsOfBlocks
runs_of_blocks laws machine process begins before events between =
    ap runs_of (laws.join machine process begins before events)
    ∙ runs-append laws.runs (steps_in machine process begins before) (steps_in machine process (happened machine begins before) events) (between.runs process)
