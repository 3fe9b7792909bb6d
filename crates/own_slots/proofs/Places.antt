-- The places of a process's steps rise.
use Rattle.std.proofs.Common.{◌≡◌, ℕ, ◌+◌, ◌<◌, ◌≤◌, Bool, true, false, List, [], ◌∷◌, ◌++◌, length, refl, sym, ap, subst, ◌∙◌, inl, inr, arith}
use Rattle.std.specs.Prelude.{◌⊎◌, if◌then◌else◌}
use Rattle.std.proofs.lemmas.Bool.{eq-eqb, true≢false}
use Rattle.std.proofs.lemmas.List.{append-nil, length-append}
use Rattle.v_design.specs.Designs.{Machine}
use Rattle.v_design.specs.OwnSteps.{ProcessRun, StepSeen, runs_of, seen_if, seen_step, steps_in}
use Rattle.v_design.specs.PhaseLogs.{is_step_of}
use Rattle.v_design.specs.Processes.{Activity}
use Rattle.v_design.specs.Runs.{happened}
use Rattle.v_design.specs.States.{State, Event, Step, is_any, process_at}
use Rattle.copy_laws.specs.OwnRuns.{RunsGrow, StepsGrow, grow, grown, is_going}
use Rattle.good_runs.specs.Kept.{StepPlace, next_place}

-- one place comes before another
abbrev pub ComesBefore : StepPlace → StepPlace → Type 0
ComesBefore one other = (one.number < other.number) ⊎ ((one.number ≡ other.number) × (one.taken < other.taken))

-- or it is the same
abbrev pub ComesBy : StepPlace → StepPlace → Type 0
ComesBy one other = (one.number < other.number) ⊎ ((one.number ≡ other.number) × (one.taken ≤ other.taken))

pub before-by : (one other last : StepPlace) → ComesBefore one other → ComesBy other last → ComesBefore one last
before-by one other last (inl low) (inl high) = inl (omega (arith, low, high))
before-by one other last (inl low) (inr same) = let e = same.0 in inl (omega (arith, low, e))
before-by one other last (inr same) (inl high) = let e = same.0 in inl (omega (arith, high, e))
before-by one other last (inr same) (inr next) =
    let e = same.0 in
    let f = next.0 in
    let low = same.1 in
    let high = next.1 in
    inr (omega (arith, e, f), omega (arith, low, high))

by-by : (one other last : StepPlace) → ComesBy one other → ComesBy other last → ComesBy one last
by-by one other last (inl low) (inl high) = inl (omega (arith, low, high))
by-by one other last (inl low) (inr same) = let e = same.0 in inl (omega (arith, low, e))
by-by one other last (inr same) (inl high) = let e = same.0 in inl (omega (arith, high, e))
by-by one other last (inr same) (inr next) =
    let e = same.0 in
    let f = next.0 in
    let low = same.1 in
    let high = next.1 in
    inr (omega (arith, e, f), omega (arith, low, high))

pub not-before : (one : StepPlace) → ComesBefore one one → ⊥
not-before one (inl low) = omega (arith, low)
not-before one (inr same) = let low = same.1 in omega (arith, low)

before-is-by : (one other : StepPlace) → ComesBefore one other → ComesBy one other
before-is-by one other (inl low) = inl low
before-is-by one other (inr same) = let low = same.1 in inr (same.0, omega (arith, low))

pub by-same : (one other : StepPlace) → one ≡ other → ComesBy one other
by-same one other same = subst (λ (p : StepPlace). ComesBy one p) same (inr (refl, omega arith))

-- A step more

place-if : (number low count : ℕ) (going : Bool) → low < count →
    ComesBefore (record { number = number; taken = low }) (if going then record { number = number; taken = count } else record { number = number + 1; taken = 0 })
place-if number low count true less = inr (refl, less)
place-if number low count false less = inl (omega arith)

place-grown : (number : ℕ) (run : ProcessRun) (step : Activity × StepSeen) (going : Bool) →
    ComesBefore (if going then record { number = number; taken = length run.steps } else record { number = number + 1; taken = 0 }) (next_place number (grown going run step))
place-grown number run step true =
    let long = length-append run.steps (step.1 ∷ []) in
    place-if number (length run.steps) (length (run.steps ++ step.1 ∷ [])) (is_going (run.steps ++ step.1 ∷ [])) (omega (arith, long))
place-grown number run step false = place-if (number + 1) 0 1 (is_going (step.1 ∷ [])) (omega arith)

grown-some : (going : Bool) (run : ProcessRun) (step : Activity × StepSeen) → is_any (grown going run step) ≡ true
grown-some true run step = refl
grown-some false run step = refl

grow-some : (runs : List ProcessRun) (step : Activity × StepSeen) → is_any (grow runs step) ≡ true
grow-some [] step = refl
grow-some (run ∷ []) step = grown-some (is_going run.steps) run step
grow-some (run ∷ next ∷ runs) step = refl

place-behind : (number : ℕ) (run : ProcessRun) (runs : List ProcessRun) → is_any runs ≡ true → next_place number (run ∷ runs) ≡ next_place (number + 1) runs
place-behind number run [] some = absurd (true≢false (sym some))
place-behind number run (next ∷ runs) some = refl

grow-later : (number : ℕ) (runs : List ProcessRun) (step : Activity × StepSeen) → ComesBefore (next_place number runs) (next_place number (grow runs step))
grow-later number [] step = place-if number 0 1 (is_going (step.1 ∷ [])) (omega arith)
grow-later number (run ∷ []) step = place-grown number run step (is_going run.steps)
grow-later number (run ∷ next ∷ runs) step =
    subst (ComesBefore (next_place (number + 1) (next ∷ runs))) (sym (place-behind number run (grow (next ∷ runs) step) (grow-some (next ∷ runs) step)))
    (grow-later (number + 1) (next ∷ runs) step)

-- the place of a process's next step behind some events
abbrev pub place_behind : Machine → State → List Event → ℕ → ℕ → StepPlace
place_behind machine begins before process number = next_place number (runs_of (steps_in machine process begins before))

module _ (steps_grow : StepsGrow) (runs_grow : RunsGrow) (machine : Machine) (begins : State) (before : List Event) (process number : ℕ) where
  abbrev step_next : Activity × StepSeen
  step_next = ((process_at (happened machine begins before) process).activity, seen_step machine (happened machine begins before) process)

  pub step-later : ComesBefore (place_behind machine begins before process number) (place_behind machine begins (before ++ Step process ∷ []) process number)
  step-later =
      let same : runs_of (steps_in machine process begins (before ++ Step process ∷ [])) ≡ grow (runs_of (steps_in machine process begins before)) step_next =
      ap runs_of
      (steps_grow machine process begins before (Step process)
      ∙ ap (λ (b : Bool). steps_in machine process begins before ++ seen_if b step_next []) (eq-eqb process process refl))
      ∙ runs_grow (steps_in machine process begins before) step_next in
      subst (λ (runs : List ProcessRun). ComesBefore (place_behind machine begins before process number) (next_place number runs)) (sym same)
      (grow-later number (runs_of (steps_in machine process begins before)) step_next)

  seen-by : (is : Bool) →
      ComesBy (place_behind machine begins before process number) (next_place number (runs_of (steps_in machine process begins before ++ seen_if is step_next [])))
  seen-by true =
      before-is-by (place_behind machine begins before process number) (next_place number (runs_of (steps_in machine process begins before ++ step_next ∷ [])))
      (subst (λ (runs : List ProcessRun). ComesBefore (place_behind machine begins before process number) (next_place number runs))
      (sym (runs_grow (steps_in machine process begins before) step_next)) (grow-later number (runs_of (steps_in machine process begins before)) step_next))
  seen-by false =
      by-same (place_behind machine begins before process number) (next_place number (runs_of (steps_in machine process begins before ++ [])))
      (ap (λ (l : List (Activity × StepSeen)). next_place number (runs_of l)) (sym (append-nil (steps_in machine process begins before))))

  pub event-by : (event : Event) → ComesBy (place_behind machine begins before process number) (place_behind machine begins (before ++ event ∷ []) process number)
  event-by event =
      subst (λ (l : List (Activity × StepSeen)). ComesBy (place_behind machine begins before process number) (next_place number (runs_of l)))
      (sym (steps_grow machine process begins before event)) (seen-by (is_step_of process event))

pub step-on : (steps_grow : StepsGrow) (runs_grow : RunsGrow) (machine : Machine) (begins : State) (before : List Event) (process number : ℕ) (event : Event) (last : StepPlace) →
    ComesBy (place_behind machine begins (before ++ event ∷ []) process number) last → ComesBy (place_behind machine begins before process number) last
step-on steps_grow runs_grow machine begins before process number event last by =
    by-by (place_behind machine begins before process number) (place_behind machine begins (before ++ event ∷ []) process number) last
    (event-by steps_grow runs_grow machine begins before process number event) by
